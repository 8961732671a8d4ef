-- The numbers of surfaces that a table's objects name where popups are served too: a role object is a toplevel or a popup (xdg-shell.xml,
-- xdg_surface).
use Rattle.std.specs.Prelude.{ℕ, ◌≡◌, Bool, true, false, if◌then◌else◌, Option, Some, None}
use Rattle.std.specs.Option.{option_and_then}
use Rattle.wl_proto.specs.declared.interface.Interface.{Interface}
use Rattle.wl_proto.specs.declared.interface.Interface.TheVariants.{WlSurface, XdgPopup, XdgSurface, XdgToplevel}
use Rattle.wl_table.specs.Objects.{Held, HoldsAt, entry_of}
use Rattle.wl_table.specs.declared.entry.Entry.{Entry}
use Rattle.spec_desktop.specs.Objects.{ById, with_id}
use Rattle.law_desktop.specs.Owning.{Names, names_in, target_as, targets_in, with_toplevel}

-- the interfaces of role objects
abbrev pub is_of_role : Interface → Bool
is_of_role XdgToplevel = true
is_of_role XdgPopup = true
is_of_role interface = false

abbrev pub role_target : Entry → Option ℕ
role_target entry = if is_of_role entry.interface then Some entry.target else None

-- what the role objects stand for, by their ids
abbrev pub roles_in : Held → ById ℕ
roles_in held = λ id. option_and_then role_target (entry_of held id)

-- among the names those of toplevels are those of role objects
abbrev pub names_of : Held → Names
names_of held = record { surfaces = targets_in WlSurface held; shell = targets_in XdgSurface held; toplevels = roles_in held }

-- one object comes or goes
abbrev pub named_at : ℕ → Option Entry → Names → Names
named_at id entry names =
    record {
      surfaces = with_id id (option_and_then (target_as WlSurface) entry) names.surfaces;
      shell = with_id id (option_and_then (target_as XdgSurface) entry) names.shell;
      toplevels = with_id id (option_and_then role_target entry) names.toplevels;
    }

pub record RolesAreNamed : Type 0 where
  pub changes :
      (old new : Held) (id : ℕ) (entry : Option Entry) → HoldsAt old new id entry → names_of new ≡ named_at id entry (names_of old)
  pub made :
      (old new : Held) (id : ℕ) (entry : Entry) → entry_of old id ≡ None → is_of_role entry.interface ≡ true
      → HoldsAt old new id (Some entry)
      → names_of new ≡ with_toplevel id (Some entry.target) (names_of old)
  pub gone :
      (old new : Held) (id : ℕ) (entry : Entry) → entry_of old id ≡ Some entry → is_of_role entry.interface ≡ true → HoldsAt old new id None
      → names_of new ≡ with_toplevel id None (names_of old)
  pub toplevel : (held : Held) (id number : ℕ) → targets_in XdgToplevel held id ≡ Some number → roles_in held id ≡ Some number
  pub popup : (held : Held) (id number : ℕ) → targets_in XdgPopup held id ≡ Some number → roles_in held id ≡ Some number
  pub free : (held : Held) (id : ℕ) → entry_of held id ≡ None → roles_in held id ≡ None
  -- without popups they are the names of toplevels
  pub without : (held : Held) → ((id : ℕ) → targets_in XdgPopup held id ≡ None) → names_of held ≡ names_in held

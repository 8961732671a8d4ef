-- How the numbers that a table names change with it, where role objects are toplevels and popups.
use Rattle.std.proofs.Common.{◌≡◌, ℕ, Bool, true, false, Option, Some, None, cond, refl, ap, sym, ◌∙◌}
use Rattle.std.specs.Prelude.{◌==◌, if◌then◌else◌}
use Rattle.std.specs.Option.{option_and_then}
use Rattle.std.proofs.Math.Path.{fun_ext}
use Rattle.std.proofs.lemmas.Bool.{eqb-false, eqb-true}
use Rattle.std.proofs.lemmas.Option.{none-some}
use Rattle.wl_proto.specs.declared.interface.Interface.{Interface}
use Rattle.wl_proto.specs.declared.interface.Interface.TheVariants.{WlSurface, XdgPopup, XdgSurface, XdgToplevel}
use Rattle.wl_table.specs.Objects.{Held, HoldsAt, entry_of}
use Rattle.wl_table.specs.declared.entry.Entry.{Entry}
use Rattle.spec_desktop.specs.Objects.{ById, interface_number, with_id}
use Rattle.law_desktop.specs.Owning.{Names, names_in, target_as, targets_in, with_toplevel}
use Rattle.law_desktop.specs.RoleNames.{RolesAreNamed, is_of_role, named_at, names_of, role_target, roles_in}
use Rattle.law_desktop.proofs.Keeping.OwningNames.{targets-with, with_id-same}

roles-with : (old new : Held) (id : ℕ) (entry : Option Entry) → HoldsAt old new id entry → roles_in new ≡ with_id id (option_and_then role_target entry) (roles_in old)
roles-with old new id entry holds = fun_ext (λ other. at other (other == id) refl)
  where
    at : (other : ℕ) (b : Bool) → (other == id) ≡ b → roles_in new other ≡ cond b (option_and_then role_target entry) (roles_in old other)
    at other true e = ap (option_and_then role_target) (ap (entry_of new) (eqb-true other id e) ∙ holds.here)
    at other false e = ap (option_and_then role_target) (holds.others other (eqb-false other id e))

abbrev three : ById ℕ → ById ℕ → ById ℕ → Names
three surfaces shell toplevels = record { surfaces = surfaces; shell = shell; toplevels = toplevels }

all-three : (a b c d e f : ById ℕ) → a ≡ d → b ≡ e → c ≡ f → three a b c ≡ three d e f
all-three a b c d e f x y z = ap (λ (n : ById ℕ). three n b c) x ∙ ap (λ (n : ById ℕ). three d n c) y ∙ ap (λ (n : ById ℕ). three d e n) z

module _ (old new : Held) (id : ℕ) where
  changes : (entry : Option Entry) → HoldsAt old new id entry → names_of new ≡ named_at id entry (names_of old)
  changes entry holds = all-three _ _ _ _ _ _ (targets-with WlSurface old new id entry holds) (targets-with XdgSurface old new id entry holds) (roles-with old new id entry holds)

  no-surface : (i : Interface) → is_of_role i ≡ true → (interface_number i == interface_number WlSurface) ≡ false
  no-surface XdgToplevel e = refl
  no-surface XdgPopup e = refl
  no-surface i e = absurd (cc)

  no-xdg : (i : Interface) → is_of_role i ≡ true → (interface_number i == interface_number XdgSurface) ≡ false
  no-xdg XdgToplevel e = refl
  no-xdg XdgPopup e = refl
  no-xdg i e = absurd (cc)

  nothing : (interface : Interface) (entry : Entry) → (interface_number entry.interface == interface_number interface) ≡ false → target_as interface entry ≡ None
  nothing interface entry e = ap (λ b. if b then Some entry.target else None) e

  -- a role object names nothing of another interface, nor does a free id
  same : (interface : Interface) (entry : Option Entry) (was : Option Entry) → entry_of old id ≡ was → option_and_then (target_as interface) entry ≡ None
      → option_and_then (target_as interface) was ≡ None → HoldsAt old new id entry → targets_in interface new ≡ targets_in interface old
  same interface entry was here now before holds =
      targets-with interface old new id entry holds
      ∙ ap (λ o. with_id id o (targets_in interface old)) now
      ∙ with_id-same id None (targets_in interface old) (ap (option_and_then (target_as interface)) here ∙ before)

  made : (entry : Entry) → entry_of old id ≡ None → is_of_role entry.interface ≡ true → HoldsAt old new id (Some entry) → names_of new ≡ with_toplevel id (Some entry.target) (names_of old)
  made entry free is holds =
      all-three _ _ _ _ _ _ (same WlSurface (Some entry) None free (nothing WlSurface entry (no-surface entry.interface is)) refl holds)
      (same XdgSurface (Some entry) None free (nothing XdgSurface entry (no-xdg entry.interface is)) refl holds)
      (roles-with old new id (Some entry) holds ∙ ap (λ b. with_id id (if b then Some entry.target else None) (roles_in old)) is)

  gone : (entry : Entry) → entry_of old id ≡ Some entry → is_of_role entry.interface ≡ true → HoldsAt old new id None → names_of new ≡ with_toplevel id None (names_of old)
  gone entry found is holds =
      all-three _ _ _ _ _ _ (same WlSurface None (Some entry) found refl (nothing WlSurface entry (no-surface entry.interface is)) holds)
      (same XdgSurface None (Some entry) found refl (nothing XdgSurface entry (no-xdg entry.interface is)) holds)
      (roles-with old new id None holds)

-- ---- what a role object names

by-interface : (i : Interface) (target number : ℕ) → (if interface_number i == interface_number XdgToplevel then Some target else None) ≡ Some number
    → (if is_of_role i then Some target else None) ≡ Some number
by-interface XdgToplevel target number e = e
by-interface i target number e = absurd (none-some number e)

by-popup : (i : Interface) (target number : ℕ) → (if interface_number i == interface_number XdgPopup then Some target else None) ≡ Some number
    → (if is_of_role i then Some target else None) ≡ Some number
by-popup XdgPopup target number e = e
by-popup i target number e = absurd (none-some number e)

without-popup : (i : Interface) (target : ℕ) → (if interface_number i == interface_number XdgPopup then Some target else None) ≡ None
    → (if is_of_role i then Some target else None) ≡ (if interface_number i == interface_number XdgToplevel then Some target else None)
without-popup XdgPopup target e = absurd (none-some target (sym e))
without-popup i target e = refl

toplevel : (held : Held) (id number : ℕ) → targets_in XdgToplevel held id ≡ Some number → roles_in held id ≡ Some number
toplevel held id number e = at (entry_of held id) e
  where
    at : (o : Option Entry) → option_and_then (target_as XdgToplevel) o ≡ Some number → option_and_then role_target o ≡ Some number
    at None e = e
    at (Some entry) e = by-interface entry.interface entry.target number e

popup : (held : Held) (id number : ℕ) → targets_in XdgPopup held id ≡ Some number → roles_in held id ≡ Some number
popup held id number e = at (entry_of held id) e
  where
    at : (o : Option Entry) → option_and_then (target_as XdgPopup) o ≡ Some number → option_and_then role_target o ≡ Some number
    at None e = e
    at (Some entry) e = by-popup entry.interface entry.target number e

without : (held : Held) → ((id : ℕ) → targets_in XdgPopup held id ≡ None) → names_of held ≡ names_in held
without held none = ap (λ (n : ById ℕ). three (targets_in WlSurface held) (targets_in XdgSurface held) n) (fun_ext (λ id. at (entry_of held id) (none id)))
  where
    at : (o : Option Entry) → option_and_then (target_as XdgPopup) o ≡ None → option_and_then role_target o ≡ option_and_then (target_as XdgToplevel) o
    at None e = refl
    at (Some entry) e = without-popup entry.interface entry.target e

pub roles-named : RolesAreNamed
roles-named = record {
  changes = λ old new id entry holds. changes old new id entry holds;
  made = λ old new id entry free is holds. made old new id entry free is holds;
  gone = λ old new id entry found is holds. gone old new id entry found is holds;
  toplevel = toplevel;
  popup = popup;
  free = λ held id free. ap (option_and_then role_target) free;
  without = without;
}

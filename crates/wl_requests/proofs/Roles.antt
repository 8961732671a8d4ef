-- How the numbers that a table names change with one object, where role objects are toplevels and popups.
use Rattle.std.proofs.Common.{◌≡◌, ℕ, Bool, true, false, Option, Some, None, refl, ap, ◌∙◌}
use Rattle.std.specs.Prelude.{◌==◌, if◌then◌else◌}
use Rattle.std.specs.Option.{option_and_then}
use Rattle.wl_proto.specs.declared.interface.Interface.{Interface}
use Rattle.wl_proto.specs.declared.interface.Interface.TheVariants.{WlSurface, XdgPopup, XdgSurface, XdgToplevel}
use Rattle.wl_table.specs.Objects.{Held, HoldsAt, entry_of}
use Rattle.wl_table.specs.declared.entry.Entry.{Entry}
use Rattle.spec_desktop.specs.Objects.{ById, interface_number, with_id}
use Rattle.law_desktop.specs.Owning.{Names, target_as, targets_in, with_surface, with_toplevel, with_xdg}
use Rattle.law_desktop.specs.RoleNames.{is_of_role, names_of, role_target, roles_in}
use Rattle.law_desktop.proofs.Keeping.OwningNames.{targets-with, with_id-same}
use Rattle.law_desktop.proofs.OwnedPopups.Naming.{roles-named}

-- the interfaces whose objects name the number of a surface
abbrev pub names_object : Interface → Bool
names_object WlSurface = true
names_object XdgSurface = true
names_object XdgToplevel = true
names_object XdgPopup = true
names_object interface = false

abbrev three : ById ℕ → ById ℕ → ById ℕ → Names
three surfaces shell toplevels = record { surfaces = surfaces; shell = shell; toplevels = toplevels }

pub names-with : (old new : Held) (surfaces shell toplevels : ById ℕ) → targets_in WlSurface new ≡ surfaces → targets_in XdgSurface new ≡ shell → roles_in new ≡ toplevels
    → names_of new ≡ three surfaces shell toplevels
names-with old new surfaces shell toplevels a b c =
    ap (λ (x : ById ℕ). three x (targets_in XdgSurface new) (roles_in new)) a ∙ ap (λ (x : ById ℕ). three surfaces x (roles_in new)) b ∙ ap (λ (x : ById ℕ). three surfaces shell x) c

module _ (old new : Held) (id : ℕ) where
  roles-with : (entry : Option Entry) → HoldsAt old new id entry → roles_in new ≡ with_id id (option_and_then role_target entry) (roles_in old)
  roles-with entry holds = ap (λ (n : Names). n.toplevels) (roles-named.changes old new id entry holds)

  -- neither what was there nor what is there is of this interface
  unnamed : (interface : Interface) (entry was : Option Entry) → entry_of old id ≡ was → option_and_then (target_as interface) entry ≡ None
      → option_and_then (target_as interface) was ≡ None → HoldsAt old new id entry → targets_in interface new ≡ targets_in interface old
  unnamed interface entry was here now before holds =
      targets-with interface old new id entry holds
      ∙ ap (λ o. with_id id o (targets_in interface old)) now
      ∙ with_id-same id None (targets_in interface old) (ap (option_and_then (target_as interface)) here ∙ before)

  -- neither is a role object
  no-role : (entry was : Option Entry) → entry_of old id ≡ was → option_and_then role_target entry ≡ None → option_and_then role_target was ≡ None → HoldsAt old new id entry
      → roles_in new ≡ roles_in old
  no-role entry was here now before holds =
      roles-with entry holds ∙ ap (λ o. with_id id o (roles_in old)) now ∙ with_id-same id None (roles_in old) (ap (option_and_then role_target) here ∙ before)

  -- what an object names by its interface
  seen : (interface i : Interface) (entry : Entry) → entry.interface ≡ i → target_as interface entry ≡ (if interface_number i == interface_number interface then Some entry.target else None)
  seen interface i entry is = ap (λ (j : Interface). if interface_number j == interface_number interface then Some entry.target else None) is

  seen-role : (i : Interface) (entry : Entry) → entry.interface ≡ i → role_target entry ≡ (if is_of_role i then Some entry.target else None)
  seen-role i entry is = ap (λ (j : Interface). if is_of_role j then Some entry.target else None) is

  -- a new object under a free id
  pub names-surface-made : (entry : Entry) → entry_of old id ≡ None → entry.interface ≡ WlSurface → HoldsAt old new id (Some entry) → names_of new ≡ with_surface id (Some entry.target) (names_of old)
  names-surface-made entry free is holds =
      names-with old new _ _ _
      (targets-with WlSurface old new id (Some entry) holds ∙ ap (λ o. with_id id o (targets_in WlSurface old)) (seen WlSurface WlSurface entry is))
      (unnamed XdgSurface (Some entry) None free (seen XdgSurface WlSurface entry is) refl holds) (no-role (Some entry) None free (seen-role WlSurface entry is) refl holds)

  pub names-xdg-made : (entry : Entry) → entry_of old id ≡ None → entry.interface ≡ XdgSurface → HoldsAt old new id (Some entry) → names_of new ≡ with_xdg id (Some entry.target) (names_of old)
  names-xdg-made entry free is holds =
      names-with old new _ _ _ (unnamed WlSurface (Some entry) None free (seen WlSurface XdgSurface entry is) refl holds)
      (targets-with XdgSurface old new id (Some entry) holds ∙ ap (λ o. with_id id o (targets_in XdgSurface old)) (seen XdgSurface XdgSurface entry is))
      (no-role (Some entry) None free (seen-role XdgSurface entry is) refl holds)

  pub names-toplevel-made : (entry : Entry) → entry_of old id ≡ None → entry.interface ≡ XdgToplevel → HoldsAt old new id (Some entry)
      → names_of new ≡ with_toplevel id (Some entry.target) (names_of old)
  names-toplevel-made entry free is holds = roles-named.made old new id entry free (ap is_of_role is) holds

  not-surface : (i : Interface) (target : ℕ) → names_object i ≡ false → (if interface_number i == interface_number WlSurface then Some target else None) ≡ None
  not-surface WlSurface target e = absurd (cc)
  not-surface i target e = refl

  not-xdg : (i : Interface) (target : ℕ) → names_object i ≡ false → (if interface_number i == interface_number XdgSurface then Some target else None) ≡ None
  not-xdg XdgSurface target e = absurd (cc)
  not-xdg i target e = refl

  not-role : (i : Interface) (target : ℕ) → names_object i ≡ false → (if is_of_role i then Some target else None) ≡ None
  not-role XdgToplevel target e = absurd (cc)
  not-role XdgPopup target e = absurd (cc)
  not-role i target e = refl

  pub names-other-made : (entry : Entry) → entry_of old id ≡ None → names_object entry.interface ≡ false → HoldsAt old new id (Some entry) → names_of new ≡ names_of old
  names-other-made entry free other holds =
      names-with old new _ _ _ (unnamed WlSurface (Some entry) None free (not-surface entry.interface entry.target other) refl holds)
      (unnamed XdgSurface (Some entry) None free (not-xdg entry.interface entry.target other) refl holds) (no-role (Some entry) None free (not-role entry.interface entry.target other) refl holds)

  -- an object goes
  pub names-xdg-gone : (entry : Entry) → entry_of old id ≡ Some entry → entry.interface ≡ XdgSurface → HoldsAt old new id None → names_of new ≡ with_xdg id None (names_of old)
  names-xdg-gone entry found is holds =
      names-with old new _ _ _ (unnamed WlSurface None (Some entry) found refl (seen WlSurface XdgSurface entry is) holds) (targets-with XdgSurface old new id None holds)
      (no-role None (Some entry) found refl (seen-role XdgSurface entry is) holds)

  pub names-toplevel-gone : (entry : Entry) → entry_of old id ≡ Some entry → entry.interface ≡ XdgToplevel → HoldsAt old new id None → names_of new ≡ with_toplevel id None (names_of old)
  names-toplevel-gone entry found is holds = roles-named.gone old new id entry found (ap is_of_role is) holds

  pub names-other-gone : (entry : Entry) → entry_of old id ≡ Some entry → names_object entry.interface ≡ false → HoldsAt old new id None → names_of new ≡ names_of old
  names-other-gone entry found other holds =
      names-with old new _ _ _ (unnamed WlSurface None (Some entry) found refl (not-surface entry.interface entry.target other) holds)
      (unnamed XdgSurface None (Some entry) found refl (not-xdg entry.interface entry.target other) holds) (no-role None (Some entry) found refl (not-role entry.interface entry.target other) holds)

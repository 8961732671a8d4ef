-- What is judged of wl_pointer.set_cursor, by what is kept, and what a surface that becomes a cursor leaves as it was.
use Rattle.std.proofs.Common.{◌≡◌, ◌≢◌, ℕ, Bool, true, false, Option, Some, None, refl, ap, ap₂, sym, ◌∙◌}
use Rattle.std.proofs.lemmas.Bool.{or_left, or_right}
use Rattle.std.specs.Prelude.{◌||◌, Err, Ok, if◌then◌else◌, is_some}
use Rattle.law_desktop.specs.Owning.{by_number}
use Rattle.law_desktop.specs.RoleNames.{names_of}
use Rattle.law_desktop.proofs.Keeping.OwningSurfaces.{surface-read}
use Rattle.law_desktop.proofs.Keeping.OwningXdg.{xdg-there}
use Rattle.spec_desktop.specs.declared.refusals.ErrorCode.TheVariants.{Role as HasAnotherRole}
use Rattle.spec_desktop.specs.Demand.{MakeCursor}
use Rattle.spec_desktop.specs.Desktop.{Resident}
use Rattle.spec_desktop.specs.WlPointer.{cursor_set, is_no_cursor}
use Rattle.spec_desktop.specs.WlSubsurface.{refuses}
use Rattle.spec_desktop.specs.XdgShell.{role_of}
use Rattle.wl_surface.specs.declared.role.Role.{Role}
use Rattle.wl_surface.specs.declared.role.Role.TheVariants as roles
use Rattle.wl_surface.specs.Slots.{role_at}
use Rattle.wl_surface.specs.Surfaces.{surface_at}
use Rattle.wl_shell.specs.Kept.{kept_of}
use Rattle.wl_shell.specs.Shell.{xdg_of}
use Rattle.wl_requests.specs.declared.residents.Resident.{Resident as Kept}
use Rattle.wl_requests.specs.Residents.{IsResident, IsSurface}
use Rattle.wl_requests.proofs.Judging.{role-same}

-- ---- a role

-- the surface has a role that isn't a cursor's
abbrev IsOther : Option Role → Type 0
IsOther o = (other : Role) × (o ≡ Some other) × (other ≢ roles.Cursor)

other-role : (o : Option Role) → IsOther o → is_no_cursor o ≡ true
other-role None other = absurd (let none = other.1 in cc)
other-role (Some roles.Cursor) other = absurd (other.2 (let same = other.1 in cc))
other-role o other = refl

no-other : (o : Option Role) → (IsOther o → ⊥) → is_no_cursor o ≡ false
no-other None never = refl
no-other (Some roles.Cursor) never = refl
no-other (Some roles.Toplevel) never = absurd (never (roles.Toplevel, refl, λ e. cc))
no-other (Some roles.Popup) never = absurd (never (roles.Popup, refl, λ e. cc))
no-other (Some roles.Subsurface) never = absurd (never (roles.Subsurface, refl, λ e. cc))

-- ---- a surface that is to be a cursor

module _ {A : Type 0} (v : Kept A) (r : Resident) (is : IsResident v r) (object id number : ℕ) (named : IsSurface v id number) where
  xdg-is : is_some (kept_of v.owned.shell number) ≡ is_some (xdg_of id r.owned.shell)
  xdg-is = xdg-there (names_of v.client.objects) v.owned.surfaces.states v.owned.surfaces.family (kept_of v.owned.shell) r.owned is.owns id number named

  role-is : role_at (by_number (names_of v.client.objects).surfaces r.owned.surfaces number) ≡ role_of r id
  role-is =
      ap role_at (surface-read (names_of v.client.objects).surfaces v.owned.surfaces.states v.owned.surfaces.family r.owned.surfaces is.owns.surfaces id number named)
      ∙ role-same (surface_at id r.owned.surfaces)

  by-parts : (a b : Bool) → is_no_cursor (role_of r id) ≡ a → is_some (xdg_of id r.owned.shell) ≡ b
      → cursor_set r object id ≡ (if a || b then refuses object HasAnotherRole else Ok (MakeCursor id))
  by-parts a b role xdg = ap₂ (λ (x y : Bool). if x || y then refuses object HasAnotherRole else Ok (MakeCursor id)) role xdg

  -- it has an xdg_surface
  pub has-xdg : is_some (kept_of v.owned.shell number) ≡ true → cursor_set r object id ≡ Err (record { object = object; code = HasAnotherRole })
  has-xdg has =
      ap (λ (b : Bool). if b then refuses object HasAnotherRole else Ok (MakeCursor id))
      (or_right (is_no_cursor (role_of r id)) (is_some (xdg_of id r.owned.shell)) (sym xdg-is ∙ has))

  -- it has another role
  pub has-other : IsOther (role_at (by_number (names_of v.client.objects).surfaces r.owned.surfaces number)) → cursor_set r object id ≡ Err (record { object = object; code = HasAnotherRole })
  has-other other =
      ap (λ (b : Bool). if b then refuses object HasAnotherRole else Ok (MakeCursor id))
      (or_left (is_no_cursor (role_of r id)) (is_some (xdg_of id r.owned.shell)) (other-role (role_of r id) (other.0, sym role-is ∙ other.1, other.2)))

  -- it has neither
  pub is-made : is_some (kept_of v.owned.shell number) ≡ false → (IsOther (role_at (by_number (names_of v.client.objects).surfaces r.owned.surfaces number)) → ⊥)
      → cursor_set r object id ≡ Ok (MakeCursor id)
  is-made bare never =
      by-parts false false (no-other (role_of r id) (λ other. never (other.0, role-is ∙ other.1, other.2))) (sym xdg-is ∙ bare)

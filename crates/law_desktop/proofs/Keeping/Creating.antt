-- Whether a client may have another surface.
use Rattle.std.proofs.Common.{◌≡◌, ℕ, ◌<◌, Bool, true, false, refl, ap, sym, ◌∙◌, arith}
use Rattle.std.specs.Prelude.{MatchBool, nat_le, if◌then◌else◌, Ok}
use Rattle.std.proofs.lemmas.Bool.{leb-true}
use Rattle.wl_links.specs.Family.{Tied}
use Rattle.wl_surface.specs.Slots.{Slots, count as count_kept}
use Rattle.wl_surface.specs.declared.error.SurfaceError.{SurfaceError}
use Rattle.wl_surface.specs.declared.error.SurfaceError.TheVariants.{TooMany, Memory}
use Rattle.spec_desktop.specs.Ask.{CreateSurface}
use Rattle.spec_desktop.specs.Desktop.{Resident}
use Rattle.law_desktop.specs.Owning.{AreKept, Names}
use Rattle.spec_desktop.specs.WlSurface.{refuse_limit, surface_created}

module _ (names : Names) (slots : Slots) (tied : Tied) (r : Resident) (id version : ℕ) where
  created-when : (b : Bool) → AreKept names.surfaces slots tied r.owned.surfaces → nat_le 256 (count_kept slots) ≡ b
      → surface_created r id version ≡ (if b then refuse_limit else Ok (CreateSurface id version))
  created-when b kept e =
      ap (λ (c : Bool). if c then refuse_limit else Ok (CreateSurface id version)) (sym (ap (λ n. nat_le 256 n) kept.count) ∙ e)

  pub created-within : AreKept names.surfaces slots tied r.owned.surfaces → count_kept slots < 256 → surface_created r id version ≡ Ok (CreateSurface id version)
  created-within kept room = created-when false kept (by (nat_le 256 (count_kept slots)) refl)
    where
      by : (b : Bool) → nat_le 256 (count_kept slots) ≡ b → nat_le 256 (count_kept slots) ≡ false
      by false e = e
      by true e = absurd (let past = leb-true 256 (count_kept slots) e in omega arith)

  pub created-past : (error : SurfaceError) → AreKept names.surfaces slots tied r.owned.surfaces → MatchBool (nat_le 256 (count_kept slots)) (error ≡ TooMany) (error ≡ Memory) → error ≡ TooMany
      → surface_created r id version ≡ refuse_limit
  created-past error kept cause many = created-when true kept (by (nat_le 256 (count_kept slots)) refl cause)
    where
      by : (b : Bool) → nat_le 256 (count_kept slots) ≡ b → MatchBool b (error ≡ TooMany) (error ≡ Memory) → nat_le 256 (count_kept slots) ≡ true
      by true e cause = e
      by false e cause = absurd (let both = sym many ∙ cause in cc)

  pub created-short : (error : SurfaceError) → AreKept names.surfaces slots tied r.owned.surfaces → MatchBool (nat_le 256 (count_kept slots)) (error ≡ TooMany) (error ≡ Memory) → (error ≡ TooMany
      → ⊥)
      → surface_created r id version ≡ Ok (CreateSurface id version)
  created-short error kept cause few = created-when false kept (by (nat_le 256 (count_kept slots)) refl cause)
    where
      by : (b : Bool) → nat_le 256 (count_kept slots) ≡ b → MatchBool b (error ≡ TooMany) (error ≡ Memory) → nat_le 256 (count_kept slots) ≡ false
      by false e cause = e
      by true e cause = absurd (few cause)

-- What is kept under the number of a surface stands for it.
use Rattle.std.specs.Option.{option_map}
use Rattle.wl_surface.specs.Kept.{Kept, Stands}
use Rattle.wl_surface.specs.State.{History}
use Rattle.wl_scene.proofs.Truth.{some-same}
use Rattle.std.proofs.Common.{◌≡◌, ℕ, ◌==◌, true, Option, Some, None, refl, ap, subst, ◌∙◌, eqb-true, eq-eqb}
use Rattle.wl_surface.specs.Slots.{Slots, StandsAt, kept_at}
use Rattle.wl_surface.specs.Surface.{Surface}
use Rattle.wl_surface.specs.Surfaces.{Surfaces, surface_at}
use Rattle.spec_desktop.specs.Objects.{ById}
use Rattle.spec_desktop.specs.Step.{is_number}
use Rattle.wl_scene.specs.Hit.{IsStoodFor, by_number}
use Rattle.wl_scene.specs.StackedAgreement.{AreNumberedOnce}
use Rattle.wl_scene.proofs.Truth.{find-as, same-test}

number-is : (number : ℕ) (o : Option ℕ) → is_number number o ≡ true → o ≡ Some number
number-is number None e = absurd (cc)
number-is number (Some other) e = ap Some (eqb-true other number e)

-- the surface of a number is the one of the id that has it
surface-read : (numbers : ById ℕ) (all : Surfaces) → AreNumberedOnce numbers → (id number : ℕ) → numbers id ≡ Some number → by_number numbers all number ≡ surface_at id all
surface-read numbers all once id number named =
    find-as (λ (s : Surface). is_number number (numbers s.id)) (λ (s : Surface). s.id == id)
    (λ s. same-test (is_number number (numbers s.id)) (s.id == id)
    (λ e. eq-eqb s.id id (once s.id id number (number-is number (numbers s.id) e) named))
    (λ e. ap (is_number number) (ap numbers (eqb-true s.id id e) ∙ named) ∙ eq-eqb number number refl)) all.surfaces

pub surface-stands : (numbers : ById ℕ) (slots : Slots) (all : Surfaces) → IsStoodFor numbers slots all → (id number : ℕ) → numbers id ≡ Some number
    → StandsAt (kept_at slots number) (surface_at id all)
surface-stands numbers slots all is id number named =
    subst (λ (o : Option Surface). StandsAt (kept_at slots number) o) (surface-read numbers all is.once id number named) (is.stand number)

-- what is kept of a surface that a window shows stands for what counts of it
pub record Keeps (kept : Option Kept) (h : History) : Type 0 where
  pub slot : Kept
  pub there : kept ≡ Some slot
  pub stands : Stands slot h

pub keeps : (kept : Option Kept) (o : Option Surface) (h : History) → StandsAt kept o → option_map (λ (s : Surface). s.history) o ≡ Some h → Keeps kept h
keeps None None h is found = absurd (cc)
keeps (Some k) None h is found = absurd is
keeps None (Some s) h is found = absurd is
keeps (Some k) (Some s) h is found = record {
  slot = k;
  there = refl;
  stands = subst (λ (g : History). Stands k g) (some-same s.history h found) is.history;
}

-- A step as a whole: with the pointer put aside, then with the pointer put back, round by round.
use Rattle.std.specs.Prelude.{ℕ, ℤ, ◌≡◌, ◌<◌, ◌||◌, Option, None, List, []}
use Rattle.spec_desktop.specs.Pointer.{Pointer}
use Rattle.spec_desktop.specs.Desktop.{Desktop, unpointed}
use Rattle.spec_desktop.specs.Happenings.{Happening, Leads}
use Rattle.spec_desktop.specs.Marks.{AreDistinct}
use Rattle.spec_desktop.specs.Moments.{marks_at_least_through, marks_at_most_through}
use Rattle.spec_desktop.specs.Settling.{Midstep, Settles, unstruck}
use Rattle.spec_desktop.specs.Stacked.{all_windows}
use Rattle.law_desktop.specs.Focus.{IsSettled}
use Rattle.law_desktop.specs.Pointed.Apart.{SettlesOn}
use Rattle.law_desktop.specs.Pointed.Pointed.{pointed}
use Rattle.law_desktop.specs.Pointed.Rounds.{AreRounds}

-- These rounds follow from the middle of a step, and then a settling after which nobody is to end.
pub record AreAllRounds (start : Midstep) (rounds : List Desktop) (mid last : Midstep) : Type 0 where
  pub count : ℕ
  pub few : count < 33
  pub each : AreRounds count start rounds mid
  pub settles : Settles mid last
  pub over : last.struck ≡ []

-- What is marked through these desktops is what is marked with the pointer put aside, and what the ends of the rounds mark.
abbrev pub MarksBoth : Option (ℕ × ℕ) → Desktop → List Desktop → Desktop → List Desktop → List Desktop → Type 0
MarksBoth raised d aside start rounds path =
    (x y : ℤ)
    → (marks_at_least_through all_windows d path x y
    ≡ (marks_at_least_through all_windows (unpointed d) aside x y || marks_at_least_through all_windows start rounds x y))
    × (marks_at_most_through all_windows raised d path x y
    ≡ (marks_at_most_through all_windows raised (unpointed d) aside x y || marks_at_most_through all_windows None start rounds x y))

-- Where a step leads to a desktop with the pointer put aside, it leads through the rounds that follow with the pointer put back, and the
-- focus is settled then.
abbrev pub StepsByRounds : Type 0
StepsByRounds =
    (h : Happening) (p : Desktop → Pointer) (d : Desktop) (aside : List Desktop) (e : Desktop) (rounds : List Desktop)
    (mid last : Midstep) → SettlesOn (λ a. pointed (p a) a) (Leads h d) aside e → AreAllRounds (unstruck (pointed (p e) e)) rounds mid last
    → (path : List Desktop) × Leads h d path last.desktop × IsSettled last.desktop
    × ((raised : Option (ℕ × ℕ)) → AreDistinct (all_windows e) → AreDistinct (all_windows mid.desktop)
    → MarksBoth raised d aside (pointed (p e) e) rounds path)

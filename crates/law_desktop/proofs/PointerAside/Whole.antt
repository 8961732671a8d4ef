-- A step as a whole, with the pointer put aside and put back.
use Rattle.std.proofs.Common.{List, [], ◌∷◌, ◌++◌, map, Bool, ap₂, sym, ◌∙◌}
use Rattle.std.specs.Prelude.{◌||◌}
use Rattle.spec_desktop.specs.Desktop.{Desktop, unpointed}
use Rattle.spec_desktop.specs.Moments.{marks_at_least_through, marks_at_most_through}
use Rattle.spec_desktop.specs.Settling.{unstruck}
use Rattle.spec_desktop.specs.Stacked.{all_windows}
use Rattle.law_desktop.specs.Pointed.Pointed.{pointed}
use Rattle.law_desktop.specs.Pointed.Whole.{StepsByRounds}
use Rattle.law_desktop.proofs.PointerAside.Marking.{last-marks-nothing, marks-apart}
use Rattle.law_desktop.proofs.PointerAside.Rounds.{rounds-settle}

pub steps-by-rounds : StepsByRounds
steps-by-rounds h p d aside e rounds mid last on all =
    let start : Desktop = pointed (p e) e in
    let settles = rounds-settle all.count 33 (unstruck start) mid last rounds all.few all.each all.settles all.over in
    let later : List Desktop = rounds ++ last.desktop ∷ [] in
    let path : List Desktop = map (λ a. pointed (p a) a) on.0 ++ start ∷ later in (
      path,
      on.2 later last.desktop settles.0,
      settles.1,
      λ raised apart mid-apart x y.
          let both = marks-apart p raised d e on.0 later x y apart in
          let none = last-marks-nothing all.count (unstruck start) mid last rounds x y mid-apart all.each all.settles in (
            both.0
                ∙ ap₂ (λ (xs : List Desktop) (b : Bool). marks_at_least_through all_windows (unpointed d) xs x y || b) (sym on.1) none.0,
            both.1
                ∙ ap₂ (λ (xs : List Desktop) (b : Bool). marks_at_most_through all_windows raised (unpointed d) xs x y || b) (sym on.1) none.1,
          ),
    )

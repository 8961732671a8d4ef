use Rattle.std.proofs.Common.{◌≡◌, ℕ, take}
use Rattle.spec_desktop.specs.Objects.{ById}
use Rattle.spec_desktop.specs.Windows.{hit as hit_of}
use Rattle.spec_desktop.specs.Desktop.{Desktop}
use Rattle.spec_desktop.specs.Stacked.{all_windows}
use Rattle.wl_scene.specs.Hit.{AreKept}
use Rattle.wl_scene.proofs.hitting.hit.Given as goal

abbrev pub invariant-loop-place : goal.invariant-loop-place
invariant-loop-place g l =
    (numbers : ℕ → ById ℕ) (d : Desktop) → AreKept (g.S.Surfaced.slots l.clients) numbers l.windows d
    → hit_of l.x l.y (all_windows d) ≡ hit_of l.x l.y (take l.place (all_windows d))

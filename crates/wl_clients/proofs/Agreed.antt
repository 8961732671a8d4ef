-- What is so of each desktop that a desk agrees with.
use Rattle.std.proofs.Common.{◌≡◌, ℕ, List, false}
use Rattle.std.specs.Prelude.{pos}
use Rattle.spec_desktop.specs.Desktop.{Desktop}
use Rattle.spec_desktop.specs.Marks.{AreDistinct}
use Rattle.spec_desktop.specs.Moments.{marks_at_least}
use Rattle.spec_desktop.specs.Stacked.{all_windows}
use Rattle.law_desktop.proofs.Soundness.Windows.{sound_is_distinct}
use Rattle.law_desktop.proofs.InOrder.Sound.{in_order_is_sound}
use Rattle.wl_clients.specs.View.{DeskView}
use Rattle.wl_clients.specs.Agreeing.{Agrees}
use Rattle.wl_clients.specs.Feeding.{kept_at}
use Rattle.wl_clients.proofs.Steps.{kept-still}
use Rattle.wl_clients.proofs.Still.{still-unmarked}

-- no surface has two windows
pub agrees-apart : (v : DeskView) (d : Desktop) → Agrees v d → AreDistinct (all_windows d)
agrees-apart v d a = sound_is_distinct d (in_order_is_sound d a.ordered.in_order)

-- where a piece is kept, nothing is marked
pub kept-unmarked : (v : DeskView) (c : ℕ) (piece : List ℕ) (d : Desktop) → Agrees v d → (x y : ℕ) → marks_at_least d (kept_at c piece d) (pos x) (pos y) ≡ false
kept-unmarked v c piece d a x y = still-unmarked d (kept_at c piece d) a.ordered (kept-still c piece d) (pos x) (pos y)

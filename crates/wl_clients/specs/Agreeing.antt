-- A desk agrees with a desktop, and what its calls make of both.
use Rattle.std.specs.Prelude.{ℕ, ◌≡◌, ◌<◌}
use Rattle.wl_paint.specs.Damage.{has}
use Rattle.spec_desktop.specs.declared.answers.Done.{Done}
use Rattle.spec_desktop.specs.Desktop.{Desktop}
use Rattle.law_desktop.specs.Ordered.{Ordered}
use Rattle.spec_desktop.specs.Act.{Act}
use Rattle.spec_desktop.specs.Happens.{Happens}
use Rattle.wl_clients.specs.Agreement.{Matches}
use Rattle.wl_clients.specs.Marking.{MarksAtLeast}
use Rattle.wl_clients.specs.View.{DeskView, MarkedDesk}

-- What is kept is what the desktop has, and what each client owns there is in order.
pub record Agrees (v : DeskView) (d : Desktop) : Type 0 where
  pub matches : Matches v d
  pub ordered : Ordered d

-- One step leads from old to new: whatever desktop agrees before, one to which the step leads agrees after.
abbrev pub TakesStep : Act → Done → DeskView → DeskView → Type 0
TakesStep act done old new = (d : Desktop) → Agrees old d → (e : Desktop) × Happens act done d e × Agrees new e

-- A step marks what it has to.
abbrev pub MarksStep : Act → Done → MarkedDesk → MarkedDesk → Type 0
MarksStep act done old new = (d e : Desktop) → Agrees old.desk d → Happens act done d e → MarksAtLeast d e old.damage new.damage

-- A call marks nothing: the same points are to be painted again.
abbrev pub MarksNothing : MarkedDesk → MarkedDesk → Type 0
MarksNothing old new =
    (d : Desktop) → Agrees old.desk d → (x y : ℕ) → x < old.damage.width → y < old.damage.height → has new.damage x y ≡ has old.damage x y

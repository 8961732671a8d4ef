-- What comes of telling one client of a frame, and what a frame marks.
use Rattle.std.specs.Prelude.{ℕ, ◌≡◌, ◌<◌, ◌⊎◌, is_some, pos, true}
use Rattle.wl_paint.specs.Damage.{Damaged, has}
use Rattle.spec_desktop.specs.Desktop.{Desktop, client_at, status_in}
use Rattle.spec_desktop.specs.Framing.{FramesToldAt}
use Rattle.law_desktop.specs.Touching.{has_window_at}
use Rattle.wl_clients.specs.Marking.{MarksAtLeast}
use Rattle.wl_clients.specs.View.{MarkedDesk}
use Rattle.wl_clients.specs.Agreeing.{Agrees}

-- the same points are to be painted
abbrev pub HasSame : Damaged → Damaged → Type 0
HasSame old new = (x y : ℕ) → x < old.width → y < old.height → has new x y ≡ has old x y

-- Where no client ends, nothing more is to be painted.
abbrev pub MarksIfEnds : Desktop → Desktop → Damaged → Damaged → Type 0
MarksIfEnds d e old new = ((c : ℕ) → status_in c e ≡ status_in c d) → HasSame old new

-- Client c was told of a frame. It marks what an end has to, and no more than the windows that the client had; nothing where the client
-- doesn't end.
pub record WasTold (time c : ℕ) (old new : MarkedDesk) (d e : Desktop) : Type 0 where
  pub told : FramesToldAt time c (client_at c d) d e
  pub sized : (old.damage.width ≡ d.output.width) × (old.damage.height ≡ d.output.height)
  pub agrees : Agrees new.desk e
  pub marks : MarksAtLeast d e old.damage new.damage
  pub within : (x y : ℕ) → x < old.damage.width → y < old.damage.height → has new.damage x y ≡ true
      → (has old.damage x y ≡ true) ⊎ ((is_some (status_in c e) ≡ true) × (has_window_at c (pos x) (pos y) d ≡ true))
  pub quiet : status_in c e ≡ status_in c d → HasSame old.damage new.damage

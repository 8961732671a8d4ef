-- What a session keeps, as plain values.
use Rattle.wl_paint.specs.Damage.{Damaged}
use Rattle.wl_paint.specs.Frame.{Image}
use Rattle.wl_desk.specs.View.{DeskView}

-- what is kept of its clients, what is to be painted again since the last frame, that frame, and what was painted for it
pub record SessionView : Type 0 where
  pub desk : DeskView
  pub damage : Damaged
  pub frame : Image
  pub painted : Damaged

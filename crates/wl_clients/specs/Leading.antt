-- What one thing that happens leads to, and what it marks on the way.
use Rattle.std.specs.Prelude.{ℕ, List, Option, None}
use Rattle.wl_paint.specs.Damage.{Damaged}
use Rattle.spec_desktop.specs.Desktop.{Desktop}
use Rattle.spec_desktop.specs.Happenings.{Happening, Leads, Single}
use Rattle.spec_desktop.specs.Through.{raised_in}
use Rattle.wl_clients.specs.Marking.{MarksThroughBy}
use Rattle.wl_clients.specs.View.{MarkedDesk}
use Rattle.wl_clients.specs.Agreeing.{Agrees}
use Rattle.wl_clients.specs.Framing.{MarksIfEnds}

-- the toplevel that a press raised, if it did
abbrev pub raised_by : Happening → Desktop → Option (ℕ × ℕ)
raised_by (Single act done) d = raised_in act d
raised_by happening d = None

-- It leads from a desktop through others to one with which what is kept agrees. What has to be marked by its own change, by each end and by
-- each settling in turn is, and nothing else than what may be.
pub record Led (AgreesAfter : Desktop → Type 0) (h : Happening) (old new : Damaged) (d : Desktop) : Type 0 where
  pub path : List Desktop
  pub desktop : Desktop
  pub leads : Leads h d path desktop
  pub agrees : AgreesAfter desktop
  pub marks : MarksThroughBy (raised_by h d) d path old new

-- So it does from whatever desktop agrees before.
abbrev pub LeadsBy : Happening → MarkedDesk → MarkedDesk → Type 0
LeadsBy h old new = (d : Desktop) → Agrees old.desk d → Led (Agrees new.desk) h old.damage new.damage d

-- The same, and nothing more is to be painted where no client ends.
abbrev pub LeadsQuietly : Happening → MarkedDesk → MarkedDesk → Type 0
LeadsQuietly h old new =
    (d : Desktop) → Agrees old.desk d
    → (led : Led (Agrees new.desk) h old.damage new.damage d) × MarksIfEnds d led.desktop old.damage new.damage

-- What a call of the desk leads to, once those have ended that are to end and the focus is settled.
use Rattle.wl_scene.specs.Marking.{IsAsLarge}
use Rattle.spec_desktop.specs.Happenings.{Happening}
use Rattle.spec_desktop.specs.Settling.{Midstep, ended_all, unstruck}
use Rattle.spec_desktop.specs.Through.{ends_through}
use Rattle.law_desktop.specs.Focus.{IsSettled}
use Rattle.wl_clients.specs.Marking.{MarksThrough}
use Rattle.wl_desk.specs.Agreeing.{LeadsBy, LeadsQuietly}
use Rattle.wl_desk.specs.Midway.{IsAmid, IsMidway, SettlesDown}
use Rattle.wl_desk.specs.View.{MarkedDesk}

-- All that are to end in the middle of a step did, one after another, and nothing else is marked than that.
pub record AreEnded (mid new : MarkedDesk) (m : Midstep) : Type 0 where
  pub amid : IsAmid new (unstruck (ended_all m.struck m.desktop))
  pub marks : MarksThrough m.desktop (ends_through m.struck m.desktop) mid.damage new.damage
  pub sides : IsAsLarge mid.damage new.damage

-- So they do from the middle of whatever step the desk is in.
abbrev pub EndsAllFrom : MarkedDesk → MarkedDesk → Type 0
EndsAllFrom mid new = (m : Midstep) → IsAmid mid m → AreEnded mid new m

-- The focus is settled and clients end, round by round, from the middle of whatever step the desk is in.
abbrev pub SettlesFrom : MarkedDesk → MarkedDesk → Type 0
SettlesFrom mid new = (m : Midstep) → IsAmid mid m → SettlesDown mid new m

-- So they do from where the focus is settled already.
abbrev pub EndsFrom : MarkedDesk → MarkedDesk → Type 0
EndsFrom mid new = (m : Midstep) → IsMidway mid.desk m → IsSettled m.desktop → SettlesDown mid new m

-- One thing happens up to where clients are to end and the focus is to be settled: wherever that ends, it leads there, and marks what it has
-- to on the way.
abbrev pub LeadsOnceSettled : Happening → MarkedDesk → MarkedDesk → Type 0
LeadsOnceSettled h old mid = (ended new : MarkedDesk) → EndsAllFrom mid ended → SettlesFrom ended new → LeadsBy h old new

-- The same, and nothing more is to be painted where no client ends.
abbrev pub LeadsQuietlyOnceSettled : Happening → MarkedDesk → MarkedDesk → Type 0
LeadsQuietlyOnceSettled h old mid =
    (ended new : MarkedDesk) → EndsAllFrom mid ended → SettlesFrom ended new → LeadsQuietly h old new

-- It happens, and the focus is settled once: wherever the ends that follow lead, it leads there.
abbrev pub LeadsOnceEnded : Happening → MarkedDesk → MarkedDesk → Type 0
LeadsOnceEnded h old mid = (new : MarkedDesk) → EndsFrom mid new → LeadsBy h old new

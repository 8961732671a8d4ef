-- A desk agrees with a desktop, and what its calls make of both.
use Rattle.std.specs.Prelude.{ℕ, ◌≡◌, ◌<◌, false, List, None, Some}
use Rattle.wl_paint.specs.Damage.{has}
use Rattle.spec_desktop.specs.declared.answers.Done.{Done}
use Rattle.spec_desktop.specs.Act.{Act}
use Rattle.spec_desktop.specs.Desktop.{Desktop, Resident, client_at, unpointed}
use Rattle.spec_desktop.specs.Happenings.{Happening}
use Rattle.spec_desktop.specs.Happens.{Happens}
use Rattle.spec_desktop.specs.Settling.{Midstep, is_struck, unstruck}
use Rattle.law_desktop.specs.Focus.{IsSettled}
use Rattle.law_desktop.specs.Pointed.Pointed.{MovedStands}
use Rattle.wl_clients.specs.Agreeing.{Agrees as KeptAgrees}
use Rattle.wl_clients.specs.Framing.{MarksIfEnds}
use Rattle.wl_clients.specs.Leading.{Led}
use Rattle.wl_clients.specs.Pointing.{IsLatest}
use Rattle.wl_clients.specs.declared.grabs.Latest.{Latest}
use Rattle.wl_desk.specs.View.{DeskView, MarkedDesk, latest_of, seat_of}

-- Where the pointer isn't anywhere, it has no focus; and a toplevel that is moved with it stands.
pub record IsPlaced (d : Desktop) : Type 0 where
  pub nowhere : d.pointer.place ≡ None → d.pointer.focus ≡ None
  pub moved : MovedStands d

-- the wl_pointers are those of each client that lives
abbrev pub AreSeats : List (List ℕ) → Desktop → Type 0
AreSeats seats d = (c : ℕ) (r : Resident) → client_at c d ≡ Some r → r.peer.status ≡ None → seat_of seats c ≡ r.pointers

-- The serials are those of the latest press and of the latest release that each client was told of that lives and isn't to end.
abbrev pub AreLatest : List Latest → Midstep → Type 0
AreLatest latest m =
    (c : ℕ) (r : Resident) → client_at c m.desktop ≡ Some r → r.peer.status ≡ None → is_struck c m.struck ≡ false
    → IsLatest (latest_of latest c) (Some r)

-- What is kept of the clients is what the desktop has but for the pointer; and so are the pointer, whose focus is settled, the wl_pointers,
-- and the serials.
pub record Agrees (v : DeskView) (d : Desktop) : Type 0 where
  pub kept : KeptAgrees v.kept (unpointed d)
  pub pointer : v.pointer ≡ d.pointer
  pub placed : IsPlaced d
  pub seats : AreSeats v.seats d
  pub latest : AreLatest v.latest (unstruck d)
  pub settled : IsSettled d

-- One step leads from old to new: whatever desktop agrees before, one to which the step leads agrees after.
abbrev pub TakesStep : Act → Done → DeskView → DeskView → Type 0
TakesStep act done old new = (d : Desktop) → Agrees old d → (e : Desktop) × Happens act done d e × Agrees new e

-- One thing that happens leads from whatever desktop agrees before to one that agrees after, and marks what it has to on the way.
abbrev pub LeadsBy : Happening → MarkedDesk → MarkedDesk → Type 0
LeadsBy h old new = (d : Desktop) → Agrees old.desk d → Led (Agrees new.desk) h old.damage new.damage d

-- The same, and nothing more is to be painted where no client ends.
abbrev pub LeadsQuietly : Happening → MarkedDesk → MarkedDesk → Type 0
LeadsQuietly h old new =
    (d : Desktop) → Agrees old.desk d
    → (led : Led (Agrees new.desk) h old.damage new.damage d) × MarksIfEnds d led.desktop old.damage new.damage

-- A call marks nothing: the same points are to be painted again.
abbrev pub MarksNothing : MarkedDesk → MarkedDesk → Type 0
MarksNothing old new =
    (d : Desktop) → Agrees old.desk d → (x y : ℕ) → x < old.damage.width → y < old.damage.height → has new.damage x y ≡ has old.damage x y

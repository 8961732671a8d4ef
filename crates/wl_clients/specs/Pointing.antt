-- What messages ask of the pointer, what a point hits, and what clients are told of the pointer.
use Rattle.std.specs.Prelude.{ℕ, ◌≡◌, List, Option, Some, None}
use Rattle.wl_client.specs.declared.pointers.PointerEvent.{PointerEvent}
use Rattle.wl_client.specs.Agreement.{IsPeer}
use Rattle.wl_client.specs.Pointers.{TellsPointers, pointers_told, serial_after}
use Rattle.wl_client.specs.View.{ClientView, opened}
use Rattle.spec_desktop.specs.declared.cause.Cause.{Cause}
use Rattle.spec_desktop.specs.Peer.{Peer}
use Rattle.spec_desktop.specs.Objects.{ById}
use Rattle.spec_desktop.specs.Told.{Said}
use Rattle.spec_desktop.specs.Windows.{Window}
use Rattle.wl_scene.specs.ByNumbers.{by_numbers}
use Rattle.spec_desktop.specs.Demand.{Demand}
use Rattle.spec_desktop.specs.Desktop.{Desktop, Resident}
use Rattle.spec_desktop.specs.Stacked.{all_windows}
use Rattle.wl_requests.specs.declared.pointer_asked.PointerAsked.{PointerAsked}
use Rattle.wl_requests.specs.PointerAsks.{AsksPointer}
use Rattle.wl_clients.specs.View.{DeskView}
use Rattle.wl_clients.specs.declared.grabs.Latest.{Latest}

-- a message that asks this of the desktop asks that of the pointer, if it isn't refused
abbrev pub AsksOfPointer : ById ℕ → Option Demand → PointerAsked → Type 0
AsksOfPointer numbers None asked = Unit {0}
AsksOfPointer numbers (Some demand) asked = AsksPointer numbers demand asked

-- the windows of the desktop, by the numbers of their surfaces
abbrev pub windows_numbered : DeskView → Desktop → List Window
windows_numbered v d = by_numbers v.pile.windows (all_windows d)

-- these are the serials of the latest press and release that the client was told of, if it is there
abbrev pub IsLatest : Latest → Option Resident → Type 0
IsLatest latest None = Unit {0}
IsLatest latest (Some r) = (latest.press ≡ r.press) × (latest.release ≡ r.release)

-- The wl_pointers of a client are told an event: it draws the serial that the event has, and may keep it as that of its latest press or
-- release.
pub record IsTold (event : PointerEvent) (pointers : List ℕ) (r then : Resident) (events : List Said) : Type 0 where
  pub press : Option ℕ
  pub release : Option ℕ
  pub changes :
      then
      ≡ record r {
        peer = record r.peer { serial = serial_after event pointers r.peer.serial };
        press = press;
        release = release;
      }
  pub told : events ≡ pointers_told event r.peer.serial pointers

-- so is the client, if it is there
abbrev pub IsToldAt : PointerEvent → List ℕ → (Resident → Resident) → (Resident → List Said) → Option Resident → Type 0
IsToldAt event pointers change events None = Unit {0}
IsToldAt event pointers change events (Some r) = IsTold event pointers r (change r) (events r)

-- What is kept of a client stays but for that, where it lives and isn't to end; else all of it.
abbrev pub IsToldBy : PointerEvent → List ℕ → Option Cause → Option Cause → ClientView → ClientView → Type 0
IsToldBy event pointers None None old new =
    ((p : Peer) → IsPeer old p → (q : Peer) × TellsPointers event pointers p q new.refused × IsPeer (opened new) q)
    × (new ≡ record old { unsent = new.unsent; refused = new.refused; serial = new.serial })
IsToldBy event pointers ended refused old new = new ≡ old

-- What a message does before the focus is settled: it is taken with the pointer put aside, and then the pointer follows it.
use Rattle.std.specs.Prelude.{ℕ, ◌≡◌, ◌++◌, List, Option, Some, None}
use Rattle.wl_scene.specs.Marking.{IsAsLarge}
use Rattle.spec_desktop.specs.Pointer.{Pointer, Target}
use Rattle.spec_desktop.specs.Desktop.{Desktop, status_in, unpointed}
use Rattle.spec_desktop.specs.Happenings.{Happening, Leads, Message}
use Rattle.spec_desktop.specs.Settling.{Midstep, ended_all, unstruck}
use Rattle.spec_desktop.specs.Through.{SettlesAllThrough, ends_through}
use Rattle.law_desktop.specs.Focus.{IsSettled}
use Rattle.law_desktop.specs.Pointed.Marking.{last_of}
use Rattle.law_desktop.specs.Pointed.Pointed.{asked, pointer_if}
use Rattle.wl_requests.specs.declared.pointer_asked.PointerAsked.{PointerAsked}
use Rattle.wl_clients.specs.Agreeing.{Agrees as KeptAgrees}
use Rattle.wl_clients.specs.Agreement.{numbers_in}
use Rattle.wl_clients.specs.Marking.{MarksThrough}
use Rattle.wl_clients.specs.Pointing.{AsksOfPointer}
use Rattle.wl_clients.specs.Touching.{HitsStay}
use Rattle.wl_desk.specs.Agreeing.{AreLatest, AreSeats, IsPlaced}
use Rattle.wl_desk.specs.Midway.{IsMidway}
use Rattle.wl_desk.specs.View.{MarkedDesk}

-- The first message of a client was taken with the pointer put aside, and asked this of the pointer, which is still as it was. What is kept
-- of the clients is what it led to, and so are the wl_pointers and the serials.
pub record Took (c : ℕ) (request : PointerAsked) (old new : MarkedDesk) (d : Desktop) : Type 0 where
  pub path : List Desktop
  pub desktop : Desktop
  pub leads : Leads (Message c) (unpointed d) path desktop
  pub kept : KeptAgrees new.desk.kept desktop
  pub marks : MarksThrough (unpointed d) path old.damage new.damage
  pub sides : IsAsLarge old.damage new.damage
  pub asks : AsksOfPointer (numbers_in old.desk.kept.clients c) (asked c d) request
  pub seats : AreSeats new.desk.seats desktop
  pub latest : AreLatest new.desk.latest (unstruck desktop)
  pub pointer : new.desk.pointer ≡ d.pointer
  pub placed : IsPlaced d
  pub settled : IsSettled d

-- What happens led through these desktops to the middle of a step, and on to wherever it leads once those have ended that are to end and the
-- focus is settled from there. The desk agrees with it, and what was marked is what is to be marked on the way.
pub record IsUnsettled (h : Happening) (old new : MarkedDesk) (d : Desktop) : Type 0 where
  pub path : List Desktop
  pub mid : Midstep
  pub last : last_of d path ≡ mid.desktop
  pub leads :
      (later : List Desktop) (e : Desktop) → SettlesAllThrough 33 (unstruck (ended_all mid.struck mid.desktop)) later e
      → Leads h d (path ++ (ends_through mid.struck mid.desktop ++ later)) e
  pub midway : IsMidway new.desk mid
  pub marks : MarksThrough d path old.damage new.damage
  pub sides : IsAsLarge old.damage new.damage

-- A message of this client led so far, by way of the desktop e. Where the client lives on there and each point hits what it hit, the focus is
-- settled still.
pub record IsFollowed (c : ℕ) (e : Desktop) (old new : MarkedDesk) (d : Desktop) : Type 0 where
  pub led : IsUnsettled (Message c) old new d
  pub unmoved : status_in c e ≡ None → HitsStay (unpointed d) e → IsSettled led.mid.desktop

-- The pointer where it has left the client of this surface, if that ended.
abbrev pub left_of : Option Target → Desktop → Pointer → Pointer
left_of None e p = p
left_of (Some t) e p = pointer_if (status_in t.client e) t.client p

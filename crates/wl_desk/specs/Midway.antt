-- The middle of a step: the focus isn't settled yet, and clients are to end.
use Rattle.std.specs.Prelude.{ℕ, ◌≡◌, ◌<◌, true, Option, Some, None, List, []}
use Rattle.wl_client.specs.declared.pointers.PointerEvent.{PointerEvent}
use Rattle.spec_desktop.specs.Told.{Said}
use Rattle.spec_desktop.specs.Pointer.{is_stacked}
use Rattle.spec_desktop.specs.PointerActions.{PointerAction, Leave, Enter, Motion}
use Rattle.spec_desktop.specs.Windows.{Window}
use Rattle.spec_desktop.specs.Desktop.{Desktop, Resident, unpointed}
use Rattle.spec_desktop.specs.Marks.{AreDistinct}
use Rattle.spec_desktop.specs.Settling.{Midstep, Settles}
use Rattle.spec_desktop.specs.Stacked.{all_windows}
use Rattle.law_desktop.specs.Focus.{IsSettled}
use Rattle.law_desktop.specs.Pointed.Rounds.{AreRounds}
use Rattle.wl_clients.specs.Marking.{MarksThrough}
use Rattle.wl_clients.specs.Midway.{IsMid}
use Rattle.wl_clients.specs.Pointing.{IsTold}
use Rattle.wl_desk.specs.Agreeing.{AreLatest, AreSeats, IsPlaced}
use Rattle.wl_desk.specs.View.{DeskView, MarkedDesk}

-- the middle of a step, where nobody has pointed yet
abbrev pub unpointed_mid : Midstep → Midstep
unpointed_mid m = record m { desktop = unpointed m.desktop }

-- What is kept of the clients agrees with it but for the pointer, and so do the wl_pointers, the serials, and where the pointer is.
pub record IsTelling (v : DeskView) (m : Midstep) : Type 0 where
  pub kept : IsMid v.kept (unpointed_mid m)
  pub place : v.pointer.place ≡ m.desktop.pointer.place
  pub seats : AreSeats v.seats m.desktop
  pub latest : AreLatest v.latest m

-- So does the pointer.
pub record IsMidway (v : DeskView) (m : Midstep) : Type 0 where
  pub telling : IsTelling v m
  pub pointer : v.pointer ≡ m.desktop.pointer
  pub placed : IsPlaced m.desktop

-- The same of a desk whose focus is settled, if that is known.
pub record IsAmid (v : MarkedDesk) (m : Midstep) : Type 0 where
  pub midway : IsMidway v.desk m
  pub known : v.settled ≡ true → IsSettled m.desktop

-- this is what each wl_pointer of a client that lives is told by an event, and what it makes of the client
abbrev pub IsToldOf : PointerEvent → (Resident → Resident) → (Resident → List Said) → Option Resident → Type 0
IsToldOf event change events None = Unit {0}
IsToldOf event change events (Some r) = r.peer.status ≡ None → IsTold event r.pointers r (change r) (events r)

-- a surface is told of the pointer, and one that it enters or moves over has a window
abbrev pub IsOfFocus : List Window → PointerAction → Type 0
IsOfFocus ws (Leave t) = Unit {0}
IsOfFocus ws (Enter t) = is_stacked t ws ≡ true
IsOfFocus ws (Motion time t) = is_stacked t ws ≡ true
IsOfFocus ws action = ⊥

-- The focus was settled, and clients ended, round by round, until none was to end: these rounds, and a settling at last.
pub record SettlesDown (old new : MarkedDesk) (m : Midstep) : Type 0 where
  pub count : ℕ
  pub few : count < 33
  pub rounds : List Desktop
  pub mid : Midstep
  pub last : Midstep
  pub each : AreRounds count m rounds mid
  pub settles : Settles mid last
  pub over : last.struck ≡ []
  pub midway : IsMidway new.desk last
  pub marks : MarksThrough m.desktop rounds old.damage new.damage
  pub distinct : AreDistinct (all_windows mid.desktop)

-- What happens to the plain desktop in forms in which what comes then is told: those end that are to, and the focus is settled.
use Rattle.std.specs.Prelude.{ℕ, Bool, Option, Result, []}
use Rattle.wl_wire.specs.declared.header.Split.{Split}
use Rattle.spec_desktop.specs.declared.cause.Cause.{Cause}
use Rattle.spec_desktop.specs.declared.refusals.Refusal.{Refusal}
use Rattle.spec_desktop.specs.Peer.{Peer}
use Rattle.spec_desktop.specs.Windows.{Place}
use Rattle.spec_desktop.specs.declared.answers.Done.{Done}
use Rattle.spec_desktop.specs.Demand.{Demand}
use Rattle.spec_desktop.specs.Desktop.{Desktop, Resident}
use Rattle.spec_desktop.specs.Settling.{ended_all, struck_by}
use Rattle.spec_desktop.specs.Happens.{BecomesThen, ConnectsThen, DoesThen, WantsOrThen, AnswersThen, TakesThen, ServesThen, settling, LeavesThen, ChangesThen, ending, ShowsThen, MovesThen}
use Rattle.spec_desktop.specs.Happens.{PressesThen, ReleasesThen, ButtonsThen}

abbrev pub Becomes : (Peer → Type 0) → ℕ → Resident → Desktop → Desktop → Type 0
Becomes Q c r d new = BecomesThen Q c r d (settling new)

abbrev pub Does : ℕ → Demand → Resident → Desktop → Desktop → Type 0
Does c demand r d new = DoesThen c demand r d (settling new)

abbrev pub WantsOr : Bool → Type 0 → ℕ → Resident → Desktop → Desktop → Type 0
WantsOr b Later c r d new = WantsOrThen b Later c r d (settling new)

abbrev pub Answers : Result Demand Refusal → ℕ → Resident → Desktop → Desktop → Type 0
Answers judged c r d new = AnswersThen judged c r d (settling new)

abbrev pub Takes : Split → ℕ → Resident → Desktop → Desktop → Type 0
Takes split c r d new = TakesThen split c r d (settling new)

abbrev pub ServesAt : ℕ → Option Resident → Desktop → Desktop → Type 0
ServesAt c r d new = ServesThen c r d (settling new)

-- the client ends where an event of its wasn't queued
abbrev pub after_why : Option Cause → ℕ → Desktop → Desktop
after_why why c d = ended_all (struck_by c why []) d

abbrev pub LeavesAt : ℕ → Option Resident → Desktop → Done → Desktop → Type 0
LeavesAt c r d done new = LeavesThen c r d done (settling new) (ending new)

abbrev pub ChangesAt : (Peer → Done → Option Peer → Type 0) → Done → ℕ → Option Resident → Desktop → Done → Desktop → Type 0
ChangesAt R absent c r d done new = ChangesThen R absent c r d done (ending new)

abbrev pub Shows : ℕ → Desktop → Desktop → Type 0
Shows time d new = ShowsThen time d (settling new)

abbrev pub MovesTo : ℕ → Place → Desktop → Desktop → Type 0
MovesTo time at d new = MovesThen time at d (ending new)

abbrev pub PressesIf : Bool → ℕ → ℕ → Desktop → Desktop → Type 0
PressesIf is_new time button d new = PressesThen is_new time button d (ending new)

abbrev pub ReleasesIf : Bool → ℕ → ℕ → Desktop → Desktop → Type 0
ReleasesIf is_held time button d new = ReleasesThen is_held time button d (ending new)

abbrev pub Buttons : Bool → ℕ → ℕ → Desktop → Desktop → Type 0
Buttons pressed time button d new = ButtonsThen pressed time button d (ending new)

-- the lowest free number is taken
abbrev pub ConnectsAt : Option ℕ → Desktop → Done → Desktop → Type 0
ConnectsAt k d done new = ConnectsThen k d done (ending new)

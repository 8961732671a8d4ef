-- How events are queued, how clients end, what the pointer does, and how its focus is settled, where every request is served.
use Rattle.std.specs.Prelude.{ℕ, zero, suc, ◌≡◌, ◌==◌, ◌&&◌, ◌||◌, nat_lt, Bool, true, false, if◌then◌else◌, is_some, Option, Some, None}
use Rattle.std.specs.Prelude.{List, [], ◌∷◌, fold}
use Rattle.std.specs.List.{list_any}
use Rattle.spec_desktop.specs.declared.cause.Cause.{Cause}
use Rattle.spec_desktop.specs.Peer.{Peer, ended}
pub use Rattle.spec_desktop.specs.Peer.{QueuesFirst, QueuesTo}
use Rattle.spec_desktop.specs.Told.{Said}
use Rattle.wl_surface.specs.Surfaces.{history_in}
use Rattle.wl_shell.specs.Popups.{dismissing}
use Rattle.spec_desktop.specs.Pointer.{Pointer, Target}
use Rattle.spec_desktop.specs.PointerActions.{PointerAction, Leave, Enter, Motion, Button, Raise, MoveWindow, Dismiss}
use Rattle.spec_desktop.specs.PointerActions.{PointerInput, Settle, actions}
use Rattle.spec_desktop.specs.Stacking.{Standing, raised}
use Rattle.spec_desktop.specs.Windows.{Window}
use Rattle.spec_desktop.specs.Changing.{drawing}
use Rattle.spec_desktop.specs.Desktop.{Desktop, Resident, become, client_at, with_client}
use Rattle.spec_desktop.specs.Pointing.{button_told, entered_surface, has_pointers, left_surface, motion_told, moved_standing}
use Rattle.spec_desktop.specs.Replies.{focus_window, popups_done}
use Rattle.spec_desktop.specs.Stacked.{all_windows}
use Rattle.spec_desktop.specs.Step.{with_shell}

-- a client that is to end since an event for it wasn't queued, and why
pub record Strike : Type 0 where
  pub client : ℕ
  pub cause : Cause

-- a desktop in the middle of a step, with the clients that are to end, in rising number
pub record Midstep : Type 0 where
  pub desktop : Desktop
  pub struck : List Strike

abbrev pub unstruck : Desktop → Midstep
unstruck d = record { desktop = d; struck = [] }

-- ---- events

abbrev pub in_order : Strike → List Strike → List Strike
in_order s [] = s ∷ []
in_order s (t ∷ ts) = if nat_lt s.client t.client then s ∷ t ∷ ts else t ∷ in_order s ts

abbrev pub struck_by : ℕ → Option Cause → List Strike → List Strike
struck_by c None strikes = strikes
struck_by c (Some cause) strikes = in_order (record { client = c; cause = cause }) strikes

abbrev pub is_struck : ℕ → List Strike → Bool
is_struck c strikes = list_any (λ s. s.client == c) strikes

-- a client changes, and is told this of the change
abbrev pub TellsResident : (Resident → Resident) → (Resident → List Said) → ℕ → Resident → Midstep → Midstep → Type 0
TellsResident change events c r old new =
    (q : Peer) × (why : Option Cause) × QueuesTo (events r) (change r).peer q why
    × (new ≡ record { desktop = with_client c (Some (record (change r) { peer = q })) old.desktop; struck = struck_by c why old.struck })

-- nothing is told to a client that ended or is to end
abbrev pub TellsUnless : Bool → (Resident → Resident) → (Resident → List Said) → ℕ → Resident → Midstep → Midstep → Type 0
TellsUnless true change events c r old new = new ≡ old
TellsUnless false change events c r old new = TellsResident change events c r old new

abbrev pub TellsAt : (Resident → Resident) → (Resident → List Said) → ℕ → Option Resident → Midstep → Midstep → Type 0
TellsAt change events c None old new = new ≡ old
TellsAt change events c (Some r) old new = TellsUnless (is_some r.peer.status || is_struck c old.struck) change events c r old new

-- The client with this number, if it is there, changes so and is told so.
abbrev pub Tells : (Resident → Resident) → (Resident → List Said) → ℕ → Midstep → Midstep → Type 0
Tells change events c old new = TellsAt change events c (client_at c old.desktop) old new

-- ---- ends

-- the pointer leaves a client that ended, without telling it
abbrev pub unless_of : ℕ → Option Target → Option Target
unless_of c None = None
unless_of c (Some t) = if t.client == c then None else Some t

abbrev pub pointer_without : ℕ → Pointer → Pointer
pointer_without c p = record p { focus = unless_of c p.focus; move = unless_of c p.move }

abbrev pub after_status : Option Cause → ℕ → Desktop → Desktop
after_status None c d = d
after_status (Some cause) c d = record d { pointer = pointer_without c d.pointer }

-- what becomes of a client, and of the pointer with it
abbrev pub becomes : ℕ → Resident → Peer → Desktop → Desktop
becomes c r q d = after_status q.status c (become c r q d)

abbrev pub ended_at : ℕ → Cause → Option Resident → Desktop → Desktop
ended_at c cause None d = d
ended_at c cause (Some r) d = becomes c r (ended cause r.peer) d

abbrev pub ended_by : Strike → Desktop → Desktop
ended_by s d = ended_at s.client s.cause (client_at s.client d) d

-- ---- what the pointer does

-- wl_pointer.leave and enter draw a serial of the client where it is told
abbrev pub leave_drawn : ℕ → Resident → Resident
leave_drawn surface r = drawing (is_some (history_in surface r.owned.surfaces) && has_pointers r) r

abbrev pub told_drawn : Resident → Resident
told_drawn r = drawing (has_pointers r) r

-- a button draws one too, and its client keeps the serial as that of its latest press or release
abbrev pub noted : Bool → Resident → Resident
noted true r = record r { press = Some r.peer.serial }
noted false r = record r { release = Some r.peer.serial }

abbrev pub noted_if : Bool → Bool → Resident → Resident
noted_if true pressed r = told_drawn (noted pressed r)
noted_if false pressed r = r

abbrev pub number_of : Bool → ℕ
number_of true = 1
number_of false = 0

abbrev pub without_grabs : Resident → Resident
without_grabs r = with_shell (dismissing (λ p. p.popup.has_grab) r.owned.shell) r

abbrev pub with_focus : Option Target → Midstep → Midstep
with_focus t m = record m { desktop = record m.desktop { pointer = record m.desktop.pointer { focus = t } } }

abbrev pub with_standing : List Standing → Midstep → Midstep
with_standing standing m = record m { desktop = record m.desktop { standing = standing } }

-- One action of the pointer is done: a client is told of it, or the stack changes. A place in a surface goes by these windows.
abbrev pub Applies : List Window → PointerAction → Midstep → Midstep → Type 0
Applies windows (Leave t) old new =
    (told : Midstep) × Tells (leave_drawn t.surface) (left_surface t.surface) t.client old told × (new ≡ with_focus None told)
Applies windows (Enter t) old new =
    (told : Midstep) × Tells told_drawn (entered_surface old.desktop.pointer.place (focus_window (Some t) windows)) t.client old told
    × (new ≡ with_focus (Some t) told)
Applies windows (Motion time t) old new =
    Tells (λ r. r) (motion_told time old.desktop.pointer.place (focus_window (Some t) windows)) t.client old new
Applies windows (Button time button pressed t) old new =
    Tells (λ r. noted_if (has_pointers r) pressed r) (button_told time button (number_of pressed)) t.client old new
Applies windows (Raise t) old new = new ≡ with_standing (raised t.client t.surface old.desktop.standing) old
Applies windows (MoveWindow t x y) old new = new ≡ with_standing (moved_standing t x y old.desktop.standing) old
Applies windows (Dismiss c) old new = Tells without_grabs (λ r. popups_done r (without_grabs r)) c old new

-- these, one after another
abbrev pub AppliesAll : List Window → List PointerAction → Midstep → Midstep → Type 0
AppliesAll windows [] old new = new ≡ old
AppliesAll windows (action ∷ later) old new =
    (mid : Midstep) × Applies windows action old mid × AppliesAll windows later mid new

-- What comes in to the pointer is done, by the windows of the beginning.
abbrev pub PointerActs : PointerInput → Midstep → Midstep → Type 0
PointerActs input old new =
    AppliesAll (all_windows old.desktop) (actions input old.desktop.pointer (all_windows old.desktop)) old new

-- ---- the focus is settled, and clients end

-- The focus is settled once.
abbrev pub Settles : Midstep → Midstep → Type 0
Settles old new = PointerActs Settle old new

-- One client that is to end does, the least number first, and what comes then; where none is, the step is over.
abbrev pub EndsFirst : (Midstep → Desktop → Type 0) → List Strike → Desktop → Desktop → Type 0
EndsFirst Next [] d new = new ≡ d
EndsFirst Next (s ∷ ss) d new = Next (record { desktop = ended_by s d; struck = ss }) new

-- After each end the focus is settled again, at most n times.
abbrev pub SettlesAll : ℕ → Midstep → Desktop → Type 0
SettlesAll zero old new = new ≡ old.desktop
SettlesAll (suc n) old new = (mid : Midstep) × Settles old mid × EndsFirst (SettlesAll n) mid.struck mid.desktop new

-- each end takes a client away, and there are 32 at most
abbrev pub SettlesEnds : Midstep → Desktop → Type 0
SettlesEnds mid new = EndsFirst (SettlesAll 32) mid.struck mid.desktop new

-- the clients that a step's own change struck end first, and then the focus is settled
abbrev pub ended_all : List Strike → Desktop → Desktop
ended_all strikes d = fold (λ d s. ended_by s d) d strikes

abbrev pub EndsAndSettles : Midstep → Desktop → Type 0
EndsAndSettles mid new = SettlesAll 33 (unstruck (ended_all mid.struck mid.desktop)) new

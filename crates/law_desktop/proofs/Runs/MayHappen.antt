-- What happens where memory is always there is among what may happen.
use Rattle.std.proofs.Common.{◌≡◌, ℕ, zero, suc, ◌+◌, ◌-◌, ap, arith, ◌++◌, take, drop, List, [], ◌∷◌, Bool, true, false, Option, Some, None, Result, refl, subst, sym, inl, inr}
use Rattle.std.specs.Prelude.{Ok, Err, nat_le, ◌||◌, is_none, is_some, length}
use Rattle.wl_wire.specs.Wire.{split_of}
use Rattle.wl_wire.specs.declared.header.Split.{Split}
use Rattle.wl_wire.specs.declared.header.Split.TheVariants.{Message, More, Bad}
use Rattle.spec_desktop.specs.declared.cause.Cause.{Cause}
use Rattle.spec_desktop.specs.declared.cause.Cause.TheVariants as cause
use Rattle.spec_desktop.specs.declared.refusals.ErrorCode.TheVariants.{InvalidMethod}
use Rattle.spec_desktop.specs.declared.refusals.Refusal.{Refusal}
use Rattle.spec_desktop.specs.Peer.{Errs, Peer, QueuesOr, counted, ended, has_room, queued, sent_by, stored_at, with_rest}
use Rattle.wl_store.specs.Stores.{write_refusal}
use Rattle.spec_desktop.specs.Told.{Said, code_number, display_error, error_told}
use Rattle.spec_desktop.specs.Pointer.{is_down, is_press}
use Rattle.spec_desktop.specs.PointerActions.{PointerAction, PointerInput, actions}
use Rattle.spec_desktop.specs.PointerActions as pointer
use Rattle.spec_desktop.specs.Windows.{Place, Window}
use Rattle.law_desktop.specs.Ample.{acts, answered, applied, applied_all, became, buttons, changes_at, connects_at, done, ends_and_settles, ends_first, fed_at, fed_by, frames_to, happened}
use Rattle.law_desktop.specs.Ample.{held_so, left_at, left_by, moved_to, or_slow, pressed_if, queued_to, refused, refused_or, released_if, served_all, served_at, served_by}
use Rattle.law_desktop.specs.Ample.{settles, settles_all, settles_ends, shown, taken, tells, tells_at, tells_unless}
use Rattle.spec_desktop.specs.declared.answers.ConnectError.TheVariants.{Full}
use Rattle.spec_desktop.specs.declared.answers.Done.{Done}
use Rattle.spec_desktop.specs.declared.answers.Done.TheVariants as gave
use Rattle.spec_desktop.specs.declared.answers.Fed.TheVariants.{NoClient}
use Rattle.spec_desktop.specs.declared.answers.Stored.TheVariants as stored
use Rattle.spec_desktop.specs.Changing.{changed_for, grab_holder}
use Rattle.spec_desktop.specs.Demand.{Demand}
use Rattle.spec_desktop.specs.Demanding.{judge_all}
use Rattle.spec_desktop.specs.Desktop.{Desktop, Resident, client_at, with_client, status_in}
use Rattle.spec_desktop.specs.Pointing.{entered_surface, left_surface}
use Rattle.spec_desktop.specs.Replies.{focus_window, replies}
use Rattle.spec_desktop.specs.Settling.{Applies, AppliesAll, EndsAndSettles, EndsFirst, Midstep, PointerActs, QueuesFirst, QueuesTo, Settles, SettlesAll, SettlesEnds, Strike, Tells, TellsAt, TellsUnless}
use Rattle.spec_desktop.specs.Settling.{becomes, ended_all, is_struck, leave_drawn, told_drawn, unstruck}
use Rattle.spec_desktop.specs.Stacked.{all_windows}
use Rattle.spec_desktop.specs.Step.{with_peer}
use Rattle.law_desktop.proofs.Runs.Idling.{IsTaken, all-taken}
use Rattle.spec_desktop.specs.Act.{Act, Connect, Feed, Store, Leave, Tick, Send, Close, Motion, Button, IsClosed, IsSent, IsStored, closed_by, fed_of, lowest, stored_of}
use Rattle.law_desktop.proofs.Runs.Forms.{ConnectsAt, Answers, Becomes, Buttons, ChangesAt, Does, LeavesAt, MovesTo, PressesIf, ReleasesIf, ServesAt, Shows, Takes, WantsOr, after_why}
use Rattle.spec_desktop.specs.Happens.{FeedsAt, Happens, IsFedAt, Reaches, StopsAt, TellsFrames, done_for, placed, point_in, wants_memory, with_press, with_release}

-- ---- events

queues-first : (b : Bool) (events : List Said) (next p : Peer) → QueuesTo events next (queued_to events next).0 (queued_to events next).1
    → QueuesFirst b (QueuesTo events next (or_slow b (queued_to events next) p).0 (or_slow b (queued_to events next) p).1) p (or_slow b (queued_to events next) p).0
    (or_slow b (queued_to events next) p).1
queues-first false events next p h = (refl, refl)
queues-first true events next p h = inr h

queues : (events : List Said) (p : Peer) → QueuesTo events p (queued_to events p).0 (queued_to events p).1
queues [] p = (refl, refl)
queues (event ∷ events) p = queues-first (has_room p.unsent event) events (queued event p) p (queues events (queued event p))

tells-unless : (b : Bool) (change : Resident → Resident) (events : Resident → List Said) (c : ℕ) (r : Resident) (m : Midstep) → TellsUnless b change events c r m (tells_unless b change events c r m)
tells-unless true change events c r m = refl
tells-unless false change events c r m =
    ((queued_to (events r) (change r).peer).0, (queued_to (events r) (change r).peer).1, queues (events r) (change r).peer, refl)

tells-at : (change : Resident → Resident) (events : Resident → List Said) (c : ℕ) (o : Option Resident) (m : Midstep) → TellsAt change events c o m (tells_at change events c o m)
tells-at change events c None m = refl
tells-at change events c (Some r) m = tells-unless (is_some r.peer.status || is_struck c m.struck) change events c r m

tells-so : (change : Resident → Resident) (events : Resident → List Said) (c : ℕ) (m : Midstep) → Tells change events c m (tells change events c m)
tells-so change events c m = tells-at change events c (client_at c m.desktop) m

-- ---- what the pointer does

applied-so : (windows : List Window) (action : PointerAction) (m : Midstep) → Applies windows action m (applied windows action m)
applied-so windows (pointer.Leave t) m = (tells (leave_drawn t.surface) (left_surface t.surface) t.client m, tells-so _ _ t.client m, refl)
applied-so windows (pointer.Enter t) m =
    (tells told_drawn (entered_surface m.desktop.pointer.place (focus_window (Some t) windows)) t.client m, tells-so _ _ t.client m, refl)
applied-so windows (pointer.Motion time t) m = tells-so _ _ t.client m
applied-so windows (pointer.Button time button pressed t) m = tells-so _ _ t.client m
applied-so windows (pointer.Dismiss c) m = tells-so _ _ c m
applied-so windows action m = refl

all-so : (windows : List Window) (actions : List PointerAction) (m : Midstep) → AppliesAll windows actions m (applied_all windows actions m)
all-so windows [] m = refl
all-so windows (action ∷ later) m = (applied windows action m, applied-so windows action m, all-so windows later (applied windows action m))

acts-so : (input : PointerInput) (m : Midstep) → PointerActs input m (acts input m)
acts-so input m = all-so (all_windows m.desktop) (actions input m.desktop.pointer (all_windows m.desktop)) m

-- ---- the focus is settled, and clients end

settles-so : (m : Midstep) → Settles m (settles m)
settles-so m = acts-so pointer.Settle m

ends-first : (Next : Midstep → Desktop → Type 0) (next : Midstep → Desktop) → ((m : Midstep) → Next m (next m)) → (ss : List Strike) (d : Desktop) → EndsFirst Next ss d (ends_first next ss d)
ends-first Next next so [] d = refl
ends-first Next next so (s ∷ ss) d = so _

settles-all : (n : ℕ) (m : Midstep) → SettlesAll n m (settles_all n m)
settles-all zero m = refl
settles-all (suc n) m =
    (settles m, settles-so m, ends-first (SettlesAll n) (λ mid. settles_all n mid) (λ mid. settles-all n mid) (settles m).struck (settles m).desktop)

settles-ends : (mid : Midstep) → SettlesEnds mid (settles_ends mid)
settles-ends mid = ends-first (SettlesAll 32) (λ m. settles_all 32 m) (λ m. settles-all 32 m) mid.struck mid.desktop

ends-and-settles : (mid : Midstep) → EndsAndSettles mid (ends_and_settles mid)
ends-and-settles mid = settles-all 33 (unstruck (ended_all mid.struck mid.desktop))

-- ---- messages

errs-first : (b : Bool) (refusal : Refusal) (p : Peer)
    → QueuesOr b (refused_or b (ended (cause.Protocol refusal.object (code_number refusal.code)) (queued (error_told refusal) p)) p ≡ ended (cause.Protocol refusal.object (code_number refusal.code))
    (queued (error_told refusal) p)) p (refused_or b (ended (cause.Protocol refusal.object (code_number refusal.code)) (queued (error_told refusal) p)) p)
errs-first false refusal p = refl
errs-first true refusal p = inr refl

errs : (refusal : Refusal) (p : Peer) → Errs refusal p (refused refusal p)
errs refusal p = errs-first (has_room p.unsent (error_told refusal)) refusal p

becomes-so : (refusal : Refusal) (c : ℕ) (r : Resident) (d : Desktop) → Becomes (Errs refusal r.peer) c r d (became c r (refused refusal r.peer) d)
becomes-so refusal c r d = (refused refusal r.peer, errs refusal r.peer, ends-and-settles (unstruck (becomes c r (refused refusal r.peer) d)))

does-so : (c : ℕ) (demand : Demand) (r : Resident) (d : Desktop) → Does c demand r d (done c demand r d)
does-so c demand r d =
    let old : Resident = changed_for c demand r d in
    let told : Peer × Option Cause = queued_to (replies c demand r old (all_windows d) d) old.peer in (
      told.0,
      told.1,
      queues (replies c demand r old (all_windows d) d) old.peer,
      ends-and-settles (unstruck (after_why told.1 c (with_client c (Some (with_peer told.0 old)) (done_for c demand r d)))),
    )

wants-so : (b : Bool) (Later : Type 0) (c : ℕ) (r : Resident) (d new : Desktop) → Later → WantsOr b Later c r d new
wants-so false Later c r d new h = h
wants-so true Later c r d new h = inr h

answers-so : (judged : Result Demand Refusal) (c : ℕ) (r : Resident) (d : Desktop) → Answers judged c r d (answered judged c r d)
answers-so (Ok demand) c r d =
    wants-so (wants_memory demand) (Does c demand (with_peer (counted r.peer) r) d (done c demand (with_peer (counted r.peer) r) d)) c (with_peer (counted r.peer) r) d
    (done c demand (with_peer (counted r.peer) r) d) (does-so c demand (with_peer (counted r.peer) r) d)
answers-so (Err refusal) c r d = becomes-so refusal c r d

-- a message that is there is taken, or the client is done
extended : (c n k : ℕ) (d mid : Desktop) (r : Resident) (s : Split) → Reaches c k d mid → client_at c mid ≡ Some r → r.peer.status ≡ None → split_of r.peer.rest ≡ s → (j : ℕ)
    × Reaches c j d (taken s c r mid)
extended c n k d mid r (Message object opcode size) h e alive split = (
  suc k,
  (
    mid,
    h,
    subst (λ (o : Option Resident). ServesAt c o mid (taken (Message object opcode size) c r mid)) (sym e) (
      alive,
      subst (λ (s : Split). Takes s c r mid (taken (Message object opcode size) c r mid)) (sym split)
          (answers-so (judge_all r object opcode (take (size - 8) (drop 8 r.peer.rest))) c (with_peer (with_rest (drop size r.peer.rest) r.peer) r) mid),
    ),
  ),
)
extended c n k d mid r Bad h e alive split = (
  suc k,
  (
    mid,
    h,
    subst (λ (o : Option Resident). ServesAt c o mid (taken Bad c r mid)) (sym e)
        (alive, subst (λ (s : Split). Takes s c r mid (taken Bad c r mid)) (sym split) (becomes-so (display_error InvalidMethod) c r mid)),
  ),
)
extended c n k d mid r More h e alive split = (k, h)

reached-by : (c n k : ℕ) (d mid : Desktop) (r : Resident) (s : Option Cause) → Reaches c k d mid → client_at c mid ≡ Some r → r.peer.status ≡ s → (j : ℕ)
    × Reaches c j d (served_by c s r mid)
reached-by c n k d mid r None h e alive = extended c n k d mid r (split_of r.peer.rest) h e alive refl
reached-by c n k d mid r (Some cause) h e alive = (k, h)

reached-at : (c n k : ℕ) (d mid : Desktop) (o : Option Resident) → Reaches c k d mid → client_at c mid ≡ o → (j : ℕ) × Reaches c j d (served_at c o mid)
reached-at c n k d mid None h e = (k, h)
reached-at c n k d mid (Some r) h e = reached-by c n k d mid r r.peer.status h e refl

reached : (c n : ℕ) (d : Desktop) → (k : ℕ) × Reaches c k d (served_all c n d)
reached c zero d = (zero, refl)
reached c (suc n) d = let before = reached c n d in reached-at c n before.0 d (served_all c n d) (client_at c (served_all c n d)) before.1 refl

-- ---- a piece

stops-so : (c : ℕ) (d : Desktop) → IsTaken c d → StopsAt c (client_at c d) d d
stops-so c d taken = subst (λ (o : Option Resident). StopsAt c o d d) (sym taken.1) (inl (refl, taken.2))

feeds-so : (c : ℕ) (piece : List ℕ) (s : Option Cause) (r : Resident) (d : Desktop) → client_at c d ≡ Some r → r.peer.status ≡ s → FeedsAt c piece s r d (fed_by c piece s r d)
feeds-so c piece (Some cause) r d e alive = refl
feeds-so c piece None r d e alive =
    let more : Resident = with_peer (with_rest (r.peer.rest ++ piece) r.peer) r in
    let end : Desktop = served_all c (length more.peer.rest) (with_client c (Some more) d) in
    let runs = reached c (length more.peer.rest) (with_client c (Some more) d) in
    (runs.0, end, runs.1, stops-so c end (all-taken c more r d e alive))

fed-so : (c : ℕ) (piece : List ℕ) (o : Option Resident) (d : Desktop) → client_at c d ≡ o → (done : Done) × IsFedAt c piece o d done (fed_at c piece o d)
fed-so c piece None d e = (gave.Feed NoClient, (refl, refl))
fed-so c piece (Some r) d e =
    (gave.Feed (fed_of (status_in c (fed_by c piece r.peer.status r d))), (feeds-so c piece r.peer.status r d e refl, refl))

-- ---- the other steps

connects-so : (o : Option ℕ) (d : Desktop) → (done : Done) × ConnectsAt o d done (connects_at o d)
connects-so None d = (gave.Connect (Err Full), (refl, refl))
connects-so (Some k) d = (gave.Connect (Ok (k + 1)), inr (refl, refl))

changes-by : (R : Peer → Done → Option Peer → Type 0) (absent done : Done) (c : ℕ) (r : Resident) (q : Option Peer) (d : Desktop) → R r.peer done q
    → ChangesAt R absent c (Some r) d done (held_so c r q d)
changes-by R absent done c r None d h = (None, h, refl)
changes-by R absent done c r (Some q) d h = (Some q, h, refl)

changes-so : (R : Peer → Done → Option Peer → Type 0) (absent : Done) (answer : Peer → Done) (change : Peer → Option Peer) → ((p : Peer) → R p (answer p) (change p))
    → (c : ℕ) (o : Option Resident) (d : Desktop) → (done : Done) × ChangesAt R absent c o d done (changes_at change c o d)
changes-so R absent answer change so c None d = (absent, (refl, refl))
changes-so R absent answer change so c (Some r) d = (answer r.peer, changes-by R absent (answer r.peer) c r (change r.peer) d (so r.peer))

left-by : (c : ℕ) (r : Resident) (s : Option Cause) (d : Desktop) → r.peer.status ≡ s → LeavesAt c (Some r) d (gave.Gone (is_none r.peer.status)) (left_by c r.peer.status r d)
left-by c r None d e = (refl, rw e (ends-and-settles (unstruck (becomes c r (ended cause.Gone r.peer) d))))
left-by c r (Some why) d e = (refl, rw e refl)

left-so : (c : ℕ) (o : Option Resident) (d : Desktop) → (done : Done) × LeavesAt c o d done (left_at c o d)
left-so c None d = (gave.Gone false, (refl, refl))
left-so c (Some r) d = (gave.Gone (is_none r.peer.status), left-by c r r.peer.status d refl)

frames-so : (time n k : ℕ) (d : Desktop) → TellsFrames time n (suc k) (frames_to time k (unstruck d)) (frames_to time (k + n) (unstruck d))
frames-so time zero k d = let same : k + 0 ≡ k = omega arith in ap (λ (n : ℕ). frames_to time n (unstruck d)) same
frames-so time (suc n) k d =
    let same : suc k + n ≡ k + suc n = omega arith in (
      frames_to time (suc k) (unstruck d),
      tells-so _ _ (suc k) (frames_to time k (unstruck d)),
      subst (λ (all : ℕ). TellsFrames time n (suc (suc k)) (frames_to time (suc k) (unstruck d)) (frames_to time all (unstruck d))) same (frames-so time n (suc k) d),
    )

shows-so : (time : ℕ) (d : Desktop) → Shows time d (shown time d)
shows-so time d = (frames_to time 32 (unstruck d), frames-so time 32 0 d, ends-and-settles (frames_to time 32 (unstruck d)))

-- ---- the pointer

moves-so : (time : ℕ) (at : Place) (d : Desktop) → MovesTo time at d (moved_to time at d)
moves-so time at d =
    let gone : Midstep = acts (pointer.GoTo at) (unstruck d) in
    let told : Midstep = acts (pointer.Went time) (placed at gone) in
    (gone, acts-so (pointer.GoTo at) (unstruck d), told, acts-so (pointer.Went time) (placed at gone), settles-ends told)

pressed-so : (b : Bool) (time button : ℕ) (d : Desktop) → PressesIf b time button d (pressed_if b time button d)
pressed-so false time button d = refl
pressed-so true time button d =
    let input : PointerInput = pointer.Press time button (grab_holder d) in
    let told : Midstep = acts input (unstruck (with_press button d)) in
    (told, acts-so input (unstruck (with_press button d)), settles told, settles-so told, settles-ends (settles told))

released-so : (b : Bool) (time button : ℕ) (d : Desktop) → ReleasesIf b time button d (released_if b time button d)
released-so false time button d = refl
released-so true time button d =
    let input : PointerInput = pointer.Release time button in
    let told : Midstep = acts input (unstruck (with_release button d)) in
    (told, acts-so input (unstruck (with_release button d)), settles told, settles-so told, settles-ends (settles told))

buttons-so : (pressed : Bool) (time button : ℕ) (d : Desktop) → Buttons pressed time button d (buttons pressed time button d)
buttons-so true time button d = pressed-so (is_press button d.pointer.buttons) time button d
buttons-so false time button d = released-so (is_down button d.pointer.buttons) time button d

-- ---- all of them

-- Whatever happens where memory is always there may happen.
pub happens-ample : (act : Act) (d : Desktop) → (answer : Done) × Happens act answer d (happened act d)
happens-ample Connect d = connects-so (lowest d.clients) d
happens-ample (Feed c piece) d = fed-so c piece (client_at c d) d refl
happens-ample (Store c store at bytes) d =
    changes-so (IsStored store at bytes) (gave.Store stored.NoClient) (λ p. gave.Store (stored_of p.status (write_refusal store at (length bytes) p.stores)))
    (λ p. Some (stored_at p.status store at bytes p)) (λ p. (refl, refl)) c (client_at c d) d
happens-ample (Leave c) d = left-so c (client_at c d) d
happens-ample (Tick time) d = (gave.Tick, (refl, shows-so time d))
happens-ample (Send c n) d =
    changes-so (IsSent n) (gave.Sent false) (λ p. gave.Sent (nat_le n (length p.unsent))) (λ p. Some (sent_by n p)) (λ p. (refl, refl)) c (client_at c d) d
happens-ample (Close c) d =
    changes-so IsClosed (gave.Close false) (λ p. gave.Close (is_some p.status)) (λ p. closed_by p.status p) (λ p. (refl, refl)) c (client_at c d) d
happens-ample (Motion time x y) d = (gave.Motion, (refl, moves-so time (point_in d.output x y) d))
happens-ample (Button time button pressed) d = (gave.Button, (refl, buttons-so pressed time button d))

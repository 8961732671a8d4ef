-- Where memory is always there, all whole messages of what has come are taken.
use Rattle.std.proofs.Common.{◌≡◌, ℕ, zero, suc, ◌+◌, ◌-◌, ◌/◌, ◌%◌, ◌≤◌, ap, arith, take, drop, List, [], ◌∷◌, length, Bool, true, false, Option, Some, None, Result, refl, subst, sym, ◌∙◌, inl, inr}
use Rattle.std.proofs.Common.{length-drop}
use Rattle.std.specs.Prelude.{Ok, Err, ◌||◌, ◌⊎◌, nat_lt, fold, if◌then◌else◌, is_some}
use Rattle.std.proofs.lemmas.Bool.Decides.{nat_tests}
use Rattle.wl_wire.specs.Wire.{is_size, split_of, word_of}
use Rattle.wl_wire.specs.declared.header.Split.{Split}
use Rattle.wl_wire.specs.declared.header.Split.TheVariants.{Message, More, Bad}
use Rattle.spec_desktop.specs.declared.cause.Cause.{Cause}
use Rattle.spec_desktop.specs.declared.refusals.ErrorCode.TheVariants.{InvalidMethod}
use Rattle.spec_desktop.specs.declared.refusals.Refusal.{Refusal}
use Rattle.spec_desktop.specs.Peer.{IsIdle, IsIdleAt, Peer, counted, ended, has_room, queued, removed, with_rest}
use Rattle.spec_desktop.specs.Told.{Said, display_error, error_told}
use Rattle.wl_surface.specs.Waiting.{Callback}
use Rattle.spec_desktop.specs.PointerActions.{PointerAction, Leave, Enter, Motion, Button, Dismiss, PointerInput, Settle, actions}
use Rattle.spec_desktop.specs.Windows.{Window}
use Rattle.law_desktop.specs.Ample.{acts, answered, applied, applied_all, became, done, ends_and_settles, ends_first, or_slow, queued_to, refused, refused_or, served, served_all, served_at, served_by, settles, settles_all}
use Rattle.law_desktop.specs.Ample.{taken, tells, tells_at, tells_unless}
use Rattle.wl_shell.specs.Popups.{is_toplevel}
use Rattle.wl_shell.specs.Positioner.{Positioner}
use Rattle.wl_shell.specs.Shell.{Effect, Stays, Maps, Unmaps, XdgSurface, xdg_at, xdg_of}
use Rattle.spec_desktop.specs.Changing.{Placing, placement_now, callbacks_of, changed_for, drawing, effect_placing, grab_allowed, grabbed, has_focus, in_rising_order, mode_set, popup_given_to, stacked_by, stacked_for}
use Rattle.spec_desktop.specs.Changing.{tree_committed}
use Rattle.spec_desktop.specs.Demand.{Demand, Asks, EndSurface, CommitTree, SetMode, GetPointer}
use Rattle.spec_desktop.specs.Demand.{GetPopup, Grab}
use Rattle.spec_desktop.specs.Demanding.{effect_of_commit, judge_all}
use Rattle.spec_desktop.specs.Desktop.{Desktop, Resident, become_by, client_at, client_in, place, resident_of, with_client, with_number, with_place}
use Rattle.spec_desktop.specs.Pointing.{has_pointers}
use Rattle.spec_desktop.specs.Replies.{replies}
use Rattle.spec_desktop.specs.Happens.{done_for}
use Rattle.law_desktop.proofs.Runs.Forms.{after_why}
use Rattle.spec_desktop.specs.Settling.{Midstep, Strike, after_status, becomes, ended_at, is_struck, leave_drawn, noted, noted_if, told_drawn, unstruck, without_grabs}
use Rattle.spec_desktop.specs.Stacked.{all_windows}
use Rattle.spec_desktop.specs.Step.{with_peer}
use Rattle.law_desktop.proofs.Pieces.Behind.{ask-rest, ask-status}
use Rattle.law_desktop.proofs.Runs.Places.{number-same}
use Rattle.wl_shell.specs.Popups.{Popped, copying, is_configured, popup_at, repositioning}
use Rattle.spec_desktop.specs.Changing.{popup_repositioned}
use Rattle.spec_desktop.specs.Demand.{Reposition}
use Rattle.spec_desktop.specs.Step.{xdg_changed}

-- ---- what has come of a client that is there: it ended, or this is left of it

abbrev LeavesBy : List ℕ → Option Cause → List ℕ → Type 0
LeavesBy rest (Some cause) now = Unit {0}
LeavesBy rest None now = now ≡ rest

abbrev LeavesAt : List ℕ → Option Resident → Type 0
LeavesAt rest None = ⊥
LeavesAt rest (Some r) = LeavesBy rest r.peer.status r.peer.rest

abbrev Leaves : List ℕ → ℕ → Desktop → Type 0
Leaves rest c d = LeavesAt rest (client_at c d)

place-leaves : (rest : List ℕ) (rs : List (Option Resident)) (k j : ℕ) (x : Option Resident) → LeavesAt rest (place rs j) → (k ≡ j → LeavesAt rest x) → LeavesAt rest (place (with_place k x rs) j)
place-leaves rest (r ∷ rs) zero zero x h f = f refl
place-leaves rest (r ∷ rs) (suc k) (suc j) x h f = place-leaves rest rs k j x h (λ e. f (ap (λ (n : ℕ). suc n) e))
place-leaves rest rs k j x h f = h

number-leaves : (rest : List ℕ) (clients : List (Option Resident)) (k c : ℕ) (x : Option Resident) → LeavesAt rest (client_in clients c) → (k ≡ c → LeavesAt rest x)
    → LeavesAt rest (client_in (with_number k x clients) c)
number-leaves rest clients k zero x h f = h
number-leaves rest clients zero (suc j) x h f = h
number-leaves rest clients (suc k) (suc j) x h f = place-leaves rest clients k j x h (λ e. f (ap (λ (n : ℕ). suc n) e))

-- ---- events

queued-by : (rest : List ℕ) (b : Bool) (next : Peer × Option Cause) (p : Peer) → LeavesBy rest p.status p.rest → LeavesBy rest next.0.status next.0.rest
    → LeavesBy rest (or_slow b next p).0.status (or_slow b next p).0.rest
queued-by rest true next p h k = k
queued-by rest false next p h k = h

queued-leaves : (rest : List ℕ) (events : List Said) (p : Peer) → LeavesBy rest p.status p.rest → LeavesBy rest (queued_to events p).0.status (queued_to events p).0.rest
queued-leaves rest [] p h = h
queued-leaves rest (event ∷ events) p h =
    queued-by rest (has_room p.unsent event) (queued_to events (queued event p)) p h (queued-leaves rest events (queued event p) h)

-- a change that leaves the stream alone
abbrev IsQuiet : (Resident → Resident) → Type 0
IsQuiet change = (r : Resident) → ((change r).peer.status ≡ r.peer.status) × ((change r).peer.rest ≡ r.peer.rest)

moved-leaves : (rest : List ℕ) (s t : Option Cause) (a b : List ℕ) → t ≡ s → b ≡ a → LeavesBy rest s a → LeavesBy rest t b
moved-leaves rest s t a b e f h = subst (λ (t : Option Cause). LeavesBy rest t b) (sym e) (subst (λ (b : List ℕ). LeavesBy rest s b) (sym f) h)

tells-leaves-by : (rest : List ℕ) (b : Bool) (change : Resident → Resident) (events : Resident → List Said) (k c : ℕ) (r : Resident) (m : Midstep) → IsQuiet change → client_at k m.desktop ≡ Some r
    → Leaves rest c m.desktop → Leaves rest c (tells_unless b change events k r m).desktop
tells-leaves-by rest true change events k c r m quiet e h = h
tells-leaves-by rest false change events k c r m quiet e h =
    number-leaves rest m.desktop.clients k c _ h
    (λ same. queued-leaves rest (events r) (change r).peer
    (moved-leaves rest r.peer.status (change r).peer.status r.peer.rest (change r).peer.rest (quiet r).0 (quiet r).1
    (subst (λ (o : Option Resident). LeavesAt rest o) e (subst (λ (n : ℕ). Leaves rest n m.desktop) (sym same) h))))

tells-leaves-at : (rest : List ℕ) (change : Resident → Resident) (events : Resident → List Said) (k c : ℕ) (o : Option Resident) (m : Midstep) → IsQuiet change → client_at k m.desktop ≡ o
    → Leaves rest c m.desktop → Leaves rest c (tells_at change events k o m).desktop
tells-leaves-at rest change events k c None m quiet e h = h
tells-leaves-at rest change events k c (Some r) m quiet e h = tells-leaves-by rest (is_some r.peer.status || is_struck k m.struck) change events k c r m quiet e h

tells-leaves : (rest : List ℕ) (change : Resident → Resident) (events : Resident → List Said) (k c : ℕ) (m : Midstep) → IsQuiet change → Leaves rest c m.desktop
    → Leaves rest c (tells change events k m).desktop
tells-leaves rest change events k c m quiet h = tells-leaves-at rest change events k c (client_at k m.desktop) m quiet refl h

-- ---- what the pointer does, and ends

drawing-quiet : (b : Bool) (r : Resident) → ((drawing b r).peer.status ≡ r.peer.status) × ((drawing b r).peer.rest ≡ r.peer.rest)
drawing-quiet true r = (refl, refl)
drawing-quiet false r = (refl, refl)

noted-quiet : (b pressed : Bool) (r : Resident) → ((noted_if b pressed r).peer.status ≡ r.peer.status) × ((noted_if b pressed r).peer.rest ≡ r.peer.rest)
noted-quiet true true r = drawing-quiet (has_pointers r) (noted true r)
noted-quiet true false r = drawing-quiet (has_pointers r) (noted false r)
noted-quiet false pressed r = (refl, refl)

applied-leaves : (rest : List ℕ) (c : ℕ) (windows : List Window) (action : PointerAction) (m : Midstep) → Leaves rest c m.desktop → Leaves rest c (applied windows action m).desktop
applied-leaves rest c windows (Leave t) m h = tells-leaves rest (leave_drawn t.surface) _ t.client c m (λ r. drawing-quiet _ r) h
applied-leaves rest c windows (Enter t) m h = tells-leaves rest told_drawn _ t.client c m (λ r. drawing-quiet _ r) h
applied-leaves rest c windows (Motion time t) m h = tells-leaves rest (λ r. r) _ t.client c m (λ r. (refl, refl)) h
applied-leaves rest c windows (Button time button pressed t) m h =
    tells-leaves rest (λ r. noted_if (has_pointers r) pressed r) _ t.client c m (λ r. noted-quiet (has_pointers r) pressed r) h
applied-leaves rest c windows (Dismiss k) m h = tells-leaves rest without_grabs _ k c m (λ r. (refl, refl)) h
applied-leaves rest c windows action m h = h

all-applied-leaves : (rest : List ℕ) (c : ℕ) (windows : List Window) (actions : List PointerAction) (m : Midstep) → Leaves rest c m.desktop
    → Leaves rest c (applied_all windows actions m).desktop
all-applied-leaves rest c windows [] m h = h
all-applied-leaves rest c windows (action ∷ later) m h =
    all-applied-leaves rest c windows later (applied windows action m) (applied-leaves rest c windows action m h)

acts-leaves : (rest : List ℕ) (c : ℕ) (input : PointerInput) (m : Midstep) → Leaves rest c m.desktop → Leaves rest c (acts input m).desktop
acts-leaves rest c input m h = all-applied-leaves rest c (all_windows m.desktop) (actions input m.desktop.pointer (all_windows m.desktop)) m h

become-leaves : (rest : List ℕ) (s : Option Cause) (k c : ℕ) (r : Resident) (q : Peer) (d : Desktop) → (k ≡ c → LeavesBy rest q.status q.rest) → Leaves rest c d
    → Leaves rest c (after_status s k (become_by s k r q d))
become-leaves rest None k c r q d f h = number-leaves rest d.clients k c (Some (record r { peer = q })) h f
become-leaves rest (Some why) k c r q d f h = number-leaves rest d.clients k c _ h f

ended-leaves-at : (rest : List ℕ) (why : Cause) (k c : ℕ) (o : Option Resident) (d : Desktop) → Leaves rest c d → Leaves rest c (ended_at k why o d)
ended-leaves-at rest why k c None d h = h
ended-leaves-at rest why k c (Some r) d h = become-leaves rest (Some why) k c r (ended why r.peer) d (λ same. tt) h

first-leaves : (rest : List ℕ) (c : ℕ) (next : Midstep → Desktop) → ((m : Midstep) → Leaves rest c m.desktop → Leaves rest c (next m)) → (ss : List Strike) (d : Desktop) → Leaves rest c d
    → Leaves rest c (ends_first next ss d)
first-leaves rest c next keeps [] d h = h
first-leaves rest c next keeps (s ∷ ss) d h = keeps _ (ended-leaves-at rest s.cause s.client c (client_at s.client d) d h)

settles-leaves : (rest : List ℕ) (c n : ℕ) (m : Midstep) → Leaves rest c m.desktop → Leaves rest c (settles_all n m)
settles-leaves rest c zero m h = h
settles-leaves rest c (suc n) m h =
    first-leaves rest c (λ mid. settles_all n mid) (λ mid. settles-leaves rest c n mid) (settles m).struck (settles m).desktop
    (acts-leaves rest c Settle m h)

-- nothing more than what a step struck ends here
all-leaves : (rest : List ℕ) (c : ℕ) (d : Desktop) → Leaves rest c d → Leaves rest c (ends_and_settles (unstruck d))
all-leaves rest c d h = settles-leaves rest c 33 (unstruck d) h

-- ---- the change of a message

without-quiet : (gone : List Callback) (p : Peer) → ((fold (λ p callback. removed callback.id p) p gone).status ≡ p.status) × ((fold (λ p callback. removed callback.id p) p gone).rest ≡ p.rest)
without-quiet [] p = (refl, refl)
without-quiet (callback ∷ gone) p = without-quiet gone (removed callback.id p)

effect-quiet : (where_to : Placing) (surface : ℕ) (effect : Effect) (x : Option XdgSurface) (r : Resident) → ((effect_placing where_to surface effect x r).peer.status ≡ r.peer.status)
    × ((effect_placing where_to surface effect x r).peer.rest ≡ r.peer.rest)
effect-quiet where_to surface effect None r = (refl, refl)
effect-quiet where_to surface Stays (Some x) r = (refl, refl)
effect-quiet where_to surface effect x r = (refl, refl)

mode-quiet : (link : ℕ) (b : Bool) (r : Resident) → ((mode_set link b r).peer.status ≡ r.peer.status) × ((mode_set link b r).peer.rest ≡ r.peer.rest)
mode-quiet link true r = (refl, refl)
mode-quiet link false r = (refl, refl)

popup-quiet : (id xdg parent : ℕ) (p : Positioner) (x : Option XdgSurface) (r : Resident) → ((popup_given_to id xdg parent p x r).peer.status ≡ r.peer.status)
    × ((popup_given_to id xdg parent p x r).peer.rest ≡ r.peer.rest)
popup-quiet id xdg parent p None r = (refl, refl)
popup-quiet id xdg parent p (Some x) r = (refl, refl)

repositioned-quiet : (where_to : Placing) (p : Positioner) (o : Option Popped) (r : Resident) → ((popup_repositioned where_to p o r).peer.status ≡ r.peer.status)
    × ((popup_repositioned where_to p o r).peer.rest ≡ r.peer.rest)
repositioned-quiet where_to p None r = (refl, refl)
repositioned-quiet where_to p (Some q) r =
    drawing-quiet (is_configured q) (xdg_changed q.xdg.id (repositioning (is_configured q) r.peer.serial (where_to (copying p q.popup)) p) r)

grab-quiet : (b : Bool) (xdg : ℕ) (r : Resident) → ((grabbed b xdg r).peer.status ≡ r.peer.status) × ((grabbed b xdg r).peer.rest ≡ r.peer.rest)
grab-quiet true xdg r = (refl, refl)
grab-quiet false xdg r = (refl, refl)

pub change-quiet : (c : ℕ) (demand : Demand) (d : Desktop) (r : Resident) → ((changed_for c demand r d).peer.status ≡ r.peer.status) × ((changed_for c demand r d).peer.rest ≡ r.peer.rest)
change-quiet c (Asks ask) d r = (ask-status ask r, ask-rest ask r)
change-quiet c (EndSurface id) d r = without-quiet (callbacks_of id r) _
change-quiet c (CommitTree surface) d r = effect-quiet (placement_now c r d) surface (effect_of_commit r surface) (xdg_of surface r.owned.shell) (tree_committed surface r)
change-quiet c (SetMode link synchronised) d r = mode-quiet link synchronised r
change-quiet c (GetPointer id version) d r = drawing-quiet (has_focus c d.pointer.focus) (record r { pointers = in_rising_order id r.pointers })
change-quiet c (GetPopup id version xdg parent p) d r = popup-quiet id xdg parent p (xdg_at xdg r.owned.shell) r
change-quiet c (Reposition xdg token p) d r = repositioned-quiet (placement_now c r d) p (popup_at xdg r.owned.shell) r
change-quiet c (Grab xdg serial) d r = grab-quiet (grab_allowed c xdg serial r d) xdg r
change-quiet c demand d r = (refl, refl)

-- the clients aren't among what the stack and the pointer are
pub stacked-by : (effect : Effect) (b : Bool) (c surface : ℕ) (d : Desktop) → (stacked_by effect b c surface d).clients ≡ d.clients
stacked-by Maps true c surface d = refl
stacked-by Unmaps true c surface d = refl
stacked-by effect b c surface d = refl

pub stacked-for : (c : ℕ) (demand : Demand) (r : Resident) (windows : List Window) (d : Desktop) → (stacked_for c demand r windows d).clients ≡ d.clients
stacked-for c (CommitTree surface) r windows d = stacked-by (effect_of_commit r surface) (is_toplevel (xdg_of surface r.owned.shell)) c surface d
stacked-for c demand r windows d = refl

-- ---- one message

put-leaves : (rest : List ℕ) (c : ℕ) (x : Option Resident) (d : Desktop) (there : Resident) → client_at c d ≡ Some there → LeavesAt rest x → Leaves rest c (with_client c x d)
put-leaves rest c x d there e h = subst (λ (o : Option Resident). LeavesAt rest o) (sym (number-same d.clients c x there e)) h

why-leaves : (rest : List ℕ) (c : ℕ) (why : Option Cause) (d : Desktop) → Leaves rest c d → Leaves rest c (after_why why c d)
why-leaves rest c None d h = h
why-leaves rest c (Some why) d h = ended-leaves-at rest why c c (client_at c d) d h

done-leaves : (rest : List ℕ) (c : ℕ) (demand : Demand) (r : Resident) (d : Desktop) (there : Resident) → client_at c d ≡ Some there → LeavesBy rest r.peer.status r.peer.rest
    → Leaves rest c (done c demand r d)
done-leaves rest c demand r d there e h =
    let new : Resident = changed_for c demand r d in
    let told : Peer × Option Cause = queued_to (replies c demand r new (all_windows d) d) new.peer in
    let quiet = change-quiet c demand d r in
    let left : LeavesBy rest told.0.status told.0.rest =
    queued-leaves rest (replies c demand r new (all_windows d) d) new.peer (moved-leaves rest r.peer.status new.peer.status r.peer.rest new.peer.rest quiet.0 quiet.1 h) in
    let found : client_at c (done_for c demand r d) ≡ Some there = ap (λ (clients : List (Option Resident)). client_in clients c) (stacked-for c demand r (all_windows d) d) ∙ e in
    all-leaves rest c (after_why told.1 c (with_client c (Some (with_peer told.0 new)) (done_for c demand r d)))
    (why-leaves rest c told.1 (with_client c (Some (with_peer told.0 new)) (done_for c demand r d)) (put-leaves rest c (Some (with_peer told.0 new)) (done_for c demand r d) there found left))

refused-by : (rest : List ℕ) (b : Bool) (cause : Cause) (p q : Peer) → LeavesBy rest (refused_or b (ended cause q) p).status (refused_or b (ended cause q) p).rest
refused-by rest true cause p q = tt
refused-by rest false cause p q = tt

become-put : (rest : List ℕ) (s : Option Cause) (c : ℕ) (r : Resident) (q : Peer) (d : Desktop) (there : Resident) → client_at c d ≡ Some there → LeavesBy rest q.status q.rest
    → Leaves rest c (after_status s c (become_by s c r q d))
become-put rest None c r q d there e h = put-leaves rest c (Some (record r { peer = q })) d there e h
become-put rest (Some why) c r q d there e h =
    subst (λ (o : Option Resident). LeavesAt rest o) (sym (number-same d.clients c (Some (resident_of q)) there e)) h

refused-leaves : (rest : List ℕ) (refusal : Refusal) (c : ℕ) (r : Resident) (d : Desktop) (there : Resident) → client_at c d ≡ Some there → Leaves rest c (became c r (refused refusal r.peer) d)
refused-leaves rest refusal c r d there e =
    let q : Peer = refused refusal r.peer in
    all-leaves rest c (becomes c r q d)
    (become-put rest q.status c r q d there e (refused-by rest (has_room r.peer.unsent (error_told refusal)) _ r.peer (queued (error_told refusal) r.peer)))

answered-leaves : (rest : List ℕ) (judged : Result Demand Refusal) (c : ℕ) (r : Resident) (d : Desktop) (there : Resident) → client_at c d ≡ Some there → LeavesBy rest r.peer.status r.peer.rest
    → Leaves rest c (answered judged c r d)
answered-leaves rest (Ok demand) c r d there e h = done-leaves rest c demand (with_peer (counted r.peer) r) d there e h
answered-leaves rest (Err refusal) c r d there e h = refused-leaves rest refusal c r d there e

-- ---- all messages

-- the client ended, no whole message is left of it, or at most n bytes are
abbrev IsWithinBy : ℕ → Option Cause → List ℕ → Type 0
IsWithinBy n (Some cause) rest = Unit {0}
IsWithinBy n None rest = (split_of rest ≡ More) ⊎ (length rest ≤ n)

abbrev IsWithinAt : ℕ → Option Resident → Type 0
IsWithinAt n None = ⊥
IsWithinAt n (Some r) = IsWithinBy n r.peer.status r.peer.rest

abbrev IsWithin : ℕ → ℕ → Desktop → Type 0
IsWithin n c d = IsWithinAt n (client_at c d)

short-within-by : (n : ℕ) (rest now : List ℕ) (s : Option Cause) → length rest ≤ n → LeavesBy rest s now → IsWithinBy n s now
short-within-by n rest now None short h = inr (subst (λ (bytes : List ℕ). length bytes ≤ n) (sym h) short)
short-within-by n rest now (Some cause) short h = tt

short-within-at : (n : ℕ) (rest : List ℕ) (o : Option Resident) → length rest ≤ n → LeavesAt rest o → IsWithinAt n o
short-within-at n rest None short h = h
short-within-at n rest (Some r) short h = short-within-by n rest r.peer.rest r.peer.status short h

short-within : (n c : ℕ) (rest : List ℕ) (d : Desktop) → length rest ≤ n → Leaves rest c d → IsWithin n c d
short-within n c rest d short h = short-within-at n rest (client_at c d) short h

-- a whole message has a size
sized-by : (short ok cut : Bool) (o op n a b size : ℕ) → (if short then More else (if ok then (if cut then More else Message o op n) else Bad)) ≡ Message a b size → (ok ≡ true) × (n ≡ size)
sized-by false true false o op n a b size e = (refl, cc)
sized-by short ok cut o op n a b size e = absurd (cc)

is_size-some : (n : ℕ) → is_size n ≡ true → 1 ≤ n
is_size-some n e = grind (arith, nat_tests)

split-some : (r : List ℕ) (a b size : ℕ) → split_of r ≡ Message a b size → 1 ≤ size
split-some r a b size e =
    let h = sized-by (nat_lt (length r) 8) (is_size (word_of 4 r / 65536)) (nat_lt (length r) (word_of 4 r / 65536)) (word_of 0 r) (word_of 4 r % 65536) (word_of 4 r / 65536) a b size e in
    subst (λ (n : ℕ). 1 ≤ n) h.1 (is_size-some (word_of 4 r / 65536) h.0)

taken-within : (n c : ℕ) (s : Split) (r : Resident) (d : Desktop) → client_at c d ≡ Some r → r.peer.status ≡ None → split_of r.peer.rest ≡ s → (split_of r.peer.rest ≡ More)
    ⊎ (length r.peer.rest ≤ suc n) → IsWithin n c (taken s c r d)
taken-within n c More r d e alive split h =
    subst (λ (o : Option Resident). IsWithinAt n o) (sym e) (subst (λ (s : Option Cause). IsWithinBy n s r.peer.rest) (sym alive) (inl split))
taken-within n c Bad r d e alive split h = short-within n c [] (became c r (refused (display_error InvalidMethod) r.peer) d) (omega arith) (refused-leaves [] (display_error InvalidMethod) c r d r e)
taken-within n c (Message object opcode size) r d e alive split (inl more) = absurd (cc)
taken-within n c (Message object opcode size) r d e alive split (inr short) =
    let some : 1 ≤ size = split-some r.peer.rest object opcode size split in
    let less : length (drop size r.peer.rest) ≤ n = omega (arith, length-drop size r.peer.rest) in
    let left : LeavesBy (drop size r.peer.rest) r.peer.status (drop size r.peer.rest) = subst (λ (s : Option Cause). LeavesBy (drop size r.peer.rest) s (drop size r.peer.rest)) (sym alive) refl in
    let judged : Result Demand Refusal = judge_all r object opcode (take (size - 8) (drop 8 r.peer.rest)) in
    let next : Resident = with_peer (with_rest (drop size r.peer.rest) r.peer) r in
    short-within n c (drop size r.peer.rest) (answered judged c next d) less (answered-leaves (drop size r.peer.rest) judged c next d r e left)

served-within-by : (n c : ℕ) (s : Option Cause) (r : Resident) (d : Desktop) → client_at c d ≡ Some r → r.peer.status ≡ s → IsWithinBy (suc n) s r.peer.rest → IsWithin n c (served_by c s r d)
served-within-by n c None r d e alive h = taken-within n c (split_of r.peer.rest) r d e alive refl h
served-within-by n c (Some cause) r d e alive h =
    subst (λ (o : Option Resident). IsWithinAt n o) (sym e) (subst (λ (s : Option Cause). IsWithinBy n s r.peer.rest) (sym alive) tt)

served-within-at : (n c : ℕ) (o : Option Resident) (d : Desktop) → client_at c d ≡ o → IsWithinAt (suc n) o → IsWithin n c (served_at c o d)
served-within-at n c None d e h = absurd h
served-within-at n c (Some r) d e h = served-within-by n c r.peer.status r d e refl h

served-within : (n c : ℕ) (d : Desktop) → IsWithin (suc n) c d → IsWithin n c (served c d)
served-within n c d h = served-within-at n c (client_at c d) d refl h

all-within : (n k c : ℕ) (d : Desktop) → IsWithin (k + n) c d → IsWithin k c (served_all c n d)
all-within zero k c d h = let same : k + 0 ≡ k = omega arith in subst (λ (m : ℕ). IsWithin m c d) same h
all-within (suc n) k c d h =
    let same : k + suc n ≡ suc k + n = omega arith in
    served-within k c (served_all c n d) (all-within n (suc k) c d (subst (λ (m : ℕ). IsWithin m c d) same h))

-- ---- the client is there, and nothing is left to take of it

abbrev pub IsTaken : ℕ → Desktop → Type 0
IsTaken c d = (r : Resident) × (client_at c d ≡ Some r) × IsIdle r.peer

nothing-left : (rest : List ℕ) → (split_of rest ≡ More) ⊎ (length rest ≤ 0) → split_of rest ≡ More
nothing-left rest (inl more) = more
nothing-left [] (inr short) = refl
nothing-left (byte ∷ rest) (inr short) = absurd (omega arith)

idle-by : (s : Option Cause) (rest : List ℕ) → IsWithinBy 0 s rest → IsIdleAt s rest
idle-by None rest h = nothing-left rest h
idle-by (Some cause) rest h = tt

taken-at : (c : ℕ) (o : Option Resident) (d : Desktop) → client_at c d ≡ o → IsWithinAt 0 o → IsTaken c d
taken-at c None d e h = absurd h
taken-at c (Some r) d e h = (r, e, idle-by r.peer.status r.peer.rest h)

-- as many messages as there are bytes are all of them
pub all-taken : (c : ℕ) (r there : Resident) (d : Desktop) → client_at c d ≡ Some there → r.peer.status ≡ None → IsTaken c (served_all c (length r.peer.rest) (with_client c (Some r) d))
all-taken c r there d e alive =
    let come : Desktop = with_client c (Some r) d in
    let enough : length r.peer.rest ≤ length r.peer.rest = omega arith in
    let within : IsWithin (length r.peer.rest) c come =
    subst (λ (o : Option Resident). IsWithinAt (length r.peer.rest) o) (sym (number-same d.clients c (Some r) there e))
    (subst (λ (s : Option Cause). IsWithinBy (length r.peer.rest) s r.peer.rest) (sym alive) (inr enough)) in
    let same : length r.peer.rest ≡ 0 + length r.peer.rest = omega arith in
    let end : IsWithin 0 c (served_all c (length r.peer.rest) come) = all-within (length r.peer.rest) 0 c come (subst (λ (n : ℕ). IsWithin n c come) same within) in
    taken-at c (client_at c (served_all c (length r.peer.rest) come)) (served_all c (length r.peer.rest) come) refl end

-- What is moved stands, whatever happens.
use Rattle.std.proofs.Common.{◌≡◌, ℕ, zero, suc, ◌+◌, List, [], ◌∷◌, ◌++◌, drop, take, Bool, true, false, Option, Some, None, Result, refl, ap, subst, sym, ◌∙◌, inl, inr}
use Rattle.std.specs.List.{list_any}
use Rattle.std.specs.Prelude.{◌-◌, ◌||◌, is_some, if◌then◌else◌, Ok, Err}
use Rattle.wl_wire.specs.Wire.{split_of}
use Rattle.wl_wire.specs.declared.header.Split.{Split}
use Rattle.wl_wire.specs.declared.header.Split.TheVariants.{Message as Whole, More, Bad}
use Rattle.spec_desktop.specs.declared.cause.Cause.{Cause}
use Rattle.spec_desktop.specs.declared.cause.Cause.TheVariants as cause
use Rattle.spec_desktop.specs.declared.refusals.ErrorCode.TheVariants.{InvalidMethod}
use Rattle.spec_desktop.specs.declared.refusals.Refusal.{Refusal}
use Rattle.spec_desktop.specs.Peer.{Errs, LacksMemory, Peer, counted, ended, with_rest}
use Rattle.spec_desktop.specs.Told.{Said, display_error}
use Rattle.spec_desktop.specs.Pointer.{Target, is_down, is_press, without_button}
use Rattle.spec_desktop.specs.PointerActions.{PointerAction, Leave as Left, Enter, Motion as Moves, Button as Presses, Raise, MoveWindow, Dismiss}
use Rattle.spec_desktop.specs.PointerActions.{PointerInput, GoTo, Press, Release, Settle, Went, actions}
use Rattle.spec_desktop.specs.Stacking.{Standing, is_of, moved_to, raised}
use Rattle.spec_desktop.specs.Windows.{Place, Window}
use Rattle.spec_desktop.specs.declared.answers.Done.{Done}
use Rattle.spec_desktop.specs.Act.{Connect, Feed, Store, Leave, Tick, Send, Close, Motion, Button, IsClosed, IsSent, IsStored, lowest}
use Rattle.spec_desktop.specs.Changing.{grab_holder, kept_move, stacked_for, without_callbacks}
use Rattle.spec_desktop.specs.Demand.{Demand}
use Rattle.spec_desktop.specs.Demanding.{judge_all}
use Rattle.spec_desktop.specs.Desktop.{Desktop, Resident, arrival, become_by, client_at, with_client}
use Rattle.spec_desktop.specs.Happenings.{Happening, Leads, Message, Receive, ReceivesAt, Single, Starve, StarvesAt}
use Rattle.spec_desktop.specs.Happens.{AnswersThen, BecomesThen, ChangesThen, ConnectsThen, DoesThen, LeavesThen, PressesThen, ReleasesThen, ServesThen, TakesThen, TellsFrames, WantsOrThen}
use Rattle.spec_desktop.specs.Happens.{callbacks_due, changed_so, frames_told, placed, point_in, released_to, wants_memory, with_press, with_release}
use Rattle.spec_desktop.specs.Settling.{Applies, AppliesAll, Midstep, PointerActs, Settles, Strike, Tells, TellsAt, TellsUnless, after_status, becomes, ended_all, ended_at, ended_by, is_struck, unless_of}
use Rattle.spec_desktop.specs.Settling.{unstruck}
use Rattle.spec_desktop.specs.Stacked.{all_windows}
use Rattle.spec_desktop.specs.Step.{with_peer}
use Rattle.spec_desktop.specs.Through.{EndsFirstThrough, SettlesAllThrough, ending_through, settling_through}
use Rattle.law_desktop.proofs.Lists.Standings.{any-last}
use Rattle.law_desktop.specs.Pointed.Moved.{MovedStandsFirst, MovedStandsMid, MovedStandsOn}
use Rattle.law_desktop.specs.Pointed.Pointed.{MovedStands}
use Rattle.law_desktop.specs.Pointed.Rounds.{AreRounds, IsRound}
use Rattle.law_desktop.proofs.PointerAside.Pointers.{kept-without}

-- ---- what is moved stays, and stands where it did

pub record KeepsMoved (old new : Desktop) : Type 0 where
  pub move : new.pointer.move ≡ old.pointer.move
  pub kept : (t : Option Target) → kept_move t new.standing ≡ kept_move t old.standing

keeps-itself : (old new : Desktop) → new ≡ old → KeepsMoved old new
keeps-itself old new e = record { move = ap (λ (d : Desktop). d.pointer.move) e; kept = λ t. ap (λ (d : Desktop). kept_move t d.standing) e }

keeps-on : (d e f : Desktop) → KeepsMoved d e → KeepsMoved e f → KeepsMoved d f
keeps-on d e f first second = record { move = second.move ∙ first.move; kept = λ t. second.kept t ∙ first.kept t }

stands-on : (d e : Desktop) → KeepsMoved d e → MovedStands d → MovedStands e
stands-on d e keeps stands = keeps.kept e.pointer.move ∙ ap (λ (t : Option Target). kept_move t d.standing) keeps.move ∙ stands ∙ sym keeps.move

stands-same : (d e : Desktop) → e ≡ d → MovedStands d → MovedStands e
stands-same d e same stands = subst MovedStands (sym same) stands

-- ---- what the pointer does

pub any-raised : (p : Standing → Bool) (c surface : ℕ) (ss : List Standing) → list_any p (raised c surface ss) ≡ list_any p ss
any-raised p c surface [] = refl
any-raised p c surface (s ∷ ss) = at (is_of c surface s) (any-raised p c surface ss)
  where
    turned : (a b : Bool) → (a || b) ≡ (b || a)
    turned true true = refl
    turned true false = refl
    turned false true = refl
    turned false false = refl

    at : (b : Bool) → list_any p (raised c surface ss) ≡ list_any p ss → list_any p (if b then ss ++ s ∷ [] else s ∷ raised c surface ss) ≡ (p s || list_any p ss)
    at true later = any-last p ss s ∙ turned (list_any p ss) (p s)
    at false later = ap (λ (b : Bool). p s || b) later

any-moved : (a b c surface : ℕ) (at : Place) (ss : List Standing) → list_any (is_of a b) (moved_to c surface at ss) ≡ list_any (is_of a b) ss
any-moved a b c surface place [] = refl
any-moved a b c surface place (s ∷ ss) = at (is_of c surface s) (any-moved a b c surface place ss)
  where
    at : (t : Bool) → list_any (is_of a b) (moved_to c surface place ss) ≡ list_any (is_of a b) ss
        → list_any (is_of a b) (if t then record s { place = place } ∷ ss else s ∷ moved_to c surface place ss) ≡ (is_of a b s || list_any (is_of a b) ss)
    at true later = refl
    at false later = ap (λ (t : Bool). is_of a b s || t) later

kept-so : (ss ts : List Standing) → ((a b : ℕ) → list_any (is_of a b) ss ≡ list_any (is_of a b) ts) → (t : Option Target) → kept_move t ss ≡ kept_move t ts
kept-so ss ts same None = refl
kept-so ss ts same (Some t) = ap (λ (b : Bool). if b then Some t else None) (same t.client t.surface)

tells-keeps : (change : Resident → Resident) (events : Resident → List Said) (c : ℕ) (old new : Midstep) → Tells change events c old new → KeepsMoved old.desktop new.desktop
tells-keeps change events c old new h = at (client_at c old.desktop) h
  where
    stays : new ≡ old → KeepsMoved old.desktop new.desktop
    stays e = keeps-itself old.desktop new.desktop (ap (λ (m : Midstep). m.desktop) e)

    unless : (b : Bool) (r : Resident) → TellsUnless b change events c r old new → KeepsMoved old.desktop new.desktop
    unless true r h = stays h
    unless false r h = record { move = ap (λ (m : Midstep). m.desktop.pointer.move) h.3; kept = λ t. ap (λ (m : Midstep). kept_move t m.desktop.standing) h.3 }

    at : (o : Option Resident) → TellsAt change events c o old new → KeepsMoved old.desktop new.desktop
    at None h = stays h
    at (Some r) h = unless (is_some r.peer.status || is_struck c old.struck) r h

applies-keeps : (windows : List Window) (action : PointerAction) (old new : Midstep) → Applies windows action old new → KeepsMoved old.desktop new.desktop
applies-keeps windows (Left t) old new h =
    keeps-on old.desktop h.0.desktop new.desktop (tells-keeps _ _ t.client old h.0 h.1)
    (record { move = ap (λ (m : Midstep). m.desktop.pointer.move) h.2; kept = λ t. ap (λ (m : Midstep). kept_move t m.desktop.standing) h.2 })
applies-keeps windows (Enter t) old new h =
    keeps-on old.desktop h.0.desktop new.desktop (tells-keeps _ _ t.client old h.0 h.1)
    (record { move = ap (λ (m : Midstep). m.desktop.pointer.move) h.2; kept = λ t. ap (λ (m : Midstep). kept_move t m.desktop.standing) h.2 })
applies-keeps windows (Moves time t) old new h = tells-keeps _ _ t.client old new h
applies-keeps windows (Presses time button pressed t) old new h = tells-keeps _ _ t.client old new h
applies-keeps windows (Raise t) old new h =
    record {
      move = ap (λ (m : Midstep). m.desktop.pointer.move) h;
      kept = λ o. ap (λ (m : Midstep). kept_move o m.desktop.standing) h
          ∙ kept-so (raised t.client t.surface old.desktop.standing) old.desktop.standing (λ a b. any-raised (is_of a b) t.client t.surface old.desktop.standing) o;
    }
applies-keeps windows (MoveWindow t x y) old new h =
    record {
      move = ap (λ (m : Midstep). m.desktop.pointer.move) h;
      kept = λ o. ap (λ (m : Midstep). kept_move o m.desktop.standing) h
          ∙ kept-so (moved_to t.client t.surface _ old.desktop.standing) old.desktop.standing (λ a b. any-moved a b t.client t.surface _ old.desktop.standing) o;
    }
applies-keeps windows (Dismiss c) old new h = tells-keeps _ _ c old new h

all-keep : (windows : List Window) (acts : List PointerAction) (old new : Midstep) → AppliesAll windows acts old new → KeepsMoved old.desktop new.desktop
all-keep windows [] old new h = keeps-itself old.desktop new.desktop (ap (λ (m : Midstep). m.desktop) h)
all-keep windows (act ∷ acts) old new h =
    keeps-on old.desktop h.0.desktop new.desktop (applies-keeps windows act old h.0 h.1) (all-keep windows acts h.0 new h.2)

pub acts-keep : (input : PointerInput) (old new : Midstep) → PointerActs input old new → KeepsMoved old.desktop new.desktop
acts-keep input old new h = all-keep (all_windows old.desktop) (actions input old.desktop.pointer (all_windows old.desktop)) old new h

frames-keep : (time n c : ℕ) (old new : Midstep) → TellsFrames time n c old new → KeepsMoved old.desktop new.desktop
frames-keep time zero c old new h = keeps-itself old.desktop new.desktop (ap (λ (m : Midstep). m.desktop) h)
frames-keep time (suc n) c old new h =
    keeps-on old.desktop h.0.desktop new.desktop
    (tells-keeps (λ r. without_callbacks (callbacks_due r) r) (frames_told time) c old h.0 h.1) (frames-keep time n (suc c) h.0 new h.2)

-- ---- ends

after-stands : (s : Option Cause) (c : ℕ) (r : Resident) (q : Peer) (d : Desktop) → MovedStands d → MovedStands (after_status s c (become_by s c r q d))
after-stands None c r q d stands = stands
after-stands (Some why) c r q d stands = kept-without c d.pointer.move d.standing ∙ ap (unless_of c) stands

becomes-stands : (c : ℕ) (r : Resident) (q : Peer) (d : Desktop) → MovedStands d → MovedStands (becomes c r q d)
becomes-stands c r q d stands = after-stands q.status c r q d stands

ended-stands : (s : Strike) (d : Desktop) → MovedStands d → MovedStands (ended_by s d)
ended-stands s d stands = at (client_at s.client d)
  where
    at : (o : Option Resident) → MovedStands (ended_at s.client s.cause o d)
    at None = stands
    at (Some r) = becomes-stands s.client r (ended s.cause r.peer) d stands

acts-stand : (input : PointerInput) (old new : Midstep) → MovedStands old.desktop → PointerActs input old new → MovedStands new.desktop
acts-stand input old new stands h = stands-on old.desktop new.desktop (acts-keep input old new h) stands

round-stands : (old new : Midstep) (path : List Desktop) → MovedStands old.desktop → IsRound old path new → MovedStands new.desktop
round-stands old new path stands round =
    subst (λ (m : Midstep). MovedStands m.desktop) (sym round.6) (ended-stands round.1 round.0.desktop (acts-stand Settle old round.0 stands round.3))

rounds-stand : (n : ℕ) (old new : Midstep) (path : List Desktop) → MovedStands old.desktop → AreRounds n old path new → MovedStands new.desktop
rounds-stand zero old new path stands rounds = subst (λ (m : Midstep). MovedStands m.desktop) (sym rounds.1) stands
rounds-stand (suc n) old new path stands rounds = round-stands rounds.1 new rounds.2 (rounds-stand n old rounds.1 rounds.0 stands rounds.3) rounds.4

pub moved-stands-mid : MovedStandsMid
moved-stands-mid = (ended-stands, acts-stand, λ old new stands h. acts-stand Settle old new stands h, rounds-stand)

all-stand : (ss : List Strike) (d : Desktop) → MovedStands d → MovedStands (ended_all ss d)
all-stand [] d stands = stands
all-stand (s ∷ ss) d stands = all-stand ss (ended_by s d) (ended-stands s d stands)

first-stands : (Next : Midstep → List Desktop → Desktop → Type 0)
    → ((m : Midstep) (path : List Desktop) (new : Desktop) → MovedStands m.desktop → Next m path new → MovedStands new)
    → (ss : List Strike) (d : Desktop) (path : List Desktop) (new : Desktop) → MovedStands d → EndsFirstThrough Next ss d path new → MovedStands new
first-stands Next next [] d path new stands h = stands-same d new h.1 stands
first-stands Next next (s ∷ ss) d path new stands h = next (record { desktop = ended_by s d; struck = ss }) h.0 new (ended-stands s d stands) h.2

settles-stand : (n : ℕ) (old : Midstep) (path : List Desktop) (new : Desktop) → MovedStands old.desktop → SettlesAllThrough n old path new → MovedStands new
settles-stand zero old path new stands h = stands-same old.desktop new h.1 stands
settles-stand (suc n) old path new stands h =
    first-stands (SettlesAllThrough n) (settles-stand n) h.0.struck h.0.desktop h.2 new (stands-on old.desktop h.0.desktop (acts-keep Settle old h.0 h.1) stands) h.4

settling-stands : (path : List Desktop) (new : Desktop) (mid : Midstep) → MovedStands mid.desktop → settling_through path new mid → MovedStands new
settling-stands path new mid stands h =
    settles-stand 33 (unstruck (ended_all mid.struck mid.desktop)) h.0 new (all-stand mid.struck mid.desktop stands) h.2

ending-stands : (path : List Desktop) (new : Desktop) (mid : Midstep) → MovedStands mid.desktop → ending_through path new mid → MovedStands new
ending-stands path new mid stands h = first-stands (SettlesAllThrough 32) (settles-stand 32) mid.struck mid.desktop h.0 new stands h.2

-- ---- before the pointer does anything

-- after the last release nothing is moved
released-stands : (button : ℕ) (d : Desktop) → MovedStands d → MovedStands (with_release button d)
released-stands button d stands = at (without_button button d.pointer.buttons)
  where
    at : (buttons : List ℕ) → kept_move (released_to buttons d.pointer).move d.standing ≡ (released_to buttons d.pointer).move
    at [] = refl
    at (b ∷ bs) = stands

pub moved-stands-first : MovedStandsFirst
moved-stands-first = (λ at m stands. stands, λ button d stands. stands, released-stands)

-- ---- a message

-- what is kept is kept again
kept-again : (t : Option Target) (ss : List Standing) → kept_move (kept_move t ss) ss ≡ kept_move t ss
kept-again None ss = refl
kept-again (Some t) ss = at (list_any (is_of t.client t.surface) ss) refl
  where
    at : (b : Bool) → list_any (is_of t.client t.surface) ss ≡ b → kept_move (if b then Some t else None) ss ≡ (if b then Some t else None)
    at true e = ap (λ (b : Bool). if b then Some t else None) e
    at false e = refl

module _ (c : ℕ) (d : Desktop) (path : List Desktop) (new : Desktop) (stands : MovedStands d) where
  became : (Q : Peer → Type 0) (r : Resident) → BecomesThen Q c r d (settling_through path new) → MovedStands new
  became Q r h = settling-stands path new (unstruck (becomes c r h.0 d)) (becomes-stands c r h.0 d stands) h.2

  did : (demand : Demand) (r : Resident) → DoesThen c demand r d (settling_through path new) → MovedStands new
  did demand r h =
      let on : Desktop = stacked_for c demand r (all_windows d) d in
      settling-stands path new (changed_so c demand r d h.0 h.1) (kept-again on.pointer.move on.standing) h.3

  wanted : (b : Bool) (demand : Demand) (r : Resident) → WantsOrThen b (DoesThen c demand r d (settling_through path new)) c r d (settling_through path new) → MovedStands new
  wanted false demand r h = did demand r h
  wanted true demand r (inl h) = became (LacksMemory r.peer) r h
  wanted true demand r (inr h) = did demand r h

  answered : (judged : Result Demand Refusal) (r : Resident) → AnswersThen judged c r d (settling_through path new) → MovedStands new
  answered (Ok demand) r h = wanted (wants_memory demand) demand (with_peer (counted r.peer) r) h
  answered (Err refusal) r h = became (Errs refusal r.peer) r h

  took : (split : Split) (r : Resident) → TakesThen split c r d (settling_through path new) → MovedStands new
  took (Whole object opcode size) r h = answered (judge_all r object opcode (take (size - 8) (drop 8 r.peer.rest))) (with_peer (with_rest (drop size r.peer.rest) r.peer) r) h
  took Bad r h = became (Errs (display_error InvalidMethod) r.peer) r h
  took More r h = absurd h

  served : (o : Option Resident) → ServesThen c o d (settling_through path new) → MovedStands new
  served None h = absurd h
  served (Some r) h = took (split_of r.peer.rest) r h.1

-- ---- whatever else happens

module _ (d : Desktop) (path : List Desktop) (new : Desktop) (stands : MovedStands d) where
  connected : (k : Option ℕ) (done : Done) → ConnectsThen k d done (ending_through path new) → MovedStands new
  connected None done h = ending-stands path new (unstruck d) stands h.1
  connected (Some n) done (inl h) = ending-stands path new (unstruck d) stands h.1
  connected (Some n) done (inr h) = ending-stands path new (unstruck (with_client (n + 1) (Some (arrival d.output)) d)) stands h.1

  went : (c : ℕ) (s : Option Cause) (r : Resident) (done : Done)
      → LeavesThen c (Some (record r { peer = record r.peer { status = s } })) d done (settling_through path new) (ending_through path new) → MovedStands new
  went c (Some why) r done h = ending-stands path new (unstruck d) stands h.1
  went c None r done h =
      let it : Resident = record r { peer = record r.peer { status = None } } in
      settling-stands path new (unstruck (becomes c it (ended cause.Gone it.peer) d)) (becomes-stands c it (ended cause.Gone it.peer) d stands) h.1

  gone : (c : ℕ) (o : Option Resident) (done : Done) → LeavesThen c o d done (settling_through path new) (ending_through path new) → MovedStands new
  gone c None done h = ending-stands path new (unstruck d) stands h.1
  gone c (Some r) done h = went c r.peer.status r done h

  changed : (R : Peer → Done → Option Peer → Type 0) (absent : Done) (c : ℕ) (o : Option Resident) (done : Done) → ChangesThen R absent c o d done (ending_through path new) → MovedStands new
  changed R absent c None done h = ending-stands path new (unstruck d) stands h.1
  changed R absent c (Some r) done (None, is, h) = ending-stands path new (unstruck (with_client c None d)) stands h
  changed R absent c (Some r) done (Some q, is, h) = ending-stands path new (unstruck (with_client c (Some (with_peer q r)) d)) stands h

  -- the pointer does something, and then the focus is settled
  acted : (input : PointerInput) (start : Desktop) → MovedStands start
      → ((told : Midstep) × PointerActs input (unstruck start) told × (settled : Midstep) × Settles told settled × ending_through path new settled) → MovedStands new
  acted input start begun h =
      let told : MovedStands h.0.desktop = stands-on start h.0.desktop (acts-keep input (unstruck start) h.0 h.1) begun in
      ending-stands path new h.2 (stands-on h.0.desktop h.2.desktop (acts-keep Settle h.0 h.2 h.3) told) h.4

  pressed : (b : Bool) (time button : ℕ) → PressesThen b time button d (ending_through path new) → MovedStands new
  pressed true time button h = acted (Press time button (grab_holder d)) (with_press button d) stands h
  pressed false time button h = ending-stands path new (unstruck d) stands h

  released : (b : Bool) (time button : ℕ) → ReleasesThen b time button d (ending_through path new) → MovedStands new
  released false time button h = ending-stands path new (unstruck d) stands h
  released true time button h = acted (Release time button) (with_release button d) (released-stands button d stands) h

  happened : (h : Happening) → Leads h d path new → MovedStands new
  happened (Receive c piece) h = at (client_at c d) h
    where
      at : (o : Option Resident) → ReceivesAt c piece o d path new → MovedStands new
      at None h = absurd h
      at (Some r) h = subst MovedStands (sym h.1) stands
  happened (Message c) h = served c d path new stands (client_at c d) h
  happened (Starve c) h = at (client_at c d) h
    where
      at : (o : Option Resident) → StarvesAt c o d path new → MovedStands new
      at None h = absurd h
      at (Some r) h = settling-stands path new (unstruck (becomes c r (ended cause.Memory r.peer) d)) (becomes-stands c r (ended cause.Memory r.peer) d stands) h.1
  happened (Single Connect done) h = connected (lowest d.clients) done h
  happened (Single (Feed c piece) done) h = absurd h
  happened (Single (Store c store at bytes) done) h = changed (IsStored store at bytes) _ c (client_at c d) done h
  happened (Single (Leave c) done) h = gone c (client_at c d) done h
  happened (Single (Tick time) done) h =
      settling-stands path new h.1.0 (stands-on d h.1.0.desktop (frames-keep time 32 1 (unstruck d) h.1.0 h.1.1) stands) h.1.2
  happened (Single (Send c n) done) h = changed (IsSent n) _ c (client_at c d) done h
  happened (Single (Close c) done) h = changed IsClosed _ c (client_at c d) done h
  happened (Single (Motion time x y) done) h =
      let at : Place = point_in d.output x y in
      let moved : MovedStands h.1.0.desktop = stands-on d h.1.0.desktop (acts-keep (GoTo at) (unstruck d) h.1.0 h.1.1) stands in
      ending-stands path new h.1.2 (stands-on (placed at h.1.0).desktop h.1.2.desktop (acts-keep (Went time) (placed at h.1.0) h.1.2 h.1.3) moved) h.1.4
  happened (Single (Button time button true) done) h = pressed (is_press button d.pointer.buttons) time button h.1
  happened (Single (Button time button false) done) h = released (is_down button d.pointer.buttons) time button h.1

pub moved-stands-on : MovedStandsOn
moved-stands-on = (λ output. refl, λ h d path new stands leads. happened d path new stands h leads)

-- Whatever happens leaves the output as it was.
use Rattle.std.proofs.Common.{◌≡◌, ℕ, zero, suc, ◌+◌, List, [], ◌∷◌, Bool, true, false, Option, Some, None, Result, refl, ap, ◌∙◌, inl, inr}
use Rattle.std.specs.Prelude.{Ok, Err}
use Rattle.wl_wire.specs.declared.header.Split.{Split}
use Rattle.wl_wire.specs.declared.header.Split.TheVariants.{Message, More, Bad}
use Rattle.wl_wire.specs.Wire.{split_of}
use Rattle.spec_desktop.specs.declared.cause.Cause.{Cause}
use Rattle.spec_desktop.specs.declared.cause.Cause.TheVariants.{Gone, Memory}
use Rattle.spec_desktop.specs.declared.refusals.Refusal.{Refusal}
use Rattle.spec_desktop.specs.Peer.{Peer, LacksMemory, counted, ended}
use Rattle.spec_desktop.specs.Told.{Said}
use Rattle.wl_shell.specs.Popups.{is_toplevel}
use Rattle.wl_shell.specs.Shell.{Effect, Maps, Unmaps, xdg_of}
use Rattle.spec_desktop.specs.Pointer.{is_down, is_press}
use Rattle.spec_desktop.specs.PointerActions.{PointerAction, PointerInput, actions}
use Rattle.spec_desktop.specs.PointerActions as pointer
use Rattle.spec_desktop.specs.Windows.{Place, Window}
use Rattle.spec_desktop.specs.declared.answers.Done.{Done}
use Rattle.spec_desktop.specs.Changing.{changed_for, grab_holder, stacked_by, stacked_for}
use Rattle.spec_desktop.specs.Demand.{Demand, CommitTree}
use Rattle.spec_desktop.specs.Demanding.{effect_of_commit}
use Rattle.spec_desktop.specs.Desktop.{Desktop, Resident, arrival, become, become_by, client_at, with_client}
use Rattle.spec_desktop.specs.Settling.{Applies, AppliesAll, EndsAndSettles, EndsFirst, Midstep, PointerActs, Settles, SettlesAll, SettlesEnds, Strike, Tells, TellsAt, TellsUnless, after_status, becomes}
use Rattle.spec_desktop.specs.Settling.{ended_all, ended_at, ended_by, unstruck}
use Rattle.spec_desktop.specs.Stacked.{all_windows}
use Rattle.spec_desktop.specs.Step.{with_peer}
use Rattle.spec_desktop.specs.Act.{Act, Connect, Feed, Store, Leave, Tick, Send, Close, Motion, Button, lowest}
use Rattle.law_desktop.proofs.Runs.Forms.{ConnectsAt, Answers, Becomes, ChangesAt, Does, LeavesAt, MovesTo, PressesIf, ReleasesIf, ServesAt, Takes, WantsOr, after_why}
use Rattle.spec_desktop.specs.Happens.{FeedsAt, Happens, IsFedAt, Reaches, StopsAt, TellsFrames, done_for, placed, point_in, wants_memory, with_press, with_release}

-- ---- what a step is made of

abbrev Same : Desktop → Desktop → Type 0
Same d e = e.output ≡ d.output

abbrev Still : Midstep → Midstep → Type 0
Still m n = n.desktop.output ≡ m.desktop.output

of-desktop : (d e : Desktop) → e ≡ d → Same d e
of-desktop d e same = ap (λ (x : Desktop). x.output) same

of-moving : (m n : Midstep) → n ≡ m → Still m n
of-moving m n same = ap (λ (x : Midstep). x.desktop.output) same

become-same : (s : Option Cause) (c : ℕ) (r : Resident) (q : Peer) (d : Desktop) → Same d (become_by s c r q d)
become-same None c r q d = refl
become-same (Some cause) c r q d = refl

status-same : (s : Option Cause) (c : ℕ) (d : Desktop) → Same d (after_status s c d)
status-same None c d = refl
status-same (Some cause) c d = refl

becomes-same : (c : ℕ) (r : Resident) (q : Peer) (d : Desktop) → Same d (becomes c r q d)
becomes-same c r q d = status-same q.status c (become c r q d) ∙ become-same q.status c r q d

pub ended-same : (c : ℕ) (cause : Cause) (o : Option Resident) (d : Desktop) → Same d (ended_at c cause o d)
ended-same c cause None d = refl
ended-same c cause (Some r) d = becomes-same c r (ended cause r.peer) d

all-same : (ss : List Strike) (d : Desktop) → Same d (ended_all ss d)
all-same [] d = refl
all-same (s ∷ ss) d = all-same ss (ended_by s d) ∙ ended-same s.client s.cause (client_at s.client d) d

-- ---- events and the focus

pub tells-still : (change : Resident → Resident) (events : Resident → List Said) (c : ℕ) (old new : Midstep) → Tells change events c old new → Still old new
tells-still change events c old new h = at (client_at c old.desktop) h
  where
    unless : (b : Bool) (r : Resident) → TellsUnless b change events c r old new → Still old new
    unless true r h = of-moving old new h
    unless false r h = of-moving _ new h.3

    at : (o : Option Resident) → TellsAt change events c o old new → Still old new
    at None h = of-moving old new h
    at (Some r) h = unless _ r h

applies-still : (windows : List Window) (action : PointerAction) (old new : Midstep) → Applies windows action old new → Still old new
applies-still windows (pointer.Leave t) old new h = of-moving _ new h.2 ∙ tells-still _ _ t.client old h.0 h.1
applies-still windows (pointer.Enter t) old new h = of-moving _ new h.2 ∙ tells-still _ _ t.client old h.0 h.1
applies-still windows (pointer.Motion time t) old new h = tells-still _ _ t.client old new h
applies-still windows (pointer.Button time button pressed t) old new h = tells-still _ _ t.client old new h
applies-still windows (pointer.Dismiss c) old new h = tells-still _ _ c old new h
applies-still windows action old new h = of-moving _ new h

all-still : (windows : List Window) (actions : List PointerAction) (old new : Midstep) → AppliesAll windows actions old new → Still old new
all-still windows [] old new h = of-moving old new h
all-still windows (action ∷ later) old new h = all-still windows later h.0 new h.2 ∙ applies-still windows action old h.0 h.1

acts-still : (input : PointerInput) (old new : Midstep) → PointerActs input old new → Still old new
acts-still input old new h = all-still (all_windows old.desktop) (actions input old.desktop.pointer (all_windows old.desktop)) old new h

pub settles-still : (old new : Midstep) → Settles old new → Still old new
settles-still old new h = acts-still pointer.Settle old new h

ends-same : (Next : Midstep → Desktop → Type 0) → ((m : Midstep) (new : Desktop) → Next m new → Same m.desktop new) → (ss : List Strike) (d new : Desktop) → EndsFirst Next ss d new → Same d new
ends-same Next next [] d new h = of-desktop d new h
ends-same Next next (s ∷ ss) d new h = next _ new h ∙ ended-same s.client s.cause (client_at s.client d) d

settles-same : (n : ℕ) (old : Midstep) (new : Desktop) → SettlesAll n old new → Same old.desktop new
settles-same zero old new h = of-desktop old.desktop new h
settles-same (suc n) old new h = ends-same (SettlesAll n) (settles-same n) h.0.struck h.0.desktop new h.2 ∙ settles-still old h.0 h.1

settled-same : (d new : Desktop) → EndsAndSettles (unstruck d) new → Same d new
settled-same d new h = settles-same 33 (unstruck d) new h

struck-same : (mid : Midstep) (new : Desktop) → EndsAndSettles mid new → Same mid.desktop new
struck-same mid new h = settled-same (ended_all mid.struck mid.desktop) new h ∙ all-same mid.struck mid.desktop

last-same : (mid : Midstep) (new : Desktop) → SettlesEnds mid new → Same mid.desktop new
last-same mid new h = ends-same (SettlesAll 32) (settles-same 32) mid.struck mid.desktop new h

-- ---- messages

commit-same : (effect : Effect) (toplevel : Bool) (c surface : ℕ) (d : Desktop) → Same d (stacked_by effect toplevel c surface d)
commit-same Maps true c surface d = refl
commit-same Unmaps true c surface d = refl
commit-same effect toplevel c surface d = refl

stacked-same : (c : ℕ) (demand : Demand) (r : Resident) (windows : List Window) (d : Desktop) → Same d (stacked_for c demand r windows d)
stacked-same c (CommitTree surface) r windows d = commit-same (effect_of_commit r surface) (is_toplevel (xdg_of surface r.owned.shell)) c surface d
stacked-same c demand r windows d = refl

why-same : (why : Option Cause) (c : ℕ) (d : Desktop) → Same d (after_why why c d)
why-same None c d = refl
why-same (Some cause) c d = ended-same c cause (client_at c d) d

became-same : (Q : Peer → Type 0) (c : ℕ) (r : Resident) (d new : Desktop) → Becomes Q c r d new → Same d new
became-same Q c r d new h = settled-same (becomes c r h.0 d) new h.2 ∙ becomes-same c r h.0 d

module _ (c : ℕ) where
  does-same : (demand : Demand) (r : Resident) (d new : Desktop) → Does c demand r d new → Same d new
  does-same demand r d new h =
      let now : Desktop = with_client c (Some (with_peer h.0 (changed_for c demand r d))) (done_for c demand r d) in
      settled-same (after_why h.1 c now) new h.3 ∙ why-same h.1 c now ∙ stacked-same c demand r (all_windows d) d

  wants-same : (b : Bool) (demand : Demand) (r : Resident) (d new : Desktop) → WantsOr b (Does c demand r d new) c r d new → Same d new
  wants-same false demand r d new h = does-same demand r d new h
  wants-same true demand r d new (inl h) = became-same (LacksMemory r.peer) c r d new h
  wants-same true demand r d new (inr h) = does-same demand r d new h

  answers-same : (judged : Result Demand Refusal) (r : Resident) (d new : Desktop) → Answers judged c r d new → Same d new
  answers-same (Ok demand) r d new h = wants-same (wants_memory demand) demand (with_peer (counted r.peer) r) d new h
  answers-same (Err refusal) r d new h = became-same _ c r d new h

  takes-same : (s : Split) (r : Resident) (d new : Desktop) → Takes s c r d new → Same d new
  takes-same (Message object opcode size) r d new h = answers-same _ _ d new h
  takes-same Bad r d new h = became-same _ c r d new h
  takes-same More r d new h = absurd h

  pub serves-same : (o : Option Resident) (d new : Desktop) → ServesAt c o d new → Same d new
  serves-same None d new h = absurd h
  serves-same (Some r) d new h = takes-same (split_of r.peer.rest) r d new h.1

  reaches-same : (n : ℕ) (d new : Desktop) → Reaches c n d new → Same d new
  reaches-same zero d new h = of-desktop d new h
  reaches-same (suc n) d new h = serves-same (client_at c h.0) h.0 new h.2 ∙ reaches-same n d h.0 h.1

  pub stops-same : (o : Option Resident) (d new : Desktop) → StopsAt c o d new → Same d new
  stops-same None d new h = absurd h
  stops-same (Some r) d new (inl h) = of-desktop d new h.0
  stops-same (Some r) d new (inr h) = settled-same (becomes c r (ended Memory r.peer) d) new h.1 ∙ becomes-same c r (ended Memory r.peer) d

  feeds-same : (piece : List ℕ) (s : Option Cause) (r : Resident) (d new : Desktop) → FeedsAt c piece s r d new → Same d new
  feeds-same piece (Some cause) r d new h = of-desktop d new h
  feeds-same piece None r d new h = stops-same (client_at c h.1) h.1 new h.3 ∙ reaches-same h.0 _ h.1 h.2

  fed-same : (piece : List ℕ) (o : Option Resident) (d : Desktop) (done : Done) (new : Desktop) → IsFedAt c piece o d done new → Same d new
  fed-same piece None d done new h = of-desktop d new h.1
  fed-same piece (Some r) d done new h = feeds-same piece r.peer.status r d new h.0

-- ---- the other steps

leaves-same : (c : ℕ) (o : Option Resident) (d : Desktop) (done : Done) (new : Desktop) → LeavesAt c o d done new → Same d new
leaves-same c None d done new h = of-desktop d new h.1
leaves-same c (Some r) d done new h = at r.peer.status refl
  where
    at : (s : Option Cause) → r.peer.status ≡ s → Same d new
    at (Some cause) e = let k : new ≡ d = rw e at h.1 in of-desktop d new k
    at None e =
        let gone : Desktop = becomes c r (ended Gone r.peer) d in
        let k : EndsAndSettles (unstruck gone) new = rw e at h.1 in
        settled-same gone new k ∙ becomes-same c r (ended Gone r.peer) d

changes-same : (R : Peer → Done → Option Peer → Type 0) (absent : Done) (c : ℕ) (o : Option Resident) (d : Desktop) (done : Done) (new : Desktop) → ChangesAt R absent c o d done new → Same d new
changes-same R absent c None d done new h = of-desktop d new h.1
changes-same R absent c (Some r) d done new h = at h.0 refl
  where
    at : (q : Option Peer) → h.0 ≡ q → Same d new
    at None e = let k : new ≡ with_client c None d = rw e at h.2 in of-desktop (with_client c None d) new k
    at (Some q) e = let k : new ≡ with_client c (Some (with_peer q r)) d = rw e at h.2 in of-desktop (with_client c (Some (with_peer q r)) d) new k

connects-same : (k : Option ℕ) (d : Desktop) (done : Done) (new : Desktop) → ConnectsAt k d done new → Same d new
connects-same None d done new h = of-desktop d new h.1
connects-same (Some k) d done new (inl h) = of-desktop d new h.1
connects-same (Some k) d done new (inr h) = of-desktop (with_client (k + 1) (Some (arrival d.output)) d) new h.1

frames-still : (time n k : ℕ) (old new : Midstep) → TellsFrames time n k old new → Still old new
frames-still time zero k old new h = of-moving old new h
frames-still time (suc n) k old new h = frames-still time n (suc k) h.0 new h.2 ∙ tells-still _ _ k old h.0 h.1

moves-same : (time : ℕ) (at : Place) (d new : Desktop) → MovesTo time at d new → Same d new
moves-same time at d new h =
    last-same h.2 new h.4 ∙ acts-still (pointer.Went time) (placed at h.0) h.2 h.3 ∙ acts-still (pointer.GoTo at) (unstruck d) h.0 h.1

presses-same : (b : Bool) (time button : ℕ) (d new : Desktop) → PressesIf b time button d new → Same d new
presses-same true time button d new h =
    last-same h.2 new h.4 ∙ settles-still h.0 h.2 h.3 ∙ acts-still (pointer.Press time button (grab_holder d)) (unstruck (with_press button d)) h.0 h.1
presses-same false time button d new h = of-desktop d new h

releases-same : (b : Bool) (time button : ℕ) (d new : Desktop) → ReleasesIf b time button d new → Same d new
releases-same true time button d new h =
    last-same h.2 new h.4 ∙ settles-still h.0 h.2 h.3 ∙ acts-still (pointer.Release time button) (unstruck (with_release button d)) h.0 h.1
releases-same false time button d new h = of-desktop d new h

pub happens-output : (act : Act) (done : Done) (d e : Desktop) → Happens act done d e → e.output ≡ d.output
happens-output Connect done d e h = connects-same (lowest d.clients) d done e h
happens-output (Feed c piece) done d e h = fed-same c piece (client_at c d) d done e h
happens-output (Store c store at bytes) done d e h = changes-same _ _ c (client_at c d) d done e h
happens-output (Leave c) done d e h = leaves-same c (client_at c d) d done e h
happens-output (Tick time) done d e h = struck-same h.1.0 e h.1.2 ∙ frames-still time 32 1 (unstruck d) h.1.0 h.1.1
happens-output (Send c n) done d e h = changes-same _ _ c (client_at c d) d done e h
happens-output (Close c) done d e h = changes-same _ _ c (client_at c d) d done e h
happens-output (Motion time x y) done d e h = moves-same time (point_in d.output x y) d e h.1
happens-output (Button time button true) done d e h = presses-same (is_press button d.pointer.buttons) time button d e h.1
happens-output (Button time button false) done d e h = releases-same (is_down button d.pointer.buttons) time button d e h.1

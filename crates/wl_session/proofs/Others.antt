-- Where nobody points, what happens to one client leaves the others as they were, with their popups and wl_pointers.
use Rattle.std.proofs.Common.{◌≡◌, ◌≢◌, ℕ, zero, suc, ◌+◌, List, ◌++◌, Bool, true, false, Option, Some, None, Result, drop, take, refl, ap, subst, sym, ◌∙◌, inl, inr}
use Rattle.std.proofs.lemmas.Bool.{true≢false}
use Rattle.std.specs.Prelude.{Ok, Err, ◌-◌}
use Rattle.wl_wire.specs.Wire.{split_of}
use Rattle.wl_wire.specs.declared.header.Split.{Split}
use Rattle.wl_wire.specs.declared.header.Split.TheVariants.{Message, More, Bad}
use Rattle.spec_desktop.specs.declared.cause.Cause.{Cause}
use Rattle.spec_desktop.specs.declared.cause.Cause.TheVariants.{Gone, Memory}
use Rattle.spec_desktop.specs.declared.refusals.ErrorCode.TheVariants.{InvalidMethod}
use Rattle.spec_desktop.specs.declared.refusals.Refusal.{Refusal}
use Rattle.spec_desktop.specs.Peer.{Errs, LacksMemory, Peer, counted, ended, with_rest}
use Rattle.spec_desktop.specs.Told.{Said, display_error}
use Rattle.wl_shell.specs.Popups.{is_toplevel}
use Rattle.wl_shell.specs.Shell.{Effect, Stays, Unconfigured, Configures, Maps, Unmaps, xdg_of}
use Rattle.spec_desktop.specs.Pointer.{Pointer, first_pointer}
use Rattle.spec_desktop.specs.Windows.{Window}
use Rattle.spec_desktop.specs.declared.answers.Done.{Done}
use Rattle.spec_desktop.specs.Act.{Act, IsClosed, IsSent, IsStored, Connect, Feed, Store, Leave, Tick, Send, Close, Motion, Button, is_tick, lowest}
use Rattle.spec_desktop.specs.Changing.{changed_for, moving_from, stacked_by, stacked_for}
use Rattle.spec_desktop.specs.Demand.{Demand, CommitTree, EndToplevel, Move}
use Rattle.spec_desktop.specs.Demanding.{effect_of_commit, judge_all}
use Rattle.spec_desktop.specs.Desktop.{Desktop, Resident, arrival, become, client_at, client_in, with_client}
use Rattle.spec_desktop.specs.Happens.{FeedsAt, Happens, IsFedAt, Reaches, Serves, StopsAt, wants_memory}
use Rattle.spec_desktop.specs.Replies.{replies}
use Rattle.spec_desktop.specs.Settling.{EndsAndSettles, becomes, unstruck}
use Rattle.spec_desktop.specs.Stacked.{all_windows}
use Rattle.spec_desktop.specs.Step.{with_peer}
use Rattle.law_desktop.specs.Others.{client_of}
use Rattle.law_desktop.proofs.Isolation.Messages.{with-left}
use Rattle.law_desktop.proofs.Isolation.Others.{IsLeft, become-left, left-then, same-left}
use Rattle.law_desktop.proofs.Runs.Forms.{after_why, Answers, Becomes, ChangesAt, ConnectsAt, Does, LeavesAt, ServesAt, Takes, WantsOr}
use Rattle.law_desktop.proofs.Runs.Serves.{done-clients_stay}
use Rattle.law_desktop.proofs.Soundness.RunSteady.{changed-steady}
use Rattle.law_desktop.specs.Acts.{LeavesPointer}
use Rattle.law_desktop.proofs.EachClient.Steps.{done-still, stacked-others}
use Rattle.law_desktop.proofs.KeptRecords.Toplevels.Back.{settled-back}
use Rattle.law_desktop.proofs.KeptRecords.Toplevels.Serves.{IsDone, after-same, becomes-same, by-pointer, ended_why}

-- ---- nobody points

by-still : (effect : Effect) (b : Bool) (c id : ℕ) (d : Desktop) → (stacked_by effect b c id d).pointer ≡ d.pointer
by-still Stays b c id d = refl
by-still Unconfigured b c id d = refl
by-still Configures b c id d = refl
by-still Maps true c id d = refl
by-still Maps false c id d = refl
by-still Unmaps true c id d = refl
by-still Unmaps false c id d = refl

-- nothing is held, so nothing is moved
moves-nothing : (c surface serial : ℕ) (windows : List Window) (p : Pointer) → p ≡ first_pointer → moving_from c surface serial windows p ≡ p
moves-nothing c surface serial windows p still = subst (λ (q : Pointer). moving_from c surface serial windows q ≡ q) (sym still) refl

stacked-still : (c : ℕ) (demand : Demand) (r : Resident) (windows : List Window) (d : Desktop) → d.pointer ≡ first_pointer → (stacked_for c demand r windows d).pointer ≡ first_pointer
stacked-still c (CommitTree id) r windows d still = by-still (effect_of_commit r id) (is_toplevel (xdg_of id r.owned.shell)) c id d ∙ still
stacked-still c (EndToplevel id xdg top) r windows d still = still
stacked-still c (Move id serial) r windows d still = moves-nothing c id serial windows d.pointer still ∙ still
stacked-still c demand r windows d still = still

-- ---- one other client

module _ (c other : ℕ) (true≢false : c ≢ other) where
  -- the other client is as it was, with its toplevels, and nobody points
  abbrev Stays-so : Desktop → Desktop → Type 0
  Stays-so d e = IsLeft other d e × (e.pointer ≡ first_pointer)

  same-so : (d e : Desktop) → d.pointer ≡ first_pointer → e ≡ d → Stays-so d e
  same-so d e still same = (same-left other d e same, ap (λ (x : Desktop). x.pointer) same ∙ still)

  then-so : (d mid e : Desktop) → IsLeft other d mid → Stays-so mid e → Stays-so d e
  then-so d mid e first next = (left-then other d mid e first next.0, next.1)

  with-so : (x : Option Resident) (d e : Desktop) → d.pointer ≡ first_pointer → e ≡ with_client c x d → Stays-so d e
  with-so x d e still same = then-so d (with_client c x d) e (with-left c other x d true≢false) (same-so (with_client c x d) e still same)

  become-so : (r : Resident) (q : Peer) (d e : Desktop) → d.pointer ≡ first_pointer → e ≡ become c r q d → Stays-so d e
  become-so r q d e still same =
      then-so d (become c r q d) e (become-left c other r q d true≢false) (same-so (become c r q d) e (by-pointer q.status c r q d ∙ still) same)

  -- what it becomes is settled at once
  settled-so : (r : Resident) (q : Peer) (d e : Desktop) → d.pointer ≡ first_pointer → EndsAndSettles (unstruck (becomes c r q d)) e → Stays-so d e
  settled-so r q d e still h =
      let same = becomes-same c r q d still in
      become-so r q d e still (settled-back (becomes c r q d) e (ap (λ (x : Desktop). x.pointer) same ∙ by-pointer q.status c r q d ∙ still) h ∙ same)

  -- ---- a message

  becomes-so : (Q : Peer → Type 0) (r : Resident) (d e : Desktop) → d.pointer ≡ first_pointer → Becomes Q c r d e → Stays-so d e
  becomes-so Q r d e still h = settled-so r h.0 d e still h.2

  done-so : (events : List Said) (made there : Resident) (d e : Desktop) → client_at c d ≡ Some there → d.pointer ≡ first_pointer → made.peer.status ≡ None → IsDone events c made d e
      → Stays-so d e
  done-so events made there d e is still alive h =
      let same = after-same events c made there d is still alive h.0 h.1 h.2 in
      let last : Peer = ended_why h.1 h.0 in
      let after : Desktop = after_why h.1 c (with_client c (Some (with_peer h.0 made)) d) in
      become-so made last d e still
      (settled-back after e (ap (λ (x : Desktop). x.pointer) same ∙ by-pointer last.status c made last d ∙ still) h.3 ∙ same)

  module _ (r : Resident) (d e : Desktop) (is : client_at c d ≡ Some r) (still : d.pointer ≡ first_pointer) where
    does-so : (demand : Demand) (now : Resident) → now.peer.status ≡ None → Does c demand now d e → Stays-so d e
    does-so demand now alive h =
        let made : Resident = changed_for c demand now d in
        let on : Desktop = stacked_for c demand now (all_windows d) d in
        let events : List Said = replies c demand now made (all_windows d) d in
        let clients : on.clients ≡ d.clients = ap (λ (x : Desktop). x.clients) (sym (done-still c demand now d still)) ∙ done-clients_stay c demand now d in
        let there : client_at c on ≡ Some r = ap (λ (rs : List (Option Resident)). client_in rs c) clients ∙ is in
        let first : IsDone events c made on e = subst (λ (x : Desktop). IsDone events c made x e) (done-still c demand now d still) h in
        then-so d on e
        (ap (λ (rs : List (Option Resident)). client_in rs other) clients, stacked-others c other demand now (all_windows d) d true≢false)
        (done-so events made r on e there (stacked-still c demand now (all_windows d) d still) ((changed-steady c demand d now).0 ∙ alive) first)

    wants-so : (b : Bool) (demand : Demand) (now : Resident) → now.peer.status ≡ None → WantsOr b (Does c demand now d e) c now d e → Stays-so d e
    wants-so false demand now alive h = does-so demand now alive h
    wants-so true demand now alive (inl h) = becomes-so (LacksMemory now.peer) now d e still h
    wants-so true demand now alive (inr h) = does-so demand now alive h

    answers-so : (judged : Result Demand Refusal) (now : Resident) → now.peer.status ≡ None → Answers judged c now d e → Stays-so d e
    answers-so (Ok demand) now alive h = wants-so (wants_memory demand) demand (with_peer (counted now.peer) now) alive h
    answers-so (Err refusal) now alive h = becomes-so (Errs refusal now.peer) now d e still h

    takes-so : (split : Split) → r.peer.status ≡ None → Takes split c r d e → Stays-so d e
    takes-so (Message object opcode size) alive h =
        answers-so (judge_all r object opcode (take (size - 8) (drop 8 r.peer.rest))) (with_peer (with_rest (drop size r.peer.rest) r.peer) r) alive h
    takes-so Bad alive h = becomes-so (Errs (display_error InvalidMethod) r.peer) r d e still h
    takes-so More alive h = absurd h

  serves-so : (d e : Desktop) → d.pointer ≡ first_pointer → Serves c d e → Stays-so d e
  serves-so d e still h = at (client_at c d) refl h
    where
      at : (o : Option Resident) → client_at c d ≡ o → ServesAt c o d e → Stays-so d e
      at None is served = absurd served
      at (Some r) is served = takes-so r d e is still (split_of r.peer.rest) served.0 served.1

  -- ---- a piece

  reaches-so : (n : ℕ) (d e : Desktop) → d.pointer ≡ first_pointer → Reaches c n d e → Stays-so d e
  reaches-so zero d e still h = same-so d e still h
  reaches-so (suc n) d e still h =
      let first = reaches-so n d h.0 still h.1 in
      then-so d h.0 e first.0 (serves-so h.0 e first.1 h.2)

  stops-so : (o : Option Resident) (d e : Desktop) → d.pointer ≡ first_pointer → StopsAt c o d e → Stays-so d e
  stops-so None d e still h = absurd h
  stops-so (Some r) d e still (inl h) = same-so d e still h.0
  stops-so (Some r) d e still (inr h) = settled-so r (ended Memory r.peer) d e still h.1

  feeds-so : (s : Option Cause) (piece : List ℕ) (r : Resident) (d e : Desktop) → d.pointer ≡ first_pointer → FeedsAt c piece s r d e → Stays-so d e
  feeds-so (Some cause) piece r d e still h = same-so d e still h
  feeds-so None piece r d e still h =
      let come : Resident = with_peer (with_rest (r.peer.rest ++ piece) r.peer) r in
      let from : Desktop = with_client c (Some come) d in
      let first = reaches-so h.0 from h.1 still h.2 in
      then-so d from e (with-left c other (Some come) d true≢false)
      (then-so from h.1 e first.0 (stops-so (client_at c h.1) h.1 e first.1 h.3))

  fed-so : (piece : List ℕ) (o : Option Resident) (d : Desktop) (done : Done) (e : Desktop) → d.pointer ≡ first_pointer → IsFedAt c piece o d done e → Stays-so d e
  fed-so piece None d done e still h = same-so d e still h.1
  fed-so piece (Some r) d done e still h = feeds-so r.peer.status piece r d e still h.0

  -- ---- what else becomes of a client

  changes-so : (R : Peer → Done → Option Peer → Type 0) (absent done : Done) (o : Option Resident) (d e : Desktop) → d.pointer ≡ first_pointer → ChangesAt R absent c o d done e → Stays-so d e
  changes-so R absent done None d e still h = same-so d e still h.1
  changes-so R absent done (Some r) d e still (None, h, last) = with-so None d e still last
  changes-so R absent done (Some r) d e still (Some x, h, last) = with-so (Some (with_peer x r)) d e still last

  leaves-so : (o : Option Resident) (d e : Desktop) (done : Done) → d.pointer ≡ first_pointer → LeavesAt c o d done e → Stays-so d e
  leaves-so None d e done still h = same-so d e still h.1
  leaves-so (Some r) d e done still h = at r.peer.status refl
    where
      at : (s : Option Cause) → r.peer.status ≡ s → Stays-so d e
      at (Some cause) status =
          let last : e ≡ d = rw status at h.1 in
          same-so d e still last
      at None status =
          let k : EndsAndSettles (unstruck (becomes c r (ended Gone r.peer) d)) e = rw status at h.1 in
          settled-so r (ended Gone r.peer) d e still k

-- ---- every step that leaves the pointer alone

connects-so : (k : Option ℕ) (other : ℕ) (old new : Desktop) (done : Done) → client_of Connect done ≢ Some other → ConnectsAt k old done new → IsLeft other old new
connects-so None other old new done apart h = same-left other old new h.1
connects-so (Some k) other old new done apart (inl h) = same-left other old new h.1
connects-so (Some k) other old new done apart (inr h) =
    let come : Option Resident = Some (arrival old.output) in
    left-then other old (with_client (k + 1) come old) new
    (with-left (k + 1) other come old (λ same. apart (ap (client_of Connect) h.0 ∙ ap (λ (n : ℕ). Some n) same)))
    (same-left other (with_client (k + 1) come old) new h.1)

pub unpointed-stay : (act : Act) (done : Done) (old new : Desktop) (other : ℕ) → is_tick act ≡ false → LeavesPointer act → old.pointer ≡ first_pointer
    → Happens act done old new → client_of act done ≢ Some other → IsLeft other old new
unpointed-stay Connect done old new other untimed leaves still h apart = connects-so (lowest old.clients) other old new done apart h
unpointed-stay (Feed c piece) done old new other untimed leaves still h apart =
    (fed-so c other (λ same. apart (ap (λ (n : ℕ). Some n) same)) piece (client_at c old) old done new still h).0
unpointed-stay (Store c store at bytes) done old new other untimed leaves still h apart =
    (changes-so c other (λ same. apart (ap (λ (n : ℕ). Some n) same)) (IsStored store at bytes) _ done (client_at c old) old new still h).0
unpointed-stay (Leave c) done old new other untimed leaves still h apart =
    (leaves-so c other (λ same. apart (ap (λ (n : ℕ). Some n) same)) (client_at c old) old new done still h).0
unpointed-stay (Tick time) done old new other untimed leaves still h apart = absurd (true≢false untimed)
unpointed-stay (Send c n) done old new other untimed leaves still h apart =
    (changes-so c other (λ same. apart (ap (λ (n : ℕ). Some n) same)) (IsSent n) _ done (client_at c old) old new still h).0
unpointed-stay (Close c) done old new other untimed leaves still h apart =
    (changes-so c other (λ same. apart (ap (λ (n : ℕ). Some n) same)) IsClosed _ done (client_at c old) old new still h).0
unpointed-stay (Motion time x y) done old new other untimed leaves still h apart = absurd leaves
unpointed-stay (Button time button pressed) done old new other untimed leaves still h apart = absurd leaves

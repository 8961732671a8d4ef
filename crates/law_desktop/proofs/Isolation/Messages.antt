-- What a message of a client's leaves of another, where every request is served.
use Rattle.std.proofs.Common.{◌≡◌, ◌≢◌, ℕ, zero, suc, List, [], ◌++◌, Bool, true, false, Option, Some, None, Result, refl, inl, inr}
use Rattle.std.specs.Prelude.{Ok, Err, not}
use Rattle.wl_wire.specs.Wire.{split_of}
use Rattle.wl_wire.specs.declared.header.Split.{Split}
use Rattle.wl_wire.specs.declared.header.Split.TheVariants.{Message, More, Bad}
use Rattle.spec_desktop.specs.declared.cause.Cause.{Cause}
use Rattle.spec_desktop.specs.declared.cause.Cause.TheVariants.{Gone, Memory}
use Rattle.spec_desktop.specs.declared.refusals.Refusal.{Refusal}
use Rattle.spec_desktop.specs.Peer.{Peer, LacksMemory, counted, ended, with_rest}
use Rattle.wl_shell.specs.Popups.{is_toplevel}
use Rattle.wl_shell.specs.Shell.{Effect, Maps, Unmaps, xdg_of}
use Rattle.spec_desktop.specs.Stacking.{Standing, is_of}
use Rattle.spec_desktop.specs.Windows.{Window}
use Rattle.spec_desktop.specs.declared.answers.Done.{Done}
use Rattle.spec_desktop.specs.Changing.{changed_for, stacked_by, stacked_for}
use Rattle.spec_desktop.specs.Demand.{Demand, CommitTree}
use Rattle.spec_desktop.specs.Demand.{EndToplevel}
use Rattle.spec_desktop.specs.Demanding.{effect_of_commit}
use Rattle.spec_desktop.specs.Desktop.{Desktop, Resident, become, client_at, with_client}
use Rattle.spec_desktop.specs.Settling.{Midstep, after_status, becomes, unstruck}
use Rattle.spec_desktop.specs.Stacked.{all_windows}
use Rattle.spec_desktop.specs.Step.{with_peer}
use Rattle.spec_desktop.specs.Happens.{AnswersThen, BecomesThen, DoesThen, FeedsAt, IsFedAt, Reaches, ServesThen, StopsAt, TakesThen, WantsOrThen, changed_so, done_for, settling, wants_memory}
use Rattle.law_desktop.proofs.Runs.Forms.{ChangesAt, LeavesAt, ServesAt}
use Rattle.law_desktop.proofs.Isolation.Others.{IsLeft, become-left, left_out, on_top, one_surface, same-left, left-then}
use Rattle.law_desktop.proofs.Runs.Places.{number-other}
use Rattle.law_desktop.proofs.Isolation.Settling.{IsIn, IsWithin, Stays as Keeps, settling-in, struck-so}
use Rattle.law_desktop.proofs.Isolation.Told.{ToldSo, told-focus}

-- ---- the changes of a desktop

pub with-left : (c other : ℕ) (x : Option Resident) (d : Desktop) → c ≢ other → IsLeft other d (with_client c x d)
with-left c other x d differ = (number-other d.clients c other x differ, refl)

after-left : (s : Option Cause) (c other : ℕ) (d : Desktop) → IsLeft other d (after_status s c d)
after-left None c other d = (refl, refl)
after-left (Some cause) c other d = (refl, refl)

pub becomes-left : (c other : ℕ) (r : Resident) (q : Peer) (d : Desktop) → c ≢ other → IsLeft other d (becomes c r q d)
becomes-left c other r q d differ =
    left-then other d (become c r q d) (becomes c r q d) (become-left c other r q d differ) (after-left q.status c other (become c r q d))

commit-left : (effect : Effect) (toplevel : Bool) (c other surface : ℕ) (d : Desktop) → c ≢ other → IsLeft other d (stacked_by effect toplevel c surface d)
commit-left Maps true c other surface d differ = (refl, on_top d.mappings c surface other differ d.standing)
commit-left Unmaps true c other surface d differ = (refl, left_out (λ s. not (is_of c surface s)) other (one_surface c other surface differ) d.standing)
commit-left effect toplevel c other surface d differ = (refl, refl)

stacked_for-left : (c other : ℕ) (demand : Demand) (r : Resident) (windows : List Window) (d : Desktop) → c ≢ other → IsLeft other d (stacked_for c demand r windows d)
stacked_for-left c other (CommitTree surface) r windows d differ =
    commit-left (effect_of_commit r surface) (is_toplevel (xdg_of surface r.owned.shell)) c other surface d differ
stacked_for-left c other (EndToplevel id xdg top) r windows d differ =
    (refl, left_out (λ s. not (is_of c _ s)) other (one_surface c other top differ) d.standing)
stacked_for-left c other demand r windows d differ = (refl, refl)

done-left : (c other : ℕ) (demand : Demand) (r : Resident) (d : Desktop) → c ≢ other → IsLeft other d (done_for c demand r d)
done-left c other demand r d differ = stacked_for-left c other demand r (all_windows d) d differ

module _ (c other : ℕ) (differ : c ≢ other) (A : Option Resident → List Standing → Type 0) (P : Resident → Cause → Type 0) (keeps : Keeps ToldSo A P) where
  -- it is known of the other client
  abbrev Known : Desktop → Type 0
  Known d = IsIn other ToldSo told-focus A P keeps d

  left-in : (d e : Desktop) → IsLeft other d e → Known d → Known e
  left-in d e left known = rw (left.0, left.1) known

  same-in : (d e : Desktop) → e ≡ d → Known d → Known e
  same-in d e same known = left-in d e (same-left other d e same) known

  -- in the middle of a step
  abbrev Within : Midstep → Type 0
  Within m = IsWithin other ToldSo told-focus A P keeps m

  -- what comes after a step's own change
  settling-known : (new : Desktop) (mid : Midstep) → Within mid → settling new mid → Known new
  settling-known new mid known h = settling-in other ToldSo told-focus A P keeps mid new known h

  -- what becomes of the one leaves the other
  becomes-known : (r : Resident) (q : Peer) (d : Desktop) → Known d → Known (becomes c r q d)
  becomes-known r q d known = left-in d (becomes c r q d) (becomes-left c other r q d differ) known

  with-known : (x : Option Resident) (d : Desktop) → Known d → Known (with_client c x d)
  with-known x d known = left-in d (with_client c x d) (with-left c other x d differ) known

  -- ---- a message

  -- what follows from the middle of a step, with what comes then, follows from the message
  module _ (X : Type 0) (Next : Midstep → Type 0) (next : (mid : Midstep) → Within mid → Next mid → X) where
    becomes-then : (Q : Peer → Type 0) (r : Resident) (d : Desktop) → Known d → BecomesThen Q c r d Next → X
    becomes-then Q r d known h = next (unstruck (becomes c r h.0 d)) (becomes-known r h.0 d known, tt) h.2

    does-then : (demand : Demand) (r : Resident) (d : Desktop) → Known d → DoesThen c demand r d Next → X
    does-then demand r d known h =
        let told : Option Resident = Some (with_peer h.0 (changed_for c demand r d)) in
        let done : Desktop = done_for c demand r d in
        let now : Desktop = with_client c told done in
        let first : Known done = left-in d done (done-left c other demand r d differ) known in
        let struck = struck-so other ToldSo told-focus A P keeps (client_at other now) c h.1 [] (λ cause why same. absurd (differ same)) tt in
        next (changed_so c demand r d h.0 h.1) (with-known told done first, struck) h.3

    wants-then : (b : Bool) (demand : Demand) (r : Resident) (d : Desktop) → Known d → WantsOrThen b (DoesThen c demand r d Next) c r d Next → X
    wants-then false demand r d known h = does-then demand r d known h
    wants-then true demand r d known (inl h) = becomes-then (LacksMemory r.peer) r d known h
    wants-then true demand r d known (inr h) = does-then demand r d known h

    answers-then : (judged : Result Demand Refusal) (r : Resident) (d : Desktop) → Known d → AnswersThen judged c r d Next → X
    answers-then (Ok demand) r d known h = wants-then (wants_memory demand) demand (with_peer (counted r.peer) r) d known h
    answers-then (Err refusal) r d known h = becomes-then _ r d known h

    takes-then : (s : Split) (r : Resident) (d : Desktop) → Known d → TakesThen s c r d Next → X
    takes-then (Message object opcode size) r d known h = answers-then _ _ d known h
    takes-then Bad r d known h = becomes-then _ r d known h
    takes-then More r d known h = absurd h

    pub serves-then : (o : Option Resident) (d : Desktop) → Known d → ServesThen c o d Next → X
    serves-then None d known h = absurd h
    serves-then (Some r) d known h = takes-then (split_of r.peer.rest) r d known h.1

  pub serves-in : (o : Option Resident) (d new : Desktop) → Known d → ServesAt c o d new → Known new
  serves-in o d new known h = serves-then (Known new) (settling new) (settling-known new) o d known h

  -- ---- a piece

  reaches-in : (n : ℕ) (d new : Desktop) → Known d → Reaches c n d new → Known new
  reaches-in zero d new known h = same-in d new h known
  reaches-in (suc n) d new known h = serves-in (client_at c h.0) h.0 new (reaches-in n d h.0 known h.1) h.2

  stops-in : (o : Option Resident) (mid new : Desktop) → Known mid → StopsAt c o mid new → Known new
  stops-in None mid new known h = absurd h
  stops-in (Some r) mid new known (inl h) = same-in mid new h.0 known
  stops-in (Some r) mid new known (inr h) =
      settling-known new (unstruck (becomes c r (ended Memory r.peer) mid)) (becomes-known r (ended Memory r.peer) mid known, tt) h.1

  feeds-in : (piece : List ℕ) (s : Option Cause) (r : Resident) (d new : Desktop) → Known d → FeedsAt c piece s r d new → Known new
  feeds-in piece (Some cause) r d new known h = same-in d new h known
  feeds-in piece None r d new known h =
      let come : Resident = with_peer (with_rest (r.peer.rest ++ piece) r.peer) r in
      let start : Desktop = with_client c (Some come) d in
      stops-in (client_at c h.1) h.1 new (reaches-in h.0 start h.1 (with-known (Some come) d known) h.2) h.3

  pub fed-in : (piece : List ℕ) (o : Option Resident) (d : Desktop) (done : Done) (new : Desktop) → Known d → IsFedAt c piece o d done new → Known new
  fed-in piece None d done new known h = same-in d new h.1 known
  fed-in piece (Some r) d done new known h = feeds-in piece r.peer.status r d new known h.0

  -- ---- the other steps of a client

  pub leaves-in : (o : Option Resident) (d : Desktop) (done : Done) (new : Desktop) → Known d → LeavesAt c o d done new → Known new
  leaves-in None d done new known h = same-in d new h.1 known
  leaves-in (Some r) d done new known h = at r.peer.status refl
    where
      at : (s : Option Cause) → r.peer.status ≡ s → Known new
      at (Some cause) e = let k : new ≡ d = rw e at h.1 in same-in d new k known
      at None e =
          let gone : Midstep = unstruck (becomes c r (ended Gone r.peer) d) in
          let k : settling new gone = rw e at h.1 in
          settling-known new gone (becomes-known r (ended Gone r.peer) d known, tt) k

  -- bytes are stored or sent, or its number is given back
  pub changes-in : (R : Peer → Done → Option Peer → Type 0) (absent : Done) (o : Option Resident) (d : Desktop) (done : Done) (new : Desktop) → Known d → ChangesAt R absent c o d done new → Known new
  changes-in R absent None d done new known h = same-in d new h.1 known
  changes-in R absent (Some r) d done new known h = at h.0 refl
    where
      at : (q : Option Peer) → h.0 ≡ q → Known new
      at None e = let k : new ≡ with_client c None d = rw e at h.2 in same-in (with_client c None d) new k (with-known None d known)
      at (Some q) e =
          let now : Desktop = with_client c (Some (with_peer q r)) d in
          let k : new ≡ now = rw e at h.2 in
          same-in now new k (with-known (Some (with_peer q r)) d known)

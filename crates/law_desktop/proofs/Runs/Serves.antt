-- Where memory is there, a client's messages lead to one desktop where every request is served.
use Rattle.std.proofs.Common.{◌≡◌, ◌≢◌, ℕ, zero, suc, ◌≤◌, List, [], ◌++◌, drop, Bool, true, false, Option, Some, None, Result, refl, ap, subst, sym, ◌∙◌, arith, inl, inr}
use Rattle.std.proofs.lemmas.Option.{none-some}
use Rattle.std.specs.Prelude.{Ok, Err}
use Rattle.wl_wire.specs.Wire.{split_of}
use Rattle.wl_wire.specs.declared.header.Split.{Split}
use Rattle.wl_wire.specs.declared.header.Split.TheVariants.{Message, More, Bad}
use Rattle.spec_desktop.specs.declared.cause.Cause.{Cause}
use Rattle.spec_desktop.specs.declared.cause.Cause.TheVariants.{Memory}
use Rattle.spec_desktop.specs.declared.refusals.ErrorCode.TheVariants.{InvalidMethod}
use Rattle.spec_desktop.specs.declared.refusals.Refusal.{Refusal}
use Rattle.spec_desktop.specs.Peer.{Errs, IsIdleAt, LacksMemory, Peer, QueuesOr, counted, ended, has_room, with_rest}
use Rattle.spec_desktop.specs.Told.{Said, display_error, error_told}
use Rattle.law_desktop.specs.Ample.{refused, refused_or}
use Rattle.spec_desktop.specs.Changing.{changed_for}
use Rattle.spec_desktop.specs.Demand.{Demand}
use Rattle.spec_desktop.specs.Demanding.{judge_all}
use Rattle.spec_desktop.specs.Desktop.{Desktop, Resident, become_by, client_at, client_in, resident_of, with_client, with_number, status_in, status_of}
use Rattle.spec_desktop.specs.Replies.{replies}
use Rattle.spec_desktop.specs.Settling.{EndsAndSettles, QueuesTo, after_status, becomes, ended_at, unstruck}
use Rattle.spec_desktop.specs.Stacked.{all_windows}
use Rattle.spec_desktop.specs.Step.{with_peer}
use Rattle.spec_desktop.specs.Happens.{FeedsAt, Reaches, Serves, StopsAt, done_for, wants_memory}
use Rattle.law_desktop.proofs.Runs.Forms.{Answers, Becomes, Does, ServesAt, Takes, WantsOr, after_why}
use Rattle.law_desktop.proofs.Runs.Places.{left_by, number-same, number-twice}
use Rattle.law_desktop.proofs.Runs.Ends.{end_all-leads, queues-once, same-pair}
use Rattle.law_desktop.proofs.Runs.Fates.{Follows, Lives, follows-on, lasting, put-follows, status-here, status-lives, still}
use Rattle.law_desktop.proofs.Runs.Leads.{After, Leads, Spares, chained, from, given, nowhere, only, spares-first, spares-rest, unless, worded}
use Rattle.law_desktop.proofs.Runs.Idling.{stacked-for}

-- ---- what becomes of a client

left-peer : (s : Option Cause) (r : Resident) (q : Peer) → (left_by s r q).peer ≡ q
left-peer None r q = refl
left-peer (Some cause) r q = refl

becomes-by : (s : Option Cause) (c : ℕ) (r : Resident) (q : Peer) (d : Desktop) → (after_status s c (become_by s c r q d)).clients ≡ with_number c (Some (left_by s r q)) d.clients
becomes-by None c r q d = refl
becomes-by (Some cause) c r q d = refl

-- a client that lives
module _ (c : ℕ) (d : Desktop) (lives : Lives c d.clients) where
  pub becomes-after : (r : Resident) (q : Peer) → After (unstruck d) (unstruck (becomes c r q d))
  becomes-after r q =
      subst (λ rs. Follows [] d.clients [] rs) (sym (becomes-by q.status c r q d)) (put-follows d.clients c lives (Some (left_by q.status r q)))

  becomes-status : (r : Resident) (q : Peer) → status_in c (becomes c r q d) ≡ q.status
  becomes-status r q =
      ap (λ rs. status_of (client_in rs c)) (becomes-by q.status c r q d) ∙ status-here d.clients c lives (Some (left_by q.status r q))
      ∙ ap (λ p. p.status) (left-peer q.status r q)

  -- where it ends as out of memory, it isn't spared
  pub unspared : (new : Desktop) → Spares (unstruck d) (unstruck new) → status_in c new ≢ Some Memory
  unspared new fine e = none-some Memory (sym (status-lives d.clients c lives None) ∙ fine c e)

  becomes-spared : (r : Resident) (q : Peer) → Spares (unstruck d) (unstruck (becomes c r q d)) → q.status ≢ Some Memory
  becomes-spared r q fine e = unspared (becomes c r q d) fine (becomes-status r q ∙ e)

  module _ (few : lasting d.clients ≤ 32) where
    -- a client becomes what is settled
    pub settled-leads : (r : Resident) (q : Peer) → Leads Desktop unstruck (unstruck (becomes c r q d)) (EndsAndSettles (unstruck (becomes c r q d)))
    settled-leads r q = end_all-leads (unstruck (becomes c r q d)) tt (omega (arith, few, (becomes-after r q).fewer))

    becomes-leads : (Q : Peer → Type 0) → ((p q : Peer) → Q p → Q q → p.status ≢ Some Memory → q.status ≢ Some Memory → p ≡ q) → (r : Resident) → Leads Desktop unstruck (unstruck d) (Becomes Q c r d)
    becomes-leads Q once r =
        chained Peer Desktop (λ q. unstruck (becomes c r q d)) unstruck (unstruck d) Q (λ q new. EndsAndSettles (unstruck (becomes c r q d)) new)
        (record {
          follows = λ q h. becomes-after r q;
          once = λ p q h k fine well. once p q h k (becomes-spared r p fine) (becomes-spared r q well);
        })
        (λ q h. settled-leads r q)

    becomes-lacking : (Q : Peer → Type 0) → ((q : Peer) → Q q → q.status ≡ Some Memory) → (r : Resident) (new : Desktop) → Becomes Q c r d new → Spares (unstruck d) (unstruck new) → ⊥
    becomes-lacking Q lacks r new h fine =
        becomes-spared r h.0 (spares-first (unstruck d) (unstruck (becomes c r h.0 d)) (unstruck new) ((settled-leads r h.0).follows new h.2) fine) (lacks h.0 h.1)

-- ---- what is asked

-- what is left of a client that was told, and why it is to end if it is
left_why : Option Cause → Resident → Resident
left_why None r = r
left_why (Some cause) r = resident_of (ended cause r.peer)

why-clients : (why : Option Cause) (c : ℕ) (r there : Resident) (d : Desktop) → client_at c d ≡ Some there
    → (after_why why c (with_client c (Some r) d)).clients ≡ with_number c (Some (left_why why r)) d.clients
unfolding left_why
why-clients None c r there d is = refl
why-clients (Some cause) c r there d is =
    ap (λ o. (ended_at c cause o (with_client c (Some r) d)).clients) (number-same d.clients c (Some r) there is)
    ∙ number-twice d.clients c (Some (resident_of (ended cause r.peer))) (Some r)

-- a client is told of its message, and ends if that isn't queued
module _ (c : ℕ) (events : List Said) (made : Resident) (d on : Desktop) (same : on.clients ≡ d.clients) (lives : Lives c d.clients) (few : lasting d.clients ≤ 32) where
  Told : Peer × Option Cause → Type 0
  Told y = QueuesTo events made.peer y.0 y.1

  done_so : Peer × Option Cause → Desktop
  done_so y = after_why y.1 c (with_client c (Some (with_peer y.0 made)) on)

  done-clients : (y : Peer × Option Cause) → (done_so y).clients ≡ with_number c (Some (left_why y.1 (with_peer y.0 made))) d.clients
  unfolding done_so
  done-clients y =
      why-clients y.1 c (with_peer y.0 made) lives.there on (ap (λ rs. client_in rs c) same ∙ lives.is)
      ∙ ap (λ rs. with_number c (Some (left_why y.1 (with_peer y.0 made))) rs) same

  done-after : (y : Peer × Option Cause) → After (unstruck d) (unstruck (done_so y))
  done-after y =
      subst (λ rs. Follows [] d.clients [] rs) (sym (done-clients y)) (put-follows d.clients c lives (Some (left_why y.1 (with_peer y.0 made))))

  done-spared : (y : Peer × Option Cause) → Spares (unstruck d) (unstruck (done_so y)) → y.1 ≢ Some Memory
  unfolding left_why
  done-spared y fine e =
      unspared c d lives (done_so y) fine
      (ap (λ rs. status_of (client_in rs c)) (done-clients y) ∙ status-here d.clients c lives (Some (left_why y.1 (with_peer y.0 made)))
      ∙ ap (λ why. (left_why why (with_peer y.0 made)).peer.status) e)

  doing-leads : Leads Desktop unstruck (unstruck d) (λ new. (q : Peer) × (why : Option Cause) × QueuesTo events made.peer q why
      × EndsAndSettles (unstruck (after_why why c (with_client c (Some (with_peer q made)) on))) new)
  unfolding Told done_so
  doing-leads =
      worded Desktop unstruck (unstruck d) (λ new. (y : Peer × Option Cause) × Told y × EndsAndSettles (unstruck (done_so y)) new) _ (λ new h. ((h.0, h.1), h.2, h.3))
      (chained (Peer × Option Cause) Desktop (λ y. unstruck (done_so y)) unstruck (unstruck d) Told (λ y new. EndsAndSettles (unstruck (done_so y)) new)
      (record {
        follows = λ y h. done-after y;
        once = λ y z h k fine well.
            let one = queues-once events made.peer y.0 z.0 y.1 z.1 h k (done-spared y fine) (done-spared z well) in same-pair y z one.0 one.1;
      })
      (λ y h. end_all-leads (unstruck (done_so y)) tt (omega (arith, few, (done-after y).fewer))))

-- what is done to the stack and to the pointer leaves the clients
pub done-clients_stay : (c : ℕ) (demand : Demand) (r : Resident) (d : Desktop) → (done_for c demand r d).clients ≡ d.clients
done-clients_stay c demand r d = stacked-for c demand r (all_windows d) d

-- ---- a message

choice : (b : Bool) (Later : Type 0) (p q x : Peer) → (Later → q ≡ x) → q.status ≢ Some Memory → QueuesOr b Later p q → q ≡ refused_or b x p
choice false Later p q x next kept h = h
choice true Later p q x next kept (inl h) = absurd (kept (ap (λ (y : Peer). y.status) h))
choice true Later p q x next kept (inr h) = next h

-- a client is refused in one way where memory is there
refused_is : (refusal : Refusal) (p q : Peer) → q.status ≢ Some Memory → Errs refusal p q → q ≡ refused refusal p
refused_is refusal p q kept h = choice (has_room p.unsent (error_told refusal)) _ p q _ (λ e. e) kept h

pub lacking : (p q : Peer) → LacksMemory p q → q.status ≡ Some Memory
lacking p q (inl h) = ap (λ x. x.status) h
lacking p q (inr h) = ap (λ x. x.status) h.1

module _ (c : ℕ) (d : Desktop) (lives : Lives c d.clients) (few : lasting d.clients ≤ 32) where
  does-leads : (demand : Demand) (r : Resident) → Leads Desktop unstruck (unstruck d) (Does c demand r d)
  does-leads demand r =
      doing-leads c (replies c demand r (changed_for c demand r d) (all_windows d) d) (changed_for c demand r d) d (done_for c demand r d) (done-clients_stay c demand r d) lives few

  lacks-leads : (r : Resident) → Leads Desktop unstruck (unstruck d) (Becomes (LacksMemory r.peer) c r d)
  lacks-leads r = becomes-leads c d lives few (LacksMemory r.peer) (λ p q h k fine well. absurd (fine (lacking r.peer p h))) r

  wants-leads : (b : Bool) (r : Resident) (Later : Desktop → Type 0) → Leads Desktop unstruck (unstruck d) Later → Leads Desktop unstruck (unstruck d) (λ new. WantsOr b (Later new) c r d new)
  wants-leads false r Later later = later
  wants-leads true r Later later =
      unless Desktop unstruck (unstruck d) (Becomes (LacksMemory r.peer) c r d) Later (lacks-leads r)
      (becomes-lacking c d lives few (LacksMemory r.peer) (lacking r.peer) r) later

  errs-leads : (refusal : Refusal) (p : Peer) (r : Resident) → Leads Desktop unstruck (unstruck d) (Becomes (Errs refusal p) c r d)
  errs-leads refusal p r = becomes-leads c d lives few (Errs refusal p) (λ q s h k fine well. refused_is refusal p q fine h ∙ sym (refused_is refusal p s well k)) r

  answers-leads : (judged : Result Demand Refusal) (r : Resident) → Leads Desktop unstruck (unstruck d) (Answers judged c r d)
  answers-leads (Ok demand) r =
      let now = with_peer (counted r.peer) r in
      wants-leads (wants_memory demand) now (Does c demand now d) (does-leads demand now)
  answers-leads (Err refusal) r = errs-leads refusal r.peer r

  takes-leads : (split : Split) (r : Resident) → Leads Desktop unstruck (unstruck d) (Takes split c r d)
  takes-leads (Message object opcode size) r = answers-leads (judge_all r object opcode _) (with_peer (with_rest (drop size r.peer.rest) r.peer) r)
  takes-leads Bad r = errs-leads (display_error InvalidMethod) r.peer r
  takes-leads More r = nowhere Desktop unstruck (unstruck d)

pub serves-leads : (c : ℕ) (d : Desktop) → lasting d.clients ≤ 32 → Leads Desktop unstruck (unstruck d) (Serves c d)
serves-leads c d few = at (client_at c d) refl
  where
    at : (o : Option Resident) → client_at c d ≡ o → Leads Desktop unstruck (unstruck d) (ServesAt c o d)
    at None is = nowhere Desktop unstruck (unstruck d)
    at (Some r) is =
        given Desktop unstruck (unstruck d) (r.peer.status ≡ None) (Takes (split_of r.peer.rest) c r d)
        (λ alive. takes-leads c d (record { there = r; is = is; alive = alive }) few (split_of r.peer.rest) r)

-- ---- a piece

-- n messages and then the stop, from the first on
RunsOn : ℕ → ℕ → Desktop → Desktop → Type 0
RunsOn zero c d new = StopsAt c (client_at c d) d new
RunsOn (suc n) c d new = (mid : Desktop) × Serves c d mid × RunsOn n c mid new

turned : (n k c : ℕ) (d mid new : Desktop) → Reaches c n d mid → RunsOn k c mid new → (j : ℕ) × RunsOn j c d new
unfolding RunsOn
turned zero k c d mid new h runs = (k, subst (λ x. RunsOn k c x new) h runs)
turned (suc n) k c d mid new h runs = turned n (suc k) c d h.0 new h.1 (mid, h.2, runs)

stopping : (c : ℕ) (d new : Desktop) → StopsAt c (client_at c d) d new → RunsOn 0 c d new
unfolding RunsOn
stopping c d new h = h

stops-after : (c : ℕ) (d new : Desktop) → lasting d.clients ≤ 32 → StopsAt c (client_at c d) d new → After (unstruck d) (unstruck new)
stops-after c d new few h = at (client_at c d) refl h
  where
    at : (o : Option Resident) → client_at c d ≡ o → StopsAt c o d new → After (unstruck d) (unstruck new)
    at None is h = absurd h
    at (Some r) is (inl h) = subst (λ x. After (unstruck d) (unstruck x)) (sym h.0) (still [] d.clients tt)
    at (Some r) is (inr h) =
        let lives : Lives c d.clients = record { there = r; is = is; alive = h.0 } in
        (from Desktop unstruck (unstruck d) (unstruck (becomes c r (ended Memory r.peer) d)) (EndsAndSettles (unstruck (becomes c r (ended Memory r.peer) d)))
        (becomes-after c d lives r (ended Memory r.peer)) (settled-leads c d lives few r (ended Memory r.peer))).follows new h.1

-- nothing is left to take of a client that is idle
idle-by : (c : ℕ) (s : Option Cause) (r : Resident) (d new : Desktop) → s ≡ None → IsIdleAt s r.peer.rest → Takes (split_of r.peer.rest) c r d new → ⊥
idle-by c None r d new alive idle takes = subst (λ split. Takes split c r d new) idle takes
idle-by c (Some cause) r d new alive idle takes = none-some cause (sym alive)

-- where memory is there, messages stop where none is left
stops-spared : (c : ℕ) (d new : Desktop) → lasting d.clients ≤ 32 → StopsAt c (client_at c d) d new → Spares (unstruck d) (unstruck new) → (new ≡ d)
    × ((mid : Desktop) → Serves c d mid → ⊥)
stops-spared c d new few h fine = at (client_at c d) refl h
  where
    at : (o : Option Resident) → client_at c d ≡ o → StopsAt c o d new → (new ≡ d) × ((mid : Desktop) → Serves c d mid → ⊥)
    at None is h = absurd h
    at (Some r) is (inl h) = (
      h.0,
      λ mid serves. let here : ServesAt c (Some r) d mid = subst (λ o. ServesAt c o d mid) is serves in idle-by c r.peer.status r d mid here.0 h.1 here.1,
    )
    at (Some r) is (inr h) =
        let lives : Lives c d.clients = record { there = r; is = is; alive = h.0 } in
        absurd (becomes-lacking c d lives few (λ q. q ≡ ended Memory r.peer) (λ q e. ap (λ x. x.status) e) r new (ended Memory r.peer, refl, h.1) fine)

runs-after : (n c : ℕ) (d new : Desktop) → lasting d.clients ≤ 32 → RunsOn n c d new → After (unstruck d) (unstruck new)
unfolding RunsOn
runs-after zero c d new few h = stops-after c d new few h
runs-after (suc n) c d new few h =
    let first = (serves-leads c d few).follows h.0 h.1 in
    follows-on first (runs-after n c h.0 new (omega (arith, few, first.fewer)) h.2)

runs-once : (n k c : ℕ) (d new end : Desktop) → lasting d.clients ≤ 32 → RunsOn n c d new → RunsOn k c d end → Spares (unstruck d) (unstruck new)
    → Spares (unstruck d) (unstruck end) → new ≡ end
unfolding RunsOn
runs-once zero zero c d new end few h k fine well = (stops-spared c d new few h fine).0 ∙ sym (stops-spared c d end few k well).0
runs-once zero (suc m) c d new end few h k fine well = absurd ((stops-spared c d new few h fine).1 k.0 k.1)
runs-once (suc n) zero c d new end few h k fine well = absurd ((stops-spared c d end few k well).1 h.0 h.1)
runs-once (suc n) (suc m) c d new end few h k fine well =
    let serves = serves-leads c d few in
    let first = serves.follows h.0 h.1 in
    let second = serves.follows k.0 k.1 in
    let less : lasting (k.0).clients ≤ 32 = omega (arith, few, second.fewer) in
    let one : h.0 ≡ k.0 =
    serves.once h.0 k.0 h.1 k.1 (spares-first (unstruck d) (unstruck h.0) (unstruck new) (runs-after n c h.0 new (omega (arith, few, first.fewer)) h.2) fine)
    (spares-first (unstruck d) (unstruck k.0) (unstruck end) (runs-after m c k.0 end less k.2) well) in
    runs-once n m c k.0 new end less (subst (λ x. RunsOn n c x new) one h.2) k.2 (spares-rest (unstruck d) (unstruck k.0) (unstruck new) second fine)
    (spares-rest (unstruck d) (unstruck k.0) (unstruck end) second well)

runs-lead : (c : ℕ) (d : Desktop) → lasting d.clients ≤ 32 → Leads Desktop unstruck (unstruck d) (λ new. (n : ℕ) × RunsOn n c d new)
runs-lead c d few =
    record {
      follows = λ new h. runs-after h.0 c d new few h.1;
      once = λ new end h k fine well. runs-once h.0 k.0 c d new end few h.1 k.1 fine well;
    }

-- a piece comes to a client
pub feeds-leads : (c : ℕ) (piece : List ℕ) (r : Resident) (d : Desktop) → client_at c d ≡ Some r → lasting d.clients ≤ 32
    → Leads Desktop unstruck (unstruck d) (FeedsAt c piece r.peer.status r d)
feeds-leads c piece r d is few = at r.peer.status refl
  where
    at : (s : Option Cause) → r.peer.status ≡ s → Leads Desktop unstruck (unstruck d) (FeedsAt c piece s r d)
    at (Some cause) e = only Desktop unstruck (unstruck d) d (still [] d.clients tt)
    at None e =
        let come : Resident = with_peer (with_rest (r.peer.rest ++ piece) r.peer) r in
        let start : Desktop = with_client c (Some come) d in
        let comes : After (unstruck d) (unstruck start) = put-follows d.clients c (record { there = r; is = is; alive = e }) (Some come) in
        from Desktop unstruck (unstruck d) (unstruck start) (FeedsAt c piece None r d) comes
        (worded Desktop unstruck (unstruck start) (λ new. (n : ℕ) × RunsOn n c start new) (FeedsAt c piece None r d)
        (λ new h. turned h.0 0 c start h.1 new h.2 (stopping c h.1 new h.3)) (runs-lead c start (omega (arith, few, comes.fewer))))

-- Whatever happens leaves each client one buffer of each number.
use Rattle.std.proofs.Common.{◌≡◌, ◌≢◌, ℕ, zero, suc, ◌+◌, ◌-◌, take, drop, List, [], ◌∷◌, ◌++◌, length, Bool, true, false, Option, Some, None, Result, refl, ap, sym, subst, ◌∙◌, inl, inr, arith}
use Rattle.std.proofs.lemmas.Option.{none-some, same_Some}
use Rattle.std.specs.Prelude.{Ok, Err, ◌⊎◌, if◌then◌else◌, nat_le}
use Rattle.wl_store.specs.Stores.{write_refusal}
use Rattle.wl_store.specs.declared.stores.StoreError.{StoreError}
use Rattle.wl_wire.specs.Wire.{split_of}
use Rattle.wl_wire.specs.declared.header.Split.{Split}
use Rattle.wl_wire.specs.declared.header.Split.TheVariants.{Message, More, Bad}
use Rattle.spec_desktop.specs.declared.cause.Cause.{Cause}
use Rattle.spec_desktop.specs.declared.cause.Cause.TheVariants.{Gone, Memory, Protocol, Slow}
use Rattle.spec_desktop.specs.declared.refusals.ErrorCode.TheVariants.{InvalidMethod, NoMemory}
use Rattle.spec_desktop.specs.declared.refusals.Refusal.{Refusal}
use Rattle.spec_desktop.specs.Peer.{Errs, LacksMemory, Peer, QueuesOr, counted, ended, has_room, queued, sent_by, stored_at, stored_by, with_rest}
use Rattle.spec_desktop.specs.Told.{Output, Said, code_number, display_error, error_told}
use Rattle.spec_desktop.specs.Stacking.{Standing}
use Rattle.spec_desktop.specs.declared.answers.Done.{Done}
use Rattle.spec_desktop.specs.Act.{Act, Connect, Feed, Store, Leave, Tick, Send, Close, Motion, Button, IsClosed, IsSent, IsStored, closed_by, lowest, next_of}
use Rattle.spec_desktop.specs.Changing.{changed_for}
use Rattle.spec_desktop.specs.Demand.{Demand}
use Rattle.spec_desktop.specs.Demanding.{judge_all}
use Rattle.spec_desktop.specs.Desktop.{Desktop, Resident, arrival, client_at, client_in, empty, place, resident_of, toplevels_of, with_client, with_number, with_place}
use Rattle.spec_desktop.specs.Happens.{AnswersThen, BecomesThen, ChangesThen, ConnectsThen, DoesThen, FeedsAt, Happens, IsFedAt, LeavesThen, Reaches, ServesThen, StopsAt, TakesThen, WantsOrThen}
use Rattle.spec_desktop.specs.Happens.{changed_so, done_for, ending, settling, wants_memory}
use Rattle.spec_desktop.specs.Replies.{replies}
use Rattle.spec_desktop.specs.Settling.{Midstep, QueuesTo, Strike, becomes, unstruck}
use Rattle.spec_desktop.specs.Stacked.{all_windows}
use Rattle.spec_desktop.specs.Step.{with_peer}
use Rattle.law_desktop.specs.Others.{client_of}
use Rattle.law_desktop.specs.Own.{HasItsOwn, KeepsItsOwnBy, KeepsItsOwnSo, LivesOrEnds}
use Rattle.law_desktop.specs.RunLaws.{Lasts}
use Rattle.law_desktop.proofs.Isolation.Kept.{StaysOwn, has-more, own-all}
use Rattle.law_desktop.proofs.Isolation.Own.{own_stays}
use Rattle.law_desktop.proofs.Isolation.Settling.{AreIn, Stays, ending-in, settling-in}
use Rattle.law_desktop.proofs.Runs.Fates.{same-or}
use Rattle.law_desktop.proofs.Runs.Places.{number-other, number-same}
use Rattle.law_desktop.proofs.Runs.Serves.{done-clients_stay}
use Rattle.law_desktop.proofs.Runs.Through.{connects-with}
use Rattle.law_desktop.specs.OneBuffer.{HasOneBuffer, HaveOneBuffer}
use Rattle.law_desktop.proofs.OneBuffer.Keeping.{nothing-one}
use Rattle.law_desktop.proofs.OneBuffer.Messages.{changed-keeps}
use Rattle.law_desktop.proofs.OneBuffer.Named.{IsFrom, judged-from}
use Rattle.law_desktop.proofs.Soundness.First.{no-client}

-- ---- one client

abbrev HasAt : Option Resident → Type 0
HasAt None = Unit {0}
HasAt (Some r) = HasOneBuffer r

-- of a desktop
abbrev Known : ℕ → Desktop → Type 0
Known c d = HasAt (client_at c d)

known-so : (c : ℕ) (d : Desktop) (o : Option Resident) → client_at c d ≡ o → HasAt o → Known c d
known-so c d o e known = rw e known

known-same : (c : ℕ) (d e : Desktop) → e ≡ d → Known c d → Known c e
known-same c d e same known = known-so c e (client_at c d) (ap (λ (x : Desktop). client_at c x) same) known

-- one that has the same wl_buffers and surfaces, and made as many requests
has-same : (r q : Resident) → q.peer.requests ≡ r.peer.requests → q.peer.buffers ≡ r.peer.buffers → q.owned.surfaces ≡ r.owned.surfaces → HasOneBuffer r → HasOneBuffer q
has-same r q e f g one = rw (e, f, g) one

own-has : (r q : Resident) → HasItsOwn r q → HasOneBuffer r → HasOneBuffer q
own-has r q own one = has-same r q own.peer.requests own.peer.buffers own.surfaces one

-- one that ended has none
ended-has : (cause : Cause) (p : Peer) → HasOneBuffer (resident_of (ended cause p))
ended-has cause p = nothing-one p.requests

pub arrival-has : (output : Output) → HasOneBuffer (arrival output)
arrival-has output = nothing-one 0

-- ---- what follows a step's own change

abbrev HasTold : Option Resident → List Standing → Type 0
HasTold o tops = HasAt o

abbrev Anyhow : Resident → Cause → Type 0
Anyhow r cause = Unit {0}

has-stays : Stays StaysOwn HasTold Anyhow
has-stays = record {
  told = λ r q tops why alive known so. own-has r q so.0 known;
  untold = λ r q tops cause alive known so. tt;
  ends = λ r tops cause known why. ended-has cause r.peer;
  again = λ r cause other why why_too. tt;
}

strikes-known : (c : ℕ) (o : Option Resident) (ss : List Strike) → AreIn c StaysOwn own-all.focus HasTold Anyhow has-stays o ss
strikes-known c o [] = tt
strikes-known c None (s ∷ ss) = (λ same. tt, strikes-known c None ss)
strikes-known c (Some r) (s ∷ ss) = (λ same. tt, strikes-known c (Some r) ss)

settling-known : (c : ℕ) (new : Desktop) (mid : Midstep) → Known c mid.desktop → settling new mid → Known c new
settling-known c new mid known h =
    settling-in c StaysOwn own-all.focus HasTold Anyhow has-stays mid new (known, strikes-known c (client_at c mid.desktop) mid.struck) h

ending-known : (c : ℕ) (new : Desktop) (mid : Midstep) → Known c mid.desktop → ending new mid → Known c new
ending-known c new mid known h =
    ending-in c StaysOwn own-all.focus HasTold Anyhow has-stays mid new (known, strikes-known c (client_at c mid.desktop) mid.struck) h

-- ---- a client's own messages

becomes-ended : (c : ℕ) (r there : Resident) (cause : Cause) (p : Peer) (d : Desktop) → client_at c d ≡ Some there → Known c (becomes c r (ended cause p) d)
becomes-ended c r there cause p d found =
    known-so c (becomes c r (ended cause p) d) (Some (resident_of (ended cause p))) (number-same d.clients c (Some (resident_of (ended cause p))) there found)
    (ended-has cause p)

abbrev HasEnded : Peer → Type 0
HasEnded q = (cause : Cause) × (p : Peer) × (q ≡ ended cause p)

erred-ended : (refusal : Refusal) (p q : Peer) → Errs refusal p q → HasEnded q
erred-ended refusal p q h = at (has_room p.unsent (error_told refusal)) h
  where
    at : (b : Bool) → QueuesOr b (q ≡ ended (Protocol refusal.object (code_number refusal.code)) (queued (error_told refusal) p)) p q → HasEnded q
    at false e = (Slow, p, e)
    at true (inl e) = (Memory, p, e)
    at true (inr e) = (Protocol refusal.object (code_number refusal.code), queued (error_told refusal) p, e)

lacking-ended : (p q : Peer) → LacksMemory p q → HasEnded q
lacking-ended p q (inl e) = (Memory, p, e)
lacking-ended p q (inr e) = (Memory, queued (error_told (display_error NoMemory)) p, e.1)

-- what waits to be sent changes nothing of it
queued-has : (events : List Said) (r : Resident) (q : Peer) (why : Option Cause) → QueuesTo events r.peer q why → HasOneBuffer r → HasOneBuffer (with_peer q r)
queued-has events r q why h one =
    let more = has-more events r.peer q why h in
    has-same r (with_peer q r) (ap (λ (p : Peer). p.requests) more.1) (ap (λ (p : Peer). p.buffers) more.1) refl one

module _ (c : ℕ) (new : Desktop) where
  becomes-known : (Q : Peer → Type 0) → ((q : Peer) → Q q → HasEnded q) → (r there : Resident) (d : Desktop)
      → client_at c d ≡ Some there → BecomesThen Q c r d (settling new) → Known c new
  becomes-known Q ends r there d found h =
      let k = ends h.0 h.1 in
      settling-known c new (unstruck (becomes c r h.0 d))
      (subst (λ (q : Peer). Known c (becomes c r q d)) (sym k.2) (becomes-ended c r there k.0 k.1 d found)) h.2

  does-known : (r : Resident) (rest : List ℕ) (object opcode : ℕ) (body : List ℕ) (demand : Demand) (d : Desktop)
      → judge_all r object opcode body ≡ Ok demand → client_at c d ≡ Some r → HasOneBuffer r
      → DoesThen c demand (with_peer (counted (with_rest rest r.peer)) r) d (settling new) → Known c new
  does-known r rest object opcode body demand d judged found one h =
      let s : Resident = with_peer (counted (with_rest rest r.peer)) r in
      let changed : Resident = changed_for c demand s d in
      let done : Desktop = done_for c demand s d in
      let from : IsFrom s.peer.buffers demand = judged-from r object opcode body demand judged in
      let after : HasOneBuffer changed = changed-keeps r.peer.requests s refl one c demand d from in
      let told : Resident = with_peer h.0 changed in
      let it : HasOneBuffer told = queued-has (replies c demand s changed (all_windows d) d) changed h.0 h.1 h.2 after in
      let now : Desktop = with_client c (Some told) done in
      let there : client_at c done ≡ Some r = ap (λ (clients : List (Option Resident)). client_in clients c) (done-clients_stay c demand s d) ∙ found in
      settling-known c new (changed_so c demand s d h.0 h.1) (known-so c now (Some told) (number-same done.clients c (Some told) r there) it) h.3

  wants-known : (b : Bool) (r : Resident) (rest : List ℕ) (object opcode : ℕ) (body : List ℕ) (demand : Demand) (d : Desktop)
      → judge_all r object opcode body ≡ Ok demand → client_at c d ≡ Some r → HasOneBuffer r
      → WantsOrThen b (DoesThen c demand (with_peer (counted (with_rest rest r.peer)) r) d (settling new)) c
      (with_peer (counted (with_rest rest r.peer)) r) d (settling new) → Known c new
  wants-known false r rest object opcode body demand d judged found one h = does-known r rest object opcode body demand d judged found one h
  wants-known true r rest object opcode body demand d judged found one (inl h) =
      becomes-known (LacksMemory (counted (with_rest rest r.peer))) (λ q lacks. lacking-ended (counted (with_rest rest r.peer)) q lacks)
      (with_peer (counted (with_rest rest r.peer)) r) r d found h
  wants-known true r rest object opcode body demand d judged found one (inr h) = does-known r rest object opcode body demand d judged found one h

  takes-known : (split : Split) (r : Resident) (d : Desktop) → client_at c d ≡ Some r → HasOneBuffer r → TakesThen split c r d (settling new) → Known c new
  takes-known (Message object opcode size) r d found one h = at (judge_all r object opcode body) refl h
    where
      rest : List ℕ
      rest = drop size r.peer.rest

      body : List ℕ
      body = take (size - 8) (drop 8 r.peer.rest)

      at : (judged : Result Demand Refusal) → judge_all r object opcode body ≡ judged
          → AnswersThen judged c (with_peer (with_rest rest r.peer) r) d (settling new) → Known c new
      at (Ok demand) e k = wants-known (wants_memory demand) r rest object opcode body demand d e found one k
      at (Err refusal) e k =
          becomes-known (Errs refusal (with_rest rest r.peer)) (λ q errs. erred-ended refusal (with_rest rest r.peer) q errs)
          (with_peer (with_rest rest r.peer) r) r d found k
  takes-known Bad r d found one h =
      becomes-known (Errs (display_error InvalidMethod) r.peer) (λ q errs. erred-ended (display_error InvalidMethod) r.peer q errs) r r d found h
  takes-known More r d found one h = absurd h

  serves-known : (o : Option Resident) (d : Desktop) → client_at c d ≡ o → Known c d → ServesThen c o d (settling new) → Known c new
  serves-known None d found known h = absurd h
  serves-known (Some r) d found known h =
      takes-known (split_of r.peer.rest) r d found (subst (λ (o : Option Resident). HasAt o) found known) h.1

  stops-known : (o : Option Resident) (mid : Desktop) → client_at c mid ≡ o → Known c mid → StopsAt c o mid new → Known c new
  stops-known None mid found known h = absurd h
  stops-known (Some r) mid found known (inl h) = known-same c mid new h.0 known
  stops-known (Some r) mid found known (inr h) =
      settling-known c new (unstruck (becomes c r (ended Memory r.peer) mid)) (becomes-ended c r r Memory r.peer mid found) h.1

reaches-known : (c n : ℕ) (d new : Desktop) → Known c d → Reaches c n d new → Known c new
reaches-known c zero d new known h = known-same c d new h known
reaches-known c (suc n) d new known h = serves-known c new (client_at c h.0) h.0 refl (reaches-known c n d h.0 known h.1) h.2

-- a client that is there changes to one that has one buffer of each number
put-known : (c a : ℕ) (x : Option Resident) (r : Resident) (d : Desktop) → client_at a d ≡ Some r → (HasOneBuffer r → HasAt x) → Known c d → Known c (with_client a x d)
put-known c a x r d found keeps known = at (same-or a c)
  where
    own : Known a d → Known a (with_client a x d)
    own known =
        let it : HasOneBuffer r = subst (λ (o : Option Resident). HasAt o) found known in
        known-so a (with_client a x d) x (number-same d.clients a x r found) (keeps it)

    at : (a ≡ c) ⊎ (a ≢ c) → Known c (with_client a x d)
    at (inl same) = subst (λ (n : ℕ). Known n (with_client a x d)) same (own (subst (λ (n : ℕ). Known n d) (sym same) known))
    at (inr differ) = known-so c (with_client a x d) (client_at c d) (number-other d.clients a c x differ) known

feeds-known : (c : ℕ) (piece : List ℕ) (s : Option Cause) (r : Resident) (d new : Desktop) → client_at c d ≡ Some r → Known c d
    → FeedsAt c piece s r d new → Known c new
feeds-known c piece (Some cause) r d new found known h = known-same c d new h known
feeds-known c piece None r d new found known h =
    let come : Resident = with_peer (with_rest (r.peer.rest ++ piece) r.peer) r in
    let start : Known c (with_client c (Some come) d) = put-known c c (Some come) r d found (λ one. has-same r come refl refl refl one) known in
    stops-known c new (client_at c h.1) h.1 refl (reaches-known c h.0 (with_client c (Some come) d) h.1 start h.2) h.3

fed-known : (c : ℕ) (piece : List ℕ) (o : Option Resident) (d : Desktop) (done : Done) (new : Desktop) → client_at c d ≡ o → Known c d
    → IsFedAt c piece o d done new → Known c new
fed-known c piece None d done new found known h = known-same c d new h.1 known
fed-known c piece (Some r) d done new found known h = feeds-known c piece r.peer.status r d new found known h.0

-- ---- what isn't a step of a client's

own-known : (act : Act) (done : Done) (c : ℕ) (d e : Desktop) → client_of act done ≢ Some c → Happens act done d e → Known c d → Known c e
own-known act done c d e not_it h known = at (client_at c d) (own_stays act done c d e not_it h) known
  where
    living : (r : Resident) (tops after : List Standing) (now : Option Resident) → LivesOrEnds r tops now after → HasOneBuffer r → HasAt now
    living r tops after None k one = absurd k
    living r tops after (Some q) (inl k) one = own-has r q k.0 one
    living r tops after (Some q) (inr k) one = subst HasOneBuffer (sym k.0.4) (ended-has k.0.1 k.0.0.peer)

    by : (r : Resident) (s : Option Cause) (tops after : List Standing) → KeepsItsOwnBy s r tops (client_at c e) after → HasOneBuffer r → Known c e
    by r (Some cause) tops after k one = known-so c e (Some r) k one
    by r None tops after k one = living r tops after (client_at c e) k one

    at : (o : Option Resident) → KeepsItsOwnSo o (toplevels_of c d) (client_at c e) (toplevels_of c e) → HasAt o → Known c e
    at None k one = known-so c e None k tt
    at (Some r) k one = by r r.peer.status (toplevels_of c d) (toplevels_of c e) k one

-- ---- a client comes

-- the lowest free number is taken
comes : (rs : List (Option Resident)) (k : ℕ) (x : Option Resident) → lowest rs ≡ Some k → place (with_place k x rs) k ≡ x
comes [] k x e = absurd (none-some k e)
comes (None ∷ rs) zero x e = refl
comes (None ∷ rs) (suc k) x e = absurd (cc)
comes (Some r ∷ rs) k x e = at (lowest rs) e (λ m free. comes rs m x free)
  where
    at : (o : Option ℕ) → next_of o ≡ Some k → ((m : ℕ) → o ≡ Some m → place (with_place m x rs) m ≡ x) → place (with_place k x (Some r ∷ rs)) k ≡ x
    at None e later = absurd (none-some k e)
    at (Some m) e later =
        let same = same_Some (m + 1) k e in
        let next : suc m ≡ k = omega (arith, same) in
        subst (λ (n : ℕ). place (with_place n x (Some r ∷ rs)) n ≡ x) next (later m refl)

comes-at : (clients : List (Option Resident)) (k : ℕ) (x : Option Resident) → lowest clients ≡ Some k → client_in (with_number (k + 1) x clients) (k + 1) ≡ x
comes-at clients k x e =
    let next : suc k ≡ k + 1 = omega arith in
    subst (λ (n : ℕ). client_in (with_number n x clients) n ≡ x) next (comes clients k x e)

comes-known : (c k : ℕ) (d : Desktop) → lowest d.clients ≡ Some k → Known c d → Known c (with_client (k + 1) (Some (arrival d.output)) d)
comes-known c k d free known = at (same-or (k + 1) c)
  where
    now : Desktop
    now = with_client (k + 1) (Some (arrival d.output)) d

    come : Known (k + 1) now
    come = known-so (k + 1) now (Some (arrival d.output)) (comes-at d.clients k (Some (arrival d.output)) free) (arrival-has d.output)

    at : ((k + 1) ≡ c) ⊎ ((k + 1) ≢ c) → Known c now
    at (inl same) = subst (λ (n : ℕ). Known n now) same come
    at (inr differ) = known-so c now (client_at c d) (number-other d.clients (k + 1) c (Some (arrival d.output)) differ) known

-- ---- a client is written to, sent to or closed, or goes

abbrev held_by : Option Peer → Resident → Option Resident
held_by None r = None
held_by (Some q) r = Some (with_peer q r)

abbrev KeepsHeld : (Peer → Done → Option Peer → Type 0) → Done → Type 0
KeepsHeld R done = (r : Resident) (q : Option Peer) → R r.peer done q → HasOneBuffer r → HasAt (held_by q r)

held-so : (r : Resident) (q other : Option Peer) → q ≡ other → HasAt (held_by other r) → HasAt (held_by q r)
held-so r q other e known = subst (λ (x : Option Peer). HasAt (held_by x r)) (sym e) known

closed-keeps : (done : Done) → KeepsHeld IsClosed done
closed-keeps done r q h one = held-so r q (closed_by r.peer.status r.peer) h.0 (at r.peer.status)
  where
    at : (s : Option Cause) → HasAt (held_by (closed_by s r.peer) r)
    at None = one
    at (Some cause) = tt

stored-keeps : (store at : ℕ) (bytes : List ℕ) (done : Done) → KeepsHeld (IsStored store at bytes) done
stored-keeps store at bytes done r q h one = held-so r q (Some (stored_at r.peer.status store at bytes r.peer)) h.0 (is r.peer.status)
  where
    by : (refusal : Option StoreError) → HasOneBuffer (with_peer (stored_by store at bytes refusal r.peer) r)
    by None = has-same r (with_peer (stored_by store at bytes None r.peer) r) refl refl refl one
    by (Some error) = has-same r (with_peer (stored_by store at bytes (Some error) r.peer) r) refl refl refl one

    is : (s : Option Cause) → HasOneBuffer (with_peer (stored_at s store at bytes r.peer) r)
    is (Some cause) = has-same r (with_peer (stored_at (Some cause) store at bytes r.peer) r) refl refl refl one
    is None = by (write_refusal store at (length bytes) r.peer.stores)

sent-keeps : (n : ℕ) (done : Done) → KeepsHeld (IsSent n) done
sent-keeps n done r q h one = held-so r q (Some (sent_by n r.peer)) h.0 (at (nat_le n (length r.peer.unsent)))
  where
    at : (b : Bool) → HasOneBuffer (with_peer (if b then record r.peer { unsent = drop n r.peer.unsent } else r.peer) r)
    at true = has-same r (with_peer (record r.peer { unsent = drop n r.peer.unsent }) r) refl refl refl one
    at false = has-same r (with_peer r.peer r) refl refl refl one

module _ (c : ℕ) (d new : Desktop) (known : Known c d) where
  connects-known : (k : Option ℕ) (done : Done) → lowest d.clients ≡ k → ConnectsThen k d done (ending new) → Known c new
  connects-known None done free h = ending-known c new (unstruck d) known h.1
  connects-known (Some k) done free (inl h) = ending-known c new (unstruck d) known h.1
  connects-known (Some k) done free (inr h) =
      ending-known c new (unstruck (with_client (k + 1) (Some (arrival d.output)) d)) (comes-known c k d free known) h.1

  changes-known : (R : Peer → Done → Option Peer → Type 0) (absent : Done) (a : ℕ) (o : Option Resident) (done : Done)
      → KeepsHeld R done → client_at a d ≡ o → ChangesThen R absent a o d done (ending new) → Known c new
  changes-known R absent a None done keeps found h = ending-known c new (unstruck d) known h.1
  changes-known R absent a (Some r) done keeps found (None, h, e) =
      ending-known c new (unstruck (with_client a None d)) (put-known c a None r d found (λ one. keeps r None h one) known) e
  changes-known R absent a (Some r) done keeps found (Some q, h, e) =
      let x : Option Resident = Some (with_peer q r) in
      ending-known c new (unstruck (with_client a x d)) (put-known c a x r d found (λ one. keeps r (Some q) h one) known) e

  -- one that goes ends
  gone-known : (a : ℕ) (r : Resident) → client_at a d ≡ Some r → Known c (becomes a r (ended Gone r.peer) d)
  gone-known a r found = put-known c a (Some (resident_of (ended Gone r.peer))) r d found (λ one. ended-has Gone r.peer) known

  leaves-known : (a : ℕ) (o : Option Resident) (done : Done) → client_at a d ≡ o → LeavesThen a o d done (settling new) (ending new) → Known c new
  leaves-known a None done found h = ending-known c new (unstruck d) known h.1
  leaves-known a (Some r) done found h = at r.peer.status refl
    where
      at : (s : Option Cause) → r.peer.status ≡ s → Known c new
      at (Some cause) e = let k : ending new (unstruck d) = rw e at h.1 in ending-known c new (unstruck d) known k
      at None e =
          let gone : Midstep = unstruck (becomes a r (ended Gone r.peer) d) in
          let k : settling new gone = rw e at h.1 in
          settling-known c new gone (gone-known a r found) k

-- ---- all that happens

none-of : (c : ℕ) → None ≢ Some c
none-of c e = absurd (cc)

another : (a c : ℕ) → a ≢ c → Some a ≢ Some c
another a c differ e = differ (same_Some a c e)

feeds : (a c : ℕ) (piece : List ℕ) (done : Done) (d e : Desktop) → Happens (Feed a piece) done d e → Known c d → Known c e
feeds a c piece done d e h known = at (same-or a c)
  where
    at : (a ≡ c) ⊎ (a ≢ c) → Known c e
    at (inl same) =
        subst (λ (n : ℕ). Known n e) same (fed-known a piece (client_at a d) d done e refl (subst (λ (n : ℕ). Known n d) (sym same) known) h)
    at (inr differ) = own-known (Feed a piece) done c d e (another a c differ) h known

happens-known : (act : Act) (done : Done) (c : ℕ) (d e : Desktop) → Happens act done d e → Known c d → Known c e
happens-known Connect done c d e h known = connects-known c d e known (lowest d.clients) done refl (connects-with (lowest d.clients) d done e h)
happens-known (Feed a piece) done c d e h known = feeds a c piece done d e h known
happens-known (Store a store at bytes) done c d e h known =
    changes-known c d e known (IsStored store at bytes) _ a (client_at a d) done (stored-keeps store at bytes done) refl h
happens-known (Leave a) done c d e h known = leaves-known c d e known a (client_at a d) done refl h
happens-known (Tick time) done c d e h known = own-known (Tick time) done c d e (none-of c) h known
happens-known (Send a n) done c d e h known = changes-known c d e known (IsSent n) _ a (client_at a d) done (sent-keeps n done) refl h
happens-known (Close a) done c d e h known = changes-known c d e known IsClosed _ a (client_at a d) done (closed-keeps done) refl h
happens-known (Motion time x y) done c d e h known = own-known (Motion time x y) done c d e (none-of c) h known
happens-known (Button time button pressed) done c d e h known = own-known (Button time button pressed) done c d e (none-of c) h known

-- ---- all clients

known-of : (c : ℕ) (d : Desktop) → HaveOneBuffer d → Known c d
known-of c d have = at (client_at c d) refl
  where
    at : (o : Option Resident) → client_at c d ≡ o → HasAt o
    at None e = tt
    at (Some r) e = have c r e

of-known : (d : Desktop) → ((c : ℕ) → Known c d) → HaveOneBuffer d
of-known d known c r e = subst (λ (o : Option Resident). HasAt o) e (known c)

pub happens-keeps : (act : Act) (done : Done) (old new : Desktop) → HaveOneBuffer old → Happens act done old new → HaveOneBuffer new
happens-keeps act done old new have h = of-known new (λ c. happens-known act done c old new h (known-of c old have))

pub empty-has : (output : Output) → HaveOneBuffer (empty output)
empty-has output = of-known (empty output) (λ c. known-so c (empty output) None (no-client output c) tt)

lasts-keeps : (acts : List Act) (dones : List Done) (d e : Desktop) → HaveOneBuffer d → Lasts acts dones d e → HaveOneBuffer e
lasts-keeps [] [] d e have h = subst HaveOneBuffer (sym h) have
lasts-keeps [] (done ∷ dones) d e have h = absurd h
lasts-keeps (act ∷ acts) [] d e have h = absurd h
lasts-keeps (act ∷ acts) (done ∷ dones) d e have h = lasts-keeps acts dones h.0 e (happens-keeps act done d h.0 have h.1) h.2

pub run-has : (output : Output) (acts : List Act) (dones : List Done) (d : Desktop) → Lasts acts dones (empty output) d → HaveOneBuffer d
run-has output acts dones d h = lasts-keeps acts dones (empty output) d (empty-has output) h

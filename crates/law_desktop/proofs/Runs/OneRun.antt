-- Where memory doesn't run out, what happens is determined.
use Rattle.std.proofs.Common.{◌≡◌, ℕ, ◌≤◌, List, length, Option, Some, None, refl, ap, sym, ◌∙◌, arith, inl, inr}
use Rattle.std.specs.Prelude.{ℤ, ◌+◌, false, true}
use Rattle.spec_desktop.specs.declared.cause.Cause.{Cause}
use Rattle.spec_desktop.specs.declared.cause.Cause.TheVariants as cause
use Rattle.spec_desktop.specs.Peer.{Peer, ended}
use Rattle.spec_desktop.specs.declared.answers.Done.{Done}
use Rattle.spec_desktop.specs.declared.answers.Done.TheVariants as gave
use Rattle.spec_desktop.specs.declared.answers.Fed.TheVariants.{NoClient}
use Rattle.spec_desktop.specs.Desktop.{Desktop, Resident, arrival, client_at, with_client, status_in}
use Rattle.spec_desktop.specs.Settling.{EndsAndSettles, becomes, unstruck}
use Rattle.spec_desktop.specs.Step.{with_peer}
use Rattle.spec_desktop.specs.Act.{Act, Connect, Feed, Store, Leave, Tick, Send, Close, Motion, Button, IsClosed, IsSent, IsStored, fed_of, lowest}
use Rattle.law_desktop.proofs.Runs.Forms.{ConnectsAt, Buttons, ChangesAt, LeavesAt, MovesTo, Shows}
use Rattle.spec_desktop.specs.Happens.{FeedsAt, Happens, IsFedAt, point_in}
use Rattle.law_desktop.specs.RunLaws.{HadMemory, OneRun}
use Rattle.law_desktop.proofs.Runs.Fates.{Lives, lasting, lasting-within, number-long, still}
use Rattle.law_desktop.proofs.Runs.Leads.{After, Leads, Spares, from, only}
use Rattle.law_desktop.proofs.Runs.Moves.{buttons-leads, moves-leads, shows-leads}
use Rattle.law_desktop.proofs.Runs.Serves.{becomes-after, feeds-leads, settled-leads}

-- two answers and what they come with are the same
Same : Done → Done → Desktop → Desktop → Type 0
Same done other new end = (done ≡ other) × (new ≡ end)

-- the answer goes by what happened
answered-once : (P : Desktop → Type 0) (answer : Desktop → Done) (d new end : Desktop) (done other : Done) → Leads Desktop unstruck (unstruck d) P → P new → P end → done ≡ answer new
    → other ≡ answer end → Spares (unstruck d) (unstruck new) → Spares (unstruck d) (unstruck end) → Same done other new end
unfolding Same
answered-once P answer d new end done other leads h k e f fine well =
    let same = leads.once new end h k fine well in (e ∙ ap answer same ∙ sym f, same)

stays-leads : (d : Desktop) → Leads Desktop unstruck (unstruck d) (λ new. new ≡ d)
stays-leads d = only Desktop unstruck (unstruck d) d (still _ d.clients tt)

-- ---- a client connects

connects-once : (k : Option ℕ) (d new end : Desktop) (done other : Done) → ConnectsAt k d done new → ConnectsAt k d other end → HadMemory Connect done d new → HadMemory Connect other d end
    → Same done other new end
unfolding Same
connects-once None d new end done other h k fine well = (h.0 ∙ sym k.0, h.1 ∙ sym k.1)
connects-once (Some n) d new end done other (inl h) k fine well = absurd (fine.0 refl h.0)
connects-once (Some n) d new end done other (inr h) (inl k) fine well = absurd (well.0 refl k.0)
connects-once (Some n) d new end done other (inr h) (inr k) fine well = (h.0 ∙ sym k.0, h.1 ∙ sym k.1)

connects-long : (k : Option ℕ) (d new : Desktop) (done : Done) → ConnectsAt k d done new → length new.clients ≡ length d.clients
connects-long None d new done h = ap (λ x. length x.clients) h.1
connects-long (Some n) d new done (inl h) = ap (λ x. length x.clients) h.1
connects-long (Some n) d new done (inr h) = ap (λ x. length x.clients) h.1 ∙ number-long d.clients (n + 1) (Some (arrival d.output))

-- ---- a client is fed

fed-once : (c : ℕ) (piece : List ℕ) (o : Option Resident) (d new end : Desktop) (done other : Done) → client_at c d ≡ o → lasting d.clients ≤ 32 → IsFedAt c piece o d done new
    → IsFedAt c piece o d other end → Spares (unstruck d) (unstruck new) → Spares (unstruck d) (unstruck end) → Same done other new end
fed-once c piece None d new end done other is few h k fine well =
    answered-once (λ new. new ≡ d) (λ new. gave.Feed NoClient) d new end done other (stays-leads d) h.1 k.1 h.0 k.0 fine well
fed-once c piece (Some r) d new end done other is few h k fine well =
    answered-once (FeedsAt c piece r.peer.status r d) (λ new. gave.Feed (fed_of (status_in c new))) d new end done other (feeds-leads c piece r d is few) h.0 k.0 h.1 k.1 fine well

pub fed-after : (c : ℕ) (piece : List ℕ) (o : Option Resident) (d new : Desktop) (done : Done) → client_at c d ≡ o → lasting d.clients ≤ 32 → IsFedAt c piece o d done new
    → After (unstruck d) (unstruck new)
fed-after c piece None d new done is few h = (stays-leads d).follows new h.1
fed-after c piece (Some r) d new done is few h = (feeds-leads c piece r d is few).follows new h.0

-- ---- a client goes

-- the client with this status
so : Option Cause → Resident → Resident
so s r = record r { peer = record r.peer { status = s } }

gone-leads : (c : ℕ) (r : Resident) (d : Desktop) → Lives c d.clients → lasting d.clients ≤ 32
    → Leads Desktop unstruck (unstruck d) (EndsAndSettles (unstruck (becomes c r (ended cause.Gone r.peer) d)))
gone-leads c r d lives few =
    from Desktop unstruck (unstruck d) (unstruck (becomes c r (ended cause.Gone r.peer) d)) (EndsAndSettles (unstruck (becomes c r (ended cause.Gone r.peer) d)))
    (becomes-after c d lives r (ended cause.Gone r.peer)) (settled-leads c d lives few r (ended cause.Gone r.peer))

left-once : (c : ℕ) (s : Option Cause) (r : Resident) (d new end : Desktop) (done other : Done) → (s ≡ None → Lives c d.clients) → lasting d.clients ≤ 32 → LeavesAt c (Some (so s r)) d done new
    → LeavesAt c (Some (so s r)) d other end → Spares (unstruck d) (unstruck new) → Spares (unstruck d) (unstruck end) → Same done other new end
unfolding so
left-once c (Some cause) r d new end done other lives few h k fine well =
    answered-once (λ new. new ≡ d) (λ new. gave.Gone false) d new end done other (stays-leads d) h.1 k.1 h.0 k.0 fine well
left-once c None r d new end done other lives few h k fine well =
    answered-once _ (λ new. gave.Gone true) d new end done other (gone-leads c (so None r) d (lives refl) few) h.1 k.1 h.0 k.0 fine well

left-after : (c : ℕ) (s : Option Cause) (r : Resident) (d new : Desktop) (done : Done) → (s ≡ None → Lives c d.clients) → lasting d.clients ≤ 32 → LeavesAt c (Some (so s r)) d done new
    → After (unstruck d) (unstruck new)
unfolding so
left-after c (Some cause) r d new done lives few h = (stays-leads d).follows new h.1
left-after c None r d new done lives few h = (gone-leads c (so None r) d (lives refl) few).follows new h.1

leaves-once : (c : ℕ) (o : Option Resident) (d new end : Desktop) (done other : Done) → client_at c d ≡ o → lasting d.clients ≤ 32 → LeavesAt c o d done new → LeavesAt c o d other end
    → Spares (unstruck d) (unstruck new) → Spares (unstruck d) (unstruck end) → Same done other new end
unfolding so
leaves-once c None d new end done other is few h k fine well =
    answered-once (λ new. new ≡ d) (λ new. gave.Gone false) d new end done other (stays-leads d) h.1 k.1 h.0 k.0 fine well
leaves-once c (Some r) d new end done other is few h k fine well =
    left-once c r.peer.status r d new end done other (λ alive. record { there = r; is = is; alive = alive }) few h k fine well

pub leaves-after : (c : ℕ) (o : Option Resident) (d new : Desktop) (done : Done) → client_at c d ≡ o → lasting d.clients ≤ 32 → LeavesAt c o d done new → After (unstruck d) (unstruck new)
unfolding so
leaves-after c None d new done is few h = (stays-leads d).follows new h.1
leaves-after c (Some r) d new done is few h = left-after c r.peer.status r d new done (λ alive. record { there = r; is = is; alive = alive }) few h

-- ---- a client is written to, sent to or closed

-- what a change of it leaves there
abbrev pub held : Option Peer → ℕ → Resident → Desktop → Desktop
held None c r d = with_client c None d
held (Some q) c r d = with_client c (Some (with_peer q r)) d

pub changed-held : (R : Peer → Done → Option Peer → Type 0) (absent done : Done) (c : ℕ) (r : Resident) (d new : Desktop) → ChangesAt R absent c (Some r) d done new → (q : Option Peer)
    × R r.peer done q × (new ≡ held q c r d)
changed-held R absent done c r d new (None, h, e) = (None, h, e)
changed-held R absent done c r d new (Some q, h, e) = (Some q, h, e)

changes-once : (R : Peer → Done → Option Peer → Type 0) → ((p : Peer) (a b : Done) (q r : Option Peer) → R p a q → R p b r → (a ≡ b) × (q ≡ r))
    → (absent done other : Done) (c : ℕ) (o : Option Resident) (d new end : Desktop) → ChangesAt R absent c o d done new → ChangesAt R absent c o d other end → Same done other new end
unfolding Same
changes-once R once absent done other c None d new end h k = (h.0 ∙ sym k.0, h.1 ∙ sym k.1)
changes-once R once absent done other c (Some r) d new end h k =
    let first = changed-held R absent done c r d new h in
    let second = changed-held R absent other c r d end k in
    let same = once r.peer done other first.0 second.0 first.1 second.1 in
    (same.0, first.2 ∙ ap (λ q. held q c r d) same.1 ∙ sym second.2)

held-long : (q : Option Peer) (c : ℕ) (r : Resident) (d : Desktop) → length (held q c r d).clients ≡ length d.clients
held-long None c r d = number-long d.clients c None
held-long (Some q) c r d = number-long d.clients c (Some (with_peer q r))

changes-long : (R : Peer → Done → Option Peer → Type 0) (absent done : Done) (c : ℕ) (o : Option Resident) (d new : Desktop) → ChangesAt R absent c o d done new → length new.clients ≡ length d.clients
changes-long R absent done c None d new h = ap (λ x. length x.clients) h.1
changes-long R absent done c (Some r) d new h =
    let is = changed-held R absent done c r d new h in ap (λ x. length x.clients) is.2 ∙ held-long is.0 c r d

stored_once : (store at : ℕ) (bytes : List ℕ) (p : Peer) (a b : Done) (q r : Option Peer) → IsStored store at bytes p a q → IsStored store at bytes p b r → (a ≡ b) × (q ≡ r)
stored_once store at bytes p a b q r h k = (h.1 ∙ sym k.1, h.0 ∙ sym k.0)

sent_once : (n : ℕ) (p : Peer) (a b : Done) (q r : Option Peer) → IsSent n p a q → IsSent n p b r → (a ≡ b) × (q ≡ r)
sent_once n p a b q r h k = (h.1 ∙ sym k.1, h.0 ∙ sym k.0)

closed_once : (p : Peer) (a b : Done) (q r : Option Peer) → IsClosed p a q → IsClosed p b r → (a ≡ b) × (q ≡ r)
closed_once p a b q r h k = (h.1 ∙ sym k.1, h.0 ∙ sym k.0)

-- ---- all of them

pub few-of : (d : Desktop) → length d.clients ≤ 32 → lasting d.clients ≤ 32
few-of d short = omega (arith, lasting-within d.clients, short)

pub motion-leads : (time : ℕ) (x y : ℤ) (d : Desktop) → length d.clients ≤ 32 → Leads Desktop unstruck (unstruck d) (MovesTo time (point_in d.output x y) d)
motion-leads time x y d short = moves-leads time (point_in d.output x y) d (few-of d short)

pub one_run : OneRun
unfolding Same
one_run Connect done other d new end short h k fine well = connects-once (lowest d.clients) d new end done other h k fine well
one_run (Feed c piece) done other d new end short h k fine well = fed-once c piece (client_at c d) d new end done other refl (few-of d short) h k fine.1 well.1
one_run (Store c store at bytes) done other d new end short h k fine well =
    changes-once (IsStored store at bytes) (stored_once store at bytes) _ done other c (client_at c d) d new end h k
one_run (Leave c) done other d new end short h k fine well = leaves-once c (client_at c d) d new end done other refl (few-of d short) h k fine.1 well.1
one_run (Tick time) done other d new end short h k fine well =
    answered-once (Shows time d) (λ new. gave.Tick) d new end done other (shows-leads time d (few-of d short)) h.1 k.1 h.0 k.0 fine.1 well.1
one_run (Send c n) done other d new end short h k fine well = changes-once (IsSent n) (sent_once n) _ done other c (client_at c d) d new end h k
one_run (Close c) done other d new end short h k fine well = changes-once IsClosed closed_once _ done other c (client_at c d) d new end h k
one_run (Motion time x y) done other d new end short h k fine well =
    answered-once (MovesTo time (point_in d.output x y) d) (λ new. gave.Motion) d new end done other (motion-leads time x y d short) h.1 k.1 h.0 k.0 fine.1 well.1
one_run (Button time button pressed) done other d new end short h k fine well =
    answered-once (Buttons pressed time button d) (λ new. gave.Button) d new end done other (buttons-leads pressed time button d (few-of d short)) h.1 k.1 h.0 k.0 fine.1 well.1

-- there are as many numbers as before
pub happens-long : (act : Act) (done : Done) (d new : Desktop) → length d.clients ≤ 32 → Happens act done d new → length new.clients ≡ length d.clients
happens-long Connect done d new short h = connects-long (lowest d.clients) d new done h
happens-long (Feed c piece) done d new short h = (fed-after c piece (client_at c d) d new done refl (few-of d short) h).long
happens-long (Store c store at bytes) done d new short h = changes-long (IsStored store at bytes) _ done c (client_at c d) d new h
happens-long (Leave c) done d new short h = (leaves-after c (client_at c d) d new done refl (few-of d short) h).long
happens-long (Tick time) done d new short h = ((shows-leads time d (few-of d short)).follows new h.1).long
happens-long (Send c n) done d new short h = changes-long (IsSent n) _ done c (client_at c d) d new h
happens-long (Close c) done d new short h = changes-long IsClosed _ done c (client_at c d) d new h
happens-long (Motion time x y) done d new short h = ((motion-leads time x y d short).follows new h.1).long
happens-long (Button time button pressed) done d new short h = ((buttons-leads pressed time button d (few-of d short)).follows new h.1).long

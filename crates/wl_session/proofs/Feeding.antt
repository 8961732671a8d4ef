-- A piece of a client's stream, message by message.
use Rattle.std.proofs.Common.{◌≡◌, ℕ, zero, suc, List, ◌++◌, Option, Some, None, refl, ap, sym, subst, ◌∙◌, inl, inr}
use Rattle.spec_desktop.specs.declared.cause.Cause.{Cause}
use Rattle.spec_desktop.specs.declared.cause.Cause.TheVariants.{Memory}
use Rattle.spec_desktop.specs.Peer.{Peer, ended, with_rest}
use Rattle.spec_desktop.specs.Stacking.{without_client}
use Rattle.spec_desktop.specs.Act.{fed_of, peer_at, peer_of, status_of}
use Rattle.spec_desktop.specs.declared.answers.Done.TheVariants as gave
use Rattle.spec_desktop.specs.declared.answers.Fed.{Fed}
use Rattle.spec_desktop.specs.Desktop.{Desktop, Resident, become_by, client_at, resident_of, with_client, status_in, status_of as ended_in}
use Rattle.spec_desktop.specs.Happenings.{StarvesAt}
use Rattle.spec_desktop.specs.Happens.{FeedsAt, IsFedAt, Reaches, StopsAt}
use Rattle.spec_desktop.specs.Settling.{EndsAndSettles, after_status, becomes, pointer_without, unstruck}
use Rattle.spec_desktop.specs.Step.{with_peer}
use Rattle.law_desktop.proofs.Runs.Forms.{ServesAt}
use Rattle.law_desktop.proofs.Runs.Places.{number-same, number-twice}
use Rattle.law_desktop.proofs.Runs.Through.{settling-without}
use Rattle.wl_desk.specs.Feeding.{IsIdleIn, IsIdleOf, kept_at, kept_by, kept_of}
use Rattle.wl_session.proofs.There.{IsThere, becomes-there, reaches-there, settles-there}

-- ---- nothing is taken

-- nobody is there
pub no-message-none : (c n : ℕ) (d new : Desktop) → client_at c d ≡ None → Reaches c n d new → (n ≡ zero) × (new ≡ d)
no-message-none c zero d new none h = (refl, h)
no-message-none c (suc n) d new none h =
    let same = (no-message-none c n d h.0 none h.1).1 in
    absurd (subst (λ (o : Option Resident). ServesAt c o h.0 new) (ap (λ (x : Desktop). client_at c x) same ∙ none) h.2)

-- the client ended
pub no-message-ended : (c n : ℕ) (s : Cause) (r : Resident) (d new : Desktop) → client_at c d ≡ Some r → r.peer.status ≡ Some s → Reaches c n d new → (n ≡ zero) × (new ≡ d)
no-message-ended c zero s r d new there over h = (refl, h)
no-message-ended c (suc n) s r d new there over h =
    let same = (no-message-ended c n s r d h.0 there over h.1).1 in
    let served : ServesAt c (Some r) h.0 new =
    subst (λ (o : Option Resident). ServesAt c o h.0 new) (ap (λ (x : Desktop). client_at c x) same ∙ there) h.2 in
    let clash : Some s ≡ None = sym over ∙ served.0 in
    absurd (cc)

-- ---- what a piece makes

-- how a client is that is there
fed-as : (c : ℕ) (d : Desktop) → IsThere c d → gave.Feed (status_of (peer_at c d)) ≡ gave.Feed (fed_of (status_in c d))
fed-as c d there = ap (λ (o : Option Resident). gave.Feed (status_of (peer_of o))) there.1 ∙ sym (ap (λ (o : Option Resident). gave.Feed (fed_of (ended_in o))) there.1)

-- it was kept, and each message was taken
pub fed-served : (c n : ℕ) (piece : List ℕ) (d mid : Desktop) (answer : Fed) → Reaches c n (kept_at c piece d) mid → IsIdleIn c mid → answer ≡ status_of (peer_at c mid)
    → IsFedAt c piece (client_at c d) d (gave.Feed answer) mid
fed-served c n piece d mid answer reaches idle told =
    subst (λ (f : Fed). IsFedAt c piece (client_at c d) d (gave.Feed f) mid) (sym told) (at (client_at c d) refl reaches)
  where
    at : (o : Option Resident) → client_at c d ≡ o → Reaches c n (kept_of c piece o d) mid → IsFedAt c piece o d (gave.Feed (status_of (peer_at c mid))) mid
    at None is reaches =
        let same = (no-message-none c n d mid is reaches).1 in
        (ap (λ (x : Desktop). gave.Feed (status_of (peer_at c x))) same ∙ ap (λ (o : Option Resident). gave.Feed (status_of (peer_of o))) is, same)
    at (Some r) is reaches = by r.peer.status refl reaches
      where
        by : (s : Option Cause) → r.peer.status ≡ s → Reaches c n (kept_by c piece s r d) mid
            → FeedsAt c piece s r d mid × (gave.Feed (status_of (peer_at c mid)) ≡ gave.Feed (fed_of (status_in c mid)))
        by (Some s) e reaches =
            let same = (no-message-ended c n s r d mid is e reaches).1 in
            (same, fed-as c mid (r, ap (λ (x : Desktop). client_at c x) same ∙ is))
        by None e reaches =
            let come : Resident = with_peer (with_rest (r.peer.rest ++ piece) r.peer) r in
            let there = reaches-there c n (kept_by c piece None r d) mid (come, number-same d.clients c (Some come) r is) reaches in (
              (n, mid, reaches, subst (λ (o : Option Resident). StopsAt c o mid mid) (sym there.1) (inl (refl, subst (λ (o : Option Resident). IsIdleOf o) there.1 idle))),
              fed-as c mid there,
            )

-- To end with a piece behind what came before is to end without it.
ends-alike : (c : ℕ) (come r : Resident) (over : Peer) (cause : Cause) (d : Desktop) → over.status ≡ Some cause → becomes c come over (with_client c (Some come) d) ≡ becomes c r over d
ends-alike c come r over cause d is = at over.status is
  where
    at : (s : Option Cause) → s ≡ Some cause → after_status s c (become_by s c come over (with_client c (Some come) d)) ≡ after_status s c (become_by s c r over d)
    at None e = absurd (cc)
    at (Some why) e =
        ap (λ (clients : List (Option Resident)). record d { clients = clients; standing = without_client c d.standing; pointer = pointer_without c d.pointer })
        (number-twice d.clients c (Some (resident_of over)) (Some come))

-- there was no memory to keep it
pub fed-starved : (c : ℕ) (piece : List ℕ) (d : Desktop) (path : List Desktop) (e : Desktop) (answer : Fed) → StarvesAt c (client_at c d) d path e → answer ≡ status_of (peer_at c e)
    → IsFedAt c piece (client_at c d) d (gave.Feed answer) e
fed-starved c piece d path e answer starves told =
    subst (λ (f : Fed). IsFedAt c piece (client_at c d) d (gave.Feed f) e) (sym told) (at (client_at c d) refl starves)
  where
    at : (o : Option Resident) → client_at c d ≡ o → StarvesAt c o d path e → IsFedAt c piece o d (gave.Feed (status_of (peer_at c e))) e
    at None is h = absurd h
    at (Some r) is h =
        let over : Peer = ended Memory r.peer in
        let settles : EndsAndSettles (unstruck (becomes c r over d)) e = settling-without path e (unstruck (becomes c r over d)) h.1 in
        let come : Resident = with_peer (with_rest (r.peer.rest ++ piece) r.peer) r in
        let held : Desktop = with_client c (Some come) d in
        let later : EndsAndSettles (unstruck (becomes c come (ended Memory come.peer) held)) e =
        subst (λ (x : Desktop). EndsAndSettles (unstruck x) e) (sym (ends-alike c come r over Memory d refl)) settles in
        let stops : StopsAt c (Some come) held e = inr (h.0, later) in
        let feeds : FeedsAt c piece None r d e =
        (zero, held, refl, subst (λ (o : Option Resident). StopsAt c o held e) (sym (number-same d.clients c (Some come) r is)) stops) in (
          subst (λ (s : Option Cause). FeedsAt c piece s r d e) (sym h.0) feeds,
          fed-as c e (settles-there c (unstruck (becomes c r over d)) e (becomes-there c r r over d is) settles),
        )

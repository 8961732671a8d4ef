-- A client that ended stays so until its number is given back.
use Rattle.std.proofs.Common.{◌≡◌, ◌≢◌, ℕ, zero, suc, List, [], ◌∷◌, length, Bool, true, false, Option, Some, None, refl, ap, subst, sym, ◌∙◌, arith, inl, inr}
use Rattle.std.proofs.lemmas.Option.{none-some, same_Some}
use Rattle.std.specs.Prelude.{◌+◌, ◌⊎◌, drop, if◌then◌else◌, nat_le}
use Rattle.wl_store.specs.Stores.{write_refusal}
use Rattle.wl_store.specs.declared.stores.StoreError.{StoreError}
use Rattle.spec_desktop.specs.declared.cause.Cause.{Cause}
use Rattle.spec_desktop.specs.Peer.{Peer, sent_by, stored_at, stored_by}
use Rattle.spec_desktop.specs.declared.answers.Done.{Done}
use Rattle.spec_desktop.specs.Desktop.{Desktop, Resident, arrival, client_at, client_in, place, with_client, with_number, with_place, status_in, status_of}
use Rattle.spec_desktop.specs.Step.{with_peer}
use Rattle.spec_desktop.specs.Act.{Connect, Feed, Store, Leave, Tick, Send, Close, Motion, Button, IsClosed, IsSent, IsStored, lowest, next_of}
use Rattle.law_desktop.proofs.Runs.Forms.{ConnectsAt, ChangesAt}
use Rattle.law_desktop.specs.RunLaws.{EndsStay}
use Rattle.law_desktop.proofs.Runs.Places.{number-other, number-same}
use Rattle.law_desktop.proofs.Runs.OneRun.{changed-held, fed-after, few-of, held, leaves-after, motion-leads}
use Rattle.law_desktop.proofs.Runs.Fates.{same-or}
use Rattle.law_desktop.proofs.Runs.Moves.{buttons-leads, shows-leads}

-- ---- a client connects

-- who comes takes no other's place
comes-apart : (rs : List (Option Resident)) (k : ℕ) (x : Option Resident) → lowest rs ≡ Some k → (j : ℕ) (why : Cause) → status_of (place rs j) ≡ Some why
    → status_of (place (with_place k x rs) j) ≡ Some why
comes-apart [] k x e j why is = is
comes-apart (None ∷ rs) zero x e zero why is = absurd (none-some why is)
comes-apart (None ∷ rs) zero x e (suc j) why is = is
comes-apart (None ∷ rs) (suc k) x e j why is = absurd (cc)
comes-apart (Some r ∷ rs) k x e j why is = at (lowest rs) e (λ m free. comes-apart rs m x free)
  where
    further : (m : ℕ) → ((j : ℕ) (why : Cause) → status_of (place rs j) ≡ Some why → status_of (place (with_place m x rs) j) ≡ Some why)
        → (j : ℕ) → status_of (place (Some r ∷ rs) j) ≡ Some why → status_of (place (with_place (suc m) x (Some r ∷ rs)) j) ≡ Some why
    further m later zero is = is
    further m later (suc j) is = later j why is

    at : (o : Option ℕ) → next_of o ≡ Some k
        → ((m : ℕ) → o ≡ Some m → (j : ℕ) (why : Cause) → status_of (place rs j) ≡ Some why → status_of (place (with_place m x rs) j) ≡ Some why)
        → status_of (place (with_place k x (Some r ∷ rs)) j) ≡ Some why
    at None e later = absurd (none-some k e)
    at (Some m) e later =
        let same = same_Some (m + 1) k e in
        let next : suc m ≡ k = omega (arith, same) in
        subst (λ n. status_of (place (with_place n x (Some r ∷ rs)) j) ≡ Some why) next (further m (later m refl) j is)

connects-stay : (d new : Desktop) (done : Done) (c : ℕ) (why : Cause) → ConnectsAt (lowest d.clients) d done new → status_in c d ≡ Some why → status_in c new ≡ Some why
connects-stay d new done c why h is = at (lowest d.clients) refl h
  where
    stays : new ≡ d → status_in c new ≡ Some why
    stays e = ap (λ x. status_in c x) e ∙ is

    apart : (k c : ℕ) → lowest d.clients ≡ Some k → status_of (client_in d.clients c) ≡ Some why → status_of (client_in (with_number (suc k) (Some (arrival d.output)) d.clients) c) ≡ Some why
    apart k zero free is = absurd (none-some why is)
    apart k (suc j) free is = comes-apart d.clients k (Some (arrival d.output)) free j why is

    at : (o : Option ℕ) → lowest d.clients ≡ o → ConnectsAt o d done new → status_in c new ≡ Some why
    at None free h = stays h.1
    at (Some k) free (inl h) = stays h.1
    at (Some k) free (inr h) =
        let next : suc k ≡ k + 1 = omega arith in
        ap (λ x. status_in c x) h.1
        ∙ subst (λ n. status_of (client_in (with_number n (Some (arrival d.output)) d.clients) c) ≡ Some why) next (apart k c free is)

-- ---- a client is written to, sent to or closed

-- what is left there has the status that was there, unless it is of the client that is closed
Leaves : ℕ → ℕ → Peer → Option Peer → Type 0
Leaves c other p q = ((x : Peer) × (q ≡ Some x) × (x.status ≡ p.status)) ⊎ (c ≢ other)

held-stay : (c other : ℕ) (q : Option Peer) (r : Resident) (d : Desktop) → client_at c d ≡ Some r → Leaves c other r.peer q → status_in other (held q c r d) ≡ status_in other d
unfolding Leaves
held-stay c other q r d is kept = at (same-or c other) kept
  where
    put : (x : Option Resident) → c ≢ other → status_in other (with_client c x d) ≡ status_in other d
    put x away = ap status_of (number-other d.clients c other x away)

    elsewhere : (q : Option Peer) → c ≢ other → status_in other (held q c r d) ≡ status_in other d
    elsewhere None away = put None away
    elsewhere (Some x) away = put (Some (with_peer x r)) away

    at : (c ≡ other) ⊎ (c ≢ other) → Leaves c other r.peer q → status_in other (held q c r d) ≡ status_in other d
    at (inr away) kept = elsewhere q away
    at (inl same) (inr away) = absurd (away same)
    at (inl same) (inl kept) =
        ap (λ q. status_in other (held q c r d)) kept.1
        ∙ subst (λ n. status_in n (with_client c (Some (with_peer kept.0 r)) d) ≡ status_in n d) same
        (ap status_of (number-same d.clients c (Some (with_peer kept.0 r)) r is) ∙ kept.2 ∙ sym (ap status_of is))

changes-stay : (R : Peer → Done → Option Peer → Type 0) (absent done : Done) (c other : ℕ) (o : Option Resident) (d new : Desktop) → client_at c d ≡ o
    → ((p : Peer) (q : Option Peer) → R p done q → Leaves c other p q) → ChangesAt R absent c o d done new → status_in other new ≡ status_in other d
changes-stay R absent done c other None d new is keeps h = ap (λ x. status_in other x) h.1
changes-stay R absent done c other (Some r) d new is keeps h =
    let left = changed-held R absent done c r d new h in
    ap (λ x. status_in other x) left.2 ∙ held-stay c other left.0 r d is (keeps r.peer left.0 left.1)

stored-by : (store at : ℕ) (bytes : List ℕ) (refusal : Option StoreError) (p : Peer) → (stored_by store at bytes refusal p).status ≡ p.status
stored-by store at bytes None p = refl
stored-by store at bytes (Some error) p = refl

pub stored-status : (s : Option Cause) (store at : ℕ) (bytes : List ℕ) (p : Peer) → (stored_at s store at bytes p).status ≡ p.status
stored-status None store at bytes p = stored-by store at bytes (write_refusal store at (length bytes) p.stores) p
stored-status (Some cause) store at bytes p = refl

pub sent-status : (n : ℕ) (p : Peer) → (sent_by n p).status ≡ p.status
sent-status n p = at (nat_le n (length p.unsent))
  where
    at : (b : Bool) → (if b then record p { unsent = drop n p.unsent } else p).status ≡ p.status
    at true = refl
    at false = refl

stored-leaves : (c other store at : ℕ) (bytes : List ℕ) (p : Peer) (done : Done) (q : Option Peer) → IsStored store at bytes p done q → Leaves c other p q
unfolding Leaves
stored-leaves c other store at bytes p done q h = inl (stored_at p.status store at bytes p, h.0, stored-status p.status store at bytes p)

sent-leaves : (c other n : ℕ) (p : Peer) (done : Done) (q : Option Peer) → IsSent n p done q → Leaves c other p q
unfolding Leaves
sent-leaves c other n p done q h = inl (sent_by n p, h.0, sent-status n p)

closed-leaves : (c other : ℕ) (p : Peer) (done : Done) (q : Option Peer) → c ≢ other → IsClosed p done q → Leaves c other p q
unfolding Leaves
closed-leaves c other p done q away h = inr away

-- ---- all of them

pub ends_stay : EndsStay
ends_stay Connect done d new c why short h kept is = connects-stay d new done c why h is
ends_stay (Feed a piece) done d new c why short h kept is = (fed-after a piece (client_at a d) d new done refl (few-of d short) h).keeps c why is
ends_stay (Store a store at bytes) done d new c why short h kept is =
    changes-stay (IsStored store at bytes) _ done a c (client_at a d) d new refl (λ p q stored. stored-leaves a c store at bytes p done q stored) h ∙ is
ends_stay (Leave a) done d new c why short h kept is = (leaves-after a (client_at a d) d new done refl (few-of d short) h).keeps c why is
ends_stay (Tick time) done d new c why short h kept is = ((shows-leads time d (few-of d short)).follows new h.1).keeps c why is
ends_stay (Send a n) done d new c why short h kept is = changes-stay (IsSent n) _ done a c (client_at a d) d new refl (λ p q sent. sent-leaves a c n p done q sent) h ∙ is
ends_stay (Close a) done d new c why short h kept is =
    changes-stay IsClosed _ done a c (client_at a d) d new refl (λ p q closed. closed-leaves a c p done q (λ e. kept (ap (λ n. Close n) e)) closed) h ∙ is
ends_stay (Motion time x y) done d new c why short h kept is = ((motion-leads time x y d short).follows new h.1).keeps c why is
ends_stay (Button time button pressed) done d new c why short h kept is =
    ((buttons-leads pressed time button d (few-of d short)).follows new h.1).keeps c why is

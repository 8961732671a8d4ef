-- What is said of every client, where nobody points: one client changes, ends, comes or goes.
use Rattle.std.proofs.Common.{◌≡◌, ◌≢◌, ◌≤◌, ℕ, zero, suc, ◌+◌, List, [], ◌∷◌, Bool, true, false, Option, Some, None, refl, ap, sym, subst, ◌∙◌, arith}
use Rattle.std.specs.Prelude.{◌==◌, filter, not, replicate}
use Rattle.std.proofs.lemmas.Bool.{eqb-false, eqb-true}
use Rattle.std.proofs.lemmas.Option.{none-some, same_Some}
use Rattle.spec_desktop.specs.declared.cause.Cause.{Cause}
use Rattle.spec_desktop.specs.Peer.{Peer, ended}
use Rattle.spec_desktop.specs.Told.{Output}
use Rattle.spec_desktop.specs.Pointer.{first_pointer}
use Rattle.spec_desktop.specs.Stacking.{Standing, without_client}
use Rattle.spec_desktop.specs.Act.{lowest, next_of}
use Rattle.spec_desktop.specs.Desktop.{Desktop, Resident, arrival, become, become_by, client_at, client_in, empty, place, resident_of, toplevels_of, with_client, with_number, with_place}
use Rattle.spec_desktop.specs.Framing.{done_due}
use Rattle.spec_desktop.specs.Settling.{EndsAndSettles, becomes, unstruck}
use Rattle.spec_desktop.specs.Step.{with_peer}
use Rattle.law_desktop.proofs.Isolation.Others.{left_out, one_client}
use Rattle.law_desktop.proofs.Isolation.Settling.{none_of}
use Rattle.law_desktop.proofs.Runs.Places.{number-other, number-same}
use Rattle.law_desktop.proofs.KeptRecords.Toplevels.Back.{settled-back}
use Rattle.law_desktop.proofs.KeptRecords.Toplevels.Serves.{becomes-same}

-- a client's peer changes in what isn't looked at
pub record IsPeerOf (r : Resident) (p : Peer) : Type 0 where
  pub objects : p.objects ≡ r.peer.objects
  pub buffers : p.buffers ≡ r.peer.buffers
  pub requests : r.peer.requests ≤ p.requests

-- `Absent` is said of the toplevels of a number without client, and `By` of a client with this status and with its toplevels.
abbrev pub At : (List Standing → Type 0) → (Option Cause → Resident → List Standing → Type 0) → Option Resident → List Standing → Type 0
At Absent By None tops = Absent tops
At Absent By (Some r) tops = By r.peer.status r tops

-- What is said so stays said as a client comes, ends, goes, as its peer changes, and as a frame is shown.
pub record IsKept (Absent : List Standing → Type 0) (By : Option Cause → Resident → List Standing → Type 0) : Type 0 where
  pub nobody : Absent []
  pub arrives : (output : Output) (tops : List Standing) → Absent tops → By None (arrival output) tops
  pub ends : (cause : Cause) (q : Peer) → By (Some cause) (resident_of q) []
  pub goes : (cause : Cause) (r : Resident) (tops : List Standing) → By (Some cause) r tops → Absent tops
  pub keeps : (s : Option Cause) (r : Resident) (p : Peer) (tops : List Standing) → IsPeerOf r p → By s r tops → By s (with_peer p r) tops
  pub framed : (r : Resident) (tops : List Standing) → By None r tops → By None (done_due r) tops

-- It is said of all of them, and the pointer isn't anywhere.
pub record AllAre (Absent : List Standing → Type 0) (By : Option Cause → Resident → List Standing → Type 0) (d : Desktop) : Type 0 where
  pub pointer : d.pointer ≡ first_pointer
  pub each : (c : ℕ) → At Absent By (client_at c d) (toplevels_of c d)

-- it is said of the others
pub AreOthers : (List Standing → Type 0) → (Option Cause → Resident → List Standing → Type 0) → ℕ → Desktop → Type 0
AreOthers Absent By c d = (other : ℕ) → c ≢ other → At Absent By (client_at other d) (toplevels_of other d)

module _ (Absent : List Standing → Type 0) (By : Option Cause → Resident → List Standing → Type 0) where
  pub others-of : (c : ℕ) (d : Desktop) → AllAre Absent By d → AreOthers Absent By c d
  unfolding AreOthers
  others-of c d all other differ = all.each other

  pub others-so : (c : ℕ) (d : Desktop) → ((other : ℕ) → c ≢ other → At Absent By (client_at other d) (toplevels_of other d)) → AreOthers Absent By c d
  unfolding AreOthers
  others-so c d others = others

  -- another client or none is there, and the others stand as before
  put-all : (c : ℕ) (x : Option Resident) (standing : List Standing) (d : Desktop) → d.pointer ≡ first_pointer → AreOthers Absent By c d
      → client_in (with_number c x d.clients) c ≡ x → At Absent By x (filter (λ s. s.client == c) standing)
      → ((other : ℕ) → c ≢ other → filter (λ s. s.client == other) standing ≡ toplevels_of other d)
      → AllAre Absent By (record d { clients = with_number c x d.clients; standing = standing })
  unfolding AreOthers
  put-all c x standing d still others there owns stay = record { pointer = still; each = λ other. at other (c == other) refl }
    where
      at : (other : ℕ) (b : Bool) → (c == other) ≡ b → At Absent By (client_in (with_number c x d.clients) other) (filter (λ s. s.client == other) standing)
      at other true e =
          subst (λ n. At Absent By (client_in (with_number c x d.clients) n) (filter (λ s. s.client == n) standing)) (eqb-true c other e)
          (subst (λ o. At Absent By o (filter (λ s. s.client == c) standing)) (sym there) owns)
      at other false e =
          subst (λ tops. At Absent By (client_in (with_number c x d.clients) other) tops) (sym (stay other (eqb-false c other e)))
          (subst (λ o. At Absent By o (toplevels_of other d)) (sym (number-other d.clients c other x (eqb-false c other e))) (others other (eqb-false c other e)))

  -- with the same toplevels
  pub with-all : (c : ℕ) (x : Option Resident) (d : Desktop) → AllAre Absent By d → client_in (with_number c x d.clients) c ≡ x → At Absent By x (toplevels_of c d)
      → AllAre Absent By (with_client c x d)
  with-all c x d all there owns = put-all c x d.standing d all.pointer (others-of c d all) there owns (λ other differ. refl)

  pub become-all : IsKept Absent By → (c : ℕ) (r there : Resident) (q : Peer) (d : Desktop) → client_at c d ≡ Some there → d.pointer ≡ first_pointer → AreOthers Absent By c d
      → (q.status ≡ None → By None (with_peer q r) (toplevels_of c d)) → AllAre Absent By (become c r q d)
  become-all kept c r there q d is still others owns = at q.status refl
    where
      at : (s : Option Cause) → q.status ≡ s → AllAre Absent By (become_by s c r q d)
      at None e =
          put-all c (Some (with_peer q r)) d.standing d still others (number-same d.clients c (Some (with_peer q r)) there is)
          (subst (λ s. By s (with_peer q r) (toplevels_of c d)) (sym e) (owns e)) (λ other differ. refl)
      at (Some cause) e =
          put-all c (Some (resident_of q)) (without_client c d.standing) d still others (number-same d.clients c (Some (resident_of q)) there is)
          (subst (λ s. By s (resident_of q) (filter (λ t. t.client == c) (without_client c d.standing))) (sym e)
          (subst (By (Some cause) (resident_of q)) (sym (none_of c d.standing)) (kept.ends cause q)))
          (λ other differ. left_out (λ s. not (s.client == c)) other (one_client c other differ) d.standing)

  -- one that ends leaves the others what they have
  pub ends-all : IsKept Absent By → (c : ℕ) (r there : Resident) (q : Peer) (d : Desktop) → client_at c d ≡ Some there → AllAre Absent By d → (q.status ≡ None → ⊥)
      → AllAre Absent By (become c r q d)
  ends-all kept c r there q d is all never = become-all kept c r there q d is all.pointer (others-of c d all) (λ alive. absurd (never alive))

  -- and is settled at once
  pub settled-all : IsKept Absent By → (c : ℕ) (cause : Cause) (r : Resident) (d e : Desktop) → client_at c d ≡ Some r → AllAre Absent By d
      → EndsAndSettles (unstruck (becomes c r (ended cause r.peer) d)) e → AllAre Absent By e
  settled-all kept c cause r d e is all h =
      let same = becomes-same c r (ended cause r.peer) d all.pointer in
      let last : e ≡ become c r (ended cause r.peer) d = settled-back (becomes c r (ended cause r.peer) d) e (ap (λ (x : Desktop). x.pointer) same ∙ all.pointer) h ∙ same in
      subst (AllAre Absent By) (sym last) (ends-all kept c r r (ended cause r.peer) d is all (λ alive. none-some cause (sym alive)))

  -- of a client that is there
  pub known-by : (c : ℕ) (r : Resident) (d : Desktop) → AllAre Absent By d → client_at c d ≡ Some r → By r.peer.status r (toplevels_of c d)
  known-by c r d all is = subst (λ o. At Absent By o (toplevels_of c d)) is (all.each c)

  pub lives-there : (c : ℕ) (r : Resident) (d : Desktop) → AllAre Absent By d → client_at c d ≡ Some r → r.peer.status ≡ None → By None r (toplevels_of c d)
  lives-there c r d all is alive = subst (λ s. By s r (toplevels_of c d)) alive (known-by c r d all is)

  -- no client at first
  pub empty-all : IsKept Absent By → (output : Output) → AllAre Absent By (empty output)
  empty-all kept output = record { pointer = refl; each = λ c. subst (λ o. At Absent By o []) (sym (nobody-there c)) kept.nobody }
    where
      none : (n k : ℕ) → place (replicate n None) k ≡ None
      none zero k = refl
      none (suc n) zero = refl
      none (suc n) (suc k) = none n k

      nobody-there : (c : ℕ) → client_at c (empty output) ≡ None
      nobody-there zero = refl
      nobody-there (suc k) = none 32 k

-- ---- a client comes

-- the lowest free number is free, and is taken
pub comes : (rs : List (Option Resident)) (k : ℕ) (x : Option Resident) → lowest rs ≡ Some k → (place rs k ≡ None) × (place (with_place k x rs) k ≡ x)
comes [] k x e = absurd (none-some k e)
comes (None ∷ rs) zero x e = (refl, refl)
comes (None ∷ rs) (suc k) x e = absurd (cc)
comes (Some r ∷ rs) k x e = at (lowest rs) e (λ m free. comes rs m x free)
  where
    at : (o : Option ℕ) → next_of o ≡ Some k → ((m : ℕ) → o ≡ Some m → (place rs m ≡ None) × (place (with_place m x rs) m ≡ x)) → (place (Some r ∷ rs) k ≡ None)
        × (place (with_place k x (Some r ∷ rs)) k ≡ x)
    at None e later = absurd (none-some k e)
    at (Some m) e later =
        let same = same_Some (m + 1) k e in
        let next : suc m ≡ k = omega (arith, same) in
        subst (λ (n : ℕ). (place (Some r ∷ rs) n ≡ None) × (place (with_place n x (Some r ∷ rs)) n ≡ x)) next (later m refl)

pub comes-at : (clients : List (Option Resident)) (k : ℕ) (x : Option Resident) → lowest clients ≡ Some k
    → (client_in clients (k + 1) ≡ None) × (client_in (with_number (k + 1) x clients) (k + 1) ≡ x)
comes-at clients k x e =
    let next : suc k ≡ k + 1 = omega arith in
    subst (λ (n : ℕ). (client_in clients n ≡ None) × (client_in (with_number n x clients) n ≡ x)) next (comes clients k x e)

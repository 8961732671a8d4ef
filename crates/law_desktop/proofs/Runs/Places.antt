-- What becomes of a client changes one place of the desktop.
use Rattle.std.proofs.Common.{◌≡◌, ◌≢◌, ℕ, zero, suc, List, [], ◌∷◌, Option, Some, None, refl, ap}
use Rattle.spec_desktop.specs.declared.cause.Cause.{Cause}
use Rattle.spec_desktop.specs.Peer.{Peer}
use Rattle.spec_desktop.specs.Desktop.{Desktop, Resident, become, become_by, client_at, client_in, place, resident_of, with_client, with_number, with_place, status_in, status_of}

place-same : (rs : List (Option Resident)) (k : ℕ) (x : Option Resident) (r : Resident) → place rs k ≡ Some r → place (with_place k x rs) k ≡ x
place-same [] k x r h = absurd (cc)
place-same (y ∷ rs) zero x r h = refl
place-same (y ∷ rs) (suc k) x r h = place-same rs k x r h

pub number-same : (clients : List (Option Resident)) (c : ℕ) (x : Option Resident) (r : Resident) → client_in clients c ≡ Some r → client_in (with_number c x clients) c ≡ x
number-same clients zero x r h = absurd (cc)
number-same clients (suc k) x r h = place-same clients k x r h

place-other : (rs : List (Option Resident)) (k j : ℕ) (x : Option Resident) → k ≢ j → place (with_place k x rs) j ≡ place rs j
place-other (r ∷ rs) zero zero x differ = absurd (differ refl)
place-other (r ∷ rs) (suc k) (suc j) x differ = place-other rs k j x (λ e. differ (ap (λ (n : ℕ). suc n) e))
place-other rs k j x differ = refl

pub number-other : (clients : List (Option Resident)) (c other : ℕ) (x : Option Resident) → c ≢ other → client_in (with_number c x clients) other ≡ client_in clients other
number-other clients c zero x differ = refl
number-other clients zero (suc j) x differ = refl
number-other clients (suc k) (suc j) x differ = place-other clients k j x (λ e. differ (ap (λ (n : ℕ). suc n) e))

place-twice : (rs : List (Option Resident)) (k : ℕ) (x y : Option Resident) → with_place k x (with_place k y rs) ≡ with_place k x rs
place-twice [] k x y = refl
place-twice (r ∷ rs) zero x y = refl
place-twice (r ∷ rs) (suc k) x y = ap (λ (qs : List (Option Resident)). r ∷ qs) (place-twice rs k x y)

pub number-twice : (clients : List (Option Resident)) (c : ℕ) (x y : Option Resident) → with_number c x (with_number c y clients) ≡ with_number c x clients
number-twice clients zero x y = refl
number-twice clients (suc k) x y = place-twice clients k x y

-- who was put there last is there
pub client-twice : (c : ℕ) (x y : Option Resident) (d : Desktop) → with_client c x (with_client c y d) ≡ with_client c x d
client-twice c x y d = ap (λ (clients : List (Option Resident)). record d { clients = clients }) (number-twice d.clients c x y)

place-kept : (rs : List (Option Resident)) (k : ℕ) → with_place k (place rs k) rs ≡ rs
place-kept [] k = refl
place-kept (r ∷ rs) zero = refl
place-kept (r ∷ rs) (suc k) = ap (λ (qs : List (Option Resident)). r ∷ qs) (place-kept rs k)

pub number-kept : (clients : List (Option Resident)) (c : ℕ) → with_number c (client_in clients c) clients ≡ clients
number-kept clients zero = refl
number-kept clients (suc k) = place-kept clients k

-- to put there who is there changes nothing
pub client-kept : (c : ℕ) (d : Desktop) → with_client c (client_at c d) d ≡ d
client-kept c d = ap (λ (clients : List (Option Resident)). record d { clients = clients }) (number-kept d.clients c)

-- what is left of a client that is told something
abbrev pub left_by : Option Cause → Resident → Peer → Resident
left_by None r q = record r { peer = q }
left_by (Some cause) r q = resident_of q

pub client-become : (s : Option Cause) (c : ℕ) (r : Resident) (q : Peer) (d : Desktop) (there : Resident) → client_at c d ≡ Some there → client_at c (become_by s c r q d) ≡ Some (left_by s r q)
client-become None c r q d there h = number-same d.clients c (Some (record r { peer = q })) there h
client-become (Some cause) c r q d there h = number-same d.clients c (Some (resident_of q)) there h

status-by : (s : Option Cause) (c : ℕ) (r : Resident) (q : Peer) (d : Desktop) (there : Resident) → client_at c d ≡ Some there → status_in c (become_by s c r q d) ≡ q.status
status-by None c r q d there h = ap status_of (client-become None c r q d there h)
status-by (Some cause) c r q d there h = ap status_of (client-become (Some cause) c r q d there h)

-- it has the status of its peer
pub status-become : (c : ℕ) (r : Resident) (q : Peer) (d : Desktop) (there : Resident) → client_at c d ≡ Some there → status_in c (become c r q d) ≡ q.status
status-become c r q d there h = status-by q.status c r q d there h

other-by : (s : Option Cause) (c other : ℕ) (r : Resident) (q : Peer) (d : Desktop) → c ≢ other → client_at other (become_by s c r q d) ≡ client_at other d
other-by None c other r q d differ = number-other d.clients c other (Some (record r { peer = q })) differ
other-by (Some cause) c other r q d differ = number-other d.clients c other (Some (resident_of q)) differ

-- no other client changes
pub other-become : (c other : ℕ) (r : Resident) (q : Peer) (d : Desktop) → c ≢ other → client_at other (become c r q d) ≡ client_at other d
other-become c other r q d differ = other-by q.status c other r q d differ

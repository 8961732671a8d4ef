-- The wl_pointers of each client after a message, where there was room for one more.
use Rattle.std.proofs.Common.{◌≡◌, ◌≢◌, ℕ, zero, suc, ◌<◌, ◌+◌, List, [], ◌∷◌, Bool, true, false, length, map, slice_index_or, slice_set, Option, Some, None, refl, ap, subst, sym, ◌∙◌, arith, ◌⊎◌, inl, inr}
use Rattle.std.proofs.lemmas.Bool.{true≢false}
use Rattle.std.specs.Prelude.{is_some}
use Rattle.spec_desktop.specs.declared.cause.Cause.{Cause}
use Rattle.spec_desktop.specs.Objects.{ById}
use Rattle.spec_desktop.specs.Changing.{in_rising_order}
use Rattle.spec_desktop.specs.Demand.{Demand, GetPointer}
use Rattle.spec_desktop.specs.Demand.{Move as MoveToplevel}
use Rattle.spec_desktop.specs.Desktop.{Desktop, Resident, client_at, status_in, status_of, unpointed}
use Rattle.spec_desktop.specs.Happenings.{Message}
use Rattle.spec_desktop.specs.Through.{ServesThrough}
use Rattle.law_desktop.specs.Pointed.Pointed.{asked}
use Rattle.law_desktop.specs.Pointed.Seats.{AskedForPointer, HadPointers, HasPointersAfter}
use Rattle.law_desktop.proofs.PointerAside.Pointing.{pointers-stay}
use Rattle.wl_requests.specs.declared.pointer_asked.PointerAsked.{PointerAsked}
use Rattle.wl_requests.specs.declared.pointer_asked.PointerAsked.TheVariants.{Nothing, NewPointer, Move}
use Rattle.wl_clients.specs.Pointing.{AsksOfPointer}
use Rattle.wl_desk.specs.Agreeing.{AreSeats}
use Rattle.wl_desk.specs.Seating.{HoldsAt, HoldsOf, added_at, added_of, seats_after}
use Rattle.wl_desk.specs.View.{seat_of}
use Rattle.wl_desk.proofs.Asking.{refused-ends}

-- ---- one client's among those of all

-- there is a place for it
abbrev pub IsPlaced : {X : Type 0} → ℕ → List X → Type 0
IsPlaced zero xs = ⊥
IsPlaced (suc k) xs = k < length xs

held-within : {V W : Type 0} (P : V → Type 0) (f : V → W) (k : ℕ) (vs : List V) → HoldsAt P k vs → k < length (map f vs)
held-within P f k [] h = absurd h
held-within P f zero (v ∷ vs) h = omega arith
held-within P f (suc k) (v ∷ vs) h = let less = held-within P f k vs h in omega (arith, less)

pub held-placed : {V W : Type 0} (P : V → Type 0) (f : V → W) (c : ℕ) (vs : List V) → HoldsOf P c vs → IsPlaced c (map f vs)
held-placed P f zero vs h = absurd h
held-placed P f (suc k) vs h = held-within P f k vs h

seat-here : (id k : ℕ) (seats : List (List ℕ)) → k < length seats → slice_index_or (added_at id k seats) k [] ≡ in_rising_order id (slice_index_or seats k [])
seat-here id k [] h = absurd (omega arith)
seat-here id zero (ids ∷ seats) h = refl
seat-here id (suc k) (ids ∷ seats) h = seat-here id k seats (omega arith)

seat-other : (id k j : ℕ) (seats : List (List ℕ)) → k ≢ j → slice_index_or (added_at id k seats) j [] ≡ slice_index_or seats j []
seat-other id k j [] apart = refl
seat-other id zero zero (ids ∷ seats) apart = absurd (apart refl)
seat-other id zero (suc j) (ids ∷ seats) apart = refl
seat-other id (suc k) zero (ids ∷ seats) apart = refl
seat-other id (suc k) (suc j) (ids ∷ seats) apart = seat-other id k j seats (λ e. apart (ap suc e))

added-here : (id c : ℕ) (seats : List (List ℕ)) → IsPlaced c seats → seat_of (added_of id c seats) c ≡ in_rising_order id (seat_of seats c)
added-here id zero seats h = absurd h
added-here id (suc k) seats h = seat-here id k seats h

added-other : (id c other : ℕ) (seats : List (List ℕ)) → c ≢ other → seat_of (added_of id c seats) other ≡ seat_of seats other
added-other id zero other seats apart = refl
added-other id (suc k) zero seats apart = refl
added-other id (suc k) (suc j) seats apart = seat-other id k j seats (λ e. apart (ap suc e))

-- ---- where it is kept

module _ {V : Type 0} (P : V → Type 0) where
  held-set : (k : ℕ) (vs : List V) (v : V) → k < length vs → P v → HoldsAt P k (slice_set vs k v)
  held-set k [] v less h = absurd (omega arith)
  held-set zero (w ∷ vs) v less h = h
  held-set (suc k) (w ∷ vs) v less h = held-set k vs v (omega arith) h

  pub held-put : (c k : ℕ) (vs : List V) (v : V) → (c ≡ k + 1) × (k < length vs) → P v → HoldsOf P c (slice_set vs k v)
  held-put c k vs v place h =
      let number : suc k ≡ c = omega (arith, place.0) in subst (λ (n : ℕ). HoldsOf P n (slice_set vs k v)) number (held-set k vs v place.1 h)

  held-at : (k : ℕ) (vs : List V) (d : V) → HoldsAt P k vs → P (slice_index_or vs k d)
  held-at k [] d h = absurd h
  held-at zero (v ∷ vs) d h = h
  held-at (suc k) (v ∷ vs) d h = held-at k vs d h

  pub held-here : (c k : ℕ) (vs : List V) (d : V) → c ≡ k + 1 → HoldsOf P c vs → P (slice_index_or vs k d)
  held-here c k vs d place h = let number : c ≡ suc k = omega (arith, place) in held-at k vs d (subst (λ (n : ℕ). HoldsOf P n vs) number h)

  held-less : (k : ℕ) (vs : List V) → HoldsAt P k vs → k < length vs
  held-less k [] h = absurd h
  held-less zero (v ∷ vs) h = omega arith
  held-less (suc k) (v ∷ vs) h = let less = held-less k vs h in omega (arith, less)

  pub held-nowhere : (c : ℕ) (vs : List V) → HoldsOf P c vs → (c ≡ 0) ⊎ (length vs < c) → ⊥
  held-nowhere zero vs h none = absurd h
  held-nowhere (suc k) vs h (inl e) = absurd (omega (arith, e))
  held-nowhere (suc k) vs h (inr more) = let less = held-less k vs h in absurd (omega (arith, less, more))

module _ {V : Type 0} (f : V → List ℕ) where
  pub kept-put : (k : ℕ) (vs : List V) (d v : V) → k < length vs → f v ≡ f (slice_index_or vs k d) → map f (slice_set vs k v) ≡ map f vs
  kept-put k [] d v less same = absurd (omega arith)
  kept-put zero (w ∷ vs) d v less same = ap (λ (x : List ℕ). x ∷ map f vs) same
  kept-put (suc k) (w ∷ vs) d v less same = ap (λ (xs : List (List ℕ)). f w ∷ xs) (kept-put k vs d v (omega arith) same)

  added-set : (id k : ℕ) (vs : List V) (d v : V) → k < length vs → f v ≡ in_rising_order id (f (slice_index_or vs k d)) → map f (slice_set vs k v) ≡ added_at id k (map f vs)
  added-set id k [] d v less is = absurd (omega arith)
  added-set id zero (w ∷ vs) d v less is = ap (λ (x : List ℕ). x ∷ map f vs) is
  added-set id (suc k) (w ∷ vs) d v less is = ap (λ (xs : List (List ℕ)). f w ∷ xs) (added-set id k vs d v (omega arith) is)

  pub added-put : (room : Bool) (request : PointerAsked) (id c k : ℕ) (vs : List V) (d v : V) → room ≡ true → request ≡ NewPointer id → (c ≡ k + 1) × (k < length vs)
      → f v ≡ in_rising_order id (f (slice_index_or vs k d)) → map f (slice_set vs k v) ≡ seats_after room request c (map f vs)
  added-put room request id c k vs d v has asks place is =
      let number : suc k ≡ c = omega (arith, place.0) in
      added-set id k vs d v place.1 is ∙ ap (λ (n : ℕ). added_of id n (map f vs)) number
      ∙ sym (ap (λ (b : Bool). seats_after b request c (map f vs)) has ∙ ap (λ (r : PointerAsked). seats_after true r c (map f vs)) asks)

-- ---- by what was asked

seats-same : (room : Bool) (request : PointerAsked) (c other : ℕ) (seats : List (List ℕ)) → ((id : ℕ) → request ≡ NewPointer id → c ≢ other)
    → seat_of (seats_after room request c seats) other ≡ seat_of seats other
seats-same false request c other seats apart = refl
seats-same true Nothing c other seats apart = refl
seats-same true (NewPointer id) c other seats apart = added-other id c other seats (apart id refl)
seats-same true (Move surface serial) c other seats apart = refl

new-same : (id other : ℕ) → NewPointer id ≡ NewPointer other → id ≡ other
new-same id other e = cc

message-same : (c other : ℕ) → Message c ≡ Message other → c ≡ other
message-same c other e = cc

-- a new wl_pointer is asked for by get_pointer, unless that is refused
pub asks-by : (o : Option Demand) (request : PointerAsked) (numbers : ById ℕ) (id : ℕ) → AsksOfPointer numbers o request → request ≡ NewPointer id
    → (o ≡ None) ⊎ ((version : ℕ) × (o ≡ Some (GetPointer id version)))
asks-by None request numbers id asks is = inl refl
asks-by (Some (GetPointer other version)) request numbers id asks is = inr (version, ap (λ (n : ℕ). Some (GetPointer n version)) (new-same other id (sym asks ∙ is)))
asks-by (Some (MoveToplevel surface serial)) request numbers id asks is = let none : Move asks.0 serial ≡ NewPointer id = sym asks.2 ∙ is in absurd (cc)
asks-by (Some demand) request numbers id asks is = absurd (cc)

pub asks-new-pointer : (o : Option Demand) (request : PointerAsked) (numbers : ById ℕ) (id version : ℕ) → AsksOfPointer numbers o request → o ≡ Some (GetPointer id version)
    → request ≡ NewPointer id
asks-new-pointer o request numbers id version asks is = subst (λ (o : Option Demand). AsksOfPointer numbers o request) is asks

-- ---- after a message

module _ (c : ℕ) (request : PointerAsked) (room : Bool) (numbers : ById ℕ) (seats : List (List ℕ)) (d e : Desktop) (path : List Desktop) (are : AreSeats seats d)
    (leads : ServesThrough c (unpointed d) path e) (asks : AsksOfPointer numbers (asked c d) request)
    (no_room : (id : ℕ) → request ≡ NewPointer id → room ≡ false → is_some (status_in c e) ≡ true) (placed : room ≡ true → IsPlaced c seats) where
  never-both : (q : Resident) → client_at c e ≡ Some q → q.peer.status ≡ None → is_some (status_in c e) ≡ true → ⊥
  never-both q here alive ended =
      true≢false (sym ended ∙ ap (λ (o : Option Resident). is_some (status_of o)) here ∙ ap (λ (s : Option Cause). is_some s) alive)

  -- its client asked for none
  had : (other : ℕ) (q : Resident) → client_at other e ≡ Some q → q.peer.status ≡ None → HadPointers (Message c) (unpointed d) other q
      → seat_of (seats_after room request c seats) other ≡ q.pointers
  had other q here alive h =
      seats-same room request c other seats (λ id is same. at id same (asks-by (asked c d) request numbers id asks is)) ∙ are other h.0 h.1 h.2 ∙ sym h.3
    where
      at : (id : ℕ) → c ≡ other → (asked c d ≡ None) ⊎ ((version : ℕ) × (asked c d ≡ Some (GetPointer id version))) → ⊥
      at id same (inl none) =
          never-both q (subst (λ (n : ℕ). client_at n e ≡ Some q) (sym same) here) alive (refused-ends c d path e none leads)
      at id same (inr get) = h.4 id get.0 (ap Message same) (subst (λ (n : ℕ). asked n d ≡ Some (GetPointer id get.0)) same get.1)

  asked_for : (other : ℕ) (q : Resident) → client_at other e ≡ Some q → q.peer.status ≡ None → AskedForPointer (Message c) (unpointed d) other q
      → seat_of (seats_after room request c seats) other ≡ q.pointers
  asked_for other q here alive h =
      let same : c ≡ other = message-same c other h.5 in
      let is : request ≡ NewPointer h.1 =
      asks-new-pointer (asked c d) request numbers h.1 h.2 asks (subst (λ (n : ℕ). asked n d ≡ Some (GetPointer h.1 h.2)) (sym same) h.6) in
      subst (λ (n : ℕ). seat_of (seats_after room request c seats) n ≡ q.pointers) same
      (by room refl is (subst (λ (n : ℕ). client_at n e ≡ Some q) (sym same) here)
      ∙ ap (in_rising_order h.1) (are c h.0 (subst (λ (n : ℕ). client_at n d ≡ Some h.0) (sym same) h.3) h.4) ∙ sym h.7)
    where
      by : (b : Bool) → room ≡ b → request ≡ NewPointer h.1 → client_at c e ≡ Some q → seat_of (seats_after b request c seats) c ≡ in_rising_order h.1 (seat_of seats c)
      by false none is here = absurd (never-both q here alive (no_room h.1 is none))
      by true so is here =
          ap (λ (r : PointerAsked). seat_of (seats_after true r c seats) c) is ∙ added-here h.1 c seats (placed so)

  pub seats-keep : AreSeats (seats_after room request c seats) e
  seats-keep other q here alive = at (pointers-stay (Message c) (unpointed d) path e other q leads here alive)
    where
      at : HasPointersAfter (Message c) (unpointed d) other q → seat_of (seats_after room request c seats) other ≡ q.pointers
      at (inl h) = had other q here alive h
      at (inr (inl h)) = asked_for other q here alive h
      at (inr (inr h)) = let never = h.0 in absurd (cc)

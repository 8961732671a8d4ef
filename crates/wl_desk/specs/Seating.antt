-- The wl_pointers of one client, among those of all.
use Rattle.std.specs.Prelude.{ℕ, zero, suc, Bool, true, false, List, [], ◌∷◌}
use Rattle.spec_desktop.specs.Changing.{in_rising_order}
use Rattle.wl_requests.specs.declared.pointer_asked.PointerAsked.{PointerAsked}
use Rattle.wl_requests.specs.declared.pointer_asked.PointerAsked.TheVariants.{Nothing, NewPointer, Move}

-- it is so of the one that is kept at this place, or of the client with this number
abbrev pub HoldsAt : {V : Type 0} → (V → Type 0) → ℕ → List V → Type 0
HoldsAt P k [] = ⊥
HoldsAt P zero (v ∷ vs) = P v
HoldsAt P (suc k) (v ∷ vs) = HoldsAt P k vs

abbrev pub HoldsOf : {V : Type 0} → (V → Type 0) → ℕ → List V → Type 0
HoldsOf P zero vs = ⊥
HoldsOf P (suc k) vs = HoldsAt P k vs

-- one more wl_pointer with this id, at a place, or of a client
abbrev pub added_at : ℕ → ℕ → List (List ℕ) → List (List ℕ)
added_at id k [] = []
added_at id zero (ids ∷ seats) = in_rising_order id ids ∷ seats
added_at id (suc k) (ids ∷ seats) = ids ∷ added_at id k seats

abbrev pub added_of : ℕ → ℕ → List (List ℕ) → List (List ℕ)
added_of id zero seats = seats
added_of id (suc k) seats = added_at id k seats

-- the wl_pointers after a client asked this, where there is room for one more
abbrev pub seats_asked : PointerAsked → ℕ → List (List ℕ) → List (List ℕ)
seats_asked Nothing c seats = seats
seats_asked (NewPointer id) c seats = added_of id c seats
seats_asked (Move surface serial) c seats = seats

-- where there is none they stay
abbrev pub seats_after : Bool → PointerAsked → ℕ → List (List ℕ) → List (List ℕ)
seats_after false request c seats = seats
seats_after true request c seats = seats_asked request c seats

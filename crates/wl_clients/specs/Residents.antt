-- The clients of a desk, each with what it owns, by their places: that of number 1 stands first.
use Rattle.std.specs.Prelude.{ℕ, ◌-◌, zero, suc, List, Option, None, Some, Vec, map, slice_index_or}
use Rattle.std.specs.Borrow.{Fml, LendsIf, MutBor, RattleType}
use Rattle.std.specs.Vec.{with_item}
use Rattle.std.specs.declared.alloc.Allocator.{Ghosts}
use Rattle.std.specs.contracts.vec.Vec.{the_row as vec-row}
use Rattle.std.specs.contracts.option.Option.{the_row as option-row}
use Rattle.std.specs.Option.{option_map}
use Rattle.wl_client.specs.View.{ClientView}
use Rattle.wl_requests.specs.declared.residents.Resident.{Resident}
use Rattle.wl_requests.specs.contracts.residents.Resident.{the_row as resident-row}
use Rattle.wl_clients.specs.View.{OwnedView, owned_view}

-- what is kept of each client
abbrev pub client_views : {A : Type 0} → List (Option (Resident A)) → List (Option ClientView)
client_views {A} residents = map (option_map (λ (r : Resident A). r.client)) residents

-- what is kept of what each owns
abbrev pub owned_views : {A : Type 0} → List (Option (Resident A)) → List (Option OwnedView)
owned_views {A} residents = map (option_map (λ (r : Resident A). owned_view r)) residents

-- the one with this number, if it is there; there is no client 0
abbrev pub resident_at : {A : Type 0} → List (Option (Resident A)) → ℕ → Option (Resident A)
resident_at residents zero = None
resident_at residents (suc k) = slice_index_or residents k None

-- they are lent so that the one with this number may be changed: once that is over, it has the last value at its place, and without one all stays
abbrev pub lends_resident : (A : RattleType) (heap : Ghosts A.Denot) → MutBor (Vec (Option (Resident A.Denot)) A.Denot) → ℕ → Option (MutBor (Resident A.Denot)) → Fml
lends_resident A heap residents client r =
    LendsIf (vec-row (option-row (resident-row A heap)) A heap) (resident-row A heap) residents r (λ w. with_item residents.now (client - 1) (Some w)) residents.now

-- What a desk keeps, as plain values.
use Rattle.std.specs.Prelude.{ℕ, zero, suc, Bool, List, [], None, slice_index_or}
use Rattle.wl_paint.specs.Damage.{Damaged}
use Rattle.spec_desktop.specs.Pointer.{Pointer}
use Rattle.wl_clients.specs.declared.grabs.Latest.{Latest}
use Rattle.wl_clients.specs.View.{DeskView as ClientsView}

-- what is kept of the clients and of their windows; by the numbers of the clients from 1 the wl_pointers of each, in rising id, and the
-- serials of the latest press and release that it was told of; and the pointer
pub record DeskView : Type 0 where
  pub kept : ClientsView
  pub seats : List (List ℕ)
  pub latest : List Latest
  pub pointer : Pointer

-- what a desk keeps, what is to be painted again of the output, and whether the focus is known to be settled
pub record MarkedDesk : Type 0 where
  pub desk : DeskView
  pub damage : Damaged
  pub settled : Bool

-- the wl_pointers of the client with this number; there is no client 0
abbrev pub seat_of : List (List ℕ) → ℕ → List ℕ
seat_of seats zero = []
seat_of seats (suc k) = slice_index_or seats k []

-- a client that was told of no button yet
abbrev pub no_latest : Latest
no_latest = record { press = None; release = None }

-- the serials of the client with this number
abbrev pub latest_of : List Latest → ℕ → Latest
latest_of latest zero = no_latest
latest_of latest (suc k) = slice_index_or latest k no_latest

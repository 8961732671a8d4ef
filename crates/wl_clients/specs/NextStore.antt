-- Which of a client's live stores comes after which.
use Rattle.std.specs.Prelude.{ℕ, Option, Some, None}
use Rattle.wl_store.specs.Stores.{next_after}
use Rattle.spec_desktop.specs.Peer.{Peer}

-- the least number of a client's live store that is above this one
abbrev pub next_store_of : ℕ → Option Peer → Option ℕ
next_store_of number None = None
next_store_of number (Some p) = next_after number p.stores

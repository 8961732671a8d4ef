-- The bytes of a client's live store.
use Rattle.std.specs.Prelude.{ℕ, List, Option, Some, None}
use Rattle.wl_store.specs.Stores.{bytes_of}
use Rattle.spec_desktop.specs.Peer.{Peer}

-- the bytes of a client's store of this number, where both are live
abbrev pub store_bytes_of : ℕ → Option Peer → Option (List ℕ)
store_bytes_of store None = None
store_bytes_of store (Some p) = bytes_of store p.stores

-- What a message changes of a client whose surfaces use some of its buffers.
use Rattle.std.specs.Prelude.{ℕ, Bool, true, false, Option, Some, None}
use Rattle.wl_store.specs.Stores.{Stock}
use Rattle.spec_desktop.specs.declared.actions.Action.{Action}
use Rattle.spec_desktop.specs.declared.actions.Action.TheVariants.{DestroyBuffer}
use Rattle.spec_desktop.specs.Buffers.{Buffer}
use Rattle.spec_desktop.specs.Peer.{Peer, changed}

-- the buffer of a wl_buffer is used
abbrev pub has_used : (ℕ → Bool) → Option Buffer → Bool
has_used used None = false
has_used used (Some buffer) = used buffer.number

-- The wl_buffer goes. Its buffer lives on while a surface uses it, and with it the use of its store.
abbrev pub keeps_store : Bool → Stock → Peer → Peer
keeps_store true stores p = record p { stores = stores }
keeps_store false stores p = p

-- what an accepted message changes, where these numbers of buffers are used
abbrev pub changed_with : (ℕ → Bool) → Action → Peer → Peer
changed_with used (DestroyBuffer id store) p = keeps_store (has_used used (p.buffers id)) p.stores (changed (DestroyBuffer id store) p)
changed_with used action p = changed action p

-- The number of a wl_buffer determines it.
use Rattle.std.specs.Prelude.{ℕ, ◌≡◌, ◌≤◌, ◌⊎◌, Some, List, [], ◌∷◌}
use Rattle.spec_desktop.specs.Buffers.{Buffer as Made}
use Rattle.spec_desktop.specs.Objects.{ById}
use Rattle.spec_desktop.specs.Told.{Output}
use Rattle.wl_surface.specs.Request.{Buffer, Request, Attach}
use Rattle.wl_surface.specs.Surface.{Surface}
use Rattle.wl_surface.specs.Surfaces.{Surfaces}
use Rattle.spec_desktop.specs.declared.answers.Done.{Done}
use Rattle.spec_desktop.specs.Act.{Act}
use Rattle.spec_desktop.specs.Desktop.{Desktop, Resident, arrival, client_at, empty}
use Rattle.spec_desktop.specs.Happens.{Happens}
use Rattle.spec_desktop.specs.WlSurface.{buffer_of}
use Rattle.law_desktop.specs.RunLaws.{Lasts}

-- a request attaches this buffer (wayland.xml, wl_surface.attach)
abbrev pub Attaches : Buffer → Request → Type 0
Attaches b (Attach buffer x y) = buffer ≡ Some b
Attaches b request = ⊥

-- one of these requests does
abbrev pub IsAttachedBy : Buffer → List Request → Type 0
IsAttachedBy b [] = ⊥
IsAttachedBy b (request ∷ requests) = Attaches b request ⊎ IsAttachedBy b requests

-- it was attached to one of these surfaces
abbrev pub IsAttachedTo : Buffer → List Surface → Type 0
IsAttachedTo b [] = ⊥
IsAttachedTo b (s ∷ ss) = IsAttachedBy b s.history.requests ⊎ IsAttachedTo b ss

abbrev pub IsAttached : Buffer → Surfaces → Type 0
IsAttached b all = IsAttachedTo b all.surfaces

-- Of a client that made so many requests, with these wl_buffers by their ids and these surfaces: two buffers that were attached are the
-- same where they have one number; so are a buffer that was attached and a wl_buffer that is there, and so are two wl_buffers. No number is
-- past that of the last request, since a wl_buffer has the number of the request that made it (wayland.xml, wl_shm_pool.create_buffer).
pub record OneBuffer (requests : ℕ) (buffers : ById Made) (all : Surfaces) : Type 0 where
  pub attached_once : (a b : Buffer) → IsAttached a all → IsAttached b all → a.number ≡ b.number → a ≡ b
  pub named :
      (id : ℕ) (made : Made) (b : Buffer) → buffers id ≡ Some made → IsAttached b all → b.number ≡ made.number
      → b ≡ buffer_of id made
  pub made_once : (k l : ℕ) (a b : Made) → buffers k ≡ Some a → buffers l ≡ Some b → a.number ≡ b.number → k ≡ l
  pub attached_before : (b : Buffer) → IsAttached b all → b.number ≤ requests
  pub made_before : (id : ℕ) (made : Made) → buffers id ≡ Some made → made.number ≤ requests

-- a client has one buffer of each number
abbrev pub HasOneBuffer : Resident → Type 0
HasOneBuffer r = OneBuffer r.peer.requests r.peer.buffers r.owned.surfaces

-- each client of a desktop does
abbrev pub HaveOneBuffer : Desktop → Type 0
HaveOneBuffer d = (c : ℕ) (r : Resident) → client_at c d ≡ Some r → HasOneBuffer r

-- A client that has just connected does.
abbrev pub ArrivalHasOneBuffer : Type 0
ArrivalHasOneBuffer = (output : Output) → HasOneBuffer (arrival output)

-- Whatever happens leaves each client one buffer of each number.
abbrev pub HappensKeepsOneBuffer : Type 0
HappensKeepsOneBuffer =
    (act : Act) (done : Done) (old new : Desktop) → HaveOneBuffer old → Happens act done old new → HaveOneBuffer new

-- Whatever happens from a desktop without clients on, each client has one buffer of each number.
abbrev pub RunHasOneBuffer : Type 0
RunHasOneBuffer =
    (output : Output) (acts : List Act) (dones : List Done) (d : Desktop) → Lasts acts dones (empty output) d
    → HaveOneBuffer d

-- ---- what a surface has

abbrev pub IsAmong : Buffer → List Buffer → Type 0
IsAmong b [] = ⊥
IsAmong b (other ∷ others) = (b ≡ other) ⊎ IsAmong b others

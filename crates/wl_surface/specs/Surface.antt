-- One surface: what was asked of it, its role, and which buffers it has.
use Rattle.std.specs.Prelude.{ℕ, ◌==◌, Bool, true, false, ◌||◌, Option, Some, None, List, [], ◌∷◌, ◌++◌}
use Rattle.wl_surface.specs.Request.{Buffer, Request}
use Rattle.wl_surface.specs.declared.role.Role.{Role}
use Rattle.wl_surface.specs.State.{History, applied, apply, held, pending}

-- A surface, by the id of its wl_surface: what was asked of it, and its role, if it has one. It has
-- a role for life, and may be given the same one again (wayland.xml, wl_surface).
pub record Surface : Type 0 where
  pub id : ℕ
  pub history : History
  pub role : Option Role

-- a new surface, of which nothing was asked
abbrev pub new_surface : ℕ → Surface
new_surface id = record { id = id; history = record { requests = []; cut = 0 }; role = None }

abbrev pub with_role : Role → Surface → Surface
with_role role s = record s { role = Some role }

-- a surface with one request more
abbrev pub asking : Request → Surface → Surface
asking request s = record s { history = record s.history { requests = s.history.requests ++ request ∷ [] } }

-- a surface with its state taken up to its last commit
abbrev pub applying : Surface → Surface
applying s = record s { history = apply s.history }

-- the state names this buffer
abbrev pub names : ℕ → Option Buffer → Bool
names number None = false
names number (Some buffer) = buffer.number == number

-- A buffer is busy while it is the applied or the held buffer of a surface (wayland.xml, wl_buffer.release).
abbrev pub shows : ℕ → History → Bool
shows number h = names number (applied h).buffer || names number (held h).buffer

-- A surface has a buffer while it is its pending, held or applied one.
abbrev pub has : ℕ → History → Bool
has number h = names number (pending h).buffer || shows number h

abbrev pub listed : Option Buffer → List Buffer
listed None = []
listed (Some buffer) = buffer ∷ []

-- the buffers that a surface has
abbrev pub buffers_of : History → List Buffer
buffers_of h = listed (pending h).buffer ++ listed (held h).buffer ++ listed (applied h).buffer

abbrev pub is_there : Option Buffer → Bool
is_there None = false
is_there (Some buffer) = true

abbrev pub has_content : History → Bool
has_content h = is_there (pending h).buffer || (is_there (held h).buffer || is_there (applied h).buffer)

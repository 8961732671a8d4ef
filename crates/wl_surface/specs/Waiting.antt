-- The frame requests that wait, and the callbacks that they are for (wayland.xml, wl_surface.frame).
use Rattle.std.specs.Prelude.{ℕ, ◌≡◌, ◌==◌, ◌||◌, if◌then◌else◌, Bool, true, false, cond, not}
use Rattle.std.specs.Prelude.{Option, Some, None, List, [], ◌∷◌, ◌++◌, filter, find, map}
use Rattle.std.specs.List.{list_any}
use Rattle.std.specs.Option.{option_map}
use Rattle.wl_surface.specs.declared.frames.Waiting.{Waiting}
use Rattle.wl_surface.specs.FrameRequests.{frames_of}
use Rattle.wl_surface.specs.Kept.{held_list}
use Rattle.wl_surface.specs.Slots.{Numbered}
use Rattle.wl_surface.specs.State.{counting}
use Rattle.wl_surface.specs.Surface.{Surface}

-- a callback, by the number of its frame request among the client's
pub record Callback : Type 0 where
  pub number : ℕ
  pub id : ℕ

-- ---- what is kept

-- the request is of this surface
abbrev pub is_of : ℕ → Waiting → Bool
is_of surface w = w.surface == surface

-- the request after a commit of this surface, which holds it if it is the surface's
abbrev pub held_by : ℕ → Waiting → Waiting
held_by surface w = record w { is_held = w.is_held || is_of surface w }

-- the request after this surface is applied: if it is the surface's, it counts where it is held
abbrev pub applied_by : ℕ → Waiting → Waiting
applied_by surface w = record w { is_applied = if is_of surface w then w.is_held else w.is_applied }

-- the callbacks of a surface, in the order of their requests
abbrev pub callbacks_of : ℕ → List Waiting → List ℕ
callbacks_of surface frames = map (λ (w : Waiting). w.callback) (filter (is_of surface) frames)

-- the requests of the other surfaces
abbrev pub without_those_of : ℕ → List Waiting → List Waiting
without_those_of surface frames = filter (λ w. not (is_of surface w)) frames

-- the callback that is due next: of those that count, the first requested
abbrev pub next_of : List Waiting → Option ℕ
next_of frames = option_map (λ (w : Waiting). w.callback) (find (λ (w : Waiting). w.is_applied) frames)

abbrev pub without_next : List Waiting → List Waiting
without_next [] = []
without_next (w ∷ ws) = cond w.is_applied ws (w ∷ without_next ws)

-- ---- what it stands for

-- the numbers of a surface's frame requests: of all, of those up to its last commit, and of those
-- that count
abbrev pub frames_at : Option Surface → List ℕ
frames_at None = []
frames_at (Some s) = frames_of s.history.requests

abbrev pub held_at : Option Surface → List ℕ
held_at None = []
held_at (Some s) = frames_of (held_list s.history.requests)

abbrev pub applied_at : Option Surface → List ℕ
applied_at None = []
applied_at (Some s) = frames_of (counting s.history)

abbrev pub counted_at : Option Surface → List ℕ × List ℕ
counted_at at = (held_at at, applied_at at)

abbrev pub is_in : List ℕ → Callback → Bool
is_in numbers c = list_any (λ n. n == c.number) numbers

-- What is kept of a callback: its id, its surface, whether a commit came after its request, and
-- whether the request counts.
pub record IsWaiting (w : Waiting) (all : Numbered) (c : Callback) : Type 0 where
  pub id : w.callback ≡ c.id
  pub asked : (number : ℕ) → is_in (frames_at (all number)) c ≡ (number == w.surface)
  pub held : is_in (held_at (all w.surface)) c ≡ w.is_held
  pub applied : is_in (applied_at (all w.surface)) c ≡ w.is_applied

abbrev pub AreWaiting : List Waiting → Numbered → List Callback → Type 0
AreWaiting [] all [] = Unit {0}
AreWaiting (w ∷ ws) all (c ∷ cs) = IsWaiting w all c × AreWaiting ws all cs
AreWaiting [] all (c ∷ cs) = ⊥
AreWaiting (w ∷ ws) all [] = ⊥

-- neither a frame request nor a callback has this number
abbrev pub IsNewNumber : ℕ → Numbered → List Callback → Type 0
IsNewNumber n all cs =
    ((number : ℕ) → list_any (λ m. m == n) (frames_at (all number)) ≡ false) × (list_any (λ (c : Callback). n == c.number) cs ≡ false)

-- ---- what the next frame answers

-- no request that counts is for this callback
abbrev pub IsUndue : Numbered → Callback → Type 0
IsUndue all c = (number : ℕ) → is_in (applied_at (all number)) c ≡ false

abbrev pub AreUndue : Numbered → List Callback → Type 0
AreUndue all [] = Unit {0}
AreUndue all (c ∷ cs) = IsUndue all c × AreUndue all cs

-- The callback with this id is the first whose request counts. The others wait.
pub record IsNextDue (id : ℕ) (all : Numbered) (cs : List Callback) (frames : List Waiting) : Type 0 where
  pub before : List Callback
  pub callback : Callback
  pub after : List Callback
  pub all_are : cs ≡ before ++ callback ∷ after
  pub has_id : callback.id ≡ id
  pub undue : AreUndue all before
  pub surface : ℕ
  pub due : is_in (applied_at (all surface)) callback ≡ true
  pub others : AreWaiting frames all (before ++ after)

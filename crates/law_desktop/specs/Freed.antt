-- Which buffers a call frees that changed several surfaces of a client, by what it tells (wayland.xml, wl_buffer.release).
use Rattle.std.specs.Prelude.{ℕ, ◌≡◌, ◌==◌, ◌&&◌, not, true, cond, List, [], ◌∷◌, ◌++◌, count_by, find}
use Rattle.std.specs.List.{Contains, list_any}
use Rattle.wl_surface.specs.Request.{Buffer}
use Rattle.wl_surface.specs.Surface.{listed}
use Rattle.wl_surface.specs.Surfaces.{Surfaces, is_busy}
use Rattle.law_desktop.specs.TreeBuffersLaws.{has_number, shown_in}

-- of these buffers those of these numbers, one of each
abbrev pub freed_of : List ℕ → List Buffer → List Buffer
freed_of [] shown = []
freed_of (number ∷ numbers) shown = listed (find (λ b. b.number == number) shown) ++ freed_of numbers shown

-- The numbers are those of the buffers that were busy and aren't any more, each once; and each is that of one of the buffers shown, which
-- the old surfaces showed or were to show.
pub record AreFreedOf (numbers : List ℕ) (shown : List Buffer) (old new : Surfaces) : Type 0 where
  pub counted :
      (buffer : ℕ) → count_by (λ n. n == buffer) numbers ≡ cond (is_busy buffer old && not (is_busy buffer new)) 1 0
  pub showed : (b : Buffer) → Contains shown b → Contains (shown_in old) b
  pub among : (number : ℕ) → list_any (λ n. n == number) numbers ≡ true → has_number number shown ≡ true

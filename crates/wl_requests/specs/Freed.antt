-- Whether a buffer is freed.
use Rattle.std.specs.Prelude.{ℕ, ◌==◌, Bool, false, List, Option, Some, None}
use Rattle.std.specs.List.{list_any}
use Rattle.wl_surface.specs.Request.{Buffer}

-- its number is one of these
abbrev pub is_freed_in : List ℕ → Option Buffer → Bool
is_freed_in freed None = false
is_freed_in freed (Some b) = list_any (λ n. n == b.number) freed

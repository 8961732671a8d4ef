-- The wl_subsurfaces by the numbers of their surfaces.
use Rattle.std.specs.Prelude.{ℕ, ◌≡◌, ◌==◌, if◌then◌else◌, List, Option, None, slice_index_or}

-- this one is so of the surface of this number, and each other surface keeps its own
abbrev pub IsSetAt : ℕ → Option ℕ → List (Option ℕ) → List (Option ℕ) → Type 0
IsSetAt surface id old new =
    (number : ℕ) → slice_index_or new number None ≡ (if number == surface then id else slice_index_or old number None)

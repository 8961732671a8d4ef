-- Laws of surfaces.
use Rattle.std.specs.Prelude.{ℕ, ◌≡◌, List, [], ◌∷◌, ◌++◌}
use Rattle.wl_surface.specs.Request.{Request, Commit}
use Rattle.wl_surface.specs.State.{applied, apply, held, values}

-- A commit makes the pending state the held one, and applying the surface makes that the applied
-- one.
abbrev pub CommitTakesAll : Type 0
CommitTakesAll =
    (requests : List Request) (cut : ℕ)
    → (held (record { requests = requests ++ Commit ∷ []; cut = cut }) ≡ values requests)
    × (applied (apply (record { requests = requests ++ Commit ∷ []; cut = cut })) ≡ values requests)

-- The toplevels that stand, as they are kept.
use Rattle.std.proofs.Common.{◌≡◌, Bool, true, false, cond, List, [], ◌∷◌, Some, map, refl}
use Rattle.std.specs.List.{find}
use Rattle.std.specs.Option.{option_map}
use Rattle.spec_desktop.specs.Stacking.{Standing}
use Rattle.wl_scene.specs.Kept.{standing_of}
use Rattle.wl_scene.specs.declared.scene.Toplevel.{Toplevel}

-- the toplevel of a scene that passes
pub find-standing : (p : Standing → Bool) (ts : List Toplevel) → option_map standing_of (find (λ t. p (standing_of t)) ts) ≡ find p (map standing_of ts)
find-standing p [] = refl
find-standing p (t ∷ ts) = at (p (standing_of t)) (find-standing p ts)
  where
    at : (b : Bool) → option_map standing_of (find (λ t. p (standing_of t)) ts) ≡ find p (map standing_of ts)
        → option_map standing_of (cond b (Some t) (find (λ t. p (standing_of t)) ts)) ≡ cond b (Some (standing_of t)) (find p (map standing_of ts))
    at true later = refl
    at false later = later

-- The windows of the trees of several roots are told tree after tree.
use Rattle.std.proofs.Common.{◌≡◌, ◌<◌, ◌≤◌, ◌+◌, ℕ, List, ◌++◌, flat_map, length, take, ap, sym, ◌∙◌, arith}
use Rattle.std.specs.Prelude.{slice_index_or}
use Rattle.std.proofs.lemmas.List.{flat_map_more, length-append, take_more}
use Rattle.std.proofs.lemmas.List.Folds.{length-flat_map-take}

-- those of one root more
pub more-behind : {X Y : Type 0} (f : X → List Y) (xs : List X) (i : ℕ) (d : X) (was mid now : List Y) → i < length xs → mid ≡ was ++ flat_map f (take i xs)
    → now ≡ mid ++ f (slice_index_or xs i d) → now ≡ was ++ flat_map f (take (i + 1) xs)
more-behind f xs i d was mid now less so_far next =
    next
    ∙ (ap (λ ys. ys ++ f (slice_index_or xs i d)) so_far
    ∙ (flat_map_more f was (take i xs) (slice_index_or xs i d) ∙ ap (λ ps. was ++ flat_map f ps) (sym (take_more xs i d less))))

-- where all have room, those of the next root have
pub next-fits : {X Y : Type 0} (f : X → List Y) (xs : List X) (i : ℕ) (d : X) (was mid : List Y) (room now : ℕ) → i < length xs
    → mid ≡ was ++ flat_map f (take i xs) → length was + length (flat_map f xs) ≤ room → room ≤ now → length mid + length (f (slice_index_or xs i d)) ≤ now
next-fits f xs i d was mid room now less so_far fits kept =
    omega (arith, length-flat_map-take f xs i d less, ap length so_far ∙ length-append was (flat_map f (take i xs)))

-- Other windows of a toplevel are written over those that stand together, one by one.
use Rattle.std.proofs.Common.{◌≡◌, ℕ, ◌+◌, ◌<◌, ◌≤◌, List, [], ◌∷◌, ◌++◌, Bool, true, false, ap, ap₂, sym, ◌∙◌, length, get_or, set, map, take, drop, arith}
use Rattle.std.specs.Prelude.{cond, filter, not}
use Rattle.std.proofs.lemmas.List.{append_assoc, drop_at, drop_more, length-append, length-map, length-take-le, map-append, set_at, take_at, take_more}
use Rattle.wl_scene.specs.declared.stacked.Stacked.{Stacked}
use Rattle.wl_scene.specs.Stacked.{IsRun, in_place}
use Rattle.wl_scene.proofs.Places.{placed-run, run-read}

-- one more is written behind those that are
pub written-next : {X Y : Type 0} (f : Y → X) (ws : List Y) (i : ℕ) (d : Y) (start : ℕ) (xs now : List X) → i < length ws → start + length ws ≤ length xs
    → now ≡ take start xs ++ (map f (take i ws) ++ drop (start + i) xs)
    → set now (start + i) (f (get_or ws i d)) ≡ take start xs ++ (map f (take (i + 1) ws) ++ drop (start + (i + 1)) xs)
written-next {X} f ws i d start xs now less fits is =
    ap (λ (ys : List X). set ys (start + i) (f (get_or ws i d))) (is ∙ split)
    ∙ (set_at (take start xs ++ map f (take i ws)) (get_or xs (start + i) (f d)) (drop (start + i + 1) xs) (f (get_or ws i d)) (start + i) at
    ∙ (append_assoc (take start xs) (map f (take i ws)) (f (get_or ws i d) ∷ drop (start + i + 1) xs)
    ∙ ap (λ (ys : List X). take start xs ++ ys) (sym more)))
  where
    split : take start xs ++ (map f (take i ws) ++ drop (start + i) xs)
        ≡ (take start xs ++ map f (take i ws)) ++ get_or xs (start + i) (f d) ∷ drop (start + i + 1) xs
    split =
        ap (λ (ys : List X). take start xs ++ (map f (take i ws) ++ ys)) (drop_more xs (start + i) (f d) (omega (arith, less, fits)))
        ∙ sym (append_assoc (take start xs) (map f (take i ws)) (get_or xs (start + i) (f d) ∷ drop (start + i + 1) xs))

    at : length (take start xs ++ map f (take i ws)) ≡ start + i
    at =
        length-append (take start xs) (map f (take i ws))
        ∙ ap₂ (λ (m n : ℕ). m + n) (length-take-le start xs (omega (arith, fits))) (length-map (take i ws) f ∙ length-take-le i ws (omega (arith, less)))

    on : start + (i + 1) ≡ start + i + 1
    on = omega arith

    more : map f (take (i + 1) ws) ++ drop (start + (i + 1)) xs ≡ map f (take i ws) ++ f (get_or ws i d) ∷ drop (start + i + 1) xs
    more =
        ap₂ (λ (ys zs : List X). ys ++ zs) (ap (map f) (take_more ws i d less) ∙ map-append f (take i ws) (get_or ws i d ∷ [])) (ap (λ (n : ℕ). drop n xs) on)
        ∙ append_assoc (map f (take i ws)) (f (get_or ws i d) ∷ []) (drop (start + i + 1) xs)

-- others in the place of a run
over-run : (k n : ℕ) (below run above new : List Stacked) → length below ≡ k → length run ≡ n
    → take k (below ++ (run ++ above)) ++ (new ++ drop (k + n) (below ++ (run ++ above))) ≡ below ++ (new ++ above)
over-run k n below run above new b r =
    ap₂ (λ (ys zs : List Stacked). ys ++ (new ++ zs)) (take_at below (run ++ above) k b)
    (ap (λ (ys : List Stacked). drop (k + n) ys) (sym (append_assoc below run above))
    ∙ drop_at (below ++ run) above (k + n) (length-append below run ∙ omega (arith, b, r)))

pub run-over : (p : Stacked → Bool) (k n : ℕ) (new xs put : List Stacked) → IsRun p k n xs → put ≡ take k xs ++ (new ++ drop (k + n) xs) → put ≡ in_place p new xs
run-over p k n new xs put r e =
    e ∙ (ap (λ (ys : List Stacked). take k ys ++ (new ++ drop (k + n) ys)) r.whole
    ∙ (over-run k n r.below (r.first ∷ r.others) r.above new r.begins r.counted
    ∙ (sym (placed-run p new r.below r.first r.others r.above r.none_below r.is_first r.are_others r.none_above)
    ∙ ap (λ (ys : List Stacked). in_place p new ys) (sym r.whole))))

-- how many a run has
pub run-counted : (p : Stacked → Bool) (k n : ℕ) (xs : List Stacked) → IsRun p k n xs → length (filter p xs) ≡ n
run-counted p k n xs r =
    ap length (sym (run-read p k n xs r)) ∙ length-take-le n (drop k xs) long
  where
    long : n ≤ length (drop k xs)
    long = omega (arith, ap length (ap (drop k) r.whole ∙ drop_at r.below ((r.first ∷ r.others) ++ r.above) k r.begins), length-append (r.first ∷ r.others) r.above, r.counted)

-- ---- how many there are then

pub filter-shorter : {X : Type 0} (p : X → Bool) (xs : List X) → length (filter p xs) ≤ length xs
filter-shorter p [] = omega arith
filter-shorter p (x ∷ xs) = at (p x) (filter-shorter p xs)
  where
    at : (b : Bool) → length (filter p xs) ≤ length xs → length (cond b (x ∷ filter p xs) (filter p xs)) ≤ length (x ∷ xs)
    at true rest = omega (arith, rest)
    at false rest = omega (arith, rest)

-- with others in their place no more than the new ones come
pub placed-shorter : {X : Type 0} (p : X → Bool) (new xs : List X) → length (in_place p new xs) ≤ length xs + length new
placed-shorter p new [] = omega arith
placed-shorter p new (x ∷ xs) = at (p x) (placed-shorter p new xs)
  where
    at : (b : Bool) → length (in_place p new xs) ≤ length xs + length new
        → length (cond b (new ++ filter (λ y. not (p y)) xs) (x ∷ in_place p new xs)) ≤ length (x ∷ xs) + length new
    at true rest = omega (arith, length-append new (filter (λ y. not (p y)) xs), filter-shorter (λ y. not (p y)) xs)
    at false rest = omega (arith, rest)

-- The frame requests that wait.
use Rattle.std.proofs.Common.{◌≡◌, ℕ, suc, ◌+◌, ◌<◌, ◌≤◌, ◌==◌, ltb-false, ltb-true, zero, drop, map, take, ◌++◌, List, ◌∷◌, Bool, true, false, cond, Option, Some, None, length, refl, ap, sym, []}
use Rattle.std.proofs.Common.{◌∙◌, arith}
use Rattle.std.specs.Prelude.{find, nat_lt, not, position, remove, slice_index_or, slice_set}
use Rattle.std.specs.List.{position_or_len}
use Rattle.std.specs.Option.{option_map}
use Rattle.std.proofs.Math.Seq.{take-append_seam}
use Rattle.std.proofs.lemmas.List.{length-map}
use Rattle.wl_surface.specs.declared.frames.Waiting.{Waiting}
use Rattle.wl_surface.specs.Kept.{Kept}
use Rattle.wl_surface.specs.Slots.{Changes, Numbered, StandsAt}
use Rattle.wl_surface.specs.Request.{Frame}
use Rattle.wl_surface.specs.Surface.{Surface, asking}
use Rattle.wl_surface.specs.Waiting.{next_of, without_next}
use Rattle.wl_surface.proofs.Records.{For-unseen}

-- ---- a frame request, of which the surface keeps nothing

frame-stands : (n : ℕ) (slot : Option Kept) (at : Option Surface) → StandsAt slot at → StandsAt slot (option_map (asking (Frame n)) at)
frame-stands n None None t = tt
frame-stands n (Some k) None t = absurd t
frame-stands n None (Some s) t = absurd t
frame-stands n (Some k) (Some s) t = For-unseen k s (Frame n) refl refl refl refl refl t

pub frame-changes : (places : List (Option Kept)) (frames after : List Waiting) (number n : ℕ)
    → Changes (record { places = places; frames = frames }) (record { places = places; frames = after }) number (asking (Frame n))
frame-changes places frames after number n = record { stand = λ all stand other. at all other (other == number) (stand other); count = refl }
  where
    at : (all : Numbered) (other : ℕ) (b : Bool) → StandsAt (slice_index_or places other None) (all other)
        → StandsAt (slice_index_or places other None) (cond b (option_map (asking (Frame n)) (all other)) (all other))
    at all other true t = frame-stands n (slice_index_or places other None) (all other) t
    at all other false t = t

-- ---- the next one

abbrev pub is_next : Waiting → Bool
is_next w = w.is_applied

next-at : (ws : List Waiting) (w : Waiting) → position_or_len is_next ws < length ws → w ≡ slice_index_or ws (position_or_len is_next ws) w → (next_of ws ≡ Some w.callback)
    × (without_next ws ≡ remove ws (position_or_len is_next ws))
next-at [] w less at = absurd (omega arith)
next-at (x ∷ xs) w less at = by x.is_applied (next-at xs w) less at
  where
    by : (b : Bool) → (position_or_len is_next xs < length xs → w ≡ slice_index_or xs (position_or_len is_next xs) w → (next_of xs ≡ Some w.callback)
        × (without_next xs ≡ remove xs (position_or_len is_next xs))) → cond (not b) (1 + position_or_len is_next xs) 0 < suc (length xs)
        → w ≡ slice_index_or (x ∷ xs) (cond (not b) (1 + position_or_len is_next xs) 0) w
        → (option_map (λ (v : Waiting). v.callback) (cond b (Some x) (find is_next xs)) ≡ Some w.callback)
        × (cond b xs (x ∷ without_next xs) ≡ remove (x ∷ xs) (cond (not b) (1 + position_or_len is_next xs) 0))
    by true rest less at = (ap (λ (v : Waiting). Some v.callback) (sym at), refl)
    by false rest less at =
        let more : 1 + position_or_len is_next xs ≡ suc (position_or_len is_next xs) = omega arith in
        let e = rest (omega (arith, less)) (at ∙ ap (λ n. slice_index_or (x ∷ xs) n w) more) in
        (e.0, ap (λ ys. x ∷ ys) e.1 ∙ ap (λ n. remove (x ∷ xs) n) (sym more))

next-none : (ws : List Waiting) → length ws ≤ position_or_len is_next ws → (next_of ws ≡ None) × (without_next ws ≡ ws)
next-none [] e = (refl, refl)
next-none (x ∷ xs) e = by x.is_applied (next-none xs) e
  where
    by : (b : Bool) → (length xs ≤ position_or_len is_next xs → (next_of xs ≡ None) × (without_next xs ≡ xs)) → suc (length xs) ≤ cond (not b) (1 + position_or_len is_next xs) 0
        → (option_map (λ (v : Waiting). v.callback) (cond b (Some x) (find is_next xs)) ≡ None) × (cond b xs (x ∷ without_next xs) ≡ x ∷ xs)
    by true later e = absurd (omega (arith, e))
    by false later e = let rest = later (omega (arith, e)) in (rest.0, ap (λ ys. x ∷ ys) rest.1)

found-where : (b : Bool) (n k : ℕ) → cond b (Some n) None ≡ Some k → (b ≡ true) × (n ≡ k)
found-where true n k e = (refl, ap (λ (o : Option ℕ). or_zero o) e) where
  or_zero : Option ℕ → ℕ
  or_zero None = 0
  or_zero (Some m) = m
found-where false n k e = absurd (cc)

found-nowhere : (b : Bool) (n : ℕ) → cond b (Some n) None ≡ None → b ≡ false
found-nowhere true n e = absurd (cc)
found-nowhere false n e = refl

pub next-taken : (ws : List Waiting) (place : ℕ) (w : Waiting) → position is_next ws ≡ Some place → w ≡ slice_index_or ws place w → (next_of ws ≡ Some w.callback) × (without_next ws ≡ remove ws place)
next-taken ws place w e at =
    let found = found-where (nat_lt (position_or_len is_next ws) (length ws)) (position_or_len is_next ws) place e in
    let next = next-at ws w (ltb-true (position_or_len is_next ws) (length ws) found.0) (rw found.1 at) in
    (next.0, next.1 ∙ ap (λ n. remove ws n) found.1)

pub next-nowhere : (ws : List Waiting) → position is_next ws ≡ None → (next_of ws ≡ None) × (without_next ws ≡ ws)
next-nowhere ws e = next-none ws (ltb-false (position_or_len is_next ws) (length ws) (found-nowhere (nat_lt (position_or_len is_next ws) (length ws)) (position_or_len is_next ws) e))

-- ---- a loop that changes each element

pub mapped-set : {X : Type 0} (f : X → X) (xs : List X) (i : ℕ) (d : X) → i < length xs
    → slice_set (map f (take i xs) ++ drop i xs) i (f (slice_index_or (map f (take i xs) ++ drop i xs) i d)) ≡ map f (take (suc i) xs) ++ drop (suc i) xs
mapped-set f [] i d less = absurd (omega arith)
mapped-set f (x ∷ xs) zero d less = refl
mapped-set f (x ∷ xs) (suc i) d less = ap (λ ys. f x ∷ ys) (mapped-set f xs i d (omega (arith, less)))

-- the requests changed in their place
pub changed-all : (change : Waiting → Waiting) (before now frames : List Waiting) (len : ℕ) → now ≡ map change before → before ≡ frames → length before ≡ len
    → take len (now ++ drop (length now) frames) ≡ map change frames
changed-all change before now frames len e same long =
    ap (λ n. take n (now ++ drop (length now) frames)) (sym (ap length e ∙ length-map before change ∙ long)) ∙ take-append_seam now (drop (length now) frames)
    ∙ e ∙ ap (λ ws. map change ws) same

-- The damage of lists of requests, of either kind, and the first of it.
use Rattle.std.proofs.Common.{◌≡◌, ℕ, zero, suc, ◌+◌, ◌≤◌, ◌<◌, drop, List, [], ◌∷◌, ◌++◌, Bool, true, length, take, refl, ap, sym, ◌∙◌, arith}
use Rattle.std.proofs.lemmas.Bool.Decides.{nat_tests}
use Rattle.std.proofs.lemmas.Grind.{flat_map-append}
use Rattle.std.proofs.lemmas.List.{append-nil, drop-append-le, length-take, take-append-drop, take_all}
use Rattle.std.specs.Prelude.{nat_lt, ◌&&◌, ◌||◌, cond, flat_map}
use Rattle.std.specs.List.{list_any}
use Rattle.wl_geom.specs.declared.rect.Rect.{Rect}
use Rattle.wl_surface.specs.Request.{Request, Commit}
use Rattle.wl_surface.specs.State.{between, committed}

-- the damage since a place, with one more request
damaged-last : (f : Request → List Rect) (n : ℕ) (rs : List Request) (r : Request) → n ≤ length rs
    → flat_map f (drop n (rs ++ r ∷ [])) ≡ flat_map f (drop n rs) ++ flat_map f (r ∷ [])
damaged-last f n rs r le = ap (flat_map f) (drop-append-le n rs (r ∷ []) le) ∙ flat_map-append f (drop n rs) (r ∷ [])

-- the same, of its first rectangles; the place stays
pub damage-more : (f : Request → List Rect) (n m : ℕ) (rs : List Request) (r : Request) → n ≤ length rs → m ≡ n
    → take 1025 (flat_map f (drop n rs) ++ flat_map f (r ∷ [])) ≡ take 1025 (flat_map f (drop m (rs ++ r ∷ [])))
damage-more f n m rs r le e =
    ap (λ xs. take 1025 xs) (sym (damaged-last f n rs r le)) ∙ ap (λ (i : ℕ). take 1025 (flat_map f (drop i (rs ++ r ∷ [])))) (sym e)

-- the first of one list and of another
take-same : {X : Type 0} (n m : ℕ) (xs : List X) → n ≤ m → take n (take m xs) ≡ take n xs
take-same zero m xs le = refl
take-same (suc n) zero xs le = absurd (omega arith)
take-same (suc n) (suc m) [] le = refl
take-same (suc n) (suc m) (x ∷ xs) le = ap (λ ys. x ∷ ys) (take-same n m xs (omega arith))

take-fewer : {X : Type 0} (n m : ℕ) (xs ys : List X) → n ≤ m → take n (take n xs ++ take m ys) ≡ take n (xs ++ ys)
take-fewer zero m xs ys le = refl
take-fewer (suc n) m [] ys le = take-same (suc n) m ys le
take-fewer (suc n) m (x ∷ xs) ys le = ap (λ zs. x ∷ zs) (take-fewer n m xs ys (omega arith))

take-both : {X : Type 0} (n : ℕ) (xs ys : List X) → take n (take n xs ++ take n ys) ≡ take n (xs ++ ys)
take-both n xs ys = take-fewer n n xs ys (omega arith)

-- one more rectangle if there is room, or else none
take-all-one : {X : Type 0} (n : ℕ) (x : X) → take (suc n) (x ∷ []) ≡ x ∷ []
take-all-one zero x = refl
take-all-one (suc n) x = refl

pub take-one : {X : Type 0} (n : ℕ) (xs : List X) (x : X) → length (take n xs) < n → take n (xs ++ x ∷ []) ≡ take n xs ++ x ∷ []
take-one zero xs x less = absurd (omega arith)
take-one (suc n) [] x less = take-all-one n x
take-one (suc n) (y ∷ xs) x less = ap (λ zs. y ∷ zs) (take-one n xs x (omega arith))

pub take-none : {X : Type 0} (n : ℕ) (xs : List X) (x : X) → n ≤ length (take n xs) → take n (xs ++ x ∷ []) ≡ take n xs
take-none zero xs x le = refl
take-none (suc n) [] x le = absurd (omega arith)
take-none (suc n) (y ∷ xs) x le = ap (λ zs. y ∷ zs) (take-none n xs x (omega arith))

-- What is asked since the cut is asked up to the last commit, or after it.
parted : (n m : ℕ) (rs : List Request) → n ≤ m → m ≤ length rs → drop n rs ≡ drop n (take m rs) ++ drop m rs
parted n m rs le within =
    let fits : n ≤ length (take m rs) = let l = length-take m rs in omega (arith, l, le, within) in
    ap (λ (xs : List Request). drop n xs) (sym (take-append-drop m rs)) ∙ drop-append-le n (take m rs) (drop m rs) fits

-- a commit holds what was pending behind what was held
pub damage-joined : (f : Request → List Rect) (held pending : List Rect) (cut : ℕ) (rs : List Request) → cut ≤ committed rs → committed rs ≤ length rs
    → held ≡ take 1025 (flat_map f (between cut (committed rs) rs)) → pending ≡ take 1025 (flat_map f (drop (committed rs) rs)) → flat_map f (Commit ∷ []) ≡ []
    → take 1025 (held ++ pending) ≡ take 1025 (flat_map f (drop cut (rs ++ Commit ∷ [])))
damage-joined f held pending cut rs within commits is fresh none =
    let le : cut ≤ length rs = omega (arith, within, commits) in
    let old = flat_map f (between cut (committed rs) rs) in
    let new = flat_map f (drop (committed rs) rs) in
    let apart : flat_map f (drop cut rs) ≡ old ++ new =
    ap (flat_map f) (parted cut (committed rs) rs within commits) ∙ flat_map-append f (between cut (committed rs) rs) (drop (committed rs) rs) in
    let last : flat_map f (drop cut (rs ++ Commit ∷ [])) ≡ flat_map f (drop cut rs) = damaged-last f cut rs Commit le ∙ ap (λ xs. flat_map f (drop cut rs) ++ xs) none ∙ append-nil _ in
    ap (λ xs. take 1025 (xs ++ pending)) is ∙ ap (λ ys. take 1025 (take 1025 old ++ ys)) fresh ∙ take-both 1025 old new ∙ ap (λ xs. take 1025 xs) (sym (last ∙ apart))

-- ---- what is told of both kinds

-- Of more than 1,024 rectangles each point is damaged.
told-many : (n m : ℕ) (a b : Bool) → (1024 < n → 1024 < m) → (1024 < m → 1024 < n) → (m ≤ 1024 → a ≡ b) → cond (nat_lt 1024 n) true a ≡ cond (nat_lt 1024 m) true b
told-many n m a b to from same = grind (arith, nat_tests)

-- the damage of a surface's rectangles and of its buffer's, as the first of both tell it
module _ (inside : Rect → Bool) (meeting : Rect → Bool) (own of_buffer held held_of_buffer told : List Rect) (is : held ≡ take 1025 own) (is_of_buffer : held_of_buffer ≡ take 1025 of_buffer)
    (count : length told ≡ length held + length held_of_buffer) where
  few : length own + length of_buffer ≤ 1024 → list_any inside told ≡ (list_any inside held || list_any meeting held_of_buffer)
      → list_any inside told ≡ (list_any inside own || list_any meeting of_buffer)
  few le points =
      points ∙ ap (λ rs. list_any inside rs || list_any meeting held_of_buffer) (is ∙ take_all 1025 own (omega (arith, le)))
      ∙ ap (λ rs. list_any inside own || list_any meeting rs) (is_of_buffer ∙ take_all 1025 of_buffer (omega (arith, le)))

  pub told-both : list_any inside told ≡ (list_any inside held || list_any meeting held_of_buffer)
      → cond (nat_lt 1024 (length told)) true (list_any inside told)
      ≡ cond (nat_lt 1024 (length own + length of_buffer)) true (list_any inside own || list_any meeting of_buffer)
  told-both points =
      let many = ap length is ∙ length-take 1025 own in
      let many_of_buffer = ap length is_of_buffer ∙ length-take 1025 of_buffer in
      told-many (length told) (length own + length of_buffer) _ _ (λ less. omega (arith, less, count, many, many_of_buffer)) (λ less. omega (arith, less, count, many, many_of_buffer))
      (λ le. few le points)

-- what is told of a point, where it is one of the surface
pub at-point : (x y w h : ℕ) (a b : Bool) → (x < w → y < h → a ≡ b) → ((nat_lt x w && nat_lt y h) && a) ≡ ((nat_lt x w && nat_lt y h) && b)
at-point x y w h a b same = grind (arith, nat_tests)

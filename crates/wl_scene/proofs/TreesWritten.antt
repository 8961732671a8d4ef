-- Where the windows of each tree stand together, those of one are found from the lowest on.
use Rattle.std.proofs.Common.{◌≡◌, ◌+◌, ◌-◌, ℕ, Bool, true, false, List, [], ◌∷◌, ◌++◌, cond, drop, length, suc, take, refl, ap, sym, ◌∙◌, arith}
use Rattle.std.specs.Prelude.{◌==◌, ◌&&◌, ◌||◌, filter, not}
use Rattle.std.specs.List.{list_all, list_any, position_or_len, prefix_len}
use Rattle.std.proofs.lemmas.Bool.{and_parts}
use Rattle.std.proofs.lemmas.List.Elements.{filter-append}
use Rattle.std.proofs.lemmas.List.{append-nil, length-append, length-drop, nil_from_length, take_all}
use Rattle.wl_scene.specs.declared.tree_window.TreeWindow.{TreeWindow}
use Rattle.wl_scene.specs.Repaint.{AreTogether, tree_of}

-- ---- those that pass, one behind another

module _ {X : Type 0} (p : X → Bool) where
  -- from a place on, as far as they pass
  abbrev from : ℕ → List X → List X
  from n xs = take (prefix_len p (drop n xs)) (drop n xs)

  -- from the first on that passes
  abbrev pub run : List X → List X
  run xs = from (position_or_len p xs) xs

  or-left : (a b : Bool) → (a || b) ≡ false → a ≡ false
  or-left true b e = e
  or-left false b e = refl

  or-right : (a b : Bool) → (a || b) ≡ false → b ≡ false
  or-right true b e = absurd (cc)
  or-right false b e = e

  one-more : (n : ℕ) → 1 + n ≡ suc n
  one-more n = omega arith

  front : (xs above : List X) → list_all p xs ≡ true → list_any p above ≡ false → take (prefix_len p (xs ++ above)) (xs ++ above) ≡ xs
  front [] [] every none = refl
  front [] (y ∷ ys) every none = ap (λ b. take (cond b (1 + prefix_len p ys) 0) (y ∷ ys)) (or-left (p y) (list_any p ys) none)
  front (x ∷ xs) above every none =
      let parts = and_parts (p x) (list_all p xs) every in
      ap (λ b. take (cond b (1 + prefix_len p (xs ++ above)) 0) (x ∷ (xs ++ above))) parts.0
      ∙ ap (λ (n : ℕ). take n (x ∷ (xs ++ above))) (one-more (prefix_len p (xs ++ above)))
      ∙ ap (λ ys. x ∷ ys) (front xs above parts.1 none)

  run-behind : (below rest : List X) → list_any p below ≡ false → run (below ++ rest) ≡ run rest
  run-behind [] rest none = refl
  run-behind (b ∷ below) rest none =
      ap (λ c. from (cond (not c) (1 + position_or_len p (below ++ rest)) 0) (b ∷ (below ++ rest))) (or-left (p b) (list_any p below) none)
      ∙ ap (λ (n : ℕ). from n (b ∷ (below ++ rest))) (one-more (position_or_len p (below ++ rest)))
      ∙ run-behind below rest (or-right (p b) (list_any p below) none)

  run-none : (above : List X) → list_any p above ≡ false → run above ≡ []
  run-none above none = ap run (sym (append-nil above)) ∙ run-behind above [] none

  run-front : (xs above : List X) → list_all p xs ≡ true → list_any p above ≡ false → run (xs ++ above) ≡ xs
  run-front [] above every none = run-none above none
  run-front (x ∷ xs) above every none =
      ap (λ c. from (cond (not c) (1 + position_or_len p (xs ++ above)) 0) (x ∷ (xs ++ above))) (and_parts (p x) (list_all p xs) every).0
      ∙ front (x ∷ xs) above every none

  filter-twice : (xs : List X) → filter p (filter p xs) ≡ filter p xs
  filter-twice [] = refl
  filter-twice (x ∷ xs) = at (p x) refl (filter-twice xs)
    where
      at : (b : Bool) → p x ≡ b → filter p (filter p xs) ≡ filter p xs → filter p (cond b (x ∷ filter p xs) (filter p xs)) ≡ cond b (x ∷ filter p xs) (filter p xs)
      at true here more = ap (λ b. cond b (x ∷ filter p (filter p xs)) (filter p (filter p xs))) here ∙ ap (λ ys. x ∷ ys) more
      at false here more = more

  all-left : (xs : List X) → list_all p (filter p xs) ≡ true
  all-left [] = refl
  all-left (x ∷ xs) = at (p x) refl (all-left xs)
    where
      at : (b : Bool) → p x ≡ b → list_all p (filter p xs) ≡ true → list_all p (cond b (x ∷ filter p xs) (filter p xs)) ≡ true
      at true here more = ap (λ b. b && list_all p (filter p xs)) here ∙ more
      at false here more = more

  none-from : (xs : List X) → filter p xs ≡ [] → list_any p xs ≡ false
  none-from [] e = refl
  none-from (x ∷ xs) e = at (p x) e (none-from xs)
    where
      at : (b : Bool) → cond b (x ∷ filter p xs) (filter p xs) ≡ [] → (filter p xs ≡ [] → list_any p xs ≡ false) → (b || list_any p xs) ≡ false
      at true f more = absurd (cc)
      at false f more = more f

  -- where all that pass stand together, they are found so
  pub run-found : (xs below above : List X) → xs ≡ below ++ (filter p xs ++ above) → run xs ≡ filter p xs
  run-found xs below above whole =
      ap run whole ∙ run-behind below (filter p xs ++ above) under ∙ run-front (filter p xs) above (all-left xs) over
    where
      parts : filter p xs ≡ filter p below ++ (filter p xs ++ filter p above)
      parts =
          ap (filter p) whole ∙ filter-append p below (filter p xs ++ above)
          ∙ ap (λ ys. filter p below ++ ys) (filter-append p (filter p xs) above ∙ ap (λ ys. ys ++ filter p above) (filter-twice xs))

      counted : length (filter p xs) ≡ length (filter p below) + (length (filter p xs) + length (filter p above))
      counted =
          ap length parts ∙ length-append (filter p below) (filter p xs ++ filter p above)
          ∙ ap (λ n. length (filter p below) + n) (length-append (filter p xs) (filter p above))

      under : list_any p below ≡ false
      under = none-from below (nil_from_length (filter p below) (omega (arith, counted)))

      over : list_any p above ≡ false
      over = none-from above (nil_from_length (filter p above) (omega (arith, counted)))

-- ---- as it is written

pub tree-found : (root : ℕ) (ws : List TreeWindow) (below count : ℕ) → below ≡ position_or_len (λ w. root == w.root) ws
    → count ≡ prefix_len (λ w. root == w.root) (take (length ws - below) (drop below ws)) → AreTogether ws
    → take count (take (length ws - below) (drop below ws)) ≡ tree_of root ws
tree-found root ws below count b c together =
    let there = together root in
    ap (λ (n : ℕ). take n (take (length ws - below) (drop below ws))) c
    ∙ ap (λ (us : List TreeWindow). take (prefix_len (λ w. root == w.root) us) us) (take_all (length ws - below) (drop below ws) (omega (arith, length-drop below ws)))
    ∙ ap (λ (n : ℕ). take (prefix_len (λ w. root == w.root) (drop n ws)) (drop n ws)) b
    ∙ run-found (λ w. root == w.root) ws there.0 there.1 there.2

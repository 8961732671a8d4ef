-- Where the trees stand in one order before and after, no window moves past one of another tree.
use Rattle.std.proofs.Common.{◌≡◌, ℕ, Bool, true, false, List, [], ◌∷◌, ◌++◌, cond, refl, ap, sym, ◌∙◌}
use Rattle.std.specs.Prelude.{◌==◌, ◌||◌, if◌then◌else◌, filter, flat_map}
use Rattle.std.specs.List.{list_any}
use Rattle.std.proofs.lemmas.Bool.{eqb-true, or_left, or_right}
use Rattle.spec_desktop.specs.Windows.{Window}
use Rattle.spec_desktop.specs.Marks.{AreDistinct, is_before, is_same_surface}
use Rattle.law_desktop.proofs.Marks.Stacks.{before-there, equal-numbers}
use Rattle.law_desktop.proofs.TreeMarks.Records.{apart-second, before-in-second, distinct-second}
use Rattle.law_desktop.specs.Toplevel.{of_root}
use Rattle.law_desktop.proofs.Lists.Left.{any-left, none-left}
use Rattle.law_desktop.proofs.Truth.{differ}
use Rattle.law_desktop.proofs.Lists.Each.{Each, each-map}

pub lower-there : (w v : Window) (xs : List Window) → is_before w v xs ≡ true → list_any (is_same_surface w) xs ≡ true
lower-there w v [] e = e
lower-there w v (x ∷ xs) e = at (is_same_surface w x) refl e (lower-there w v xs)
  where
    at : (same : Bool) → is_same_surface w x ≡ same → (if same then list_any (is_same_surface v) xs else is_before w v xs) ≡ true
        → (is_before w v xs ≡ true → list_any (is_same_surface w) xs ≡ true) → (is_same_surface w x || list_any (is_same_surface w) xs) ≡ true
    at true here f later = or_left (is_same_surface w x) (list_any (is_same_surface w) xs) here
    at false here f later = or_right (is_same_surface w x) (list_any (is_same_surface w) xs) (later f)

-- where the windows of both surfaces are left, one stands before the other as among all
pub before-left : (w v : Window) (f : Window → Bool) (xs : List Window) → Each (λ u. is_same_surface w u ≡ true → f u ≡ true) xs
    → Each (λ u. is_same_surface v u ≡ true → f u ≡ true) xs → is_before w v (filter f xs) ≡ is_before w v xs
before-left w v f [] first second = refl
before-left w v f (x ∷ xs) first second =
    at (is_same_surface w x) (f x) refl first.0 (before-left w v f xs first.1 second.1)
  where
    at : (b c : Bool) → is_same_surface w x ≡ b → (is_same_surface w x ≡ true → c ≡ true) → is_before w v (filter f xs) ≡ is_before w v xs
        → is_before w v (cond c (x ∷ filter f xs) (filter f xs)) ≡ (if is_same_surface w x then list_any (is_same_surface v) xs else is_before w v xs)
    at b true here left more =
        ap (λ d. if is_same_surface w x then d else is_before w v (filter f xs)) (any-left (is_same_surface v) f xs second.1)
        ∙ ap (λ d. if is_same_surface w x then list_any (is_same_surface v) xs else d) more
    at false false here left more = more ∙ ap (λ d. if d then list_any (is_same_surface v) xs else is_before w v xs) (sym here)
    at true false here left more = absurd (differ (left here))

-- the windows of the surface are of trees with this root
abbrev pub IsRooted : Window → ℕ → List Window → Type 0
IsRooted w root ws = Each (λ u. is_same_surface w u ≡ true → u.owner.root ≡ root) ws

-- so they are left, or go
pub own-left : (w : Window) (r : ℕ) (ws : List Window) → IsRooted w r ws → Each (λ u. is_same_surface w u ≡ true → (r == u.owner.root) ≡ true) ws
own-left w r ws rooted =
    each-map (λ u. is_same_surface w u ≡ true → u.owner.root ≡ r) (λ u. is_same_surface w u ≡ true → (r == u.owner.root) ≡ true)
    (λ u f e. equal-numbers r u.owner.root (sym (f e))) ws rooted

others-go : (w : Window) (r k : ℕ) (ws : List Window) → (k == r) ≡ false → IsRooted w r ws → Each (λ u. is_same_surface w u ≡ true → (k == u.owner.root) ≡ false) ws
others-go w r k ws apart rooted =
    each-map (λ u. is_same_surface w u ≡ true → u.owner.root ≡ r) (λ u. is_same_surface w u ≡ true → (k == u.owner.root) ≡ false)
    (λ u f e. ap (λ n. k == n) (f e) ∙ apart) ws rooted

-- in the tree of the root, and in those of others
own-there : (w : Window) (r : ℕ) (ws : List Window) → IsRooted w r ws → list_any (is_same_surface w) ws ≡ true → list_any (is_same_surface w) (of_root r ws) ≡ true
own-there w r ws rooted there = any-left (is_same_surface w) (λ u. r == u.owner.root) ws (own-left w r ws rooted) ∙ there

other-nowhere : (w : Window) (r k : ℕ) (ws : List Window) → (k == r) ≡ false → IsRooted w r ws → list_any (is_same_surface w) (of_root k ws) ≡ false
other-nowhere w r k ws apart rooted = none-left (is_same_surface w) (λ u. k == u.owner.root) ws (others-go w r k ws apart rooted)

abbrev pub in_turn : List ℕ → List Window → List Window
in_turn roots ws = flat_map (λ root. of_root root ws) roots

-- one tree further: what stands before a window of the first tree is no window of a later one
passed : (w v : Window) (r q k : ℕ) (ks : List ℕ) (ws : List Window) → (k == q) ≡ true → (k == r) ≡ false → IsRooted w r ws → IsRooted v q ws
    → list_any (is_same_surface v) ws ≡ true → AreDistinct (of_root k ws ++ in_turn ks ws) → is_before w v (of_root k ws ++ in_turn ks ws) ≡ true → ⊥
passed w v r q k ks ws here apart of-w of-v there distinct before =
    let first : list_any (is_same_surface v) (of_root k ws) ≡ true =
    ap (λ n. list_any (is_same_surface v) (of_root n ws)) (eqb-true k q here) ∙ own-there v q ws of-v there in
    let later = before-in-second w v (of_root k ws) (in_turn ks ws) (other-nowhere w r k ws apart of-w) before in
    differ (sym (apart-second v (of_root k ws) (in_turn ks ws) distinct first) ∙ before-there w v (in_turn ks ws) later)

-- windows of two trees that stand in one order don't move past each other
pub uncrossed : (w v : Window) (r q : ℕ) (was is : List Window) → (r == q) ≡ false → IsRooted w r was → IsRooted v q was → IsRooted w r is → IsRooted v q is
    → list_any (is_same_surface v) was ≡ true → list_any (is_same_surface w) is ≡ true
    → (roots : List ℕ) → AreDistinct (in_turn roots was) → AreDistinct (in_turn roots is)
    → is_before w v (in_turn roots was) ≡ true → is_before v w (in_turn roots is) ≡ true → ⊥
uncrossed w v r q was is apart w-was v-was w-is v-is there here [] distinct distinct' before after = differ before
uncrossed w v r q was is apart w-was v-was w-is v-is there here (k ∷ ks) distinct distinct' before after =
    at (k == r) (k == q) refl refl
    (uncrossed w v r q was is apart w-was v-was w-is v-is there here ks (distinct-second (of_root k was) (in_turn ks was) distinct)
    (distinct-second (of_root k is) (in_turn ks is) distinct'))
  where
    at : (a b : Bool) → (k == r) ≡ a → (k == q) ≡ b → (is_before w v (in_turn ks was) ≡ true → is_before v w (in_turn ks is) ≡ true → ⊥) → ⊥
    at false false is-r is-q more =
        more (before-in-second w v (of_root k was) (in_turn ks was) (other-nowhere w r k was is-r w-was) before)
        (before-in-second v w (of_root k is) (in_turn ks is) (other-nowhere v q k is is-q v-is) after)
    at false true is-r is-q more = passed w v r q k ks was is-q is-r w-was v-was there distinct before
    at true false is-r is-q more = passed v w q r k ks is is-r is-q v-is w-is here distinct' after
    at true true is-r is-q more =
        differ (sym apart ∙ equal-numbers r q (sym (eqb-true k r is-r) ∙ eqb-true k q is-q))

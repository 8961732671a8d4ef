-- The windows stacked with each toplevel stand together: so they do after each call.
use Rattle.std.proofs.Common.{◌≡◌, ℕ, List, [], ◌++◌, Bool, true, false, Result, Ok, Err, OnErr, OnOk, refl, ap, sym, ◌∙◌, map, subst}
use Rattle.std.specs.Prelude.{◌==◌, ◌&&◌, filter, not}
use Rattle.std.specs.List.{list_any}
use Rattle.std.proofs.lemmas.Bool.{eqb-true, eq-eqb}
use Rattle.std.proofs.lemmas.List.{append-nil}
use Rattle.wl_scene.specs.declared.tree_window.TreeWindow.{TreeWindow}
use Rattle.wl_scene.specs.declared.stacked.Stacked.{Stacked}
use Rattle.wl_scene.specs.Stacked.{AreTogether, are_a_run, is_of, raised, replaced, stacked, run_of, without_run}
use Rattle.wl_scene.proofs.StackedTogether.{front-map, none-among, none-map, none-without, others-placed, run-above, run-append, run-filter, run-front, run-placed}
use Rattle.wl_scene.proofs.Truth.{and-left, and-right}

-- a window is stacked with its own toplevel, and with one alone
pub is_of-own : (c r : ℕ) (w : TreeWindow) → is_of c r (stacked c r w) ≡ true
is_of-own c r w = rw (eq-eqb c c refl) (eq-eqb r r refl)

pub is_of-one : (c r d q : ℕ) (s : Stacked) → is_of c r s ≡ true → is_of d q s ≡ ((c == d) && (r == q))
is_of-one c r d q s h =
    let client = eqb-true s.client c (and-left (s.client == c) (s.toplevel == r) h) in
    let toplevel = eqb-true s.toplevel r (and-right (s.client == c) (s.toplevel == r) h) in
    ap (λ (n : ℕ). (n == d) && (s.toplevel == q)) client ∙ ap (λ (n : ℕ). (c == d) && (n == q)) toplevel

-- what holds of this toplevel, and of each other, holds of all
by-toplevel : (c r : ℕ) (P : ℕ → ℕ → Type 0) → P c r → ((d q : ℕ) → ((c == d) && (r == q)) ≡ false → P d q) → (d q : ℕ) → P d q
by-toplevel c r P own others d q = at ((c == d) && (r == q)) refl
  where
    at : (b : Bool) → ((c == d) && (r == q)) ≡ b → P d q
    at true e =
        subst (λ (n : ℕ). P n q) (eqb-true c d (and-left (c == d) (r == q) e))
        (subst (λ (n : ℕ). P c n) (eqb-true r q (and-right (c == d) (r == q) e)) own)
    at false e = others d q e

-- some go
pub together-filter : (f : Stacked → Bool) (all : List Stacked) → AreTogether all → AreTogether (filter f all)
together-filter f all h = λ c r. run-filter (is_of c r) f all (h c r)

-- those of a toplevel come on top
pub together-pushed : (c r : ℕ) (windows : List TreeWindow) (all : List Stacked) → AreTogether all → list_any (is_of c r) all ≡ false
    → AreTogether (all ++ map (stacked c r) windows)
together-pushed c r windows all h none =
    by-toplevel c r (λ d q. are_a_run (is_of d q) (all ++ map (stacked c r) windows) ≡ true)
    (run-above (is_of c r) all (map (stacked c r) windows) none own)
    (λ d q e. run-append (is_of d q) all (map (stacked c r) windows) (h d q)
    (none-map (is_of d q) (stacked c r) windows (λ w. is_of-one c r d q (stacked c r w) (is_of-own c r w) ∙ e)))
  where
    own : are_a_run (is_of c r) (map (stacked c r) windows) ≡ true
    own =
        ap (λ (xs : List Stacked). are_a_run (is_of c r) xs) (sym (append-nil (map (stacked c r) windows)))
        ∙ run-front (is_of c r) (map (stacked c r) windows ++ []) (front-map (is_of c r) (stacked c r) windows [] (is_of-own c r) refl)

-- with memory it does, and without it nothing changes
pub together-either : {R E : Type 0} (r : Result R E) (all more new : List Stacked) → AreTogether all → AreTogether (all ++ more)
    → OnOk r (new ≡ all ++ more) → OnErr r (new ≡ all) → AreTogether new
together-either (Ok x) all more new old with_more ok err = subst (λ (xs : List Stacked). AreTogether xs) (sym ok) with_more
together-either (Err x) all more new old with_more ok err = subst (λ (xs : List Stacked). AreTogether xs) (sym err) old

-- other windows in the place of a toplevel's
pub together-replaced : (c r : ℕ) (windows : List TreeWindow) (all : List Stacked) → AreTogether all → AreTogether (replaced c r windows all)
together-replaced c r windows all h =
    by-toplevel c r (λ d q. are_a_run (is_of d q) (replaced c r windows all) ≡ true)
    (run-placed (is_of c r) (stacked c r) windows all (is_of-own c r))
    (λ d q e. others-placed (is_of c r) (is_of d q) (map (stacked c r) windows) all (λ s own. is_of-one c r d q s own ∙ e)
    (none-map (is_of d q) (stacked c r) windows (λ w. is_of-one c r d q (stacked c r w) (is_of-own c r w) ∙ e)) (h d q))

-- those of a toplevel come to the top
pub together-raised : (c r : ℕ) (all : List Stacked) → AreTogether all → AreTogether (raised c r all)
together-raised c r all h =
    by-toplevel c r (λ d q. are_a_run (is_of d q) (raised c r all) ≡ true)
    (run-above (is_of c r) (without_run c r all) (run_of c r all) (none-without (is_of c r) all) (together-filter (is_of c r) all h c r))
    (λ d q e. run-append (is_of d q) (without_run c r all) (run_of c r all) (together-filter (λ s. not (is_of c r s)) all h d q)
    (none-among (is_of c r) (is_of d q) all (λ s own. is_of-one c r d q s own ∙ e)))

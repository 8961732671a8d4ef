-- Where the windows of each tree stand together, those of one are found from the lowest on.
use Rattle.std.proofs.Common.{◌≡◌, ℕ, Bool, true, false, List, [], ◌∷◌, ◌++◌, cond, flat_map, map, refl, ap, sym, ◌∙◌, append_assoc, inl, inr, ◌⊎◌}
use Rattle.std.specs.Prelude.{◌==◌}
use Rattle.std.proofs.lemmas.Bool.{eqb-true}
use Rattle.std.proofs.lemmas.List.Elements.{filter-append}
use Rattle.std.proofs.lemmas.List.{append-nil, map-append}
use Rattle.spec_desktop.specs.Windows.{Window}
use Rattle.wl_scene.specs.TreeWindows.{told_of}
use Rattle.wl_scene.specs.declared.tree_window.TreeWindow.{TreeWindow}
use Rattle.law_desktop.specs.Toplevel.{of_root}
use Rattle.law_windows.specs.RepaintLaws.{ToldTogether}
use Rattle.wl_scene.specs.Repaint.{AreTogether, tree_of}

-- ---- trees one after another

other-gone : (k r : ℕ) (ws : List TreeWindow) → (k == r) ≡ false → tree_of k (tree_of r ws) ≡ []
other-gone k r [] other = refl
other-gone k r (w ∷ ws) other = at (r == w.root) refl (other-gone k r ws other)
  where
    at : (b : Bool) → (r == w.root) ≡ b → tree_of k (tree_of r ws) ≡ [] → tree_of k (cond b (w ∷ tree_of r ws) (tree_of r ws)) ≡ []
    at true here more =
        ap (λ n. cond (k == n) (w ∷ tree_of k (tree_of r ws)) (tree_of k (tree_of r ws))) (sym (eqb-true r w.root here))
        ∙ ap (λ b. cond b (w ∷ tree_of k (tree_of r ws)) (tree_of k (tree_of r ws))) other ∙ more
    at false here more = more

abbrev in_turn : List ℕ → List TreeWindow → List TreeWindow
in_turn roots ws = flat_map (λ root. tree_of root ws) roots

-- the tree of a root is one of them, or isn't there
abbrev Found : ℕ → List TreeWindow → List TreeWindow → Type 0
Found k ws all = ((below : List TreeWindow) × (above : List TreeWindow) × (all ≡ below ++ (tree_of k ws ++ above))) ⊎ (tree_of k all ≡ [])

found : (k : ℕ) (ws : List TreeWindow) (roots : List ℕ) → Found k ws (in_turn roots ws)
found k ws [] = inr refl
found k ws (r ∷ rs) = at (k == r) refl (found k ws rs)
  where
    at : (b : Bool) → (k == r) ≡ b → Found k ws (in_turn rs ws) → Found k ws (tree_of r ws ++ in_turn rs ws)
    at true here more = inl ([], in_turn rs ws, ap (λ n. tree_of n ws ++ in_turn rs ws) (sym (eqb-true k r here)))
    at false here (inl more) =
        inl (tree_of r ws ++ more.0, more.1, ap (λ us. tree_of r ws ++ us) more.2 ∙ sym (append_assoc (tree_of r ws) more.0 (tree_of k ws ++ more.1)))
    at false here (inr none) =
        inr (filter-append (λ w. k == w.root) (tree_of r ws) (in_turn rs ws) ∙ ap (λ us. us ++ tree_of k (in_turn rs ws)) (other-gone k r ws here) ∙ none)

pub turn-together : (roots : List ℕ) (ws : List TreeWindow) → ws ≡ in_turn roots ws → AreTogether ws
turn-together roots ws turn = λ k. at k (found k ws roots)
  where
    at : (k : ℕ) → Found k ws (in_turn roots ws) → (below : List TreeWindow) × (above : List TreeWindow) × (ws ≡ below ++ (tree_of k ws ++ above))
    at k (inl there) = (there.0, there.1, turn ∙ there.2)
    at k (inr none) =
        (ws, [], sym (ap (λ us. ws ++ (us ++ [])) (ap (tree_of k) turn ∙ none) ∙ append-nil ws))

-- ---- what is told of them

pub told-tree : (root : ℕ) (ws : List Window) → tree_of root (map told_of ws) ≡ map told_of (of_root root ws)
told-tree root [] = refl
told-tree root (w ∷ ws) = at (root == w.owner.root) (told-tree root ws)
  where
    at : (b : Bool) → tree_of root (map told_of ws) ≡ map told_of (of_root root ws)
        → cond b (told_of w ∷ tree_of root (map told_of ws)) (tree_of root (map told_of ws)) ≡ map told_of (cond b (w ∷ of_root root ws) (of_root root ws))
    at true more = ap (λ us. told_of w ∷ us) more
    at false more = more

told-turn : (roots : List ℕ) (ws : List Window) → map told_of (flat_map (λ root. of_root root ws) roots) ≡ in_turn roots (map told_of ws)
told-turn [] ws = refl
told-turn (r ∷ rs) ws =
    map-append told_of (of_root r ws) (flat_map (λ root. of_root root ws) rs)
    ∙ ap (λ us. us ++ map told_of (flat_map (λ root. of_root root ws) rs)) (sym (told-tree r ws))
    ∙ ap (λ us. tree_of r (map told_of ws) ++ us) (told-turn rs ws)

pub told-together : ToldTogether
told-together roots ws turn = turn-together roots (map told_of ws) (ap (map told_of) turn ∙ told-turn roots ws)

-- Where a toplevel has no windows any more, all points of those that it had are marked.
use Rattle.std.proofs.Common.{◌≡◌, Bool, true, false, List, [], ◌∷◌, map, refl, ap, sym, ◌∙◌, inl, inr}
use Rattle.std.specs.Prelude.{ℤ, ◌==◌, ◌||◌, pos}
use Rattle.std.specs.List.{list_any}
use Rattle.std.proofs.lemmas.List.{append-nil}
use Rattle.wl_paint.specs.Damage.{has}
use Rattle.wl_surface.specs.declared.applied.Change.{Change}
use Rattle.law_desktop.proofs.Marks.Stacks.{equal-numbers}
use Rattle.wl_scene.specs.declared.tree_window.TreeWindow.{TreeWindow}
use Rattle.law_desktop.proofs.RootsOf.Away.{IsIn}
use Rattle.law_desktop.proofs.Truth.{differ, truth}
use Rattle.law_desktop.proofs.Lists.Each.{Each}
use Rattle.law_desktop.proofs.Lists.Left.{any-there}
use Rattle.wl_scene.specs.Repaint.{marks, marks_trees, tree_of, window_has}
use Rattle.law_windows.proofs.Lists.{any-as, any-in, is-left, one-that}
use Rattle.law_windows.specs.RenamedWindows.{told_by}
use Rattle.law_windows.specs.Runs.Marks.{GoneRunAdds}

-- ---- lists

each-from : {X : Type 0} (P : X → Type 0) (xs : List X) → ((x : X) → IsIn x xs → P x) → Each P xs
each-from P [] f = tt
each-from P (x ∷ xs) f = (f x (inl refl), each-from P xs (λ y among. f y (inr among)))

-- ---- trees that are gone

module _ {A : Type 0} (changes : List (Change A)) (x y : ℤ) (ws : List TreeWindow) where
  abbrev holds : TreeWindow → Bool
  holds w = window_has x y w

  whole-tree : (w : TreeWindow) → IsIn w ws → marks (tree_of w.root ws) [] changes x y ≡ list_any holds (tree_of w.root ws)
  whole-tree w among = at (tree_of w.root ws) refl
    where
      or-none : (b : Bool) → (b || false) ≡ b
      or-none true = refl
      or-none false = refl

      at : (vs : List TreeWindow) → tree_of w.root ws ≡ vs → marks vs [] changes x y ≡ list_any holds vs
      at [] e =
          absurd (differ (ap (list_any (λ v. true)) (sym e) ∙ is-left (λ v. true) (λ v. w.root == v.root) w ws among (equal-numbers w.root w.root refl) refl))
      at (v ∷ vs) e = or-none (list_any holds (v ∷ vs))

  some-tree : list_any (λ w. list_any holds (tree_of w.root ws)) ws ≡ list_any holds ws
  some-tree =
      truth (list_any (λ w. list_any holds (tree_of w.root ws)) ws) (list_any holds ws)
      (λ e. one-that (list_any holds ws ≡ true) (λ w. list_any holds (tree_of w.root ws)) ws e (λ w among held. any-there holds (λ v. w.root == v.root) ws held))
      (λ e.
      one-that (list_any (λ w. list_any holds (tree_of w.root ws)) ws ≡ true) holds ws e
      (λ w among held.
      any-in (λ w. list_any holds (tree_of w.root ws)) w ws among (is-left holds (λ v. w.root == v.root) w ws among (equal-numbers w.root w.root refl) held)))

  gone-marks : marks_trees ws [] changes x y ≡ list_any holds ws
  gone-marks =
      ap (list_any (λ w. marks (tree_of w.root ws) [] changes x y)) (append-nil ws)
      ∙ (any-as (λ w. marks (tree_of w.root ws) [] changes x y) (λ w. list_any holds (tree_of w.root ws)) ws
      (each-from (λ w. marks (tree_of w.root ws) [] changes x y ≡ list_any holds (tree_of w.root ws)) ws whole-tree)
      ∙ some-tree)

pub gone-run-adds : (A : Type 0) → GoneRunAdds A
gone-run-adds A f changes was is old new none adds together together' x y wide high =
    adds x y wide high
    ∙ ap (λ b. has old x y || b)
    (sym (gone-marks changes (pos x) (pos y) (map (told_by f) was))
    ∙ ap (λ ws. marks_trees (map (told_by f) was) (map (told_by f) ws) changes (pos x) (pos y)) (sym none))

-- The windows stacked with a toplevel, told by other names of their surfaces, tree by tree.
use Rattle.std.proofs.Common.{◌≡◌, ℕ, ℤ, Bool, true, false, cond, List, [], ◌∷◌, ◌++◌, map, refl, ap, ap₂, sym, subst, ◌∙◌}
use Rattle.std.specs.Prelude.{◌==◌, ◌||◌, filter, flat_map}
use Rattle.std.specs.List.{list_any}
use Rattle.std.proofs.lemmas.Bool.{eqb-true}
use Rattle.std.proofs.lemmas.List.{map-append}
use Rattle.wl_surface.specs.Surfaces.{Surfaces}
use Rattle.wl_surface.specs.declared.applied.Change.{Change}
use Rattle.spec_desktop.specs.Windows.{Window}
use Rattle.spec_desktop.specs.Marks.{Applied}
use Rattle.law_desktop.proofs.Lists.Tests.{filter-none}
use Rattle.wl_scene.specs.declared.tree_window.TreeWindow.{TreeWindow}
use Rattle.law_desktop.specs.Renaming.{AreToldApart, has_surface}
use Rattle.law_desktop.specs.Marked.{marks_of_tree}
use Rattle.law_desktop.specs.Toplevel.{of_root}
use Rattle.law_desktop.proofs.RootsOf.Staying.{all-each, each-all}
use Rattle.law_desktop.proofs.Truth.{differ}
use Rattle.law_desktop.proofs.Lists.Each.{Each, each-first}
use Rattle.law_windows.specs.RepaintLaws.{AreOfClient}
use Rattle.wl_scene.specs.Repaint.{marks, tree_of}
use Rattle.law_windows.proofs.RepaintLaw.{same-as-records}
use Rattle.law_windows.proofs.Lists.{each-left}
use Rattle.law_windows.proofs.ToldTogether.{turn-together}
use Rattle.law_windows.specs.RenamedMarks.{AreNamedApart, IsAppliedByName}
use Rattle.law_windows.specs.RenamedWindows.{has_window, told_by}
use Rattle.law_windows.proofs.RenamedWindows.Names.{same-name}
use Rattle.law_windows.proofs.RenamedWindows.Told.{marks-applied-by-name, same-by-name}
use Rattle.law_windows.proofs.ToldTrees.{of-root}
use Rattle.law_windows.specs.Runs.Marks.{IsThereIn, MarksTreesByName, ToldTogetherByName}

-- ---- lists

each-second : {X : Type 0} (P : X → Type 0) (xs ys : List X) → Each P (xs ++ ys) → Each P ys
each-second P [] ys each = each
each-second P (x ∷ xs) ys each = each-second P xs ys each.1

-- ---- the windows of one tree

module _ (f : ℕ → ℕ) (all : Surfaces) (apart : AreToldApart f all) where
  -- a window of these has the name of a root where it has the root
  told-tree : (root : ℕ) → has_surface root all ≡ true → (ws : List Window) → Each (IsThereIn all) ws
      → tree_of (f root) (map (told_by f) ws) ≡ map (told_by f) (of_root root ws)
  told-tree root there [] each = refl
  told-tree root there (w ∷ ws) each =
      ap (λ b. cond b (told_by f w ∷ tree_of (f root) (map (told_by f) ws)) (tree_of (f root) (map (told_by f) ws)))
      (same-name f root w.owner.root (apart root w.owner.root there each.0.1))
      ∙ at (root == w.owner.root) (told-tree root there ws each.1)
    where
      at : (b : Bool) → tree_of (f root) (map (told_by f) ws) ≡ map (told_by f) (of_root root ws)
          → cond b (told_by f w ∷ tree_of (f root) (map (told_by f) ws)) (tree_of (f root) (map (told_by f) ws)) ≡ map (told_by f) (cond b (w ∷ of_root root ws) (of_root root ws))
      at true more = ap (λ ts. told_by f w ∷ ts) more
      at false more = more

  -- a surface that has a window of these is there
  there-of : (id : ℕ) (ws : List Window) → Each (IsThereIn all) ws → has_window id ws ≡ true → has_surface id all ≡ true
  there-of id [] each has = absurd (differ has)
  there-of id (w ∷ ws) each has = at (w.surface == id) refl (there-of id ws each.1) has
    where
      at : (b : Bool) → (w.surface == id) ≡ b → (has_window id ws ≡ true → has_surface id all ≡ true) → (b || has_window id ws) ≡ true → has_surface id all ≡ true
      at true same later e = subst (λ n. has_surface n all ≡ true) (eqb-true w.surface id same) each.0.0
      at false same later e = later e

  named-apart : (us vs : List Window) → Each (IsThereIn all) us → Each (IsThereIn all) vs → AreNamedApart f us vs
  named-apart us vs each each' a b one other same = apart a b (there-of a us each one) (there-of b vs each' other) same

  -- ---- trees one after another

  module _ (ws : List Window) (each : Each (IsThereIn all) ws) where
    abbrev shows : ℕ → Bool
    shows root = list_any (λ w. root == w.owner.root) ws

    shown-there : (root : ℕ) (vs : List Window) → Each (IsThereIn all) vs → list_any (λ w. root == w.owner.root) vs ≡ true → has_surface root all ≡ true
    shown-there root [] there e = absurd (differ e)
    shown-there root (v ∷ vs) there e = at (root == v.owner.root) refl (shown-there root vs there.1) e
      where
        at : (b : Bool) → (root == v.owner.root) ≡ b → (list_any (λ w. root == w.owner.root) vs ≡ true → has_surface root all ≡ true)
            → (b || list_any (λ w. root == w.owner.root) vs) ≡ true → has_surface root all ≡ true
        at true same later g = subst (λ n. has_surface n all ≡ true) (sym (eqb-true root v.owner.root same)) there.0.1
        at false same later g = later g

    -- those roots of these that have windows
    in-turn-named : (roots : List ℕ) → map (told_by f) (flat_map (λ root. of_root root ws) roots)
        ≡ flat_map (λ root. tree_of root (map (told_by f) ws)) (map f (filter shows roots))
    in-turn-named [] = refl
    in-turn-named (r ∷ roots) = map-append (told_by f) (of_root r ws) (flat_map (λ root. of_root root ws) roots) ∙ at (shows r) refl (in-turn-named roots)
      where
        at : (b : Bool) → shows r ≡ b
            → map (told_by f) (flat_map (λ root. of_root root ws) roots) ≡ flat_map (λ root. tree_of root (map (told_by f) ws)) (map f (filter shows roots))
            → map (told_by f) (of_root r ws) ++ map (told_by f) (flat_map (λ root. of_root root ws) roots)
            ≡ flat_map (λ root. tree_of root (map (told_by f) ws)) (map f (cond b (r ∷ filter shows roots) (filter shows roots)))
        at true here more =
            ap₂ (λ (us vs : List TreeWindow). us ++ vs) (sym (told-tree r (shown-there r ws each here) ws each)) more
        at false here more =
            ap (λ us. map (told_by f) us ++ map (told_by f) (flat_map (λ root. of_root root ws) roots)) (filter-none (λ w. r == w.owner.root) ws here) ∙ more

pub told-together-by-name : ToldTogetherByName
told-together-by-name f all roots ws apart there turn =
    let each = all-each (IsThereIn all) ws there in
    turn-together (map f (filter (λ root. list_any (λ w. root == w.owner.root) ws) roots)) (map (told_by f) ws)
    (ap (map (told_by f)) turn ∙ in-turn-named f all apart ws each roots)

-- ---- what is marked of one tree

module _ (A : Type 0) (f : ℕ → ℕ) (all : Surfaces) (client : ℕ) (was is : List Window) (apart : AreToldApart f all) (there-was : Each (IsThereIn all) was) (there-is : Each (IsThereIn all) is)
    (of-client : AreOfClient client was is) (changes : List (Change A)) (applied : Applied) (each : Each (IsAppliedByName f changes applied) is) (x y : ℤ) where
  one-tree : (root : ℕ) → has_surface root all ≡ true
      → marks (tree_of (f root) (map (told_by f) was)) (tree_of (f root) (map (told_by f) is)) changes x y ≡ marks_of_tree applied (of_root root was) (of_root root is) x y
  one-tree root there =
      ap₂ (λ (us vs : List TreeWindow). marks us vs changes x y) (told-tree f all apart root there was there-was) (told-tree f all apart root there is there-is)
      ∙ marks-applied-by-name A (same-by-name same-as-records) f client root (of_root root was) (of_root root is) (of-root client root was is of-client)
      (named-apart f all apart (of_root root was) (of_root root is) (each-left (IsThereIn all) (λ w. root == w.owner.root) was there-was)
      (each-left (IsThereIn all) (λ w. root == w.owner.root) is there-is)) changes applied
      (each-all (IsAppliedByName f changes applied) (of_root root is) (each-left (IsAppliedByName f changes applied) (λ w. root == w.owner.root) is each)) x y

  every-tree : (ws : List Window) → Each (IsThereIn all) ws
      → list_any (λ w. marks (tree_of w.root (map (told_by f) was)) (tree_of w.root (map (told_by f) is)) changes x y) (map (told_by f) ws)
      ≡ list_any (λ w. marks_of_tree applied (of_root w.owner.root was) (of_root w.owner.root is) x y) ws
  every-tree [] there = refl
  every-tree (w ∷ ws) there = ap₂ (λ b c. b || c) (one-tree w.owner.root there.0.1) (every-tree ws there.1)

pub marks-trees-by-name : (A : Type 0) → MarksTreesByName A
marks-trees-by-name A f all client was is apart there of-client changes applied told x y =
    let each = all-each (IsThereIn all) (was ++ is) there in
    ap (list_any (λ w. marks (tree_of w.root (map (told_by f) was)) (tree_of w.root (map (told_by f) is)) changes x y)) (sym (map-append (told_by f) was is))
    ∙ every-tree A f all client was is apart (each-first (IsThereIn all) was is each) (each-second (IsThereIn all) was is each) of-client changes applied
    (all-each (IsAppliedByName f changes applied) is told) x y (was ++ is) each

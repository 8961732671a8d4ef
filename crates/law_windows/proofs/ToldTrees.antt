-- What is marked of the told windows of several trees, by the plain windows of the trees.
use Rattle.std.proofs.Common.{◌≡◌, ℕ, ℤ, List, [], ◌∷◌, ◌++◌, map, refl, ap, ap₂, sym, ◌∙◌}
use Rattle.std.specs.Prelude.{◌==◌, ◌&&◌, ◌||◌, nat_lt}
use Rattle.std.specs.List.{All, list_all, list_any}
use Rattle.std.proofs.lemmas.Bool.{and_from}
use Rattle.std.proofs.lemmas.List.Elements.{All-from_recursion, filter-append, recursion_from_All}
use Rattle.std.proofs.lemmas.List.{map-append}
use Rattle.spec_desktop.specs.Marks.{Applied, in_output}
use Rattle.spec_desktop.specs.Moments.{applied_between}
use Rattle.spec_desktop.specs.Windows.{Window}
use Rattle.wl_surface.specs.declared.applied.Change.{Change}
use Rattle.law_desktop.specs.TreeMarksLaws.{has_root}
use Rattle.law_desktop.specs.Marked.{MarksByTreesBetween, marks_of_tree}
use Rattle.law_desktop.specs.Toplevel.{of_root}
use Rattle.wl_scene.specs.TreeWindows.{told_of}
use Rattle.wl_scene.specs.declared.tree_window.TreeWindow.{TreeWindow}
use Rattle.law_windows.specs.RepaintLaws.{AreOfClient, AreOfTree, IsAppliedBy, MarksTreesAsApplied, MarksTreesBetween}
use Rattle.wl_scene.specs.Repaint.{marks, tree_of}
use Rattle.law_windows.proofs.RepaintLaw.{marks-as-applied}
use Rattle.law_windows.proofs.Lists.{all-left, each-left}
use Rattle.law_windows.proofs.ToldTogether.{told-tree}

-- ---- one tree of them

pub both-left : (root : ℕ) (was is : List Window) → of_root root (was ++ is) ≡ of_root root was ++ of_root root is
both-left root was is = filter-append (λ w. root == w.owner.root) was is

pub of-root : (client root : ℕ) (was is : List Window) → AreOfClient client was is → AreOfTree client root (of_root root was) (of_root root is)
of-root client root was is of-client = record {
  rooted = ap (list_all (has_root client root)) (sym (both-left root was is))
      ∙ all-left (λ w. client == w.owner.client) (λ w. root == w.owner.root) (has_root client root)
      (λ w own here. and_from (client == w.owner.client) (root == w.owner.root) own here) (was ++ is) of-client.owned;
  numbered = ap (list_all (λ w. nat_lt w.transform 8)) (sym (both-left root was is))
      ∙ all-left (λ w. nat_lt w.transform 8) (λ w. root == w.owner.root) (λ w. nat_lt w.transform 8) (λ w own here. own) (was ++ is) of-client.numbered;
}

module _ (A : Type 0) (client : ℕ) (was is : List Window) (of-client : AreOfClient client was is) (changes : List (Change A)) (applied : Applied)
    (each : All (IsAppliedBy changes applied) is) (x y : ℤ) where
  one-tree : (root : ℕ) → marks (tree_of root (map told_of was)) (tree_of root (map told_of is)) changes x y ≡ marks_of_tree applied (of_root root was) (of_root root is) x y
  one-tree root =
      ap₂ (λ (us vs : List TreeWindow). marks us vs changes x y) (told-tree root was) (told-tree root is)
      ∙ marks-as-applied A client root (of_root root was) (of_root root is) (of-root client root was is of-client) changes applied
      (All-from_recursion (IsAppliedBy changes applied) (of_root root is)
      (each-left (IsAppliedBy changes applied) (λ w. root == w.owner.root) is (recursion_from_All (IsAppliedBy changes applied) is each))) x y

  every-tree : (ws : List Window) → list_any (λ w. marks (tree_of w.root (map told_of was)) (tree_of w.root (map told_of is)) changes x y) (map told_of ws)
      ≡ list_any (λ w. marks_of_tree applied (of_root w.owner.root was) (of_root w.owner.root is) x y) ws
  every-tree [] = refl
  every-tree (w ∷ ws) = ap₂ (λ b c. b || c) (one-tree w.owner.root) (every-tree ws)

pub marks-trees-as-applied : (A : Type 0) → MarksTreesAsApplied A
marks-trees-as-applied A client was is of-client changes applied each x y =
    ap (list_any (λ w. marks (tree_of w.root (map told_of was)) (tree_of w.root (map told_of is)) changes x y)) (sym (map-append told_of was is))
    ∙ every-tree A client was is of-client changes applied each x y (was ++ is)

pub marks-trees-between : (A : Type 0) → MarksByTreesBetween → MarksTreesBetween A
marks-trees-between A between c toplevel d e step of-client changes each raised width height x y =
    let bounds = between c toplevel d e step raised width height x y in
    let same = marks-trees-as-applied A c step.was step.is of-client changes (applied_between d e) each x y in (
      λ least. same ∙ bounds.0 least,
      λ marked. bounds.1 (ap (λ b. in_output width height x y && b) (sym same) ∙ marked),
    )

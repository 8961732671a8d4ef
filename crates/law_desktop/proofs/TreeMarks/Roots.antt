-- Windows that have a root that none of the others has make one tree.
use Rattle.std.proofs.Common.{◌≡◌, ℕ, true, false, ◌++◌, ap, sym, ◌∙◌}
use Rattle.std.specs.Prelude.{◌==◌, ◌&&◌}
use Rattle.std.specs.List.{list_all, list_any}
use Rattle.std.proofs.lemmas.Bool.{eqb-true}
use Rattle.spec_desktop.specs.Windows.{Window}
use Rattle.spec_desktop.specs.Marks.{is_of_tree}
use Rattle.law_desktop.specs.TreeMarksLaws.{IsTreeOfRoot, has_root}
use Rattle.law_desktop.proofs.Lists.Tests.{all-each, any-as, any-none, each-all}
use Rattle.law_desktop.proofs.Truth.{and-left, and-right}
use Rattle.law_desktop.proofs.Lists.Each.{each-map, each-of}

-- of the tree of a window are those that have its root
root-tree : (client root : ℕ) (w : Window) → has_root client root w ≡ true → (v : Window) → is_of_tree w v ≡ has_root client root v
root-tree client root w e v =
    ap (λ n. (n == v.owner.client) && (w.owner.root == v.owner.root)) (sym (eqb-true client w.owner.client (and-left (client == w.owner.client) _ e)))
    ∙ ap (λ n. (client == v.owner.client) && (n == v.owner.root)) (sym (eqb-true root w.owner.root (and-right (client == w.owner.client) _ e)))

pub is-tree-of-root : IsTreeOfRoot
is-tree-of-root below above was is client root all none =
    let rooted = each-all (has_root client root) (was ++ is) all in
    record {
      together = all-each (λ w. list_all (is_of_tree w) (was ++ is)) (was ++ is)
          (each-map (λ w. has_root client root w ≡ true) (λ w. list_all (is_of_tree w) (was ++ is) ≡ true)
          (λ w e. all-each (is_of_tree w) (was ++ is)
          (each-map (λ v. has_root client root v ≡ true) (λ v. is_of_tree w v ≡ true) (λ v f. root-tree client root w e v ∙ f) (was ++ is) rooted)) (was ++ is) rooted);
      apart = any-none (λ w. list_any (is_of_tree w) (below ++ above)) (was ++ is)
          (each-map (λ w. has_root client root w ≡ true) (λ w. list_any (is_of_tree w) (below ++ above) ≡ false)
          (λ w e. any-as (is_of_tree w) (has_root client root) (below ++ above)
          (each-of (λ v. is_of_tree w v ≡ has_root client root v) (root-tree client root w e) (below ++ above)) ∙ none) (was ++ is) rooted);
    }

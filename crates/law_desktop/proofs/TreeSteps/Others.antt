-- Where the surfaces that don't descend from one are kept, so are the trees that it is not in.
use Rattle.std.proofs.Common.{◌≡◌, ℕ, true, false, None, ap, sym, subst, ◌∙◌, arith}
use Rattle.std.proofs.lemmas.Bool.{false_from_ne_true}
use Rattle.std.specs.Option.{option_map}
use Rattle.wl_surface.specs.State.{counting}
use Rattle.wl_surface.specs.Surfaces.{Surfaces}
use Rattle.wl_surface.specs.Trees.{descends_from, levels, link_of}
use Rattle.wl_surface.specs.Hanging.{AreNumbered}
use Rattle.law_desktop.specs.Soundness.{AreTrees}
use Rattle.law_desktop.specs.TreeStepsLaws.{KeepsOthers, KeepsTree, OtherTreesStay}
use Rattle.law_desktop.proofs.TreeSteps.Descents.{has-root, roots-same, through}
use Rattle.law_desktop.proofs.TreeSteps.Staying.{tree-stays}
use Rattle.law_desktop.proofs.Truth.{differ}

module _ (all : Surfaces) (id root : ℕ) (trees : AreTrees all) (apart : AreNumbered all.links) (top : link_of root all ≡ None) (other : descends_from levels all root id ≡ false) where
  -- nothing of the tree of one root descends from a surface of another
  pub none-under : (surface : ℕ) → descends_from levels all root surface ≡ true → descends_from levels all id surface ≡ false
  none-under surface under = false_from_ne_true (descends_from levels all id surface) never
    where
      never : descends_from levels all id surface ≡ true → ⊥
      never below =
          let r = has-root all trees apart id in
          let same = roots-same 17 34 all root r.0 surface top r.1.top under (through 17 17 34 all r.0 id surface (omega arith) below r.1.under) in
          differ (sym other ∙ subst (λ x. descends_from levels all x id ≡ true) (sym same) r.1.under)

  pub keeps-tree : (new : Surfaces) → KeepsOthers id all new → KeepsTree root all new
  keeps-tree new keeps = record {
    counts = λ surface under. ap (option_map counting) (keeps.histories surface (none-under surface under));
    kids = λ number child named is under. keeps.kids number child named is (none-under child under);
    gone = keeps.gone;
  }

pub other-trees-stay : OtherTreesStay
other-trees-stay all new id root trees once apart keeps top other =
    let kept = keeps-tree all id root trees apart top other new keeps in
    (kept, tree-stays all new root trees once kept)

-- Which trees of a client are kept: those that the surface that changes is not in, or all.
use Rattle.std.proofs.Common.{◌≡◌, ℕ, ◌&&◌, true, false, None, ap, sym, subst, ◌∙◌}
use Rattle.std.proofs.lemmas.Bool.{false_from_ne_true}
use Rattle.std.specs.Prelude.{ℤ, ◌==◌, int_le, pos, unsigned_abs}
use Rattle.std.specs.Option.{option_map}
use Rattle.wl_surface.specs.State.{counting}
use Rattle.wl_surface.specs.Surfaces.{history_in}
use Rattle.wl_surface.specs.Trees.{descends_from, levels, link_of}
use Rattle.spec_desktop.specs.Windows.{tree}
use Rattle.spec_desktop.specs.Desktop.{Desktop}
use Rattle.spec_desktop.specs.Moments.{applied_between}
use Rattle.law_desktop.specs.Soundness.{IsNoChild}
use Rattle.law_desktop.proofs.Marks.Stacks.{equal-numbers}
use Rattle.law_desktop.proofs.Soundness.LinkedDepths.{descends-itself}
use Rattle.law_desktop.specs.TreeStepsLaws.{IsRootOf, KeepsAll, KeepsOthers}
use Rattle.law_desktop.proofs.TreeSteps.Damage.{applies-nothing}
use Rattle.law_desktop.proofs.TreeSteps.Descents.{no-child-is-top, roots-apart}
use Rattle.law_desktop.proofs.TreeSteps.Others.{none-under, other-trees-stay}
use Rattle.law_desktop.proofs.TreeSteps.Owners.{tree-owned, tree-under}
use Rattle.law_desktop.proofs.TreeSteps.Staying.{all-trees-stay}
use Rattle.law_desktop.specs.Changes.{HasTrees}
use Rattle.law_desktop.proofs.RootsOf.Kept.{IsUndamaged, RootIsKept, same-undamaged, surfaces_in}
use Rattle.law_desktop.proofs.Truth.{and-false, differ}
use Rattle.law_desktop.proofs.Lists.Each.{each-both, each-map}

-- ---- the trees that the surface is not in

module _ (c : ℕ) (d e : Desktop) (had : HasTrees d) where
  pub other-tree : (id root : ℕ) → KeepsOthers id (surfaces_in d c) (surfaces_in e c) → IsRootOf (surfaces_in d c) id root → (x : ℕ) → IsNoChild x (surfaces_in d c)
      → (x == root) ≡ false → RootIsKept c d e x
  other-tree id root keeps its x no_child other = record {
    counts = ap (option_map counting) (histories x (descends-itself levels (surfaces_in d c) x));
    windows = (other-trees-stay (surfaces_in d c) (surfaces_in e c) id x (had.sound.trees c) (had.once c) (had.numbered c) keeps top elsewhere).1;
    undamaged = λ owner place own.
        each-both (λ w. w.owner ≡ owner) (λ w. descends_from levels (surfaces_in d c) x w.surface ≡ true) (IsUndamaged d e)
        (λ w of under.
        subst (λ n. (a b : ℤ) → applied_between d e n w.surface a b ≡ false) (sym (ap (λ o. o.client) of ∙ own)) (same-undamaged d e c w.surface (histories w.surface under)))
        (tree 17 owner (surfaces_in d c) x place) (tree-owned 17 owner (surfaces_in d c) x place)
        (tree-under owner (surfaces_in d c) (had.sound.trees c) (had.once c) x place);
  }
    where
      top : link_of x (surfaces_in d c) ≡ None
      top = no-child-is-top (surfaces_in d c) (had.numbered c) x no_child

      elsewhere : descends_from levels (surfaces_in d c) x id ≡ false
      elsewhere =
          false_from_ne_true (descends_from levels (surfaces_in d c) x id)
          (λ under. differ (sym other ∙ equal-numbers x root (roots-apart (surfaces_in d c) x root id top its.top under its.under)))

      histories : (surface : ℕ) → descends_from levels (surfaces_in d c) x surface ≡ true → history_in surface (surfaces_in e c) ≡ history_in surface (surfaces_in d c)
      histories surface under =
          keeps.histories surface (none-under (surfaces_in d c) id x (had.sound.trees c) (had.numbered c) top elsewhere surface under)

  -- ---- all trees

  pub any-tree : KeepsAll (surfaces_in d c) (surfaces_in e c) → (x : ℕ) → RootIsKept c d e x
  any-tree keeps x = record {
    counts = keeps.counts x;
    windows = λ owner place. all-trees-stay (surfaces_in d c) (surfaces_in e c) (had.sound.trees c) (had.once c) keeps owner x place;
    undamaged = λ owner place own.
        each-map (λ w. w.owner ≡ owner) (IsUndamaged d e)
        (λ w of. subst (λ n. (a b : ℤ) → applied_between d e n w.surface a b ≡ false) (sym (ap (λ o. o.client) of ∙ own)) (damage w.surface))
        (tree 17 owner (surfaces_in d c) x place) (tree-owned 17 owner (surfaces_in d c) x place);
  }
    where
      damage : (surface : ℕ) (a b : ℤ) → applied_between d e c surface a b ≡ false
      damage surface a b =
          ap (λ q. (int_le (pos 0) a && int_le (pos 0) b) && q)
          (applies-nothing (history_in surface (surfaces_in d c)) (history_in surface (surfaces_in e c)) (keeps.cuts surface) (unsigned_abs a) (unsigned_abs b))
          ∙ and-false (int_le (pos 0) a && int_le (pos 0) b)

-- Whose the windows of a tree are, and which surfaces have them.
use Rattle.std.proofs.Common.{◌≡◌, ℕ, zero, suc, ◌+◌, ◌≤◌, true, Option, Some, None, List, refl, sym, subst, arith}
use Rattle.wl_surface.specs.Request.{Buffer, Child, Itself, Member, Request}
use Rattle.wl_surface.specs.State.{Values, offset, order, values}
use Rattle.wl_surface.specs.Surfaces.{Surfaces, history_in}
use Rattle.wl_surface.specs.Trees.{descends_from, levels}
use Rattle.spec_desktop.specs.Windows.{Owner, Place, Window, moved, tree, window_with}
use Rattle.wl_surface.specs.Hanging.{kids_of}
use Rattle.wl_surface.specs.TreeLaws.{AreOnceLinked}
use Rattle.wl_surface.specs.Stacks.{Kids}
use Rattle.wl_surface.proofs.Placing.{live-found}
use Rattle.law_desktop.proofs.Soundness.Trees.{under-depth}
use Rattle.law_desktop.specs.Soundness.{AreTrees}
use Rattle.law_desktop.proofs.Soundness.Trees.{IsUnder, Under, each-flat, tree-each}
use Rattle.std.specs.Option.{option_map}
use Rattle.wl_surface.specs.State.{counting}
use Rattle.law_desktop.proofs.TreeSteps.Descents.{at-top, by-parent, within}
use Rattle.law_desktop.proofs.TreeSteps.Reading.{Next, kid_by, member_by, reads-surface, shown_by, surface_by}
use Rattle.law_desktop.proofs.Lists.Each.{Each, each-map, each-of}

-- ---- owners

abbrev AreOwned : Owner → List Window → Type 0
AreOwned owner ws = Each (λ w. w.owner ≡ owner) ws

own-owned : (owner : Owner) (surface : ℕ) (corner : Place) (v : Values) (buffer : Option Buffer) → AreOwned owner (window_with owner surface corner v buffer)
own-owned owner surface corner v None = tt
own-owned owner surface corner v (Some buffer) = (refl, tt)

module _ (next : Next) (owner : Owner) (each : (child : ℕ) (place : Place) → AreOwned owner (next child place)) (kids : Kids) where
  kid-owned : (rs : List Request) (corner : Place) (l : ℕ) (o : Option ℕ) → AreOwned owner (kid_by next rs corner l o)
  kid-owned rs corner l None = tt
  kid-owned rs corner l (Some child) = each child _

  member-owned : (surface : ℕ) (rs : List Request) (corner : Place) (m : Member) → AreOwned owner (member_by next owner kids surface rs corner m)
  member-owned surface rs corner Itself = own-owned owner surface corner (values rs) (values rs).buffer
  member-owned surface rs corner (Child l) = kid-owned rs corner l (kids l)

  shown-owned : (surface : ℕ) (rs : List Request) (corner : Place) (buffer : Option Buffer) → AreOwned owner (shown_by next owner kids surface rs corner buffer)
  shown-owned surface rs corner None = tt
  shown-owned surface rs corner (Some buffer) =
      each-flat (λ w. w.owner ≡ owner) (member_by next owner kids surface rs corner) (order rs)
      (each-of (λ m. AreOwned owner (member_by next owner kids surface rs corner m)) (member-owned surface rs corner) (order rs))

  surface-owned : (surface : ℕ) (place : Place) (o : Option (List Request)) → AreOwned owner (surface_by next owner kids surface place o)
  surface-owned surface place None = tt
  surface-owned surface place (Some rs) = shown-owned surface rs (moved place (offset rs).x (offset rs).y) (values rs).buffer

pub tree-owned : (n : ℕ) (owner : Owner) (all : Surfaces) (surface : ℕ) (place : Place) → Each (λ w. w.owner ≡ owner) (tree n owner all surface place)
unfolding tree
tree-owned zero owner all surface place = tt
tree-owned (suc n) owner all surface place =
    subst (λ (ws : List Window). Each (λ w. w.owner ≡ owner) ws) (sym (reads-surface (λ child at. tree n owner all child at) owner all surface place (history_in surface all)))
    (surface-owned (λ child at. tree n owner all child at) owner (λ child at. tree-owned n owner all child at) (kids_of all) surface place (option_map counting (history_in surface all)))

-- ---- surfaces

module _ (all : Surfaces) (once : AreOnceLinked all.links) where
  under-descends : (n top s : ℕ) → Under all n top s → descends_from n all top s ≡ true
  under-descends zero top s under = at-top zero all top s under
  under-descends (suc n) top s under =
      subst (λ x. descends_from (suc n) all top x ≡ true) under.3
      (by-parent n all top under.1.child under.1 (live-found under.0 all.links under.1 once under.2.here under.2.lives) (under-descends n top under.1.parent under.4))

low-enough : (s c n : ℕ) → s ≡ c + n → s ≤ 16 → n ≤ 17
low-enough s c n e le = omega arith

-- each window of a tree is of a surface that descends from the root
pub tree-under : (owner : Owner) (all : Surfaces) → AreTrees all → AreOnceLinked all.links → (root : ℕ) (place : Place)
    → Each (λ w. descends_from levels all root w.surface ≡ true) (tree 17 owner all root place)
tree-under owner all trees once root place =
    each-map (IsUnder owner.client all root) (λ w. descends_from levels all root w.surface ≡ true)
    (λ w u.
    within u.levels 17 all root w.surface (low-enough (trees.depth w.surface) (trees.depth root) u.levels (under-depth all trees u.levels root w.surface u.under) (trees.shallow w.surface))
    (under-descends all once u.levels root w.surface u.under))
    (tree 17 owner all root place) (tree-each 17 owner all trees root place)

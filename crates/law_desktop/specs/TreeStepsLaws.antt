-- Laws of what stays of the trees of surfaces that a request is nothing to (wayland.xml, wl_subcompositor and wl_subsurface).
use Rattle.std.specs.Prelude.{ℕ, ◌≡◌, true, false, Option, Some, None, List}
use Rattle.std.specs.Option.{option_map}
use Rattle.wl_surface.specs.Request.{Request}
use Rattle.wl_surface.specs.State.{History, counting}
use Rattle.wl_surface.specs.Surfaces.{Surfaces, history_in}
use Rattle.wl_surface.specs.Trees.{descends_from, levels, link_of}
use Rattle.wl_surface.specs.TreeLaws.{AreOnceLinked}
use Rattle.wl_surface.specs.Hanging.{AreNumbered, kids_of}
use Rattle.wl_surface.specs.Stacks.{has_child}
use Rattle.spec_desktop.specs.Windows.{Owner, Place, tree}
use Rattle.spec_desktop.specs.Moments.{is_applied_by}
use Rattle.law_desktop.specs.Soundness.{AreTrees, IsNoChild}

-- what counts of what was asked of a surface (wayland.xml, wl_surface.commit)
abbrev pub counted_in : ℕ → Surfaces → Option (List Request)
counted_in surface all = option_map counting (history_in surface all)

-- how many of the requests of a surface count
abbrev pub cut_in : ℕ → Surfaces → Option ℕ
cut_in surface all = option_map (λ h. h.cut) (history_in surface all)

-- The number of a link is named where its child is in the order that counts of a surface; the link may have ended since (wayland.xml,
-- wl_subsurface.place_above).
pub record IsNamed (number : ℕ) (all : Surfaces) : Type 0 where
  pub surface : ℕ
  pub history : History
  pub here : history_in surface all ≡ Some history
  pub there : has_child number (counting history) ≡ true

-- The tree of this root keeps all that its windows are read from: what counts of each of its surfaces, and, of the links that are named,
-- the child of each in it that lives. One that has ended, or isn't there, gets no child.
pub record KeepsTree (root : ℕ) (all new : Surfaces) : Type 0 where
  pub counts : (surface : ℕ) → descends_from levels all root surface ≡ true → counted_in surface new ≡ counted_in surface all
  pub kids :
      (number child : ℕ) → IsNamed number all → kids_of all number ≡ Some child → descends_from levels all root child ≡ true
      → kids_of new number ≡ Some child
  pub gone : (number : ℕ) → IsNamed number all → kids_of all number ≡ None → kids_of new number ≡ None

-- A tree that is kept shows the same windows, wherever it stands and whosever it is.
abbrev pub TreeStays : Type 0
TreeStays =
    (all new : Surfaces) (root : ℕ) → AreTrees all → AreOnceLinked all.links → KeepsTree root all new
    → (owner : Owner) (place : Place) → tree 17 owner new root place ≡ tree 17 owner all root place

-- Two surfaces without a parent are one, where the same surface descends from both.
abbrev pub RootsApart : Type 0
RootsApart =
    (all : Surfaces) (one other surface : ℕ) → link_of one all ≡ None → link_of other all ≡ None
    → descends_from levels all one surface ≡ true → descends_from levels all other surface ≡ true → one ≡ other

-- the root of the tree that this surface is in: a surface that has no parent, from which this one descends
pub record IsRootOf (all : Surfaces) (surface root : ℕ) : Type 0 where
  pub top : link_of root all ≡ None
  pub under : descends_from levels all root surface ≡ true

-- Each surface is in the tree of some root.
abbrev pub HasRoot : Type 0
HasRoot = (all : Surfaces) → AreTrees all → AreNumbered all.links → (surface : ℕ) → (root : ℕ) × IsRootOf all surface root

-- A surface that is no child by a link that lives has no parent.
abbrev pub NoChildIsTop : Type 0
NoChildIsTop = (all : Surfaces) → AreNumbered all.links → (surface : ℕ) → IsNoChild surface all → link_of surface all ≡ None

-- Of the surfaces that don't descend from this one, all that was asked is as it was, and so is how much of it counts; and, of the links
-- that are named, one to such a child lives on. One that has ended, or isn't there, gets no child.
pub record KeepsOthers (id : ℕ) (all new : Surfaces) : Type 0 where
  pub histories : (surface : ℕ) → descends_from levels all id surface ≡ false → history_in surface new ≡ history_in surface all
  pub kids :
      (number child : ℕ) → IsNamed number all → kids_of all number ≡ Some child → descends_from levels all id child ≡ false
      → kids_of new number ≡ Some child
  pub gone : (number : ℕ) → IsNamed number all → kids_of all number ≡ None → kids_of new number ≡ None

-- Where the surfaces that don't descend from one are kept, so is each tree that this one is not in, and its windows with it.
abbrev pub OtherTreesStay : Type 0
OtherTreesStay =
    (all new : Surfaces) (id root : ℕ) → AreTrees all → AreOnceLinked all.links → AreNumbered all.links → KeepsOthers id all new
    → link_of root all ≡ None → descends_from levels all root id ≡ false
    → KeepsTree root all new
    × ((owner : Owner) (place : Place) → tree 17 owner new root place ≡ tree 17 owner all root place)

-- All trees keep what their windows are read from: what counts of each surface, and the child of each link that is named. No more requests
-- count than before.
pub record KeepsAll (all new : Surfaces) : Type 0 where
  pub counts : (surface : ℕ) → counted_in surface new ≡ counted_in surface all
  pub cuts : (surface : ℕ) → cut_in surface new ≡ cut_in surface all
  pub kids : (number : ℕ) → IsNamed number all → kids_of new number ≡ kids_of all number

-- Then every tree shows the same windows.
abbrev pub AllTreesStay : Type 0
AllTreesStay =
    (all new : Surfaces) → AreTrees all → AreOnceLinked all.links → KeepsAll all new
    → (owner : Owner) (root : ℕ) (place : Place) → tree 17 owner new root place ≡ tree 17 owner all root place

-- To a surface of which no more counts than before, no damage is applied (wayland.xml, wl_surface.damage and wl_surface.commit).
abbrev pub AppliesNothing : Type 0
AppliesNothing =
    (old new : Option History) → option_map (λ h. h.cut) new ≡ option_map (λ h. h.cut) old → (x y : ℕ)
    → is_applied_by old new x y ≡ false

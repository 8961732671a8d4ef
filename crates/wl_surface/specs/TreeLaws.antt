-- Laws of trees of surfaces (wayland.xml, wl_subcompositor and wl_subsurface).
use Rattle.std.specs.Prelude.{ℕ, suc, ◌≡◌, ◌≤◌, ◌==◌, ◌&&◌, Bool, true, false, ◌||◌, cond, not, None, List, [], ◌∷◌, map}
use Rattle.std.specs.List.{list_any}
use Rattle.std.specs.Option.{option_map}
use Rattle.wl_links.specs.declared.trees.Place.{Place}
use Rattle.wl_links.specs.Trees.{StandFor, depth_by, is_under, level_at}
use Rattle.wl_links.specs.Family.{IsHeightBelow, IsTooDeep, Links, behaves_synchronised as behaves_by, parents_of, root_by}
use Rattle.wl_surface.specs.Surface.{applying}
use Rattle.wl_surface.specs.Surfaces.{Link, Surfaces}
use Rattle.wl_surface.specs.Trees.{applied_tree, behaves_synchronised, depth, descends_from, ending, height, levels, link_of}
use Rattle.wl_surface.specs.Trees.{is_bad_parent, is_too_deep}

-- the link is of this child and hasn't ended
abbrev pub is_live_of : ℕ → Link → Bool
is_live_of child l = not l.has_ended && l.child == child

-- Each child has one living link at most (wayland.xml, wl_subcompositor.get_subsurface: a surface
-- has one role object).
abbrev pub AreOnceLinked : List Link → Type 0
AreOnceLinked [] = Unit {0}
AreOnceLinked (l ∷ ls) = (l.has_ended ≡ false → list_any (is_live_of l.child) ls ≡ false) × AreOnceLinked ls

-- the surfaces, with those of a kind applied
abbrev pub applied_where : (ℕ → Bool) → Surfaces → Surfaces
applied_where which all = record all { surfaces = map (λ s. cond (which s.id) (applying s) s) all.surfaces }

-- Applying a surface applies each surface that descends from it.
abbrev pub AppliesDescendants : Type 0
AppliesDescendants =
    (all : Surfaces) → AreOnceLinked all.links → (n surface : ℕ)
    → applied_tree (suc n) surface all ≡ applied_where (descends_from n all surface) all

-- the links, with those ended that have this surface as child or parent
abbrev pub ended_with : ℕ → List Link → List Link
ended_with surface links = map (λ l. cond (l.child == surface || l.parent == surface) (ending l) l) links

-- the living links of a client as they are kept, by their children
abbrev pub links_of : Surfaces → Links
links_of all child = option_map (λ l. record { parent = l.parent; is_synchronised = l.synchronised }) (link_of child all)

-- A surface is as deep by what is kept as by definition.
abbrev pub HaveSameDepth : Type 0
HaveSameDepth = (all : Surfaces) (n surface : ℕ) → depth n all surface ≡ depth_by n (parents_of (links_of all)) surface

-- It descends from the same surfaces by both.
abbrev pub HaveSameDescent : Type 0
HaveSameDescent =
    (all : Surfaces) (n top surface : ℕ) → descends_from n all top surface ≡ is_under n (parents_of (links_of all)) top surface

-- It behaves synchronised by both, or by neither.
abbrev pub HaveSameModes : Type 0
HaveSameModes = (all : Surfaces) (n surface : ℕ) → behaves_synchronised n all surface ≡ behaves_by n (links_of all) surface

-- By both as many levels stand below it, if no place is deeper than 16. Below a surface without a
-- place none do.
abbrev pub HaveSameHeight : Type 0
HaveSameHeight =
    (all : Surfaces) (places : List Place) → AreOnceLinked all.links → StandFor places (parents_of (links_of all))
    → ((index : ℕ) → level_at index places ≤ 16) → (surface height_kept : ℕ)
    → IsHeightBelow (parents_of (links_of all)) surface height_kept → height levels all surface ≡ height_kept

-- Both refuse the same children (wl_subcompositor.get_subsurface), if no place is deeper than 16.
abbrev pub HaveSameRefusals : Type 0
HaveSameRefusals =
    (all : Surfaces) (places : List Place) → AreOnceLinked all.links → StandFor places (parents_of (links_of all))
    → ((index : ℕ) → level_at index places ≤ 16) → (links : Links) → links ≡ links_of all → (child parent : ℕ)
    → ((is : Bool) → IsTooDeep child parent links is → is_too_deep all child parent ≡ is)
    × (is_bad_parent all child parent ≡ is_under 16 (parents_of links) child parent)

-- A surface is the only one without a living link from which this one descends, at whatever number
-- of levels one looks.
pub record IsOnlyRoot (all : Surfaces) (surface root : ℕ) : Type 0 where
  pub unlinked : link_of root all ≡ None
  pub above : descends_from levels all root surface ≡ true
  pub only : (n other : ℕ) → link_of other all ≡ None → descends_from n all other surface ≡ true → other ≡ root

-- Going from child to parent ends at the root of a surface's tree, if no place is deeper than 16.
abbrev pub HasOneRoot : Type 0
HasOneRoot =
    (all : Surfaces) (places : List Place) → StandFor places (parents_of (links_of all)) → ((index : ℕ) → level_at index places ≤ 16)
    → (surface : ℕ) → IsOnlyRoot all surface (root_by 16 (parents_of (links_of all)) surface)

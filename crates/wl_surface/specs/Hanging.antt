-- When what is kept of how a client's surfaces hang together stands for what was asked of them
-- (wayland.xml, wl_subcompositor and wl_subsurface). Surfaces go by their numbers.
use Rattle.std.specs.Prelude.{ℕ, ℤ, pos, ◌≡◌, ◌≤◌, ◌==◌, ◌&&◌, not, Bool, true, false, cond, take, Option, Some, None, List, [], ◌∷◌}
use Rattle.std.specs.List.{list_any}
use Rattle.std.specs.Option.{option_map}
use Rattle.wl_links.specs.declared.placed.Member.{Member as Kept}
use Rattle.wl_links.specs.declared.placed.Side.{Side}
use Rattle.wl_links.specs.Stacks.{Stacks, added, beside, moved, placed}
use Rattle.wl_links.specs.Family.{HangTogether, Tied, applied, at_parent, changed_at, childless, committed, in_mode, joined, left}
use Rattle.wl_links.specs.Family.{links_in, orphaned, pending_as, stacks_in, unlinked, with_at}
use Rattle.wl_surface.specs.Request.{Commit, Member, Request, SetPosition}
use Rattle.wl_surface.specs.State.{History, committed as committed_at, counting, is_commit, position}
use Rattle.wl_surface.specs.Surface.{applying, asking}
use Rattle.wl_surface.specs.Surfaces.{Link, Surfaces, history_in, link_at, surface_at, with_change, with_new, without_surface}
use Rattle.wl_surface.specs.Trees.{applied_tree, descends_from, destroyed_in, ending, in_mode as with_mode, levels, linked, with_link}
use Rattle.wl_surface.specs.TreeLaws.{AreOnceLinked, applied_where, ended_with, links_of}
use Rattle.wl_surface.specs.Stacks.{IsKept, Kids, has_child, is_about_children, place_request, stack_by}

-- the child of each link that lives
abbrev pub kid_of : Option Link → Option ℕ
kid_of None = None
kid_of (Some l) = cond l.has_ended None (Some l.child)

abbrev pub kids_of : Surfaces → Kids
kids_of all number = kid_of (link_at number all)

-- the stacks that a surface's requests make: all of them, those up to the last commit, and those
-- that count
abbrev pub stacks_by : Kids → History → Stacks
stacks_by kids h =
    record {
      pending = stack_by kids h.requests;
      held = stack_by kids (take (committed_at h.requests) h.requests);
      applied = stack_by kids (counting h);
    }

abbrev pub stacks_at : Kids → Option History → Stacks
stacks_at kids None = childless
stacks_at kids (Some h) = stacks_by kids h

-- What is kept stands for the living links, and for the stacks that were asked.
pub record HangsAs (tied : Tied) (all : Surfaces) : Type 0 where
  pub links : (child : ℕ) → links_in tied child ≡ links_of all child
  pub stacks : (surface : ℕ) → stacks_in tied surface ≡ stacks_at (kids_of all) (history_in surface all)

-- no two links have the same number
abbrev pub AreNumbered : List Link → Type 0
AreNumbered [] = Unit {0}
AreNumbered (l ∷ ls) = (list_any (λ k. k.number == l.number) ls ≡ false) × AreNumbered ls

-- The links and the surfaces' requests are as they should be. Links have numbers of their own, and
-- living ones children of their own. No more counts than was committed. A surface's requests name
-- living links to its own children alone, and its parent's requests name each.
pub record AreTied (all : Surfaces) : Type 0 where
  pub once : AreOnceLinked all.links
  pub apart : AreNumbered all.links
  pub cuts : (surface : ℕ) (h : History) → history_in surface all ≡ Some h → h.cut ≤ committed_at h.requests
  pub named : (surface link : ℕ) (h : History) → history_in surface all ≡ Some h → link_at link all ≡ None
      → has_child link h.requests ≡ false
  pub placed : (surface link : ℕ) (h : History) → history_in surface all ≡ Some h → link_at link all ≡ None
      → position link h.requests ≡ (pos 0, pos 0)
  pub parents :
      (surface number : ℕ) (h : History) (link : Link) → history_in surface all ≡ Some h → link_at number all ≡ Some link
      → link.has_ended ≡ false → has_child number h.requests ≡ true → link.parent ≡ surface
  pub listed : (number : ℕ) (link : Link) → link_at number all ≡ Some link → link.has_ended ≡ false
      → (h : History) × (history_in link.parent all ≡ Some h) × (has_child number h.requests ≡ true)

-- What is kept stands for what was asked, and that is as it should be.
abbrev pub Hang : Tied → Surfaces → Type 0
Hang tied all = HangsAs tied all × AreTied all

-- What is asked of a surface itself changes nothing of how surfaces hang together.
abbrev pub AsksAlone : Type 0
AsksAlone =
    (tied : Tied) (all : Surfaces) (surface : ℕ) (r : Request) → is_about_children r ≡ false → is_commit r ≡ false → Hang tied all
    → Hang tied (with_change surface (asking r) all)

-- A commit makes the pending stack the held one.
abbrev pub CommitsStack : Type 0
CommitsStack =
    (old new : Tied) (all : Surfaces) (surface : ℕ) → links_in new ≡ links_in old
    → stacks_in new ≡ changed_at surface committed (stacks_in old) → Hang old all → Hang new (with_change surface (asking Commit) all)

-- Applying a surface makes its held stack the applied one.
abbrev pub AppliesStack : Type 0
AppliesStack =
    (old new : Tied) (all : Surfaces) (surface : ℕ) → links_in new ≡ links_in old
    → stacks_in new ≡ changed_at surface applied (stacks_in old) → Hang old all → Hang new (with_change surface applying all)

-- set_position of a living link changes the child's place in its parent's pending stack.
abbrev pub MovesChild : Type 0
MovesChild =
    (old new : Tied) (all : Surfaces) (number : ℕ) (link : Link) (x y : ℤ) → link_at number all ≡ Some link → link.has_ended ≡ false
    → links_in new ≡ links_in old
    → stacks_in new ≡ at_parent (λ parent. pending_as (moved link.child x y)) (links_in old link.child) (stacks_in old) → Hang old all
    → Hang new (with_change link.parent (asking (SetPosition number x y)) all)

-- place_above and place_below of a living link put the child beside its parent or a sibling in the
-- pending stack.
abbrev pub PlacesChild : Type 0
PlacesChild =
    (side : Side) (old new : Tied) (all : Surfaces) (number : ℕ) (link : Link) (at : Member) (sibling : Kept)
    → link_at number all ≡ Some link → link.has_ended ≡ false → IsKept (kids_of all) at sibling → links_in new ≡ links_in old → Hang old all
    → stacks_in new ≡ at_parent (λ parent. pending_as (placed (beside side) link.child sibling)) (links_in old link.child) (stacks_in old)
    → Hang new (with_change link.parent (asking (place_request side number at)) all)

-- get_subsurface makes the child synchronised, and topmost in its parent's pending stack. The child
-- has no living link, and the number is new.
abbrev pub JoinsChild : Type 0
JoinsChild =
    (old new : Tied) (all : Surfaces) (number child parent : ℕ) (h : History) → link_at number all ≡ None → links_in old child ≡ None
    → history_in parent all ≡ Some h → links_in new ≡ joined child parent (links_in old)
    → stacks_in new ≡ changed_at parent (pending_as (added child)) (stacks_in old) → Hang old all
    → Hang new (linked number child parent all)

-- After the end of a living link, the child is in no stack of its parent.
abbrev pub EndsLink : Type 0
EndsLink =
    (old new : Tied) (all : Surfaces) (number : ℕ) (link : Link) → link_at number all ≡ Some link → link.has_ended ≡ false
    → links_in new ≡ unlinked link.child (links_in old) → stacks_in new ≡ left link.child (links_in old link.child) (stacks_in old)
    → Hang old all → Hang new (with_link number ending all)

-- set_sync and set_desync change the mode of a living link, and nothing else.
abbrev pub SetsMode : Type 0
SetsMode =
    (old new : Tied) (all : Surfaces) (number : ℕ) (link : Link) (synchronised : Bool) → link_at number all ≡ Some link
    → link.has_ended ≡ false → links_in new ≡ changed_at link.child (option_map (in_mode synchronised)) (links_in old)
    → stacks_in new ≡ stacks_in old → Hang old all → Hang new (with_link number (with_mode synchronised) all)

-- Applying a surface makes the held stacks of it and of all that descend from it the applied ones.
abbrev pub AppliesTree : Type 0
AppliesTree =
    (old new : Tied) (all : Surfaces) (surface : ℕ) → links_in new ≡ links_in old
    → ((n : ℕ) → stacks_in new n ≡ cond (descends_from 16 all surface n) (applied (stacks_in old n)) (stacks_in old n)) → Hang old all
    → Hang new (applied_tree levels surface all)

-- A new surface has no link and no children.
abbrev pub CreatesSurface : Type 0
CreatesSurface = (tied : Tied) (all : Surfaces) (id : ℕ) → surface_at id all ≡ None → Hang tied all → Hang tied (with_new id all)

-- A surface goes that is neither child nor parent by a living link.
abbrev pub RemovesSurface : Type 0
RemovesSurface =
    (old new : Tied) (all : Surfaces) (id : ℕ)
    → ((number : ℕ) (link : Link) → link_at number all ≡ Some link → link.has_ended ≡ false → (link.parent == id) ≡ false)
    → links_in new ≡ links_in old → stacks_in new ≡ with_at id childless (stacks_in old) → Hang old all → Hang new (without_surface id all)

-- The end of a surface and its links applies each surface that descends from it, and no other.
abbrev pub EndsLinks : Type 0
EndsLinks =
    (all : Surfaces) (surface : ℕ) → AreOnceLinked all.links → AreNumbered all.links
    → destroyed_in surface all
    ≡ without_surface surface (record (applied_where (descends_from levels all surface) all) { links = ended_with surface all.links })

-- the stacks that are left after a surface: none of its own, and its parent's without it
abbrev pub left_without : ℕ → Tied → ℕ → Stacks
left_without surface tied = with_at surface childless (left surface (links_in tied surface) (stacks_in tied))

-- A surface ends with its links. It is gone, and the held stacks of those that descended from it
-- are the applied ones.
abbrev pub DestroysSurface : Type 0
DestroysSurface =
    (old new : Tied) (all : Surfaces) (surface : ℕ) → HangTogether old → links_in new ≡ orphaned surface (links_in old)
    → ((n : ℕ) → stacks_in new n
    ≡ cond (descends_from 16 all surface n && not (n == surface)) (applied (left_without surface old n)) (left_without surface old n))
    → Hang old all → Hang new (destroyed_in surface all)

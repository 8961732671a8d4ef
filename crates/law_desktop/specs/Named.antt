-- When what is kept of a client's surfaces, under numbers, stands for surfaces that are named by the ids of their wl_surface objects, and
-- that it does so still after each request (wayland.xml, wl_surface, wl_subcompositor and wl_subsurface).
use Rattle.std.specs.Prelude.{ℕ, ℤ, ◌≡◌, ◌==◌, true, false, cond, Some, None}
use Rattle.wl_links.specs.Family.{Tied, member_of}
use Rattle.wl_surface.specs.declared.role.Role.{Role}
use Rattle.wl_links.specs.declared.placed.Side.{Side}
use Rattle.wl_surface.specs.Request.{Member, Request, SetPosition}
use Rattle.wl_surface.specs.State.{is_commit}
use Rattle.wl_surface.specs.Surface.{asking, new_surface, with_role}
use Rattle.wl_surface.specs.Slots.{Changes, Numbered, Slots, StandForAll, with_at}
use Rattle.wl_surface.specs.Surfaces.{Link, Surfaces, link_at, no_surfaces, surface_at, with_change, with_new}
use Rattle.wl_surface.specs.Trees.{committed_in, desynchronised_in, destroyed_in, ended_in, linked, synchronised_in, unlinked}
use Rattle.wl_surface.specs.Hanging.{kids_of}
use Rattle.wl_surface.specs.Stacks.{IsKept, is_about_children, place_request}
use Rattle.wl_surface.specs.Linked.{IsLink, Stand}
use Rattle.law_desktop.specs.Renaming.{IsRenaming, has_surface, renamed}

-- What is kept stands for these surfaces, each under the number that `names` gives its id. An id that no surface has may have any number.
pub record StandBy (names : ℕ → ℕ) (slots : Slots) (tied : Tied) (all : Surfaces) : Type 0 where
  pub stands : Stand slots tied (renamed names all)
  pub renaming : IsRenaming names all

-- What a call makes of what is kept, it makes of surfaces that are named by their numbers.
abbrev pub Makes : Slots → Tied → Slots → Tied → (Surfaces → Surfaces) → Type 0
Makes slots tied new after change = (those : Surfaces) → Stand slots tied those → Stand new after (change those)

-- So does a call that goes by the link of a child that lives, by the link's number and the link.
abbrev pub MakesBy : ℕ → Slots → Tied → Slots → Tied → (ℕ → Link → Surfaces → Surfaces) → Type 0
MakesBy child slots tied new after change =
    (those : Surfaces) (number : ℕ) (link : Link) → IsLink those number child link → Stand slots tied those
    → Stand new after (change number link those)

-- ---- one surface

-- at first, with no surfaces
abbrev pub BeginsNamed : Type 0
BeginsNamed = (names : ℕ → ℕ) (slots : Slots) (tied : Tied) → Stand slots tied no_surfaces → StandBy names slots tied no_surfaces

-- a request other than a commit, and not about children, of a surface that is there
abbrev pub AsksNamed : Type 0
AsksNamed =
    (names : ℕ → ℕ) (slots new : Slots) (tied : Tied) (all : Surfaces) (id : ℕ) (r : Request) → is_about_children r ≡ false
    → is_commit r ≡ false → has_surface id all ≡ true → StandBy names slots tied all → Changes slots new (names id) (asking r)
    → StandBy names new tied (with_change id (asking r) all)

-- a role of a surface that is there
abbrev pub RolesNamed : Type 0
RolesNamed =
    (names : ℕ → ℕ) (slots new : Slots) (tied : Tied) (all : Surfaces) (id : ℕ) (role : Role) → has_surface id all ≡ true
    → StandBy names slots tied all → Changes slots new (names id) (with_role role)
    → StandBy names new tied (with_change id (with_role role) all)

-- wl_surface.commit of a surface that is there
abbrev pub CommitsNamed : Type 0
CommitsNamed =
    (names : ℕ → ℕ) (slots new : Slots) (tied after : Tied) (all : Surfaces) (id : ℕ) → has_surface id all ≡ true
    → StandBy names slots tied all → Makes slots tied new after (committed_in (names id)) → StandBy names new after (committed_in id all)

-- ---- links

-- wl_subcompositor.get_subsurface of a child and a parent that are there, where the link's number is new
abbrev pub LinksNamed : Type 0
LinksNamed =
    (names : ℕ → ℕ) (slots new : Slots) (tied after : Tied) (all : Surfaces) (number child parent : ℕ) → has_surface child all ≡ true
    → has_surface parent all ≡ true → link_at number all ≡ None → StandBy names slots tied all
    → ((those : Surfaces) (number : ℕ) → Stand slots tied those → link_at number those ≡ None → has_surface (names child) those ≡ true
    → has_surface (names parent) those ≡ true → Stand new after (linked number (names child) (names parent) those))
    → StandBy names new after (linked number child parent all)

-- where it is refused, and what is kept stands for the same surfaces
abbrev pub StaysNamed : Type 0
StaysNamed =
    (names : ℕ → ℕ) (slots new : Slots) (tied after : Tied) (all : Surfaces) (child parent : ℕ) → has_surface child all ≡ true
    → has_surface parent all ≡ true → StandBy names slots tied all
    → ((those : Surfaces) → Stand slots tied those → has_surface (names child) those ≡ true → has_surface (names parent) those ≡ true
    → Stand new after those)
    → StandBy names new after all

-- wl_subsurface.set_position of a link that lives
abbrev pub MovesNamed : Type 0
MovesNamed =
    (names : ℕ → ℕ) (slots new : Slots) (tied after : Tied) (all : Surfaces) (number : ℕ) (link : Link) (x y : ℤ)
    → link_at number all ≡ Some link → link.has_ended ≡ false → StandBy names slots tied all
    → MakesBy (names link.child) slots tied new after (λ number link. with_change link.parent (asking (SetPosition number x y)))
    → StandBy names new after (with_change link.parent (asking (SetPosition number x y)) all)

-- wl_subsurface.place_above and place_below of a link that lives, by the request, with the parent or another child of it
abbrev pub PlacesBy : (ℕ → Member → Request) → Type 0
PlacesBy request =
    (names : ℕ → ℕ) (slots new : Slots) (tied after : Tied) (all : Surfaces) (number sibling : ℕ) (link : Link) (at : Member)
    → link_at number all ≡ Some link → link.has_ended ≡ false → has_surface sibling all ≡ true
    → IsKept (kids_of all) at (member_of link.parent sibling) → StandBy names slots tied all
    → ((those : Surfaces) (number : ℕ) (l : Link) (at : Member) → IsLink those number (names link.child) l
    → IsKept (kids_of those) at (member_of l.parent (names sibling)) → Stand slots tied those
    → Stand new after (with_change l.parent (asking (request number at)) those))
    → StandBy names new after (with_change link.parent (asking (request number at)) all)

abbrev pub PlacesNamed : Type 0
PlacesNamed = (side : Side) → PlacesBy (place_request side)

-- wl_subsurface.set_sync of a link that lives
abbrev pub SynchronisesNamed : Type 0
SynchronisesNamed =
    (names : ℕ → ℕ) (slots new : Slots) (tied after : Tied) (all : Surfaces) (number : ℕ) (link : Link) → link_at number all ≡ Some link
    → link.has_ended ≡ false → StandBy names slots tied all
    → MakesBy (names link.child) slots tied new after (λ number link. synchronised_in number)
    → StandBy names new after (synchronised_in number all)

-- wl_subsurface.set_desync of a link that lives
abbrev pub DesynchronisesNamed : Type 0
DesynchronisesNamed =
    (names : ℕ → ℕ) (slots new : Slots) (tied after : Tied) (all : Surfaces) (number : ℕ) (link : Link) → link_at number all ≡ Some link
    → link.has_ended ≡ false → StandBy names slots tied all
    → MakesBy (names link.child) slots tied new after (λ number link. desynchronised_in number)
    → StandBy names new after (desynchronised_in number all)

-- wl_subsurface.destroy of a link that lives: it alone ends.
abbrev pub UnlinksNamed : Type 0
UnlinksNamed =
    (names : ℕ → ℕ) (slots new : Slots) (tied after : Tied) (all : Surfaces) (number : ℕ) (link : Link) → link_at number all ≡ Some link
    → link.has_ended ≡ false → StandBy names slots tied all
    → MakesBy (names link.child) slots tied new after (λ number link those. ended_in those link)
    → StandBy names new after (ended_in all link) × (unlinked number all ≡ ended_in all link)

-- ---- surfaces come and go

-- wl_surface.destroy of a surface that is there
abbrev pub DestroysNamed : Type 0
DestroysNamed =
    (names : ℕ → ℕ) (slots new : Slots) (tied after : Tied) (all : Surfaces) (id : ℕ) → has_surface id all ≡ true
    → StandBy names slots tied all → Makes slots tied new after (destroyed_in (names id)) → StandBy names new after (destroyed_in id all)

-- By other names, which give the surfaces that are there the same numbers, what is kept stands for them too. So an id that is used again
-- may get another number.
abbrev pub RenamesNamed : Type 0
RenamesNamed =
    (names others : ℕ → ℕ) (slots : Slots) (tied : Tied) (all : Surfaces)
    → ((id : ℕ) → has_surface id all ≡ true → others id ≡ names id) → StandBy names slots tied all → StandBy others slots tied all

-- this id is that of this number, and each other one keeps its own
abbrev pub with_name : ℕ → ℕ → (ℕ → ℕ) → ℕ → ℕ
with_name id number names other = cond (other == id) number (names other)

-- wl_compositor.create_surface by a new id: the surface is kept under a number that no other has.
abbrev pub CreatesNamed : Type 0
CreatesNamed =
    (names : ℕ → ℕ) (slots new : Slots) (tied : Tied) (all : Surfaces) (id number : ℕ) → surface_at id all ≡ None
    → StandBy names slots tied all
    → ((those : Numbered) (id : ℕ) → StandForAll slots those
    → (those number ≡ None) × StandForAll new (with_at number (Some (new_surface id)) those))
    → StandBy (with_name id number names) new tied (with_new id all)

-- The stack of a surface and its children: as the surface's requests order it, and as it is kept
-- (wayland.xml, wl_subsurface).
use Rattle.std.specs.Prelude.{ℕ, ℤ, pos, ◌≡◌, ◌==◌, Bool, true, false, cond, Option, Some, None, List, [], ◌∷◌, ◌++◌, filter_map}
use Rattle.std.specs.List.{list_any}
use Rattle.std.specs.Option.{option_map}
use Rattle.wl_links.specs.declared.placed.Member.{Member as Kept}
use Rattle.wl_links.specs.declared.placed.Member.TheVariants as kept
use Rattle.wl_links.specs.declared.placed.Placed.{Placed}
use Rattle.wl_links.specs.declared.placed.Side.{Side}
use Rattle.wl_links.specs.declared.placed.Side.TheVariants.{Above, Below}
use Rattle.wl_links.specs.Stacks.{added, alone, beside, moved, placed, without}
use Rattle.wl_surface.specs.Request.{AddChild, Child, Itself, Member, PlaceAbove, PlaceBelow, Request, SetPosition}
use Rattle.wl_surface.specs.State.{is_member, order, position}

-- the child of each living link, by the link's number
abbrev pub Kids : Type 0
Kids = ℕ → Option ℕ

abbrev pub with_kid : ℕ → Option ℕ → Kids → Kids
with_kid link child kids other = cond (other == link) child (kids other)

-- no two living links have the same child
abbrev pub AreApart : Kids → Type 0
AreApart kids = (k l child : ℕ) → kids k ≡ Some child → kids l ≡ Some child → k ≡ l

-- what is kept of a member: its surface, if its link lives, and where it was last placed
abbrev pub place_of : Kids → List Request → Member → Option Placed
place_of kids requests Itself = Some (record { member = kept.Itself; x = pos 0; y = pos 0 })
place_of kids requests (Child link) =
    option_map
    (λ child. record { member = kept.Child child; x = (position link requests).0; y = (position link requests).1 }) (kids link)

-- the stack that these requests make
abbrev pub stack_by : Kids → List Request → List Placed
stack_by kids requests = filter_map (place_of kids requests) (order requests)

abbrev pub has_child : ℕ → List Request → Bool
has_child link requests = list_any (is_member (Child link)) (order requests)

-- This is what is kept of the member.
abbrev pub IsKept : Kids → Member → Kept → Type 0
IsKept kids Itself kept.Itself = Unit {0}
IsKept kids (Child link) (kept.Child child) = kids link ≡ Some child
IsKept kids Itself (kept.Child child) = ⊥
IsKept kids (Child link) kept.Itself = ⊥

-- the request that places a child on this side of a member
abbrev pub place_request : Side → ℕ → Member → Request
place_request Above link at = PlaceAbove link at
place_request Below link at = PlaceBelow link at

-- the requests that change a stack
abbrev pub is_about_children : Request → Bool
is_about_children (AddChild link) = true
is_about_children (SetPosition link x y) = true
is_about_children (PlaceAbove link at) = true
is_about_children (PlaceBelow link at) = true
is_about_children request = false

-- What each request makes of the stack is what is done to the kept stack. So is what the end of a
-- link makes of it.
pub record StacksFollow : Type 0 where
  pub begin : (kids : Kids) → stack_by kids [] ≡ alone
  pub still : (kids : Kids) (requests : List Request) (r : Request) → is_about_children r ≡ false
      → stack_by kids (requests ++ r ∷ []) ≡ stack_by kids requests
  pub add : (kids : Kids) (requests : List Request) (link child : ℕ) → has_child link requests ≡ false
      → position link requests ≡ (pos 0, pos 0)
      → stack_by (with_kid link (Some child) kids) (requests ++ AddChild link ∷ []) ≡ added child (stack_by kids requests)
  pub move : (kids : Kids) (requests : List Request) (link child : ℕ) (x y : ℤ) → AreApart kids → kids link ≡ Some child
      → stack_by kids (requests ++ SetPosition link x y ∷ []) ≡ moved child x y (stack_by kids requests)
  pub place :
      (side : Side) (kids : Kids) (requests : List Request) (link child : ℕ) (at : Member) (sibling : Kept) → AreApart kids
      → kids link ≡ Some child → has_child link requests ≡ true → IsKept kids at sibling
      → stack_by kids (requests ++ place_request side link at ∷ []) ≡ placed (beside side) child sibling (stack_by kids requests)
  pub lose : (kids : Kids) (requests : List Request) (link child : ℕ) → AreApart kids → kids link ≡ Some child
      → stack_by (with_kid link None kids) requests ≡ without (kept.Child child) (stack_by kids requests)
  pub others : (kids : Kids) (requests : List Request) (link : ℕ) (child : Option ℕ) → has_child link requests ≡ false
      → stack_by (with_kid link child kids) requests ≡ stack_by kids requests

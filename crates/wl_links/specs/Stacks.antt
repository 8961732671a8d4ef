-- The stack of a surface and its children from below, and where the children are (wayland.xml, wl_subsurface).
use Rattle.std.specs.Prelude.{ℕ, ℤ, pos, ◌==◌, Bool, true, false, not, if◌then◌else◌, Option, List, [], ◌∷◌, ◌++◌}
use Rattle.std.specs.Prelude.{filter, find, map, unwrap_or}
use Rattle.std.specs.List.{list_any}
use Rattle.std.specs.Option.{option_map_or}
use Rattle.wl_links.specs.declared.placed.Member.{Member}
use Rattle.wl_links.specs.declared.placed.Member.TheVariants.{Itself, Child}
use Rattle.wl_links.specs.declared.placed.Placed.{Placed}
use Rattle.wl_links.specs.declared.placed.Side.{Side}
use Rattle.wl_links.specs.declared.placed.Side.TheVariants.{Above, Below}

-- the stack pending, held and applied, each time as a whole
pub record Stacks : Type 0 where
  pub pending : List Placed
  pub held : List Placed
  pub applied : List Placed

-- a surface without children
abbrev pub alone : List Placed
alone = record { member = Itself; x = pos 0; y = pos 0 } ∷ []

-- an empty list stands for it too
abbrev pub whole : List Placed → List Placed
whole [] = alone
whole (p ∷ ps) = p ∷ ps

-- what is pending is as held, and what is held as applied, where it isn't there
abbrev pub stacks_of : Option (List Placed) → Option (List Placed) → List Placed → Stacks
stacks_of pending held applied =
    record { pending = unwrap_or pending (unwrap_or held applied); held = unwrap_or held applied; applied = applied }

abbrev pub is_member : Member → Member → Bool
is_member Itself Itself = true
is_member Itself (Child l) = false
is_member (Child k) Itself = false
is_member (Child k) (Child l) = k == l

-- the place of a member
abbrev pub is_of : Member → Placed → Bool
is_of m p = is_member m p.member

abbrev pub has_member : Member → List Placed → Bool
has_member m places = list_any (is_of m) places

abbrev pub without : Member → List Placed → List Placed
without m places = filter (λ p. not (is_of m p)) places

-- a place comes right above that of a member, or right below it
abbrev pub above : Placed → Member → List Placed → List Placed
above p at [] = []
above p at (x ∷ xs) = if is_of at x then x ∷ p ∷ xs else x ∷ above p at xs

abbrev pub below : Placed → Member → List Placed → List Placed
below p at [] = []
below p at (x ∷ xs) = if is_of at x then p ∷ x ∷ xs else x ∷ below p at xs

-- a child with this place comes beside another member, if that is there
abbrev pub moved_beside : (Placed → Member → List Placed → List Placed) → ℕ → Member → List Placed → Placed → List Placed
moved_beside beside child at places p =
    if has_member at (without (Child child) places) then beside p at (without (Child child) places) else places

-- A child comes beside a sibling, or beside the surface itself, with its position; where there is no such child, or no such sibling,
-- nothing changes (wayland.xml, wl_subsurface.place_above).
abbrev pub placed : (Placed → Member → List Placed → List Placed) → ℕ → Member → List Placed → List Placed
placed beside child at places = option_map_or (moved_beside beside child at places) (find (is_of (Child child)) places) places

abbrev pub beside : Side → Placed → Member → List Placed → List Placed
beside Above p at places = above p at places
beside Below p at places = below p at places

-- a new child is topmost, at (0, 0) (wayland.xml, wl_subcompositor.get_subsurface)
abbrev pub added : ℕ → List Placed → List Placed
added child places = places ++ record { member = Child child; x = pos 0; y = pos 0 } ∷ []

-- a child is moved; the others stay where they are (wayland.xml, wl_subsurface.set_position)
abbrev pub moved_place : ℕ → ℤ → ℤ → Placed → Placed
moved_place child x y p = if is_of (Child child) p then record p { x = x; y = y } else p

abbrev pub moved : ℕ → ℤ → ℤ → List Placed → List Placed
moved child x y places = map (moved_place child x y) places

-- a child that goes is in none of the three (wayland.xml, wl_subsurface.destroy)
abbrev pub removed : ℕ → Stacks → Stacks
removed child s =
    record { pending = without (Child child) s.pending; held = without (Child child) s.held; applied = without (Child child) s.applied }

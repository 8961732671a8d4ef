-- Whether a call changes a surface as a whole, and not just where it is damaged: its size, how its buffer is turned and scaled, whether it
-- is mapped, where it stands from its parent, or the order of the mapped windows of its tree (wayland.xml, wl_surface and wl_subsurface).
use Rattle.std.specs.Prelude.{ℕ, zero, suc, ℤ, pos, int_le, ◌+ℤ◌, ◌≡◌, ◌==◌, ◌&&◌, not, Bool, true, false, if◌then◌else◌}
use Rattle.std.specs.Prelude.{Option, Some, None, List, [], ◌∷◌, find, flat_map, is_some}
use Rattle.std.specs.Option.{option_map}
use Rattle.std.specs.Ordering.{int_eq}
use Rattle.wl_links.specs.declared.link.Link.{Link}
use Rattle.wl_links.specs.declared.placed.Member.{Member}
use Rattle.wl_links.specs.declared.placed.Member.TheVariants.{Child, Itself}
use Rattle.wl_links.specs.declared.placed.Placed.{Placed}
use Rattle.wl_links.specs.Family.{parents_of, root_by}
use Rattle.wl_links.specs.Stacks.{is_of}
use Rattle.wl_store.specs.Transform.{transform_of}
use Rattle.wl_store.specs.declared.transform.Transform.{Transform}
use Rattle.wl_store.specs.declared.transform.Transform.TheVariants.{Normal, Rotated90, Rotated180, Rotated270, Flipped, Flipped90}
use Rattle.wl_store.specs.declared.transform.Transform.TheVariants.{Flipped180, Flipped270}
use Rattle.wl_surface.specs.declared.applied.Change.{Change}
use Rattle.wl_surface.specs.declared.look.Look.{Look}
use Rattle.wl_surface.specs.Applied.{is_shown_at}
use Rattle.wl_surface.specs.Hanging.{kids_of, stacks_at}
use Rattle.wl_surface.specs.State.{History, applied, counting, height_of, offset, width_of}
use Rattle.wl_surface.specs.Surfaces.{Surfaces, history_in, surface_at}
use Rattle.wl_surface.specs.TreeLaws.{links_of}

-- ---- the look of a surface

-- a surface with its children, from below, as its counting requests order them
abbrev pub stack_of : Surfaces → ℕ → List Placed
stack_of all surface = (stacks_at (kids_of all) (history_in surface all)).applied

-- the place that its parent's counting requests give a surface; none before they have added it
abbrev pub place_by : Surfaces → ℕ → Option Link → Option Placed
place_by all surface None = None
place_by all surface (Some l) = find (is_of (Child surface)) (stack_of all l.parent)

-- a root, or a child that was added to a parent of which this is so
abbrev pub is_root_or : (ℕ → Bool) → Surfaces → ℕ → Option Link → Bool
is_root_or next all surface None = true
is_root_or next all surface (Some l) = is_some (place_by all surface (Some l)) && next l.parent

-- A surface is mapped while it has a buffer and, where it is a subsurface, was added to its parent and that is mapped.
unfoldable pub is_mapped : ℕ → Surfaces → ℕ → Bool
is_mapped zero all surface = false
is_mapped (suc n) all surface =
    is_shown_at (surface_at surface all) && is_root_or (λ parent. is_mapped n all parent) all surface (links_of all surface)

-- a root, and a child that wasn't added, are at (0, 0)
abbrev pub position_of : Option Placed → ℤ × ℤ
position_of None = (pos 0, pos 0)
position_of (Some p) = (p.x, p.y)

-- its size, transform and scale, whether it is mapped, and its position plus its offset
abbrev pub look_in : Surfaces → ℕ → History → Look
look_in all surface h =
    record {
      w = width_of (applied h).buffer (applied h).transform (applied h).scale;
      h = height_of (applied h).buffer (applied h).transform (applied h).scale;
      transform = transform_of (applied h).transform;
      scale = (applied h).scale;
      is_mapped = is_mapped 17 all surface;
      x = (position_of (place_by all surface (links_of all surface))).0 +ℤ (offset (counting h)).x;
      y = (position_of (place_by all surface (links_of all surface))).1 +ℤ (offset (counting h)).y;
    }

abbrev pub look_of : Surfaces → ℕ → Option Look
look_of all surface = option_map (look_in all surface) (history_in surface all)

-- ---- the order of a tree

abbrev pub member_windows : (ℕ → List ℕ) → ℕ → Member → List ℕ
member_windows next surface Itself = surface ∷ []
member_windows next surface (Child child) = next child

-- The mapped windows of a tree from below, down to so many levels: those of the children below the surface, itself, and those of the
-- children above it. Without a buffer neither it nor they are mapped.
unfoldable pub windows : ℕ → Surfaces → ℕ → List ℕ
windows zero all surface = []
windows (suc n) all surface =
    if is_shown_at (surface_at surface all)
    then flat_map (λ (p : Placed). member_windows (λ child. windows n all child) surface p.member) (stack_of all surface)
    else []

-- those of the tree that a surface is in
abbrev pub order_of : Surfaces → ℕ → List ℕ
order_of all surface = windows 17 all (root_by 16 (parents_of (links_of all)) surface)

-- ---- before and after

-- the number of a transform, as wl_output.transform counts them
abbrev pub number_of : Transform → ℕ
number_of Normal = 0
number_of Rotated90 = 1
number_of Rotated180 = 2
number_of Rotated270 = 3
number_of Flipped = 4
number_of Flipped90 = 5
number_of Flipped180 = 6
number_of Flipped270 = 7

abbrev pub is_same_truth : Bool → Bool → Bool
is_same_truth true b = b
is_same_truth false b = not b

abbrev pub has_same_fields : Look → Look → Bool
has_same_fields was is =
    ((was.w == is.w) && (was.h == is.h)) && ((number_of was.transform == number_of is.transform) && (was.scale == is.scale))
    && (is_same_truth was.is_mapped is.is_mapped && (int_eq was.x is.x && int_eq was.y is.y))

abbrev pub is_same_look : Option Look → Option Look → Bool
is_same_look None None = true
is_same_look (Some was) (Some is) = has_same_fields was is
is_same_look None (Some is) = false
is_same_look (Some was) None = false

abbrev pub is_same_order : List ℕ → List ℕ → Bool
is_same_order [] [] = true
is_same_order (m ∷ ms) (n ∷ ns) = (m == n) && is_same_order ms ns
is_same_order [] (n ∷ ns) = false
is_same_order (m ∷ ms) [] = false

-- The surface changes as a whole: it looks different, or the order of its tree does.
abbrev pub is_whole : Surfaces → Surfaces → ℕ → Bool
is_whole old new surface =
    not (is_same_look (look_of old surface) (look_of new surface) && is_same_order (order_of old surface) (order_of new surface))

-- of each of these changes it is told whether it is so
abbrev pub AreWhole : {A : Type 0} → Surfaces → Surfaces → List (Change A) → Type 0
AreWhole old new [] = Unit {0}
AreWhole old new (c ∷ cs) = (c.whole ≡ is_whole old new c.surface) × AreWhole old new cs

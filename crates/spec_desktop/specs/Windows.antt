-- The windows of a desktop, from bottom to top.
use Rattle.std.specs.Prelude.{ℕ, zero, suc, ℤ, pos, ◌+ℤ◌, ◌-ℤ◌, ◌*◌, ◌%◌, ◌==◌, ◌&&◌, Bool, true, false, if◌then◌else◌, Option, Some}
use Rattle.std.specs.Prelude.{None, List, [], ◌∷◌, ◌++◌, fold, flat_map}
use Rattle.std.specs.Option.{option_map_or}
use Rattle.wl_geom.specs.declared.rect.Rect.{Rect}
use Rattle.wl_geom.specs.Rect.{in_rect}
use Rattle.wl_geom.specs.Region.{Change, holds}
use Rattle.wl_surface.specs.Request.{Buffer, Member, Itself, Child}
use Rattle.wl_surface.specs.State.{History, Values, applied, counting, height_of, offset, order, position, width_of, within_bounds}
use Rattle.wl_surface.specs.Surfaces.{Link, Surfaces, history_in, link_at}

-- a point, or the corner of a surface
pub record Place : Type 0 where
  pub x : ℤ
  pub y : ℤ

abbrev pub moved : Place → ℤ → ℤ → Place
moved p x y = record { x = within_bounds (p.x +ℤ x); y = within_bounds (p.y +ℤ y) }

-- whose a window is: the client, the surface at the root of its tree, and that of the toplevel that it is stacked with
pub record Owner : Type 0 where
  pub client : ℕ
  pub root : ℕ
  pub toplevel : ℕ

-- A window: a surface with the buffer that it shows, where its upper left corner stands in the output, its size in surface coordinates, the
-- transform and the scale of its buffer, and its applied regions.
pub record Window : Type 0 where
  pub owner : Owner
  pub surface : ℕ
  pub corner : Place
  pub width : ℕ
  pub height : ℕ
  pub transform : ℕ
  pub scale : ℕ
  pub buffer : Buffer
  pub opaque : List Change
  pub input : Option (List Change)

-- the window of a surface that stands there and shows this buffer
abbrev pub window_showing : Owner → ℕ → Place → Values → Buffer → Window
window_showing owner surface corner v buffer =
    record {
      owner = owner;
      surface = surface;
      corner = corner;
      width = width_of (Some buffer) v.transform v.scale;
      height = height_of (Some buffer) v.transform v.scale;
      transform = v.transform;
      scale = v.scale;
      buffer = buffer;
      opaque = v.opaque;
      input = v.input;
    }

-- its window, if it shows one
abbrev pub window_with : Owner → ℕ → Place → Values → Option Buffer → List Window
window_with owner surface corner v None = []
window_with owner surface corner v (Some buffer) = window_showing owner surface corner v buffer ∷ []

abbrev pub window_of : Owner → ℕ → Place → History → List Window
window_of owner surface corner h = window_with owner surface corner (applied h) (applied h).buffer

-- A surface's corner: its place plus its offset, held within the bounds.
abbrev pub corner_at : Place → History → Place
corner_at place h = moved place (offset (counting h)).x (offset (counting h)).y

-- a child stands at its parent's corner plus its position; one whose link has ended nowhere
abbrev pub child_windows : (ℕ → Place → List Window) → History → Place → ℕ → Option Link → List Window
child_windows next parent corner l None = []
child_windows next parent corner l (Some link) =
    if link.has_ended
    then []
    else next link.child (record { x = corner.x +ℤ (position l (counting parent)).0; y = corner.y +ℤ (position l (counting parent)).1 })

abbrev pub member_windows : (ℕ → Place → List Window) → Owner → Surfaces → ℕ → History → Place → Member → List Window
member_windows next owner surfaces surface h corner Itself = window_of owner surface corner h
member_windows next owner surfaces surface h corner (Child l) = child_windows next h corner l (link_at l surfaces)

abbrev pub shown_windows : (ℕ → Place → List Window) → Owner → Surfaces → ℕ → History → Place → Option Buffer → List Window
shown_windows next owner surfaces surface h corner None = []
shown_windows next owner surfaces surface h corner (Some buffer) =
    flat_map (member_windows next owner surfaces surface h corner) (order (counting h))

abbrev pub surface_windows : (ℕ → Place → List Window) → Owner → Surfaces → ℕ → Place → Option History → List Window
surface_windows next owner surfaces surface place None = []
surface_windows next owner surfaces surface place (Some h) =
    shown_windows next owner surfaces surface h (corner_at place h) (applied h).buffer

-- The tree of a surface, down to so many levels: the children below it, itself, and the children above it, each with its own; nothing of a
-- surface without a buffer (wayland.xml, wl_subcompositor and wl_subsurface).
unfoldable pub tree : ℕ → Owner → Surfaces → ℕ → Place → List Window
tree zero owner surfaces surface place = []
tree (suc levels) owner surfaces surface place =
    surface_windows (λ child at. tree levels owner surfaces child at) owner surfaces surface place (history_in surface surfaces)

-- A mapped toplevel with its place, or a popup that is to be stacked, with the surface of its parent, if it has one,
-- its placement relative to the parent's window geometry, and its own geometry; all of one client.
pub record Root : Type 0 where
  pub client : ℕ
  pub surface : ℕ
  pub toplevel : ℕ
  pub geometry : Option Rect
  pub place : Place

pub record StackedPopup : Type 0 where
  pub surface : ℕ
  pub parent : Option ℕ
  pub placement : Place
  pub geometry : Option Rect
  pub is_mapped : Bool

-- the corner of a window geometry: unset, that of the surface itself
abbrev pub geometry_corner : Place → Option Rect → Place
geometry_corner corner None = corner
geometry_corner corner (Some g) = moved corner g.x g.y

abbrev pub start_of : Option Rect → Place
start_of None = record { x = pos 0; y = pos 0 }
start_of (Some g) = record { x = g.x; y = g.y }

-- the k-th mapping of a toplevel, counted from 0, puts it there
abbrev pub mapping_place : ℕ → Place
mapping_place k = record { x = pos (32 * (k % 8)); y = pos (32 * (k % 8)) }

-- A popup's place: the corner of its parent's window geometry plus its placement minus the start of its own geometry, held once.
abbrev pub popup_place : Place → StackedPopup → Place
popup_place at p =
    record {
      x = within_bounds ((at.x +ℤ p.placement.x) -ℤ (start_of p.geometry).x);
      y = within_bounds ((at.y +ℤ p.placement.y) -ℤ (start_of p.geometry).y);
    }

abbrev pub corner_in : Surfaces → Root → Place
corner_in surfaces r = corner_or r.place (history_in r.surface surfaces)
  where
    corner_or : Place → Option History → Place
    corner_or place None = place
    corner_or place (Some h) = corner_at place h

abbrev pub root_on : Surfaces → Root → StackedPopup → Root
root_on surfaces parent p =
    record {
      client = parent.client;
      surface = p.surface;
      toplevel = parent.toplevel;
      geometry = p.geometry;
      place = popup_place (geometry_corner (corner_in surfaces parent) parent.geometry) p;
    }

-- the surface is the parent of the popup
abbrev pub has_parent : ℕ → StackedPopup → Bool
has_parent surface p = option_map_or (λ parent. surface == parent) p.parent false

-- The popups of a client in order of creation: one is stacked on its parent, where that is among the roots before and it is mapped.
abbrev pub stacked_on : Surfaces → StackedPopup → List Root → List Root
stacked_on surfaces p [] = []
stacked_on surfaces p (r ∷ rs) = if p.is_mapped && has_parent r.surface p then root_on surfaces r p ∷ [] else stacked_on surfaces p rs

abbrev pub stacked : Surfaces → List Root → StackedPopup → List Root
stacked surfaces roots p = roots ++ stacked_on surfaces p roots

-- a toplevel, and then its popups
abbrev pub roots_of : Surfaces → Root → List StackedPopup → List Root
roots_of surfaces toplevel popups = fold (stacked surfaces) (toplevel ∷ []) popups

abbrev pub owner_of : Root → Owner
owner_of r = record { client = r.client; root = r.surface; toplevel = r.toplevel }

-- subsurfaces stand at most 16 levels below their root
abbrev pub windows_of : (ℕ → Surfaces) → (ℕ → List StackedPopup) → Root → List Window
windows_of surfaces popups toplevel =
    flat_map (λ (r : Root). tree 17 (owner_of r) (surfaces r.client) r.surface r.place)
    (roots_of (surfaces toplevel.client) toplevel (popups toplevel.client))

-- The windows of a desktop: each mapped toplevel, from the bottom, with its tree, and then its popups with theirs (xdg-shell.xml,
-- xdg_surface and xdg_popup).
abbrev pub windows : (ℕ → Surfaces) → (ℕ → List StackedPopup) → List Root → List Window
windows surfaces popups toplevels = flat_map (windows_of surfaces popups) toplevels

-- a point of the output lies in the window
abbrev pub rect_of : Window → Rect
rect_of w = record { x = w.corner.x; y = w.corner.y; w = pos w.width; h = pos w.height }

abbrev pub contains : Window → ℤ → ℤ → Bool
contains w x y = in_rect x y (rect_of w)

-- the input region holds a point of the surface: everything, if none was set (wayland.xml, wl_surface.set_input_region)
abbrev pub takes_input : Option (List Change) → ℤ → ℤ → Bool
takes_input None x y = true
takes_input (Some changes) x y = holds x y changes

abbrev pub is_hit : ℤ → ℤ → Window → Bool
is_hit x y w = contains w x y && takes_input w.input (x -ℤ w.corner.x) (y -ℤ w.corner.y)

-- The window that a point hits: the last whose input region, cut to the surface, holds it.
abbrev pub hit_after : ℤ → ℤ → Option Window → Window → Option Window
hit_after x y found w = if is_hit x y w then Some w else found

abbrev pub hit : ℤ → ℤ → List Window → Option Window
hit x y ws = fold (hit_after x y) None ws

-- What counts of what a client asked of a surface: the first `cut` of its requests. The cut is 0,
-- or the place just behind a commit.
use Rattle.std.specs.Prelude.{ℕ, suc, ◌≡◌, ◌+◌, ◌*◌, ◌/◌, ◌%◌, ℤ, pos, negsuc, ◌+ℤ◌, int_lt, ◌==◌, nat_lt, ◌&&◌, ◌||◌, Bool, true}
use Rattle.std.specs.Prelude.{false, cond, if◌then◌else◌, Option}
use Rattle.std.specs.Prelude.{Some, None, List, [], ◌∷◌, ◌++◌, length, take, drop, fold, filter, flat_map, not}
use Rattle.std.specs.List.{list_any}
use Rattle.wl_geom.specs.declared.rect.Rect.{Rect}
use Rattle.wl_geom.specs.Rect.{in_rect}
use Rattle.wl_geom.specs.Region.{Change}
use Rattle.wl_store.specs.Transform.{buffer_point, is_turned, transform_of}
use Rattle.wl_surface.specs.Request.{Buffer, Member, Itself, Child, Request, Attach, Damage, DamageBuffer, SetOpaqueRegion, SetInputRegion}
use Rattle.wl_surface.specs.Request.{SetBufferTransform, SetBufferScale, SetWindowGeometry, Commit, AddChild, SetPosition, PlaceAbove}
use Rattle.wl_surface.specs.Request.{PlaceBelow}

-- what was asked of a surface, and how many of its requests count
pub record History : Type 0 where
  pub requests : List Request
  pub cut : ℕ

-- the requests that count
abbrev pub counting : History → List Request
counting h = take h.cut h.requests

-- The state of which the last request counts. Without an input region each point takes input.
pub record Values : Type 0 where
  pub buffer : Option Buffer
  pub transform : ℕ
  -- the buffer scale: 1 at first (wayland.xml, wl_surface.set_buffer_scale)
  pub scale : ℕ
  pub opaque : List Change
  pub input : Option (List Change)

-- the first values (wayland.xml, wl_surface.attach, set_buffer_transform, set_buffer_scale, set_opaque_region and set_input_region)
abbrev pub first_values : Values
first_values = record { buffer = None; transform = 0; scale = 1; opaque = []; input = None }

abbrev pub changes_or_none : Option (List Change) → List Change
changes_or_none None = []
changes_or_none (Some changes) = changes

-- the values with one request more
abbrev pub asked : Values → Request → Values
asked v (Attach buffer x y) = record v { buffer = buffer }
asked v (SetBufferTransform transform) = record v { transform = transform }
asked v (SetBufferScale scale) = record v { scale = scale }
asked v (SetOpaqueRegion region) = record v { opaque = changes_or_none region }
asked v (SetInputRegion region) = record v { input = region }
asked v request = v

-- the values after these requests
abbrev pub values : List Request → Values
values requests = fold asked first_values requests

abbrev pub is_commit : Request → Bool
is_commit Commit = true
is_commit request = false

-- the place just behind the last commit, or 0
abbrev pub committed_from : ℕ → ℕ → List Request → ℕ
committed_from at last [] = last
committed_from at last (r ∷ rs) = committed_from (suc at) (if is_commit r then suc at else last) rs

abbrev pub committed : List Request → ℕ
committed requests = committed_from 0 0 requests

-- the pending, held and applied state: the values at the end of the list, at the last commit, and
-- at the cut (wayland.xml, wl_surface.commit and wl_subsurface)
abbrev pub pending : History → Values
pending h = values h.requests

abbrev pub held : History → Values
held h = values (take (committed h.requests) h.requests)

abbrev pub applied : History → Values
applied h = values (counting h)

-- applying a surface takes its state up to its last commit
abbrev pub apply : History → History
apply h = record h { cut = committed h.requests }

-- places and offsets are held within these bounds
abbrev pub within_bounds : ℤ → ℤ
within_bounds z =
    if int_lt z (negsuc 16777215) then negsuc 16777215 else (if int_lt (pos 16777216) z then pos 16777216 else z)

-- where a surface has moved to, and the x and y of the last attach after the last commit, if there
-- is one
pub record Moving : Type 0 where
  pub x : ℤ
  pub y : ℤ
  pub next : Option (ℤ × ℤ)

abbrev pub moved_by : Moving → Option (ℤ × ℤ) → Moving
moved_by m None = m
moved_by m (Some by) = record { x = within_bounds (m.x +ℤ by.0); y = within_bounds (m.y +ℤ by.1); next = None }

abbrev pub moving : Moving → Request → Moving
moving m (Attach buffer x y) = record m { next = Some (x, y) }
moving m Commit = moved_by m m.next
moving m request = m

-- the offset of a surface: each commit adds the x and y of the pending attach, if there is one
-- (wayland.xml, wl_surface.attach)
abbrev pub offset : List Request → Moving
offset requests = fold moving (record { x = pos 0; y = pos 0; next = None }) requests

-- the size of a surface in its own points: the buffer's, divided by the scale, and exchanged by an
-- odd transform (wayland.xml, wl_surface.set_buffer_scale, set_buffer_transform). Without a buffer
-- it is 0.
abbrev pub width_of : Option Buffer → ℕ → ℕ → ℕ
width_of None transform scale = 0
width_of (Some b) transform scale = cond (is_turned (transform_of transform)) (b.height / scale) (b.width / scale)

abbrev pub height_of : Option Buffer → ℕ → ℕ → ℕ
height_of None transform scale = 0
height_of (Some b) transform scale = cond (is_turned (transform_of transform)) (b.width / scale) (b.height / scale)

-- the sides of the buffer are multiples of the scale
abbrev pub is_whole : Option Buffer → ℕ → Bool
is_whole None scale = true
is_whole (Some b) scale = (b.width % scale == 0) && (b.height % scale == 0)

-- the rectangles of the damage requests: of the surface's points, and of its buffer's points
-- (wayland.xml, wl_surface.damage, damage_buffer)
abbrev pub damaged_rect : Request → List Rect
damaged_rect (Damage rect) = rect ∷ []
damaged_rect request = []

abbrev pub damaged_rects : List Request → List Rect
damaged_rects requests = flat_map damaged_rect requests

abbrev pub damaged_buffer_rect : Request → List Rect
damaged_buffer_rect (DamageBuffer rect) = rect ∷ []
damaged_buffer_rect request = []

abbrev pub damaged_buffer_rects : List Request → List Rect
damaged_buffer_rects requests = flat_map damaged_buffer_rect requests

-- the requests between two cuts
abbrev pub between : ℕ → ℕ → List Request → List Request
between old new requests = drop old (take new requests)

-- the damage that rectangles of a surface of this size tell: the points in one of them, or every
-- point where they are more than 1,024
abbrev pub is_damaged : ℕ → ℕ → List Rect → ℕ → ℕ → Bool
is_damaged width height rects x y =
    (nat_lt x width && nat_lt y height) && cond (nat_lt 1024 (length rects)) true (list_any (in_rect (pos x) (pos y)) rects)

-- two spans have a point in common; each goes from its first point to before its end
abbrev pub overlap : ℤ → ℤ → ℤ → ℤ → Bool
overlap a b c d = (int_lt a b && int_lt c d) && (int_lt a d && int_lt c b)

-- The block of buffer points that a surface's point shows has a point in the rectangle. It is
-- `scale` by `scale` points.
abbrev pub meets : ℕ → ℕ × ℕ → Rect → Bool
meets scale point r =
    overlap r.x (r.x +ℤ r.w) (pos (point.0 * scale)) (pos (point.0 * scale + scale))
    && overlap r.y (r.y +ℤ r.h) (pos (point.1 * scale)) (pos (point.1 * scale + scale))

-- The damage that these requests ask of a surface that shows these values. A point is damaged if it
-- is in a rectangle of the surface, or its block in the buffer has a point in one of the buffer.
-- Every point is if both are more than 1,024 together (wayland.xml, wl_surface.damage,
-- damage_buffer).
abbrev pub is_damaged_by : Values → List Request → ℕ → ℕ → Bool
is_damaged_by v requests x y =
    let width = width_of v.buffer v.transform v.scale in
    let height = height_of v.buffer v.transform v.scale in
    (nat_lt x width && nat_lt y height)
    && cond (nat_lt 1024 (length (damaged_rects requests) + length (damaged_buffer_rects requests))) true
    (list_any (in_rect (pos x) (pos y)) (damaged_rects requests)
    || list_any (meets v.scale (buffer_point (transform_of v.transform) width height x y)) (damaged_buffer_rects requests))

-- These rectangles tell just the damage that the requests ask, of a surface that shows these
-- values.
abbrev pub SaysDamage : List Rect → Values → List Request → Type 0
SaysDamage rects v requests =
    (x y : ℕ) → is_damaged (width_of v.buffer v.transform v.scale) (height_of v.buffer v.transform v.scale) rects x y ≡ is_damaged_by v requests x y

-- the last window geometry asked, if there is one
abbrev pub geometry_asked : Option Rect → Request → Option Rect
geometry_asked g (SetWindowGeometry rect) = Some rect
geometry_asked g request = g

-- The window geometry that counts: the last counting one behind a place in the list. There the role
-- object was made, or the last unmapping commit stands, whichever is later (xdg-shell.xml,
-- xdg_surface.set_window_geometry).
abbrev pub geometry : ℕ → History → Option Rect
geometry since h = fold geometry_asked None (drop since (counting h))

-- the order of a surface and its children, from below, with those of links that ended
abbrev pub is_member : Member → Member → Bool
is_member Itself Itself = true
is_member Itself (Child l) = false
is_member (Child k) Itself = false
is_member (Child k) (Child l) = k == l

abbrev pub without : Member → List Member → List Member
without m members = filter (λ other. not (is_member m other)) members

abbrev pub above : Member → Member → List Member → List Member
above m at [] = []
above m at (x ∷ xs) = if is_member at x then x ∷ m ∷ xs else x ∷ above m at xs

abbrev pub below : Member → Member → List Member → List Member
below m at [] = []
below m at (x ∷ xs) = if is_member at x then m ∷ x ∷ xs else x ∷ below m at xs

-- the order, with a child put beside a sibling or the surface itself; without such a sibling it
-- stays as it is
abbrev pub placed : (Member → Member → List Member → List Member) → ℕ → Member → List Member → List Member
placed beside l at members =
    if list_any (is_member at) (without (Child l) members) then beside (Child l) at (without (Child l) members) else members

abbrev pub ordered : List Member → Request → List Member
ordered members (AddChild l) = members ++ Child l ∷ []
ordered members (PlaceAbove l at) = placed above l at members
ordered members (PlaceBelow l at) = placed below l at members
ordered members request = members

-- the order that requests make: a new child is topmost, and placing moves it next to the parent or
-- a sibling (wayland.xml, wl_subsurface.place_above)
abbrev pub order : List Request → List Member
order requests = fold ordered (Itself ∷ []) requests

-- where a child was last placed, at (0, 0) at first (wayland.xml, wl_subsurface.set_position)
abbrev pub position_asked : ℕ → ℤ × ℤ → Request → ℤ × ℤ
position_asked l at (SetPosition k x y) = cond (k == l) (x, y) at
position_asked l at request = at

abbrev pub position : ℕ → List Request → ℤ × ℤ
position l requests = fold (position_asked l) (pos 0, pos 0) requests

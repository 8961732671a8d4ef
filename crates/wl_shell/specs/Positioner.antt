-- Where a popup is placed (xdg-shell.xml, xdg_positioner).
use Rattle.std.specs.Prelude.{ℕ, ℤ, pos, negsuc, ◌+ℤ◌, ◌-ℤ◌, neg_ℤ, int_lt, int_le, unsigned_abs, ◌/◌, ◌%◌, ◌==◌, ◌&&◌, ◌||◌, not, Bool}
use Rattle.std.specs.Prelude.{if◌then◌else◌, Option, Some, None, is_some}
use Rattle.std.specs.Int.{int_min, int_max}
use Rattle.wl_geom.specs.declared.rect.Rect.{Rect}
use Rattle.wl_surface.specs.State.{within_bounds}
use Rattle.wl_shell.specs.declared.acts.Placed as declared

-- What was set. A rectangle of 0 by 0 counts as not set.
pub record Positioner : Type 0 where
  pub size : Option (ℤ × ℤ)
  pub anchor_rect : Option Rect
  pub anchor : ℕ
  pub gravity : ℕ
  pub adjustment : ℕ
  pub offset : ℤ × ℤ

-- anchor and gravity none, no adjustment, and no offset
abbrev pub first_positioner : Positioner
first_positioner = record { size = None; anchor_rect = None; anchor = 0; gravity = 0; adjustment = 0; offset = (pos 0, pos 0) }

abbrev pub is_complete : Positioner → Bool
is_complete p = is_some p.size && is_some p.anchor_rect

-- a rectangle as it is set
abbrev pub rect_set : Rect → Option Rect
rect_set r = if int_le r.w (pos 0) && int_le r.h (pos 0) then None else Some r

-- which requests are refused: a side that isn't positive, a negative one, a number above 8
abbrev pub is_size : ℤ → ℤ → Bool
is_size w h = int_lt (pos 0) w && int_lt (pos 0) h

abbrev pub is_anchor_rect : Rect → Bool
is_anchor_rect r = int_le (pos 0) r.w && int_le (pos 0) r.h

-- On an axis an edge is at the start (-1), in the middle (0) or at the end (1). The numbers of anchors and gravities are none 0, top 1,
-- bottom 2, left 3, right 4, top_left 5, bottom_left 6, top_right 7, bottom_right 8.
abbrev minus_one : ℤ
minus_one = negsuc 0

abbrev pub edge_x : ℕ → ℤ
edge_x number =
    if number == 3 || (number == 5 || number == 6)
    then minus_one
    else (if number == 4 || (number == 7 || number == 8) then pos 1 else pos 0)

abbrev pub edge_y : ℕ → ℤ
edge_y number =
    if number == 1 || (number == 5 || number == 7)
    then minus_one
    else (if number == 2 || (number == 6 || number == 8) then pos 1 else pos 0)

-- How a popup lies on one axis: the start and the length of the rectangle, the
-- popup's size, its offset, and the edges of anchor and gravity.
pub record Axis : Type 0 where
  pub start : ℤ
  pub length : ℤ
  pub size : ℤ
  pub offset : ℤ
  pub anchor : ℤ
  pub gravity : ℤ

-- so much of a length as lies before an edge: nothing, half of it, rounded down, or all
abbrev pub up_to_edge : ℤ → ℤ → ℤ
up_to_edge edge length = if int_lt edge (pos 0) then pos 0 else (if int_lt (pos 0) edge then length else pos (unsigned_abs length / 2))

-- where the popup begins: at the anchor point, less what of it gravity puts before that point, plus the offset
abbrev pub start_of : Axis → ℤ
start_of a =
    ((a.start +ℤ up_to_edge a.anchor a.length) -ℤ up_to_edge (neg_ℤ a.gravity) a.size) +ℤ a.offset

-- the same with anchor and gravity on the other side, and the same rectangle and offset
abbrev pub flipped : Axis → Axis
flipped a = record a { anchor = neg_ℤ a.anchor; gravity = neg_ℤ a.gravity }

-- it doesn't lie within the bounds from `first` on to before `end`
abbrev pub is_constrained : ℤ → ℤ → ℤ → ℤ → Bool
is_constrained first end start size = int_lt start first || int_lt end (start +ℤ size)

-- the number nearest to `start` between the first and the last start within the bounds
abbrev pub nearest : ℤ → ℤ → ℤ → ℤ → ℤ
nearest first end start size = int_max (int_min first (end -ℤ size)) (int_min start (int_max first (end -ℤ size)))

-- what of [start, start + size) lies within the bounds, if anything does
abbrev pub part_within : ℤ → ℤ → ℤ → ℤ → ℤ × ℤ
part_within first end start size =
    let from = int_max first start in
    let to = int_min end (start +ℤ size) in
    if int_lt from to then (from, to -ℤ from) else (start, size)

-- Start and size on an axis. Each adjustment is made only where it is allowed and the popup still doesn't fit: it is flipped, if it fits
-- then; it slides to the nearest place; it is cut to the bounds.
abbrev pub slid : Bool → ℤ → ℤ → ℤ → ℤ → ℤ
slid slide first end start size = if slide then nearest first end start size else start

abbrev pub resized : Bool → ℤ → ℤ → ℤ → ℤ → ℤ × ℤ
resized resize first end start size =
    if resize && is_constrained first end start size then part_within first end start size else (start, size)

abbrev pub placed_on : Bool → Bool → Bool → ℤ → ℤ → Axis → ℤ × ℤ
placed_on flip slide resize first end a =
    let p = start_of a in
    let f = start_of (flipped a) in
    if not (is_constrained first end p a.size)
    then (p, a.size)
    else (if flip && not (is_constrained first end f a.size)
    then (f, a.size)
    else resized resize first end (slid slide first end p a.size) a.size)

-- bit n of the adjustment: slide_x 0, slide_y 1, flip_x 2, flip_y 3, resize_x 4, resize_y 5
abbrev pub has_bit : ℕ → ℕ → Bool
has_bit weight number = (number / weight) % 2 == 1

abbrev pub Placed : Type 0
Placed = declared.Placed

abbrev pub placed_from : ℤ × ℤ → ℤ × ℤ → Placed
placed_from x y = record { x = within_bounds x.0; y = within_bounds y.0; w = x.1; h = y.1 }

abbrev pub axis_x : Positioner → ℤ × ℤ → Rect → Axis
axis_x p size r = record {
  start = r.x;
  length = r.w;
  size = size.0;
  offset = p.offset.0;
  anchor = edge_x p.anchor;
  gravity = edge_x p.gravity;
}

abbrev pub axis_y : Positioner → ℤ × ℤ → Rect → Axis
axis_y p size r = record {
  start = r.y;
  length = r.h;
  size = size.1;
  offset = p.offset.1;
  anchor = edge_y p.anchor;
  gravity = edge_y p.gravity;
}

abbrev pub placed_with : Positioner → ℤ × ℤ → Rect → Rect → ℤ × ℤ → Placed
placed_with p size r bounds parent =
    placed_from
    (placed_on (has_bit 4 p.adjustment) (has_bit 1 p.adjustment) (has_bit 16 p.adjustment) (bounds.x -ℤ parent.0)
    ((bounds.x +ℤ bounds.w) -ℤ parent.0) (axis_x p size r))
    (placed_on (has_bit 8 p.adjustment) (has_bit 2 p.adjustment) (has_bit 32 p.adjustment) (bounds.y -ℤ parent.1)
    ((bounds.y +ℤ bounds.h) -ℤ parent.1) (axis_y p size r))

abbrev pub placed_in : Positioner → Option (ℤ × ℤ) → Option Rect → Rect → ℤ × ℤ → Option Placed
placed_in p (Some size) (Some r) bounds parent = Some (placed_with p size r bounds parent)
placed_in p (Some size) None bounds parent = None
placed_in p None r bounds parent = None

-- Where a popup is placed, relative to the corner of its parent's window geometry, which stands at `parent` in the output; nowhere by a
-- positioner that isn't complete. It should lie within the bounds (xdg-shell.xml, xdg_positioner.set_constraint_adjustment).
abbrev pub place : Positioner → Rect → ℤ × ℤ → Option Placed
place p bounds parent = placed_in p p.size p.anchor_rect bounds parent

-- The adjustments of a popup's place as the standard tells them, one after the other (xdg-shell.xml,
-- xdg_positioner.set_constraint_adjustment).
use Rattle.std.specs.Prelude.{ℤ, pos, ◌+ℤ◌, ◌-ℤ◌, neg_ℤ, int_lt, ◌&&◌, Bool, if◌then◌else◌}
use Rattle.std.specs.Int.{int_min, int_max}
use Rattle.wl_shell.specs.Positioner.{Axis, flipped, is_constrained, part_within, start_of}

-- on an axis: where a popup begins, how large it is, and on which side of that point its gravity puts it
pub record Lying : Type 0 where
  pub start : ℤ
  pub size : ℤ
  pub gravity : ℤ

abbrev pub lies_out : ℤ → ℤ → Lying → Bool
lies_out first end l = is_constrained first end l.start l.size

-- a move is tried only where it is allowed and the popup doesn't lie within the bounds yet
abbrev pub tried : Bool → ℤ → ℤ → (Lying → Lying) → Lying → Lying
tried allowed first end move l = if allowed && lies_out first end l then move l else l

-- flip: anchor and gravity are turned round, which is kept only if the popup fits then
abbrev pub turned : Axis → Lying
turned a = record { start = start_of (flipped a); size = a.size; gravity = neg_ℤ a.gravity }

abbrev pub flip : ℤ → ℤ → Axis → Lying → Lying
flip first end a l = if lies_out first end (turned a) then l else turned a

-- slide towards the end: until its start is within the bounds, but not so far that its end leaves them
abbrev pub towards_end : ℤ → ℤ → Lying → Lying
towards_end first end l =
    if int_lt l.start first
    then record l { start = l.start +ℤ int_min (first -ℤ l.start) (int_max (pos 0) ((end -ℤ l.start) -ℤ l.size)) }
    else l

-- slide towards the start: until its end is within the bounds, but not so far that its start leaves them
abbrev pub towards_start : ℤ → ℤ → Lying → Lying
towards_start first end l =
    if int_lt end (l.start +ℤ l.size)
    then record l { start = l.start -ℤ int_min ((l.start +ℤ l.size) -ℤ end) (int_max (pos 0) (l.start -ℤ first)) }
    else l

-- it slides first to where its gravity puts it, and then to the other side
abbrev pub slide : ℤ → ℤ → Lying → Lying
slide first end l =
    if int_lt l.gravity (pos 0)
    then towards_end first end (towards_start first end l)
    else towards_start first end (towards_end first end l)

-- resize: it is cut to the bounds, if something of it is left then
abbrev pub cut : ℤ → ℤ → Lying → Lying
cut first end l = record l { start = (part_within first end l.start l.size).0; size = (part_within first end l.start l.size).1 }

abbrev pub moved : Bool → Bool → Bool → ℤ → ℤ → Axis → Lying
moved may_flip may_slide may_resize first end a =
    tried may_resize first end (cut first end)
    (tried may_slide first end (slide first end)
    (tried may_flip first end (flip first end a) (record { start = start_of a; size = a.size; gravity = a.gravity })))

-- start and size after these moves
abbrev pub moved_to : Bool → Bool → Bool → ℤ → ℤ → Axis → ℤ × ℤ
moved_to may_flip may_slide may_resize first end a =
    ((moved may_flip may_slide may_resize first end a).start, (moved may_flip may_slide may_resize first end a).size)

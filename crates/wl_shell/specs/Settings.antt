-- What one request sets of an xdg_positioner (xdg-shell.xml, xdg_positioner).
use Rattle.std.specs.Prelude.{nat_le, Bool, true, Some}
use Rattle.wl_shell.specs.declared.settings.Setting.{Setting}
use Rattle.wl_shell.specs.declared.settings.Setting.TheVariants.{Size, AnchorRect, Anchor, Gravity, Adjustment, Offset}
use Rattle.wl_shell.specs.declared.settings.Setting.TheVariants.{Reactive, ParentSize, ParentConfigure}
use Rattle.wl_shell.specs.Positioner.{Positioner, is_anchor_rect, is_size, rect_set}

-- it may be set; the others are refused with invalid_input
abbrev pub is_allowed : Setting → Bool
is_allowed (Size w h) = is_size w h
is_allowed (AnchorRect rect) = is_anchor_rect rect
is_allowed (Anchor anchor) = nat_le anchor 8
is_allowed (Gravity gravity) = nat_le gravity 8
is_allowed (Adjustment adjustment) = true
is_allowed (Offset x y) = true
is_allowed Reactive = true
is_allowed (ParentSize w h) = true
is_allowed (ParentConfigure serial) = true

-- It stands in place of what was set before; all else stays. A popup is placed when it is asked to be, by where its parent stands then: so
-- the last three change nothing.
abbrev pub with_setting : Setting → Positioner → Positioner
with_setting (Size w h) p = record p { size = Some (w, h) }
with_setting (AnchorRect rect) p = record p { anchor_rect = rect_set rect }
with_setting (Anchor anchor) p = record p { anchor = anchor }
with_setting (Gravity gravity) p = record p { gravity = gravity }
with_setting (Adjustment adjustment) p = record p { adjustment = adjustment }
with_setting (Offset x y) p = record p { offset = (x, y) }
with_setting Reactive p = p
with_setting (ParentSize w h) p = p
with_setting (ParentConfigure serial) p = p

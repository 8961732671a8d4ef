-- What is told of what the pointer does.
use Rattle.std.specs.Prelude.{◌≡◌, ◌≢◌, Bool, true, false, Option, None, List}
use Rattle.spec_desktop.specs.Pointer.{is_stacked}
use Rattle.spec_desktop.specs.PointerActions.{PointerAction, Leave, Enter, Motion, Button, Raise, MoveWindow, Dismiss}
use Rattle.spec_desktop.specs.Windows.{Place, Window}

-- that a toplevel comes to the top or is moved, and that popups are dismissed, is done apart
abbrev pub is_told : PointerAction → Bool
is_told (Leave t) = true
is_told (Enter t) = true
is_told (Motion time t) = true
is_told (Button time button pressed t) = true
is_told (Raise t) = false
is_told (MoveWindow t x y) = false
is_told (Dismiss c) = false

-- The pointer is somewhere, and a surface has a window, where it enters or moves over that.
abbrev pub IsTellable : Option Place → List Window → PointerAction → Type 0
IsTellable at ws (Leave t) = Unit {0}
IsTellable at ws (Enter t) = (at ≢ None) × (is_stacked t ws ≡ true)
IsTellable at ws (Motion time t) = (at ≢ None) × (is_stacked t ws ≡ true)
IsTellable at ws (Button time button pressed t) = Unit {0}
IsTellable at ws (Raise t) = Unit {0}
IsTellable at ws (MoveWindow t x y) = Unit {0}
IsTellable at ws (Dismiss c) = Unit {0}

-- How a press and a motion change the stack of toplevels.
use Rattle.std.specs.Prelude.{◌≡◌, is_some, true, Option, Some, None, List, [], ◌∷◌}
use Rattle.spec_desktop.specs.Pointer.{Target}
use Rattle.spec_desktop.specs.PointerActions.{PointerAction, MoveWindow}
use Rattle.spec_desktop.specs.Stacking.{Standing}
use Rattle.spec_desktop.specs.Pointing.{moved_standing}
use Rattle.wl_clients.specs.Agreement.{numbers_in}
use Rattle.wl_desk.specs.View.{DeskView}

-- the surface, if one is given, has a number
abbrev pub HasNumber : DeskView → Option Target → Type 0
HasNumber v None = Unit {0}
HasNumber v (Some t) = is_some (numbers_in v.kept.clients t.client t.surface) ≡ true

-- the toplevel that the pointer moves, and the stack where it is moved
abbrev pub moved_of : PointerAction → Option Target
moved_of (MoveWindow t x y) = Some t
moved_of action = None

abbrev pub dragged : PointerAction → List Standing → List Standing
dragged (MoveWindow t x y) standing = moved_standing t x y standing
dragged action standing = standing

-- the same by the first of these, if there is one
abbrev pub first_moved : List PointerAction → Option Target
first_moved [] = None
first_moved (action ∷ later) = moved_of action

abbrev pub first_dragged : List PointerAction → List Standing → List Standing
first_dragged [] standing = standing
first_dragged (action ∷ later) standing = dragged action standing

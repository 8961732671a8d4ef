-- What the pointer does as the windows change, as it moves, and as buttons are pressed and released (wayland.xml, wl_pointer).
use Rattle.std.specs.Prelude.{ℕ, ℤ, ◌-ℤ◌, ◌==◌, Bool, true, false, if◌then◌else◌, Option, Some, None, List, [], ◌∷◌, ◌++◌}
use Rattle.spec_desktop.specs.Pointer.{Pointer, Target, hit_now, is_same, settled}
use Rattle.spec_desktop.specs.Windows.{Place, Window}

pub data PointerAction : Type 0 where
  -- a surface is left, or entered
  Leave : Target → PointerAction
  Enter : Target → PointerAction
  -- it is told of a motion at this time
  Motion : ℕ → Target → PointerAction
  -- or that at this time this button was pressed, or released
  Button : ℕ → ℕ → Bool → Target → PointerAction
  -- a toplevel comes to the top, or is moved by a difference
  Raise : Target → PointerAction
  MoveWindow : Target → ℤ → ℤ → PointerAction
  -- the popups with a grab of this client are dismissed
  Dismiss : ℕ → PointerAction

pub data PointerInput : Type 0 where
  -- the windows may have changed
  Settle : PointerInput
  -- the pointer goes to a point
  GoTo : Place → PointerInput
  -- it went where it is, at this time
  Went : ℕ → PointerInput
  -- at this time this button is pressed, while this client holds a grab, if one does
  Press : ℕ → ℕ → Option ℕ → PointerInput
  -- at this time this button is released
  Release : ℕ → ℕ → PointerInput

-- ---- the focus

abbrev pub leave_of : Option Target → List PointerAction
leave_of None = []
leave_of (Some t) = Leave t ∷ []

abbrev pub enter_of : Option Target → List PointerAction
enter_of None = []
enter_of (Some t) = Enter t ∷ []

-- The old surface is left and the new one is entered; where the focus stays, so much is done.
abbrev pub focus_or : List PointerAction → Pointer → List Window → List PointerAction
focus_or staying p ws = if is_same p.focus (settled p ws) then staying else leave_of p.focus ++ enter_of (settled p ws)

-- ---- the pointer moves

-- what it moves goes along, by the difference from the place that it had
abbrev pub move_of : Option Place → Place → Option Target → List PointerAction
move_of None to t = []
move_of (Some from) to None = []
move_of (Some from) to (Some t) = MoveWindow t (to.x -ℤ from.x) (to.y -ℤ from.y) ∷ []

-- A surface that keeps the focus is told of the motion, unless a toplevel is moved.
abbrev pub motion_of : ℕ → Option Target → Option Target → List PointerAction
motion_of time moved None = []
motion_of time None (Some t) = Motion time t ∷ []
motion_of time (Some moved) (Some t) = []

-- ---- a button

-- the toplevel whose tree or popups hold the hit comes to the top
abbrev pub raise_of : Option Window → List PointerAction
raise_of None = []
raise_of (Some w) = Raise (record { client = w.owner.client; surface = w.owner.toplevel }) ∷ []

abbrev pub is_hit_of : ℕ → Option Window → Bool
is_hit_of c None = false
is_hit_of c (Some w) = w.owner.client == c

-- A press that hits no surface of the client that holds a grab dismisses its popups with a grab.
abbrev pub dismiss_of : Option ℕ → Option Window → List PointerAction
dismiss_of None w = []
dismiss_of (Some holder) w = if is_hit_of holder w then [] else Dismiss holder ∷ []

-- the focus is told of it
abbrev pub button_of : ℕ → ℕ → Bool → Option Target → List PointerAction
button_of time button pressed None = []
button_of time button pressed (Some t) = Button time button pressed t ∷ []

-- ---- all of them

-- What comes in, where the pointer and the windows are as these, leads to these actions, one after another.
abbrev pub actions : PointerInput → Pointer → List Window → List PointerAction
actions Settle p ws = focus_or [] p ws
actions (GoTo to) p ws = move_of p.place to p.move
actions (Went time) p ws = focus_or (motion_of time p.move p.focus) p ws
actions (Press time button holder) p ws =
    raise_of (hit_now p.place ws) ++ dismiss_of holder (hit_now p.place ws) ++ button_of time button true p.focus
actions (Release time button) p ws = button_of time button false p.focus

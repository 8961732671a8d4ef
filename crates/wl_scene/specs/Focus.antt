-- What the pointer is told of the windows, and what it keeps and does (wayland.xml, wl_pointer).
use Rattle.std.specs.Prelude.{ℕ, ◌≡◌, ◌≢◌, ◌==◌, Bool, Option, Some, None, List, [], ◌∷◌, if◌then◌else◌}
use Rattle.std.specs.Option.{option_map}
use Rattle.wl_scene.specs.declared.actions.Action.{Action}
use Rattle.wl_scene.specs.declared.actions.Action.TheVariants as does
use Rattle.wl_scene.specs.declared.focus.Point.{Point}
use Rattle.wl_scene.specs.declared.actions.Target.{Target as Named}
use Rattle.spec_desktop.specs.Pointer.{Pointer, Target, hit_by, is_stacked}
use Rattle.spec_desktop.specs.PointerActions.{PointerAction, Leave, Enter, Motion, Button, Raise, MoveWindow, Dismiss}
use Rattle.spec_desktop.specs.Windows.{Place, Window}

abbrev pub target_of : Named → Target
target_of s = record { client = s.client; surface = s.surface }

abbrev pub target_or_none : Option Named → Option Target
target_or_none surface = option_map target_of surface

abbrev pub place_of : Point → Place
place_of p = record { x = p.x; y = p.y }

-- ---- what it does

abbrev pub action_of : Action → PointerAction
action_of (does.Leave s) = Leave (target_of s)
action_of (does.Enter s) = Enter (target_of s)
action_of (does.Motion time s) = Motion time (target_of s)
action_of (does.Button time button pressed s) = Button time button pressed (target_of s)
action_of (does.Raise t) = Raise (target_of t)
action_of (does.MoveWindow t x y) = MoveWindow (target_of t) x y
action_of (does.Dismiss client) = Dismiss client

abbrev pub action_or_none : Option Action → List PointerAction
action_or_none None = []
action_or_none (Some action) = action_of action ∷ []

-- ---- what it is told

-- Where no button is down this is what it hits; where one is, the surface that has the focus is among the windows, or it isn't.
pub record IsSeen (hit : Option Target) (stacked : Bool) (p : Pointer) (ws : List Window) : Type 0 where
  pub free : p.buttons ≡ [] → hit_by p.place ws ≡ hit
  pub pressed : p.buttons ≢ [] → (t : Target) → p.focus ≡ Some t → is_stacked t ws ≡ stacked

-- the toplevel whose tree or popups hold a window
abbrev pub toplevel_of : Option Window → Option Target
toplevel_of None = None
toplevel_of (Some w) = Some (record { client = w.owner.client; surface = w.owner.toplevel })

-- ---- what it keeps

-- After a release these buttons are down. After the last one nothing is held, and nothing is moved.
abbrev pub with_buttons : List ℕ → Pointer → Pointer
with_buttons [] p = record p { buttons = []; hold = None; move = None }
with_buttons (button ∷ buttons) p = record p { buttons = button ∷ buttons }

-- a surface, if it isn't of this client
abbrev pub unless_of : ℕ → Option Target → Option Target
unless_of client None = None
unless_of client (Some t) = if t.client == client then None else Some t

-- Laws of an xdg_surface, and of where popups are placed.
use Rattle.std.specs.Prelude.{ℕ, ℤ, ◌≡◌, ◌<◌, ◌≤◌, Bool, List, [], ◌∷◌, ◌++◌, length, true, None, Some, Option, Ok, IfSome, is_some}
use Rattle.wl_geom.specs.declared.rect.Rect.{Rect}
use Rattle.wl_shell.specs.Moves.{moved_to}
use Rattle.wl_shell.specs.Positioner.{Axis, Placed, Positioner, place, placed_on}
use Rattle.wl_surface.specs.Request.{Request, Commit, SetWindowGeometry}
use Rattle.wl_surface.specs.State.{History, apply, geometry_asked}
use Rattle.wl_shell.specs.declared.acts.ShellAct.{ShellAct}
use Rattle.wl_shell.specs.Kept.{Kept, Stands, commit_answer, first_kept, kept_acknowledging, kept_after, kept_asking}
use Rattle.wl_shell.specs.Kept.{kept_changed, kept_configuring, kept_popup, kept_repositioning, kept_toplevel, kept_without_role}
use Rattle.wl_shell.specs.Kept.{reposition_answer, reposition_by}
use Rattle.wl_shell.specs.Popups.{Popped, copying, effect_in, first_of, is_configured, new_popup, popped_of, popup_changed, popup_in}
use Rattle.wl_shell.specs.Popups.{repositioning, with_effect}
use Rattle.wl_shell.specs.Shell.{Configure, Popup, XdgSurface, acknowledging, configuring, is_waiting, later_than, new_toplevel}
use Rattle.wl_shell.specs.Shell.{without_role}

-- An acknowledgement of a serial that waits leaves fewer.
abbrev pub AcknowledgementForgets : Type 0
AcknowledgementForgets = (serial : ℕ) (configures : List Configure) → is_waiting serial configures ≡ true
    → length (later_than serial configures) < length configures

-- Flipping, sliding and resizing, told one after the other, end at the definition's place, whichever side gravity slides to first.
abbrev pub MovesAgree : Type 0
MovesAgree =
    (may_flip may_slide may_resize : Bool) (first end : ℤ) (a : Axis)
    → moved_to may_flip may_slide may_resize first end a ≡ placed_on may_flip may_slide may_resize first end a

-- ---- what is kept stands for what the definition says, after each change too

-- one request more of the surface
abbrev pub one_more : Request → History → History
one_more request h = record h { requests = h.requests ++ request ∷ [] }

-- a new xdg_surface
abbrev pub NewStands : Type 0
NewStands =
    (id base surface : ℕ) (h : History)
    → h.cut ≤ length h.requests
    → Stands (first_kept id base) (record { id = id; base = base; surface = surface; role = None; configures = []; since = 0 }) h

-- a new toplevel: no window geometry counts that was asked before
abbrev pub ToplevelStands : Type 0
ToplevelStands = (id : ℕ) (k : Kept) (x : XdgSurface) (h : History) → Stands k x h
    → Stands (kept_toplevel id k) (new_toplevel id (length h.requests) x) h

-- a new popup
abbrev pub PopupStands : Type 0
PopupStands =
    (id parent : ℕ) (positioner : Positioner) (number : ℕ) (k : Kept) (x : XdgSurface) (h : History)
    → Stands k x h
    → Stands (kept_popup id parent positioner number k) (new_popup id parent positioner number (length h.requests) x) h

-- its popup changes, as by a grab, as it is dismissed, or as its parent goes
abbrev pub PopupChangeStands : Type 0
PopupChangeStands = (change : Popup → Popup) (k : Kept) (x : XdgSurface) (h : History) → Stands k x h
    → Stands (kept_changed change k) (popup_changed change x) h

-- a window geometry is asked
abbrev pub GeometryStands : Type 0
GeometryStands = (rect : Rect) (k : Kept) (x : XdgSurface) (h : History) → Stands k x h
    → Stands (kept_asking rect k) x (one_more (SetWindowGeometry rect) h)

-- a configure is acknowledged
abbrev pub AcknowledgementStands : Type 0
AcknowledgementStands = (serial : ℕ) (k : Kept) (x : XdgSurface) (h : History) → Stands k x h
    → Stands (kept_acknowledging serial k) (acknowledging serial x) h

-- A commit that isn't refused. It is asked and applied, and the answer says what it comes to. A popup is placed within the bounds, its
-- parent's window geometry standing at `parent_at`.
abbrev pub CommitStands : Type 0
CommitStands =
    (has_buffer : Bool) (bounds : Rect) (parent_at : ℤ × ℤ) (serial : ℕ) (where_to : Popup → Option Placed) (act : ShellAct) (k : Kept)
    (x : XdgSurface) (h : History)
    → commit_answer has_buffer bounds parent_at (Some k) ≡ Ok act
    → IfSome (popup_in x.role) (λ popup. where_to popup ≡ place popup.positioner bounds parent_at)
    → Stands k x h
    → Stands (kept_after serial act k) (with_effect serial (length (one_more Commit h).requests) where_to (effect_in has_buffer x.role) x)
    (apply (one_more Commit h))

-- a configure is sent
abbrev pub ConfigureStands : Type 0
ConfigureStands = (serial : ℕ) (k : Kept) (x : XdgSurface) (h : History) → Stands k x h
    → Stands (kept_configuring serial k) (configuring serial x) h

-- xdg_popup.reposition: what is answered is by the definition's popup
abbrev pub RepositionAnswers : Type 0
RepositionAnswers =
    (positioner : Positioner) (bounds : Rect) (parent_at : ℤ × ℤ) (k : Kept) (x : XdgSurface) (h : History) (p : Popped)
    → first_of (popped_of x) ≡ Some p
    → Stands k x h
    → reposition_answer positioner bounds parent_at (Some k)
    ≡ reposition_by (is_configured p) positioner (place positioner bounds parent_at) x.configures

-- One that isn't refused. A place is answered exactly where the popup is configured anew.
abbrev pub RepositionStands : Type 0
RepositionStands =
    (positioner : Positioner) (bounds : Rect) (parent_at : ℤ × ℤ) (serial : ℕ) (where_to : Popup → Option Placed) (placed : Option Placed)
    (k : Kept) (x : XdgSurface) (h : History) (p : Popped)
    → reposition_answer positioner bounds parent_at (Some k) ≡ Ok placed
    → first_of (popped_of x) ≡ Some p
    → where_to (copying positioner p.popup) ≡ place positioner bounds parent_at
    → Stands k x h
    → (is_some placed ≡ is_configured p)
    × Stands (kept_repositioning placed serial positioner k)
    (repositioning (is_configured p) serial (where_to (copying positioner p.popup)) positioner x) h

-- the role object goes
abbrev pub DestructionStands : Type 0
DestructionStands = (k : Kept) (x : XdgSurface) (h : History) → Stands k x h → Stands (kept_without_role k) (without_role x) h

-- a request of another kind, which isn't applied
abbrev pub OtherStands : Type 0
OtherStands =
    (request : Request) (k : Kept) (x : XdgSurface) (h : History)
    → ((asked : Option Rect) → geometry_asked asked request ≡ asked)
    → Stands k x h
    → Stands k x (one_more request h)

-- each of these changes
pub record ChangesStand : Type 0 where
  pub made : NewStands
  pub toplevel : ToplevelStands
  pub popup : PopupStands
  pub changed : PopupChangeStands
  pub geometry : GeometryStands
  pub acknowledgement : AcknowledgementStands
  pub commit : CommitStands
  pub configure : ConfigureStands
  pub answered : RepositionAnswers
  pub reposition : RepositionStands
  pub destruction : DestructionStands
  pub other : OtherStands

-- Laws of the xdg_surfaces of a client: what is kept of all of them stands for them, after each change too.
use Rattle.std.specs.Prelude.{ℕ, ℤ, ◌≡◌, ◌≤◌, ◌==◌, ◌≢◌, List, length, map, true, false, if◌then◌else◌, is_some, None, Some, Option, Ok}
use Rattle.std.specs.Option.{option_map}
use Rattle.std.specs.Prelude.{IfSome, IsSomeAnd}
use Rattle.std.specs.List.{list_any}
use Rattle.wl_geom.specs.declared.rect.Rect.{Rect}
use Rattle.wl_surface.specs.State.{History}
use Rattle.wl_shell.specs.Agreement.{IsShell, with_history}
use Rattle.wl_shell.specs.Kept.{Kept, Stands, changing, first_kept, kept_changed, kept_repositioning, reposition_answer, reposition_by}
use Rattle.wl_shell.specs.Kept.{with_kept}
use Rattle.wl_shell.specs.Popups.{Popped, dismiss, dismissed_among, first_of, is_among, is_configured, orphan, orphaning, popped_of}
use Rattle.wl_shell.specs.Popups.{repositioning}
use Rattle.wl_shell.specs.Positioner.{Placed, Positioner, place}
use Rattle.wl_shell.specs.Shell.{Shell, XdgSurface}
use Rattle.wl_shell.specs.Shell.{with_change, with_new, without_xdg, xdg_at, xdg_of}

-- a new xdg_surface of a surface that has none
abbrev pub NewShell : Type 0
NewShell =
    (id base surface : ℕ) (h : History) (kept : ℕ → Option Kept) (histories : ℕ → Option History) (shell : Shell)
    → IsShell kept histories shell
    → kept surface ≡ None
    → xdg_at id shell ≡ None
    → histories surface ≡ Some h
    → h.cut ≤ length h.requests
    → IsShell (with_kept surface (Some (first_kept id base)) kept) histories (with_new id base surface shell)

-- One changes, and maybe its surface's history, and what is kept of it stands for it then.
abbrev pub ChangedShell : Type 0
ChangedShell =
    (surface : ℕ) (change : Kept → Kept) (step : XdgSurface → XdgSurface) (k : Kept) (x : XdgSurface) (h : History) (kept : ℕ → Option Kept)
    (histories : ℕ → Option History) (shell : Shell)
    → ((y : XdgSurface) → (step y).id ≡ y.id)
    → ((y : XdgSurface) → (step y).surface ≡ y.surface)
    → IsShell kept histories shell
    → kept surface ≡ Some k
    → xdg_of surface shell ≡ Some x
    → Stands (change k) (step x) h
    → IsShell (changing surface change kept) (with_history surface (Some h) histories) (with_change x.id step shell)

-- one goes
abbrev pub GoneShell : Type 0
GoneShell =
    (surface : ℕ) (x : XdgSurface) (kept : ℕ → Option Kept) (histories : ℕ → Option History) (shell : Shell)
    → IsShell kept histories shell
    → xdg_of surface shell ≡ Some x
    → IsShell (with_kept surface None kept) histories (without_xdg x.id shell)

-- a surface without an xdg_surface is made, goes, or has another history
abbrev pub OtherHistory : Type 0
OtherHistory =
    (surface : ℕ) (h : Option History) (kept : ℕ → Option Kept) (histories : ℕ → Option History) (shell : Shell)
    → IsShell kept histories shell
    → xdg_of surface shell ≡ None
    → IsShell kept (with_history surface h histories) shell

-- whether an xdg_wm_base made one can be read from what is kept
abbrev pub BaseRead : Type 0
BaseRead =
    (base : ℕ) (kept : ℕ → Option Kept) (histories : ℕ → Option History) (shell : Shell)
    → IsShell kept histories shell
    → ((surface : ℕ) → IsSomeAnd (kept surface) (λ k. k.base ≡ base) → list_any (λ x. x.base == base) shell ≡ true)
    × (((surface : ℕ) → IfSome (kept surface) (λ k. k.base ≢ base)) → list_any (λ x. x.base == base) shell ≡ false)

-- Many change at once, as popups that are dismissed or whose parent goes, and what is kept of each stands for it then.
abbrev pub each_changed : (Kept → Kept) → (ℕ → Option Kept) → ℕ → Option Kept
each_changed change kept = λ surface. option_map change (kept surface)

abbrev pub ManyChanged : Type 0
ManyChanged =
    (change : Kept → Kept) (step : XdgSurface → XdgSurface) (kept : ℕ → Option Kept) (histories : ℕ → Option History) (shell : Shell)
    → ((y : XdgSurface) → (step y).id ≡ y.id)
    → ((y : XdgSurface) → (step y).surface ≡ y.surface)
    → ((k : Kept) (x : XdgSurface) (h : History) → Stands k x h → Stands (change k) (step x) h)
    → IsShell kept histories shell
    → IsShell (each_changed change kept) histories (map step shell)

-- of popups whose parent was this, if it was there
abbrev pub orphaned : Option Kept → (ℕ → Option Kept) → ℕ → Option Kept
orphaned None kept = kept
orphaned (Some k) kept = each_changed (kept_changed (orphan k.id)) kept

-- popups are dismissed
abbrev pub kept_dismissed : List ℕ → Kept → Kept
kept_dismissed ids k = if is_among k.id ids then kept_changed dismiss k else k

abbrev pub DismissalStands : Type 0
DismissalStands =
    (ids : List ℕ) (kept : ℕ → Option Kept) (histories : ℕ → Option History) (shell : Shell)
    → IsShell kept histories shell
    → IsShell (each_changed (kept_dismissed ids) kept) histories (map (dismissed_among ids) shell)

-- xdg_popup.reposition: what is answered is by the popup that this surface has
abbrev pub RepositionAnswered : Type 0
RepositionAnswered =
    (surface : ℕ) (positioner : Positioner) (bounds : Rect) (parent_at : ℤ × ℤ) (x : XdgSurface) (p : Popped) (kept : ℕ → Option Kept)
    (histories : ℕ → Option History) (shell : Shell)
    → IsShell kept histories shell
    → xdg_of surface shell ≡ Some x
    → first_of (popped_of x) ≡ Some p
    → reposition_answer positioner bounds parent_at (kept surface)
    ≡ reposition_by (is_configured p) positioner (place positioner bounds parent_at) x.configures

-- It is placed anew, if that isn't refused. A place is answered exactly where it is configured anew.
abbrev pub RepositionedShell : Type 0
RepositionedShell =
    (surface : ℕ) (positioner : Positioner) (bounds : Rect) (parent_at : ℤ × ℤ) (serial : ℕ) (placed : Option Placed) (x : XdgSurface)
    (p : Popped) (kept : ℕ → Option Kept) (histories : ℕ → Option History) (shell : Shell)
    → IsShell kept histories shell
    → xdg_of surface shell ≡ Some x
    → first_of (popped_of x) ≡ Some p
    → reposition_answer positioner bounds parent_at (kept surface) ≡ Ok placed
    → (is_some placed ≡ is_configured p)
    × IsShell (changing surface (kept_repositioning placed serial positioner) kept) histories
    (with_change x.id (repositioning (is_configured p) serial (place positioner bounds parent_at) positioner) shell)

-- a toplevel goes: its popups have no parent any more
abbrev pub OrphaningStands : Type 0
OrphaningStands =
    (xdg : ℕ) (kept : ℕ → Option Kept) (histories : ℕ → Option History) (shell : Shell)
    → IsShell kept histories shell
    → IsShell (each_changed (kept_changed (orphan xdg)) kept) histories (orphaning xdg shell)

pub record ShellsStand : Type 0 where
  pub made : NewShell
  pub changed : ChangedShell
  pub gone : GoneShell
  pub other : OtherHistory
  pub base : BaseRead
  pub many : ManyChanged
  pub dismissal : DismissalStands
  pub orphaning : OrphaningStands
  pub answered : RepositionAnswered
  pub repositioned : RepositionedShell

-- What is found among what is kept of the xdg_surfaces of a client is what is found among those that it stands for.
use Rattle.std.specs.Prelude.{ℕ, ◌≡◌, false, if◌then◌else◌, is_some, All, Option, Some, None}
use Rattle.std.specs.List.{list_any}
use Rattle.std.specs.Option.{option_and_then, option_map_or}
use Rattle.wl_surface.specs.State.{History}
use Rattle.wl_shell.specs.Kept.{Book, Kept, kept_of}
use Rattle.wl_shell.specs.Popups.{is_parent, parent_allows as is_grab_allowed, parent_of, popup_at, popups_of}
use Rattle.wl_shell.specs.Shell.{Shell, XdgSurface, xdg_of}
use Rattle.wl_shell.specs.Agreement.{IsShell}
use Rattle.wl_shell.specs.PopupsKept.{has_child, is_grabbing, parent_allows, parent_id}

-- each is found by the number of its surface
abbrev pub AreFound : Book → Type 0
AreFound book = All (λ e. kept_of book e.0 ≡ Some e.1) book

-- xdg_surface.get_popup: the xdg_surface of this surface may be a parent
abbrev pub xdg_with_role : XdgSurface → Option ℕ
xdg_with_role x = if is_some x.role then Some x.id else None

abbrev pub ParentsFound : Type 0
ParentsFound =
    (parent : Option ℕ) (kept : ℕ → Option Kept) (histories : ℕ → Option History) (shell : Shell)
    → IsShell kept histories shell
    → parent_id kept parent ≡ option_and_then (λ surface. option_and_then xdg_with_role (xdg_of surface shell)) parent

-- xdg_popup.destroy: a living popup has the xdg_surface of this surface as its parent
abbrev pub ChildrenFound : Type 0
ChildrenFound =
    (surface : ℕ) (book : Book) (histories : ℕ → Option History) (shell : Shell)
    → AreFound book
    → IsShell (kept_of book) histories shell
    → has_child book (kept_of book surface) ≡ option_map_or (λ x. is_parent x.id shell) (xdg_of surface shell) false

-- xdg_popup.grab: the parent of the popup of this surface is a toplevel, or a popup with a grab
abbrev pub parent_in : Shell → XdgSurface → Option XdgSurface
parent_in shell x = option_and_then (parent_of shell) (popup_at x.id shell)

abbrev pub GrabbersFound : Type 0
GrabbersFound =
    (surface : ℕ) (book : Book) (histories : ℕ → Option History) (shell : Shell)
    → AreFound book
    → IsShell (kept_of book) histories shell
    → parent_allows book (kept_of book surface) ≡ is_grab_allowed (option_and_then (parent_in shell) (xdg_of surface shell))

-- a popup has a grab
abbrev pub GrabsFound : Type 0
GrabsFound =
    (book : Book) (histories : ℕ → Option History) (shell : Shell)
    → AreFound book
    → IsShell (kept_of book) histories shell
    → list_any (λ e. is_grabbing e.1) book ≡ list_any (λ p. p.popup.has_grab) (popups_of shell)

pub record ShellsFind : Type 0 where
  pub parents : ParentsFound
  pub children : ChildrenFound
  pub grabbers : GrabbersFound
  pub grabs : GrabsFound

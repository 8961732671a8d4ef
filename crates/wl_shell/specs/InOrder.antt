-- The popups of a client in order of creation, and what a caller keeps of them (xdg-shell.xml, xdg_popup).
use Rattle.std.specs.Prelude.{ℕ, ◌≡◌, ◌≤◌, ◌<◌, ◌==◌, ◌&&◌, nat_lt, not, Bool, true, false, if◌then◌else◌, IfSome, Option, Some, None}
use Rattle.std.specs.Prelude.{List, [], ◌∷◌, filter, fold, length}
use Rattle.std.specs.List.{list_any}
use Rattle.wl_surface.specs.State.{History}
use Rattle.wl_shell.specs.Agreement.{IsShell}
use Rattle.wl_shell.specs.Descent.{AreYounger, has_popup_at}
use Rattle.wl_shell.specs.Found.{AreFound}
use Rattle.wl_shell.specs.PopupsKept.{IsNewest, IsOldest, dismissible_grabbing, dismissible_under, has_popup}
use Rattle.wl_shell.specs.Kept.{Book, Kept, changing, kept_changed, kept_of}
use Rattle.wl_shell.specs.Popups.{Popped, dismiss, dismissed_with, dismissing, is_among, is_parent_of, popped_of, popup_changed}
use Rattle.wl_shell.specs.Popups.{popup_in, popups_of}
use Rattle.wl_shell.specs.Shell.{Shell, XdgSurface, with_change, xdg_of}

-- the popup is that of the xdg_surface of this surface
pub record IsOnly (shell : Shell) (surface : ℕ) (p : Popped) : Type 0 where
  pub found : xdg_of surface shell ≡ Some p.xdg
  pub its : popped_of p.xdg ≡ p ∷ []

-- ---- what a caller keeps

-- each popup of these has a lower number than those after it
abbrev pub AreRising : List Popped → Type 0
AreRising [] = Unit {0}
AreRising (p ∷ ps) =
    ((number : ℕ) → list_any (λ q. q.popup.number == number) ps ≡ true → p.popup.number < number) × AreRising ps

-- a popup that was dismissed has no grab
abbrev pub AreReleased : Shell → Type 0
AreReleased [] = Unit {0}
AreReleased (x ∷ xs) = IfSome (popup_in x.role) (λ popup. popup.is_dismissed ≡ true → popup.has_grab ≡ false) × AreReleased xs

-- The numbers of a client's popups rise, each is younger than its parent, none that was dismissed has a grab, and there are no more
-- xdg_surfaces than a client has surfaces.
pub record HasOrder (shell : Shell) : Type 0 where
  pub rising : AreRising (popups_of shell)
  pub younger : AreYounger (popups_of shell)
  pub released : AreReleased shell
  pub few : length shell ≤ 256

-- ---- one after another

abbrev pub first_surface : List Popped → Option ℕ
first_surface [] = None
first_surface (p ∷ ps) = Some p.xdg.surface

abbrev pub newest_first : List Popped → List Popped
newest_first ps = fold (λ later p. p ∷ later) [] ps

-- the first popup, and the next one after a number
abbrev pub FirstFound : Type 0
FirstFound =
    (result : Option ℕ) (kept : ℕ → Option Kept) (histories : ℕ → Option History) (shell : Shell)
    → IsShell kept histories shell
    → AreRising (popups_of shell)
    → IsOldest (has_popup (λ popup. true)) kept result
    → result ≡ first_surface (popups_of shell)

abbrev pub AfterFound : Type 0
AfterFound =
    (number : ℕ) (result : Option ℕ) (kept : ℕ → Option Kept) (histories : ℕ → Option History) (shell : Shell)
    → IsShell kept histories shell
    → AreRising (popups_of shell)
    → IsOldest (has_popup (λ popup. nat_lt number popup.number)) kept result
    → result ≡ first_surface (filter (λ p. nat_lt number p.popup.number) (popups_of shell))

-- ---- one dismissed after another

-- with an xdg_surface goes its popup, or those that are on it where it has none
abbrev pub goes_with : Bool → ℕ → Popped → Bool
goes_with is_popup xdg = λ p. if is_popup then p.xdg.id == xdg else is_parent_of xdg p.popup

-- those that go and weren't dismissed, the newest first
abbrev pub undismissed : (Popped → Bool) → Shell → List Popped
undismissed is shell = filter (λ p. is_among p.xdg.id (dismissed_with is shell) && not p.popup.is_dismissed) (newest_first (popups_of shell))

-- the popup of the xdg_surface of this id is dismissed
abbrev pub with_dismissed : ℕ → Shell → Shell
with_dismissed xdg shell = with_change xdg (popup_changed dismiss) shell

-- The popup of this surface is the next one that goes; the same go then, but for it, and it comes to the same to dismiss them all.
pub record IsNextToGo (is : Popped → Bool) (shell : Shell) (surface : ℕ) (p : Popped) : Type 0 where
  pub only : IsOnly shell surface p
  pub order : undismissed is shell ≡ p ∷ undismissed is (with_dismissed p.xdg.id shell)
  pub rest : dismissing is (with_dismissed p.xdg.id shell) ≡ dismissing is shell
  pub has_order : HasOrder (with_dismissed p.xdg.id shell)
  pub popups : (xdg : ℕ) → has_popup_at xdg (with_dismissed p.xdg.id shell) ≡ has_popup_at xdg shell

-- the popup of this surface goes next, or all of them went
abbrev pub GoesNext : (Popped → Bool) → Shell → Option ℕ → Type 0
GoesNext is shell None = (undismissed is shell ≡ []) × (dismissing is shell ≡ shell)
GoesNext is shell (Some surface) = (p : Popped) × IsNextToGo is shell surface p

-- which popup is dismissed next with the xdg_surface of a surface
abbrev pub NextFound : Type 0
NextFound =
    (surface : ℕ) (x : XdgSurface) (result : Option ℕ) (book : Book) (histories : ℕ → Option History) (shell : Shell)
    → AreFound book
    → IsShell (kept_of book) histories shell
    → HasOrder shell
    → xdg_of surface shell ≡ Some x
    → IsNewest (dismissible_under book (kept_of book surface)) (kept_of book) result
    → GoesNext (goes_with (has_popup_at x.id shell) x.id) shell result

-- which popup with a grab, or that descends from one that has, is dismissed next
abbrev pub GrabbingFound : Type 0
GrabbingFound =
    (result : Option ℕ) (book : Book) (histories : ℕ → Option History) (shell : Shell)
    → AreFound book
    → IsShell (kept_of book) histories shell
    → HasOrder shell
    → IsNewest (dismissible_grabbing book) (kept_of book) result
    → GoesNext (λ p. p.popup.has_grab) shell result

-- and what is kept stands for them then
abbrev pub NextStands : Type 0
NextStands =
    (surface : ℕ) (x : XdgSurface) (kept : ℕ → Option Kept) (histories : ℕ → Option History) (shell : Shell)
    → IsShell kept histories shell
    → xdg_of surface shell ≡ Some x
    → IsShell (changing surface (kept_changed dismiss) kept) histories (with_dismissed x.id shell)

pub record PopupsFollow : Type 0 where
  pub first : FirstFound
  pub after : AfterFound
  pub next : NextFound
  pub grabbing : GrabbingFound
  pub stands : NextStands

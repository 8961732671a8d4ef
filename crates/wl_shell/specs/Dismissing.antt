-- Popups that are dismissed one by one come to what the definition says that they come to at once (xdg-shell.xml, xdg_popup.popup_done).
use Rattle.std.specs.Prelude.{ℕ, ◌≡◌, Bool, true, false, IfSome, List, [], ◌∷◌}
use Rattle.wl_shell.specs.Popups.{Popped, dismiss, dismissed_with, dismissing, is_among, popup_changed, popup_in}
use Rattle.wl_shell.specs.Shell.{Shell, XdgSurface, with_change}

-- which popups are meant goes by the xdg_surface and by the parent of each
abbrev pub GoesByFamily : (Popped → Bool) → Type 0
GoesByFamily is = (p q : Popped) → p.xdg.id ≡ q.xdg.id → p.popup.parent ≡ q.popup.parent → is p ≡ is q

-- Where one of them is dismissed by itself, to dismiss them all comes to what it came to before.
abbrev pub OneDismissed : Type 0
OneDismissed =
    (is : Popped → Bool) (id : ℕ) (shell : Shell)
    → GoesByFamily is
    → is_among id (dismissed_with is shell) ≡ true
    → dismissing is (with_change id (popup_changed dismiss) shell) ≡ dismissing is shell

-- its popup, if it has one, was dismissed and has no grab, where it is among these
abbrev pub IsDone : List ℕ → XdgSurface → Type 0
IsDone gone x = is_among x.id gone ≡ true → IfSome (popup_in x.role) (λ popup. (popup.is_dismissed ≡ true) × (popup.has_grab ≡ false))

abbrev pub AreDone : List ℕ → Shell → Type 0
AreDone gone [] = Unit {0}
AreDone gone (x ∷ xs) = IsDone gone x × AreDone gone xs

-- Where all of them were dismissed, to dismiss them changes nothing.
abbrev pub AllDismissed : Type 0
AllDismissed = (is : Popped → Bool) (shell : Shell) → AreDone (dismissed_with is shell) shell → dismissing is shell ≡ shell

pub record DismissalsEnd : Type 0 where
  pub one : OneDismissed
  pub all : AllDismissed

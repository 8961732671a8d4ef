-- What is found by what is kept: the toplevel that the tree of a root is stacked with, and what a popup is placed by (xdg-shell.xml,
-- xdg_popup and xdg_positioner).
use Rattle.std.specs.Prelude.{ℕ, ℤ, ◌≡◌, pos, IfSome, Option, None, List}
use Rattle.std.specs.Option.{option_and_then, option_map}
use Rattle.wl_proto.specs.declared.wl_surface.WlSurfaceRequest.TheVariants as surface
use Rattle.wl_proto.specs.declared.xdg_popup.XdgPopupRequest.TheVariants as popups
use Rattle.wl_requests.specs.declared.messages.Asked.{Asked}
use Rattle.wl_requests.specs.declared.messages.Asked.TheVariants as asked
use Rattle.wl_requests.specs.declared.messages.Kind.TheVariants as kind
use Rattle.wl_requests.specs.declared.residents.Placing.{Placing}
use Rattle.wl_requests.specs.declared.residents.Resident.{Resident as Kept}
use Rattle.wl_clients.specs.declared.screen.screens.Screen.{Screen}
use Rattle.law_windows.specs.Runs.Kept.{kept_owner}
use Rattle.law_windows.specs.Runs.Numbers.{kept_found}
use Rattle.wl_scene.specs.Roots.{IsHeld, parent_surface}
use Rattle.wl_scene.specs.declared.stacked.Stacked.{Stacked}
use Rattle.spec_desktop.specs.Popups.{parent_corner}
use Rattle.spec_desktop.specs.Stacking.{Owned, Standing}
use Rattle.wl_shell.specs.Kept.{Book, kept_of}
use Rattle.wl_shell.specs.Popups.{popup_in}
use Rattle.wl_shell.specs.Shell.{Popup}

-- the popup that is kept for a surface, if it has one
abbrev pub popup_in_shell : Book → ℕ → Option Popup
popup_in_shell book surface = option_and_then (λ k. popup_in k.role) (kept_of book surface)

-- of a popup the surface of its parent, if it has one
abbrev pub parent_by : Owned → Option Popup → Option (Option ℕ)
parent_by o popup = option_map (λ p. parent_surface o p) popup

-- the toplevel: by the windows of the tree, else by those of the popup's parent, and where the root is no popup, the root
abbrev pub found_by : ℕ → ℕ → Option (Option ℕ) → List Stacked → Option ℕ
found_by c root parent all = kept_found kept_owner c root parent all

-- ---- what a popup is placed by

-- The popup that what is asked may place: that of a surface that is to be committed, if it has one, and one that is to be placed anew.
abbrev pub popup_to_place : Book → Asked → Option Popup
popup_to_place book (asked.Request object version size target (kind.Surface surface.Commit)) = popup_in_shell book target
popup_to_place book (asked.Request object version size target (kind.Popup (popups.Reposition positioner token))) =
    popup_in_shell book target
popup_to_place book asked = None

-- The window geometry of its parent stands there, whatever client is stood for.
abbrev pub IsCornerOf : {A : Type 0} → List Standing → ℕ → Kept A → ℤ × ℤ → Popup → Type 0
IsCornerOf standing c v at popup =
    (o : Owned) → IsHeld v.owned.surfaces.states v.owned.surfaces.family v.owned.shell o
    → record { x = at.0; y = at.1 } ≡ parent_corner standing c o popup.parent

-- It is placed within the output, by that.
pub record IsPlacedBy {A : Type 0} (s : Screen A) (c : ℕ) (v : Kept A) (asked : Asked) (placing : Placing) : Type 0 where
  pub bounds : placing.bounds ≡ record { x = pos 0; y = pos 0; w = pos s.damage.width; h = pos s.damage.height }
  pub parent : IfSome (popup_to_place v.owned.shell asked) (λ popup. IsCornerOf s.scene.standing c v placing.parent_at popup)

-- What holds of every client, with popups and grabs. Each step keeps it, and each message by itself.
use Rattle.std.specs.Prelude.{ℕ, ◌≡◌, ◌≤◌, nat_lt, Bool, true, false, is_some, IfSome, Option, Some, None, [], ◌∷◌, length}
use Rattle.std.specs.Option.{option_and_then, option_map}
use Rattle.wl_surface.specs.Surfaces.{surface_at}
use Rattle.wl_shell.specs.Popups.{is_parent_of, popup_in, popups_of}
use Rattle.wl_shell.specs.Shell.{IsPopup, Kind, Popup, RoleObject, Shell, Toplevel, XdgSurface, xdg_at}
use Rattle.wl_shell.specs.Descent.{AreYounger}
use Rattle.wl_shell.specs.InOrder.{AreReleased}
use Rattle.spec_desktop.specs.Desktop.{Desktop, Resident, client_at}
use Rattle.law_desktop.specs.InOrder.{InOrder, OwnsInOrder}

-- it is said of each xdg_surface
abbrev pub OfEach : (XdgSurface → Type 0) → Shell → Type 0
OfEach P [] = Unit {0}
OfEach P (x ∷ xs) = P x × OfEach P xs

-- ---- parents

-- the age of a role object among those of a client: that of a popup is its number, and toplevels come before all popups
abbrev pub age_of : Kind → ℕ
age_of Toplevel = 0
age_of (IsPopup popup) = popup.number

abbrev pub age_in : Option RoleObject → Option ℕ
age_in role = option_map (λ object. age_of object.kind) role

-- that of the xdg_surface with this id, if it has a role object
abbrev pub age_at : ℕ → Shell → Option ℕ
age_at xdg shell = option_and_then (λ x. age_in x.role) (xdg_at xdg shell)

abbrev pub is_older : Option ℕ → ℕ → Bool
is_older None number = false
is_older (Some age) number = nat_lt age number

-- the parent of the popup, if it has one, has a role object, which is older
abbrev pub HasElder : Shell → Popup → Type 0
HasElder shell popup = (parent : ℕ) → is_parent_of parent popup ≡ true → is_older (age_at parent shell) popup.number ≡ true

abbrev pub HaveElders : Shell → Type 0
HaveElders shell = OfEach (λ x. IfSome (popup_in x.role) (HasElder shell)) shell

-- ---- a client that lives

-- What a client that lives owns is in order: each of its popups is younger than its parent, none that was dismissed has a grab,
-- and it has no more xdg_surfaces than it may have surfaces.
pub record OwnsOrdered (r : Resident) : Type 0 where
  pub order : OwnsInOrder r
  pub younger : AreYounger (popups_of r.owned.shell)
  -- a dismissed popup has no grab (xdg-shell.xml, xdg_popup.popup_done)
  pub released : AreReleased r.owned.shell
  pub few : length r.owned.shell ≤ 256
  -- the parent of each popup has a role object, which is older (xdg-shell.xml, xdg_surface.get_popup)
  pub parents : HaveElders r.owned.shell
  -- the surface of each xdg_surface is there, and there are at most 256 (wayland.xml, wl_surface.destroy)
  pub placed : OfEach (λ x. is_some (surface_at x.surface r.owned.surfaces) ≡ true) r.owned.shell
  pub surfaces : length r.owned.surfaces.surfaces ≤ 256

-- The pointer isn't anywhere, and what each client owns is in order, with its toplevels that stand.
pub record Ordered (d : Desktop) : Type 0 where
  pub in_order : InOrder d
  pub each : (c : ℕ) (r : Resident) → client_at c d ≡ Some r → r.peer.status ≡ None → OwnsOrdered r

-- What a popup is placed by: where its surface is committed, and where it is placed anew (wayland.xml, wl_surface.commit; xdg-shell.xml,
-- xdg_positioner and xdg_popup.reposition).
use Rattle.std.specs.Prelude.{ℕ, ◌≡◌, Option}
use Rattle.law_desktop.specs.OwnedPopups.{IsAtParentOf, popup_of_surface, popup_with}
use Rattle.spec_desktop.specs.Changing.{output_rect}
use Rattle.spec_desktop.specs.Desktop.{Desktop, Resident}
use Rattle.wl_proto.specs.declared.wl_surface.WlSurfaceRequest.TheVariants as surface
use Rattle.wl_proto.specs.declared.xdg_popup.XdgPopupRequest.TheVariants as popup
use Rattle.wl_shell.specs.Shell.{Popup}
use Rattle.wl_requests.specs.declared.messages.Asked.{Asked}
use Rattle.wl_requests.specs.declared.messages.Asked.TheVariants as asked
use Rattle.wl_requests.specs.declared.messages.Kind.{Kind}
use Rattle.wl_requests.specs.declared.messages.Kind.TheVariants as kind
use Rattle.wl_requests.specs.declared.residents.Placing.{Placing}

-- It is placed within the output, and by where the window geometry of its parent stands.
pub record IsPlacing (placing : Placing) (c : ℕ) (popup : Option Popup) (r : Resident) (d : Desktop) : Type 0 where
  pub bounds : placing.bounds ≡ output_rect d.output
  pub parent : IsAtParentOf popup placing.parent_at c r d

-- So it is of the popup of a surface that is committed, and of one that is placed anew, as it stands before that; nothing else places a popup.
abbrev pub IsPlacingFor : Placing → ℕ → Kind → ℕ → Resident → Desktop → Type 0
IsPlacingFor placing object (kind.Surface surface.Commit) c r d = IsPlacing placing c (popup_of_surface object r.owned.shell) r d
IsPlacingFor placing object (kind.Popup (popup.Reposition positioner token)) c r d =
    IsPlacing placing c (popup_with object r.owned.shell) r d
IsPlacingFor placing object kind c r d = Unit {0}

-- of what the first message asks
abbrev pub IsPlacingOf : Placing → Asked → ℕ → Resident → Desktop → Type 0
IsPlacingOf placing (asked.Request object version size target kind) c r d = IsPlacingFor placing object kind c r d
IsPlacingOf placing asked c r d = Unit {0}

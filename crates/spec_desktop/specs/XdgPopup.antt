-- What is asked of popups (xdg-shell.xml, xdg_surface.get_popup and xdg_popup).
use Rattle.std.specs.Prelude.{ℕ, ◌&&◌, Bool, true, false, if◌then◌else◌, Option, Some, None, Result, Ok, is_some}
use Rattle.wl_proto.specs.declared.xdg_popup.XdgPopupRequest.{XdgPopupRequest}
use Rattle.wl_proto.specs.declared.xdg_popup.XdgPopupRequest.TheVariants as popup
use Rattle.spec_desktop.specs.declared.refusals.ErrorCode.TheVariants as error
use Rattle.spec_desktop.specs.declared.refusals.Refusal.{Refusal}
use Rattle.wl_surface.specs.declared.role.Role.{Role}
use Rattle.wl_surface.specs.declared.role.Role.TheVariants.{Toplevel as AsToplevel, Popup as AsPopup, Subsurface as AsSubsurface}
use Rattle.wl_surface.specs.declared.role.Role.TheVariants.{Cursor as AsCursor}
use Rattle.wl_shell.specs.Popups.{Popped, is_configured, is_parent, is_popup_mapped, popup_at}
use Rattle.wl_shell.specs.Positioner.{Positioner, first_positioner, is_complete}
use Rattle.wl_shell.specs.Shell.{XdgSurface, is_full, xdg_at, xdg_with}
use Rattle.spec_desktop.specs.Ask.{Ignore}
use Rattle.spec_desktop.specs.Demand.{Demand, Asks, GetPopup, Reposition, Grab, EndPopup}
use Rattle.spec_desktop.specs.Desktop.{Resident}
use Rattle.spec_desktop.specs.WlSubsurface.{past_limit, refuses}
use Rattle.spec_desktop.specs.XdgShell.{role_of}

-- ---- xdg_surface.get_popup

-- the values of a positioner
abbrev pub positioner_of : Option Positioner → Positioner
positioner_of None = first_positioner
positioner_of (Some p) = p

-- the surface has a role that isn't a popup's
abbrev pub is_no_popup : Option Role → Bool
is_no_popup None = false
is_no_popup (Some AsPopup) = false
is_no_popup (Some AsToplevel) = true
is_no_popup (Some AsSubsurface) = true
is_no_popup (Some AsCursor) = true

-- an xdg_surface with a role object may be a parent
abbrev pub may_be_parent : Option XdgSurface → Bool
may_be_parent None = false
may_be_parent (Some x) = is_some x.role

-- one role object at a time, a role is for life; a parent with a role object, and a positioner with a size and a rectangle
abbrev pub popup_made : Resident → XdgSurface → ℕ → ℕ → ℕ → Positioner → Result Demand Refusal
popup_made r x version id parent p =
    if is_some x.role then refuses x.id error.AlreadyConstructed else (
    if is_no_popup (role_of r x.surface) then refuses x.base error.Role else (
    if may_be_parent (xdg_at parent r.owned.shell) then (if is_complete p then Ok (GetPopup id version x.id parent p) else refuses x.base
    error.InvalidPositioner) else
    refuses x.base error.InvalidPopupParent))

-- ---- xdg_popup

-- xdg_popup.destroy: no living popup has it as its parent
abbrev pub popup_destroyed : Resident → ℕ → XdgSurface → Result Demand Refusal
popup_destroyed r object x = if is_parent x.id r.owned.shell then refuses x.base error.NotTheTopmostPopup else Ok (EndPopup object x.id)

-- xdg_popup.grab: before it is mapped. One that is dismissed does nothing.
abbrev pub grab_of : ℕ → ℕ → XdgSurface → Option Popped → Result Demand Refusal
grab_of object serial x None = past_limit
grab_of object serial x (Some p) =
    if p.popup.is_dismissed then Ok (Asks Ignore) else (if is_popup_mapped p then refuses object error.InvalidGrab else Ok
    (Grab x.id serial))

-- xdg_popup.reposition: where it configures the popup anew, no more than 64 configures wait; by a positioner with a size and a rectangle
abbrev pub repositioned_by : XdgSurface → ℕ → Positioner → Option Popped → Result Demand Refusal
repositioned_by x token positioner None = past_limit
repositioned_by x token positioner (Some p) =
    if is_configured p && is_full x.configures then past_limit else (if is_complete positioner then Ok
    (Reposition x.id token positioner) else refuses x.base error.InvalidPositioner)

abbrev pub popup_asked : Resident → ℕ → Option XdgSurface → XdgPopupRequest → Result Demand Refusal
popup_asked r object None request = past_limit
popup_asked r object (Some x) popup.Destroy = popup_destroyed r object x
popup_asked r object (Some x) (popup.Grab by serial) = grab_of object serial x (popup_at x.id r.owned.shell)
popup_asked r object (Some x) (popup.Reposition positioner token) =
    repositioned_by x token (positioner_of (r.peer.positioners positioner)) (popup_at x.id r.owned.shell)

abbrev pub popup_demand : Resident → ℕ → XdgPopupRequest → Result Demand Refusal
popup_demand r object request = popup_asked r object (xdg_with object r.owned.shell) request

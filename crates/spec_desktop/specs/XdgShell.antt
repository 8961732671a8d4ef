-- What is asked of the shell (xdg-shell.xml, xdg_wm_base, xdg_surface and xdg_toplevel).
use Rattle.std.specs.Prelude.{ℕ, pos, ◌==◌, ◌&&◌, ◌||◌, int_lt, Bool, true, false, if◌then◌else◌, Option, Some, None, Result, Ok, is_some}
use Rattle.std.specs.List.{list_any}
use Rattle.std.specs.Option.{option_and_then, option_map_or}
use Rattle.wl_geom.specs.declared.rect.Rect.{Rect}
use Rattle.spec_desktop.specs.declared.refusals.ErrorCode.TheVariants as error
use Rattle.spec_desktop.specs.declared.refusals.Refusal.{Refusal}
use Rattle.wl_surface.specs.Request.{SetWindowGeometry}
use Rattle.wl_surface.specs.Surface.{has_content}
use Rattle.wl_surface.specs.Surfaces.{history_in, surface_at}
use Rattle.wl_surface.specs.declared.role.Role.{Role}
use Rattle.wl_surface.specs.declared.role.Role.TheVariants.{Toplevel as AsToplevel, Popup as AsPopup, Subsurface as AsSubsurface}
use Rattle.wl_surface.specs.declared.role.Role.TheVariants.{Cursor as AsCursor}
use Rattle.wl_shell.specs.Shell.{XdgSurface, answers_states, is_full, is_waiting, stage_of, xdg_of}
use Rattle.spec_desktop.specs.Ask.{Ask, AskSurface, EndObject, GetXdgSurface, DestroyXdgSurface, GetToplevel, Acknowledge, ConfigureAgain}
use Rattle.spec_desktop.specs.Ask.{Ignore}
use Rattle.spec_desktop.specs.Desktop.{Resident}
use Rattle.spec_desktop.specs.WlSurface.{refuse, refuse_limit}

-- xdg_wm_base.destroy: the xdg_surfaces that it made must be gone
abbrev pub base_destroyed : Resident → ℕ → Result Ask Refusal
base_destroyed r object = if list_any (λ x. x.base == object) r.owned.shell then refuse object error.DefunctSurfaces else Ok
    (EndObject object)

-- a role that isn't one of the shell's
abbrev pub is_foreign : Option Role → Bool
is_foreign None = false
is_foreign (Some AsToplevel) = false
is_foreign (Some AsPopup) = false
is_foreign (Some AsSubsurface) = true
is_foreign (Some AsCursor) = true

abbrev pub role_of : Resident → ℕ → Option Role
role_of r surface = option_and_then (λ s. s.role) (surface_at surface r.owned.surfaces)

abbrev pub has_any : Resident → ℕ → Bool
has_any r surface = option_map_or has_content (history_in surface r.owned.surfaces) false

-- xdg_wm_base.get_xdg_surface: not of a surface with another role or an xdg_surface, nor of one that has a buffer
abbrev pub xdg_surface_made : Resident → ℕ → ℕ → ℕ → ℕ → Result Ask Refusal
xdg_surface_made r object version id surface =
    if is_foreign (role_of r surface) || is_some (xdg_of surface r.owned.shell)
    then refuse object error.Role
    else (if has_any r surface then refuse object error.InvalidSurfaceState else Ok (GetXdgSurface id version object surface))

-- xdg_surface.destroy: its role object must be gone
abbrev pub xdg_surface_destroyed : XdgSurface → Result Ask Refusal
xdg_surface_destroyed x = if is_some x.role then refuse x.id error.DefunctRoleObject else Ok (DestroyXdgSurface x.id)

-- the surface has a role that isn't a toplevel's
abbrev pub is_no_toplevel : Option Role → Bool
is_no_toplevel None = false
is_no_toplevel (Some AsToplevel) = false
is_no_toplevel (Some AsPopup) = true
is_no_toplevel (Some AsSubsurface) = true
is_no_toplevel (Some AsCursor) = true

-- xdg_surface.get_toplevel: one role object at a time, and a role is for life
abbrev pub toplevel_made : Resident → XdgSurface → ℕ → ℕ → Result Ask Refusal
toplevel_made r x version id =
    if is_some x.role
    then refuse x.id error.AlreadyConstructed
    else (if is_no_toplevel (role_of r x.surface) then refuse x.base error.Role else Ok (GetToplevel id version x.id))

-- xdg_surface.set_window_geometry: with a role object, and sides that are positive
abbrev pub geometry_set : XdgSurface → Rect → Result Ask Refusal
geometry_set x rect =
    if is_some x.role
    then (if int_lt (pos 0) rect.w
    && int_lt (pos 0) rect.h then Ok (AskSurface x.surface (SetWindowGeometry rect)) else refuse x.id error.InvalidSize)
    else refuse x.id error.NotConstructed

-- xdg_surface.ack_configure: with a role object, and a serial that waits
abbrev pub acknowledged_by : XdgSurface → ℕ → Result Ask Refusal
acknowledged_by x serial =
    if is_some x.role
    then (if is_waiting serial x.configures then Ok (Acknowledge x.id serial) else refuse x.id error.InvalidSerial)
    else refuse x.id error.NotConstructed

-- A request for another state (set_maximized, unset_maximized, set_fullscreen and unset_fullscreen) is answered where the toplevel was
-- configured before. An xdg_surface has at most 64 configures that weren't acknowledged.
abbrev pub configured_again : XdgSurface → Result Ask Refusal
configured_again x =
    if option_map_or answers_states (stage_of x) false
    then (if is_full x.configures then refuse_limit else Ok (ConfigureAgain x.id))
    else Ok Ignore

abbrev pub state_asked : Option XdgSurface → Result Ask Refusal
state_asked None = refuse_limit
state_asked (Some x) = configured_again x

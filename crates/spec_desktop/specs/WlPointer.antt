-- What is asked of the seat and of wl_pointers (wayland.xml, wl_seat and wl_pointer).
use Rattle.std.specs.Prelude.{ℕ, ◌==◌, ◌||◌, Bool, true, false, if◌then◌else◌, Option, Some, None, Result, Ok, is_some}
use Rattle.wl_proto.specs.declared.wl_pointer.WlPointerRequest.{WlPointerRequest}
use Rattle.wl_proto.specs.declared.wl_pointer.WlPointerRequest.TheVariants as pointer
use Rattle.wl_proto.specs.declared.wl_seat.WlSeatRequest.{WlSeatRequest}
use Rattle.wl_proto.specs.declared.wl_seat.WlSeatRequest.TheVariants as seat
use Rattle.spec_desktop.specs.declared.refusals.ErrorCode.TheVariants.{MissingCapability, Role as HasAnotherRole}
use Rattle.spec_desktop.specs.declared.refusals.Refusal.{Refusal}
use Rattle.wl_surface.specs.declared.role.Role.{Role}
use Rattle.wl_surface.specs.declared.role.Role.TheVariants.{Toplevel as AsToplevel, Popup as AsPopup, Subsurface as AsSubsurface}
use Rattle.wl_surface.specs.declared.role.Role.TheVariants.{Cursor as AsCursor}
use Rattle.wl_shell.specs.Shell.{xdg_of}
use Rattle.spec_desktop.specs.Ask.{Ignore}
use Rattle.spec_desktop.specs.Demand.{Demand, Asks, GetPointer, MakeCursor}
use Rattle.spec_desktop.specs.Desktop.{Resident}
use Rattle.spec_desktop.specs.WlSubsurface.{refuses}
use Rattle.spec_desktop.specs.XdgShell.{role_of}

-- the seat has a pointer, and no keyboard and no touch
abbrev pub seat_demand : ℕ → ℕ → WlSeatRequest → Result Demand Refusal
seat_demand object version (seat.GetPointer id) = Ok (GetPointer id version)
seat_demand object version (seat.GetKeyboard id) = refuses object MissingCapability
seat_demand object version (seat.GetTouch id) = refuses object MissingCapability

-- the surface has a role that isn't a cursor's
abbrev pub is_no_cursor : Option Role → Bool
is_no_cursor None = false
is_no_cursor (Some AsCursor) = false
is_no_cursor (Some AsToplevel) = true
is_no_cursor (Some AsPopup) = true
is_no_cursor (Some AsSubsurface) = true

-- wl_pointer.set_cursor: of a surface without another role and without xdg_surface. No cursor is painted.
abbrev pub cursor_set : Resident → ℕ → ℕ → Result Demand Refusal
cursor_set r object surface =
    if is_no_cursor (role_of r surface) || is_some (xdg_of surface r.owned.shell) then refuses object HasAnotherRole else Ok
    (MakeCursor surface)

-- null takes the cursor away
abbrev pub pointer_demand : Resident → ℕ → WlPointerRequest → Result Demand Refusal
pointer_demand r object (pointer.SetCursor serial surface x y) = if surface == 0 then Ok (Asks Ignore) else cursor_set r object surface

-- What is asked of subsurfaces (wayland.xml, wl_subcompositor and wl_subsurface).
use Rattle.std.specs.Prelude.{ℕ, ◌==◌, ◌&&◌, ◌||◌, not, Bool, true, false, if◌then◌else◌, Option, Some, None, Result, Ok, Err, find}
use Rattle.std.specs.Prelude.{is_some}
use Rattle.std.specs.List.{list_any}
use Rattle.std.specs.Option.{option_and_then}
use Rattle.wl_proto.specs.declared.wl_subcompositor.WlSubcompositorRequest.{WlSubcompositorRequest}
use Rattle.wl_proto.specs.declared.wl_subcompositor.WlSubcompositorRequest.TheVariants as subcompositor
use Rattle.wl_proto.specs.declared.wl_subsurface.WlSubsurfaceRequest.{WlSubsurfaceRequest}
use Rattle.wl_proto.specs.declared.wl_subsurface.WlSubsurfaceRequest.TheVariants as subsurface
use Rattle.spec_desktop.specs.declared.refusals.ErrorCode.{ErrorCode}
use Rattle.spec_desktop.specs.declared.refusals.ErrorCode.TheVariants.{BadSurface, BadParent, Implementation}
use Rattle.spec_desktop.specs.declared.refusals.Refusal.{Refusal}
use Rattle.spec_desktop.specs.Told.{display_error}
use Rattle.wl_surface.specs.Request.{Request, Member, Itself, Child, SetPosition, PlaceAbove, PlaceBelow}
use Rattle.wl_surface.specs.Surfaces.{Link, Surfaces, link_at}
use Rattle.wl_surface.specs.Trees.{is_bad_parent, is_too_deep, link_of}
use Rattle.wl_surface.specs.declared.role.Role.{Role}
use Rattle.wl_surface.specs.declared.role.Role.TheVariants.{Toplevel as AsToplevel, Popup as AsPopup, Subsurface as AsSubsurface}
use Rattle.wl_surface.specs.declared.role.Role.TheVariants.{Cursor as AsCursor}
use Rattle.wl_shell.specs.Shell.{xdg_of}
use Rattle.spec_desktop.specs.Ask.{AskSurface, EndObject, Ignore}
use Rattle.spec_desktop.specs.Demand.{Demand, Asks, GetSubsurface, EndSubsurface, SetMode}
use Rattle.spec_desktop.specs.Desktop.{Resident, Subsurface}
use Rattle.spec_desktop.specs.XdgShell.{role_of}

abbrev pub refuses : ℕ → ErrorCode → Result Demand Refusal
refuses object code = Err (record { object = object; code = code })

abbrev pub past_limit : Result Demand Refusal
past_limit = Err (display_error Implementation)

-- the surface has a role that isn't a subsurface's
abbrev pub is_no_subsurface : Option Role → Bool
is_no_subsurface None = false
is_no_subsurface (Some AsSubsurface) = false
is_no_subsurface (Some AsToplevel) = true
is_no_subsurface (Some AsPopup) = true
is_no_subsurface (Some AsCursor) = true

-- this wl_subsurface is of the surface, inert or not
abbrev pub is_of_child : ℕ → Option ℕ → Bool
is_of_child surface None = false
is_of_child surface (Some child) = child == surface

abbrev pub has_subsurface : ℕ → Resident → Bool
has_subsurface surface r = list_any (λ s. is_of_child surface s.surface) r.subsurfaces

-- wl_subcompositor.get_subsurface: of a surface with no other role, no wl_subsurface and no xdg_surface; not below itself
abbrev pub subsurface_made : Resident → ℕ → ℕ → ℕ → ℕ → ℕ → Result Demand Refusal
subsurface_made r object version id child parent =
    if is_too_deep r.owned.surfaces child parent then past_limit else (
    if is_no_subsurface (role_of r child) || (has_subsurface child r || is_some (xdg_of child r.owned.shell)) then refuses object
    BadSurface else (
    if is_bad_parent r.owned.surfaces child parent then refuses object BadParent else Ok (GetSubsurface id version child parent)))

abbrev pub subcompositor_demand : Resident → ℕ → ℕ → WlSubcompositorRequest → Result Demand Refusal
subcompositor_demand r object version subcompositor.Destroy = Ok (Asks (EndObject object))
subcompositor_demand r object version (subcompositor.GetSubsurface id child parent) = subsurface_made r object version id child parent

-- the wl_subsurface of this id, and its link while that hasn't ended
abbrev pub subsurface_at : ℕ → Resident → Option Subsurface
subsurface_at id r = find (λ s. s.id == id) r.subsurfaces

abbrev pub living : Link → Option Link
living l = if l.has_ended then None else Some l

abbrev pub link_of_subsurface : ℕ → Resident → Option Link
link_of_subsurface id r = option_and_then (λ s. option_and_then living (link_at s.link r.owned.surfaces)) (subsurface_at id r)

-- beside whom a child is placed: its parent, or another child of that
abbrev pub sibling_of : Link → Option Link → Option Member
sibling_of l None = None
sibling_of l (Some other) = if other.parent == l.parent && not (other.child == l.child) then Some (Child other.number) else None

abbrev pub beside : Surfaces → Link → ℕ → Option Member
beside all l surface = if surface == l.parent then Some Itself else sibling_of l (link_of surface all)

abbrev pub placed_beside : ℕ → ℕ → (Member → Request) → Option Member → Result Demand Refusal
placed_beside object parent request None = refuses object BadSurface
placed_beside object parent request (Some member) = Ok (Asks (AskSurface parent (request member)))

-- An inert wl_subsurface, whose link has ended, does nothing but go.
abbrev pub demand_by_link : Resident → ℕ → Option Link → WlSubsurfaceRequest → Result Demand Refusal
demand_by_link r object l subsurface.Destroy = Ok (EndSubsurface object)
demand_by_link r object None request = Ok (Asks Ignore)
demand_by_link r object (Some l) (subsurface.SetPosition x y) = Ok (Asks (AskSurface l.parent (SetPosition l.number x y)))
demand_by_link r object (Some l) (subsurface.PlaceAbove sibling) =
    placed_beside object l.parent (PlaceAbove l.number) (beside r.owned.surfaces l sibling)
demand_by_link r object (Some l) (subsurface.PlaceBelow sibling) =
    placed_beside object l.parent (PlaceBelow l.number) (beside r.owned.surfaces l sibling)
demand_by_link r object (Some l) subsurface.SetSync = Ok (SetMode l.number true)
demand_by_link r object (Some l) subsurface.SetDesync = Ok (SetMode l.number false)

abbrev pub subsurface_demand : Resident → ℕ → WlSubsurfaceRequest → Result Demand Refusal
subsurface_demand r object request = demand_by_link r object (link_of_subsurface object r) request

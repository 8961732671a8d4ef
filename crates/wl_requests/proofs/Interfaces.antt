-- Of which interface the message of a request is, and that the table's entry is then of it.
use Rattle.std.proofs.Common.{◌≡◌, ℕ, true, Option, Some, refl, ap, eq-eqb, ◌∙◌}
use Rattle.std.specs.Prelude.{◌==◌}
use Rattle.std.specs.Option.{option_map}
use Rattle.wl_proto.specs.declared.interface.Interface.{Interface}
use Rattle.wl_proto.specs.declared.interface.Interface.TheVariants.{WlSubcompositor, WlSubsurface, WlSurface, XdgPopup, XdgSurface, XdgWmBase}
use Rattle.spec_desktop.specs.Objects.{interface_number, is_of, object_of, objects_in}
use Rattle.wl_proto.specs.Messages.{wl_subcompositor_request, wl_subsurface_request, wl_surface_request, xdg_popup_request, xdg_surface_request, xdg_wm_base_request}
use Rattle.wl_proto.specs.declared.wl_subcompositor.WlSubcompositorRequest.{WlSubcompositorRequest}
use Rattle.wl_proto.specs.declared.wl_subcompositor.WlSubcompositorRequest.TheVariants as subcompositor
use Rattle.wl_proto.specs.declared.wl_subsurface.WlSubsurfaceRequest.{WlSubsurfaceRequest}
use Rattle.wl_proto.specs.declared.wl_subsurface.WlSubsurfaceRequest.TheVariants as subsurface
use Rattle.wl_proto.specs.declared.wl_surface.WlSurfaceRequest.{WlSurfaceRequest}
use Rattle.wl_proto.specs.declared.wl_surface.WlSurfaceRequest.TheVariants as surface
use Rattle.wl_proto.specs.declared.xdg_popup.XdgPopupRequest.{XdgPopupRequest}
use Rattle.wl_proto.specs.declared.xdg_popup.XdgPopupRequest.TheVariants as popup
use Rattle.wl_proto.specs.declared.xdg_surface.XdgSurfaceRequest.{XdgSurfaceRequest}
use Rattle.wl_proto.specs.declared.xdg_surface.XdgSurfaceRequest.TheVariants as xdg
use Rattle.wl_proto.specs.declared.xdg_wm_base.XdgWmBaseRequest.{XdgWmBaseRequest}
use Rattle.wl_proto.specs.declared.xdg_wm_base.XdgWmBaseRequest.TheVariants as base
use Rattle.wl_table.specs.Objects.{Held, entry_of}
use Rattle.wl_table.specs.declared.entry.Entry.{Entry}

pub of-surface : (request : WlSurfaceRequest) → (wl_surface_request request).interface ≡ WlSurface
of-surface surface.Destroy = refl
of-surface request = refl

pub of-subsurface : (request : WlSubsurfaceRequest) → (wl_subsurface_request request).interface ≡ WlSubsurface
of-subsurface subsurface.Destroy = refl
of-subsurface request = refl

pub of-subcompositor : (request : WlSubcompositorRequest) → (wl_subcompositor_request request).interface ≡ WlSubcompositor
of-subcompositor subcompositor.Destroy = refl
of-subcompositor (subcompositor.GetSubsurface id child parent) = refl

pub of-base : (request : XdgWmBaseRequest) → (xdg_wm_base_request request).interface ≡ XdgWmBase
of-base base.Destroy = refl
of-base request = refl

pub of-xdg-surface : (request : XdgSurfaceRequest) → (xdg_surface_request request).interface ≡ XdgSurface
of-xdg-surface xdg.Destroy = refl
of-xdg-surface request = refl

pub of-popup : (request : XdgPopupRequest) → (xdg_popup_request request).interface ≡ XdgPopup
of-popup popup.Destroy = refl
of-popup request = refl

-- the object in the table is of the interface of its entry
pub object-is : (interface : Interface) (held : Held) (id : ℕ) (entry : Entry) → entry_of held id ≡ Some entry → entry.interface ≡ interface → is_of interface (objects_in held id) ≡ true
object-is interface held id entry found is =
    ap (λ (o : Option Entry). is_of interface (option_map object_of o)) found
    ∙ ap (λ (i : Interface). interface_number i == interface_number interface) is
    ∙ eq-eqb (interface_number interface) (interface_number interface) refl

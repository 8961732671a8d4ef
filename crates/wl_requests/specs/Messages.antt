-- What the first message of a client asks, for the desk.
use Rattle.std.specs.Prelude.{ℕ, ◌≡◌, Bool, true, false}
use Rattle.wl_wire.specs.Wire.{split_of}
use Rattle.wl_wire.specs.declared.header.Split.TheVariants.{More}
use Rattle.wl_proto.specs.declared.interface.Interface.TheVariants.{XdgToplevel}
use Rattle.wl_proto.specs.Messages.{Message, wl_compositor_request, wl_pointer_request, wl_seat_request, wl_subcompositor_request}
use Rattle.wl_proto.specs.Messages.{wl_subsurface_request, wl_surface_request}
use Rattle.wl_proto.specs.Messages.{xdg_popup_request, xdg_surface_request, xdg_wm_base_request}
use Rattle.wl_client.specs.First.{IsRefused, Passes}
use Rattle.wl_client.specs.Serving.{IsOwnMessage}
use Rattle.wl_client.specs.View.{ClientView}
use Rattle.wl_requests.specs.declared.messages.Asked.{Asked}
use Rattle.wl_requests.specs.declared.messages.Asked.TheVariants as asked
use Rattle.wl_requests.specs.declared.messages.Kind.{Kind}
use Rattle.wl_requests.specs.declared.messages.Kind.TheVariants as kind
use Rattle.wl_proto.specs.declared.wl_subsurface.WlSubsurfaceRequest.TheVariants as subsurface
use Rattle.wl_proto.specs.declared.wl_surface.WlSurfaceRequest.{WlSurfaceRequest}
use Rattle.wl_proto.specs.declared.wl_surface.WlSurfaceRequest.TheVariants as surface
use Rattle.wl_proto.specs.declared.xdg_popup.XdgPopupRequest.TheVariants as popup
use Rattle.wl_requests.specs.declared.residents.Resident.{Resident as Kept}
use Rattle.wl_requests.specs.Linking.{IsOnlyChild}
use Rattle.wl_requests.specs.Residents.{asked_by}
use Rattle.wl_requests.specs.Touching.{Touch, Closes, Commits, Destroys, Parts, Releases}
use Rattle.spec_desktop.specs.Requests.{toplevel_request}

-- the message is this request
abbrev pub IsKind : Kind → Message → Type 0
IsKind (kind.Compositor request) m = m ≡ wl_compositor_request request
IsKind (kind.Surface request) m = m ≡ wl_surface_request request
IsKind (kind.Subcompositor request) m = m ≡ wl_subcompositor_request request
IsKind (kind.Seat request) m = m ≡ wl_seat_request request
IsKind (kind.Pointer request) m = m ≡ wl_pointer_request request
IsKind (kind.Base request) m = m ≡ xdg_wm_base_request request
IsKind (kind.XdgSurface request) m = m ≡ xdg_surface_request request
IsKind (kind.Toplevel toplevel) m = (m.interface ≡ XdgToplevel) × (toplevel ≡ asked_by (toplevel_request m.opcode m.fields))
IsKind (kind.Subsurface request) m = m ≡ wl_subsurface_request request
IsKind (kind.Popup request) m = m ≡ xdg_popup_request request

abbrev pub IsAsked : ClientView → Asked → Type 0
IsAsked v asked.More = split_of v.rest ≡ More
IsAsked v (asked.Refused refusal) = IsRefused (split_of v.rest) v refusal
IsAsked v (asked.Own size judged) = IsOwnMessage v size judged
IsAsked v (asked.Request object version size target kind) = (m : Message) × Passes v object version size target m × IsKind kind m

-- ---- requests that may change what several surfaces show

-- this one is such a request of this client: that of a wl_subsurface is while its link lives
abbrev pub IsTouchOf : {A : Type 0} → Kind → ℕ → ℕ → Kept A → Touch → Type 0
IsTouchOf (kind.Surface surface.Commit) object target v touch = touch ≡ Commits target
IsTouchOf (kind.Surface surface.Destroy) object target v touch = touch ≡ Destroys target
IsTouchOf (kind.Subsurface subsurface.Destroy) object target v touch = (child : ℕ) × IsOnlyChild v object child × (touch ≡ Parts child)
IsTouchOf (kind.Subsurface subsurface.SetDesync) object target v touch = (child : ℕ) × IsOnlyChild v object child
    × (touch ≡ Releases child)
IsTouchOf (kind.Popup popup.Destroy) object target v touch = touch ≡ Closes target
IsTouchOf kind object target v touch = ⊥

-- a request of a wl_surface that is neither a commit nor its end
abbrev pub asks_itself : WlSurfaceRequest → Bool
asks_itself surface.Commit = false
asks_itself surface.Destroy = false
asks_itself request = true

abbrev pub IsTouchOfAsked : {A : Type 0} → Asked → Kept A → Touch → Type 0
IsTouchOfAsked (asked.Request object version size target kind) v touch = IsTouchOf kind object target v touch
IsTouchOfAsked asked v touch = ⊥

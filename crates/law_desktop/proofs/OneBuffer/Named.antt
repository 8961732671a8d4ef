-- An accepted message attaches a buffer of a wl_buffer that is there, or none.
use Rattle.std.proofs.Common.{◌≡◌, ℕ, List, Bool, true, false, Option, Some, None, Result, refl, sym, subst}
use Rattle.std.specs.Prelude.{Ok, Err, ◌==◌, ◌&&◌, ◌||◌, pos, if◌then◌else◌, int_le, int_lt, is_some, length, nat_le}
use Rattle.std.specs.List.{list_any}
use Rattle.std.specs.Option.{option_map, option_map_or}
use Rattle.wl_geom.specs.declared.rect.Rect.{Rect}
use Rattle.wl_proto.specs.Messages.{Message}
use Rattle.wl_proto.specs.declared.wl_compositor.WlCompositorRequest.TheVariants as compositor
use Rattle.wl_proto.specs.declared.wl_seat.WlSeatRequest.TheVariants as seat
use Rattle.wl_proto.specs.declared.wl_pointer.WlPointerRequest.TheVariants as pointer
use Rattle.wl_proto.specs.declared.wl_subcompositor.WlSubcompositorRequest.TheVariants as subcompositor
use Rattle.wl_proto.specs.declared.wl_subsurface.WlSubsurfaceRequest.{WlSubsurfaceRequest}
use Rattle.wl_proto.specs.declared.wl_subsurface.WlSubsurfaceRequest.TheVariants as subsurface
use Rattle.wl_proto.specs.declared.wl_surface.WlSurfaceRequest.{WlSurfaceRequest}
use Rattle.wl_proto.specs.declared.wl_surface.WlSurfaceRequest.TheVariants as surface
use Rattle.wl_proto.specs.declared.xdg_popup.XdgPopupRequest.{XdgPopupRequest}
use Rattle.wl_proto.specs.declared.xdg_popup.XdgPopupRequest.TheVariants as popup
use Rattle.wl_proto.specs.declared.xdg_surface.XdgSurfaceRequest.{XdgSurfaceRequest}
use Rattle.wl_proto.specs.declared.xdg_surface.XdgSurfaceRequest.TheVariants as xdg
use Rattle.wl_proto.specs.declared.xdg_wm_base.XdgWmBaseRequest.{XdgWmBaseRequest}
use Rattle.wl_proto.specs.declared.xdg_wm_base.XdgWmBaseRequest.TheVariants as base
use Rattle.spec_desktop.specs.declared.actions.Action.{Action}
use Rattle.spec_desktop.specs.declared.refusals.Refusal.{Refusal}
use Rattle.spec_desktop.specs.Buffers.{Buffer as Made}
use Rattle.spec_desktop.specs.Judgement.{action_of}
use Rattle.spec_desktop.specs.Objects.{ById}
use Rattle.spec_desktop.specs.Peer.{known_of}
use Rattle.spec_desktop.specs.Requests.{Request as Asked, ToDisplay, ToRegistry, ToCompositor, ToRegion, ToSurface, ToShm, ToPool, ToBuffer}
use Rattle.spec_desktop.specs.Requests.{ToSubcompositor, ToSubsurface, ToSeat, ToPointer, ToBase, ToPositioner}
use Rattle.spec_desktop.specs.Requests.{ToXdgSurface, ToToplevel, ToPopup, ToNothing, request_of, rect}
use Rattle.spec_desktop.specs.ToplevelRequest.{ToplevelRequest}
use Rattle.spec_desktop.specs.ToplevelRequest as toplevel
use Rattle.wl_surface.specs.Request.{Buffer, Member, Request, Attach, PlaceAbove, PlaceBelow}
use Rattle.wl_surface.specs.Surfaces.{Link}
use Rattle.wl_surface.specs.Trees.{is_bad_parent, is_too_deep}
use Rattle.wl_shell.specs.Popups.{Popped, is_parent, is_popup_mapped, popup_at, is_configured}
use Rattle.wl_shell.specs.Positioner.{Positioner, is_complete}
use Rattle.wl_shell.specs.Shell.{Effect, Configures, XdgSurface as Xdg, answers_states, is_full, is_waiting, stage_of, xdg_at, xdg_of, xdg_with}
use Rattle.spec_desktop.specs.Ask.{Ask, AskSurface, owns}
use Rattle.spec_desktop.specs.Demand.{Demand, Asks}
use Rattle.spec_desktop.specs.Demanding.{base_demand, committed_by, demand_by, demand_of, demands, effect_of_commit, judge_all, moved_by_pointer, surface_demand, toplevel_asked, toplevel_destroyed}
use Rattle.spec_desktop.specs.Demanding.{xdg_asked, if_whole}
use Rattle.spec_desktop.specs.Desktop.{Resident}
use Rattle.spec_desktop.specs.WlPointer.{is_no_cursor}
use Rattle.spec_desktop.specs.WlSubsurface.{beside, demand_by_link, has_subsurface, is_no_subsurface, link_of_subsurface, placed_beside, subsurface_made}
use Rattle.spec_desktop.specs.WlSurface.{buffer_of, will_be_whole}
use Rattle.spec_desktop.specs.XdgPopup.{grab_of, is_no_popup, may_be_parent, popup_asked, popup_made, positioner_of, repositioned_by}
use Rattle.spec_desktop.specs.XdgShell.{acknowledged_by, geometry_set, has_any, is_foreign, is_no_toplevel, role_of, state_asked}
use Rattle.law_desktop.proofs.Soundness.AllowedHeard.{judged-hears}
use Rattle.law_desktop.specs.OneBuffer.{Attaches}
use Rattle.law_desktop.proofs.OneBuffer.Keeping.{Lives}

-- what is attached is that of a wl_buffer that is there, or none
abbrev pub IsRequestFrom : ById Made → Request → Type 0
IsRequestFrom buffers (Attach buffer x y) = (id : ℕ) × (buffer ≡ option_map (buffer_of id) (buffers id))
IsRequestFrom buffers request = Unit {0}

abbrev pub IsAskFrom : ById Made → Ask → Type 0
IsAskFrom buffers (AskSurface id request) = IsRequestFrom buffers request
IsAskFrom buffers ask = Unit {0}

abbrev pub IsFrom : ById Made → Demand → Type 0
IsFrom buffers (Asks ask) = IsAskFrom buffers ask
IsFrom buffers demand = Unit {0}

-- the buffer that a request attaches is that of a wl_buffer that is there
named-lives : (buffers : ById Made) (id : ℕ) (b : Buffer) → option_map (buffer_of id) (buffers id) ≡ Some b → Lives buffers b
named-lives buffers id b e = at (buffers id) refl e
  where
    some : (x y : Buffer) → Some x ≡ Some y → x ≡ y
    some x y f = cc

    at : (o : Option Made) → buffers id ≡ o → option_map (buffer_of id) o ≡ Some b → Lives buffers b
    at None there f = absurd (cc)
    at (Some made) there f = (id, made, there, sym (some (buffer_of id made) b f))

pub attaches-lives : (buffers : ById Made) (request : Request) (b : Buffer) → IsRequestFrom buffers request → Attaches b request → Lives buffers b
attaches-lives buffers (Attach buffer x y) b from e =
    named-lives buffers from.0 b (subst (λ (o : Option Buffer). o ≡ Some b) from.1 e)
attaches-lives buffers request b from e = absurd e

module _ (r : Resident) where
  abbrev Froms : Result Demand Refusal → Type 0
  Froms (Ok demand) = IsFrom r.peer.buffers demand
  Froms (Err refusal) = Unit {0}

  if-froms : (b : Bool) (x y : Result Demand Refusal) → Froms x → Froms y → Froms (if b then x else y)
  if-froms true x y f g = f
  if-froms false x y f g = g

  abbrev AskFroms : Result Ask Refusal → Type 0
  AskFroms judged = Froms (demands judged)

  if-asks : (b : Bool) (x y : Result Ask Refusal) → AskFroms x → AskFroms y → AskFroms (if b then x else y)
  if-asks true x y f g = f
  if-asks false x y f g = g

  own-froms : (judged : Result Action Refusal) → AskFroms (owns judged)
  own-froms (Ok action) = tt
  own-froms (Err refusal) = tt

  -- ---- surfaces

  committed-froms : (o : Option Xdg) (object : ℕ) (effect : Effect) → Froms (committed_by o object effect)
  committed-froms (Some x) object Configures = if-froms (is_full x.configures) _ _ tt tt
  committed-froms o object effect = tt

  -- where the buffer is whole, as without that
  whole-froms : (b : Bool) (object : ℕ) (judged : Result Demand Refusal) → Froms judged → Froms (if_whole b object judged)
  whole-froms true object judged from = from
  whole-froms false object (Ok demand) from = tt
  whole-froms false object (Err refusal) from = tt

  surface-froms : (object version : ℕ) (request : WlSurfaceRequest) → Froms (surface_demand r object version request)
  surface-froms object version surface.Destroy = if-froms (is_some (xdg_of object r.owned.shell)) _ _ tt tt
  surface-froms object version (surface.Attach buffer x y) = (buffer, refl)
  surface-froms object version surface.Commit =
      whole-froms (will_be_whole r object) object _ (committed-froms (xdg_of object r.owned.shell) object (effect_of_commit r object))
  surface-froms object version (surface.SetBufferTransform z) = if-asks (int_le (pos 0) z && int_le z (pos 7)) _ _ tt tt
  surface-froms object version (surface.SetBufferScale z) = if-asks (int_le (pos 1) z) _ _ tt tt
  surface-froms object version request = tt

  -- ---- subsurfaces

  linked-froms : (object version id child parent : ℕ) → Froms (subsurface_made r object version id child parent)
  linked-froms object version id child parent =
      if-froms (is_too_deep r.owned.surfaces child parent) _ _ tt
      (if-froms (is_no_subsurface (role_of r child) || (has_subsurface child r || is_some (xdg_of child r.owned.shell))) _ _ tt
      (if-froms (is_bad_parent r.owned.surfaces child parent) _ _ tt tt))

  above-froms : (object : ℕ) (l : Link) (o : Option Member) → Froms (placed_beside object l.parent (PlaceAbove l.number) o)
  above-froms object l None = tt
  above-froms object l (Some member) = tt

  below-froms : (object : ℕ) (l : Link) (o : Option Member) → Froms (placed_beside object l.parent (PlaceBelow l.number) o)
  below-froms object l None = tt
  below-froms object l (Some member) = tt

  link-froms : (l : Option Link) (object : ℕ) (request : WlSubsurfaceRequest) → Froms (demand_by_link r object l request)
  link-froms l object subsurface.Destroy = tt
  link-froms None object (subsurface.SetPosition x y) = tt
  link-froms None object subsurface.SetSync = tt
  link-froms None object subsurface.SetDesync = tt
  link-froms (Some l) object (subsurface.PlaceAbove sibling) = above-froms object l (beside r.owned.surfaces l sibling)
  link-froms (Some l) object (subsurface.PlaceBelow sibling) = below-froms object l (beside r.owned.surfaces l sibling)
  link-froms l object request = tt

  -- ---- the shell

  base-froms : (object version : ℕ) (request : XdgWmBaseRequest) → Froms (base_demand r object version request)
  base-froms object version base.Destroy = if-asks (list_any (λ x. x.base == object) r.owned.shell) _ _ tt tt
  base-froms object version (base.GetXdgSurface id surface) =
      if-asks (is_foreign (role_of r surface) || is_some (xdg_of surface r.owned.shell)) _ _ tt (if-asks (has_any r surface) _ _ tt tt)
  base-froms object version request = tt

  popup-made-froms : (x : Xdg) (version id parent : ℕ) (p : Positioner) → Froms (popup_made r x version id parent p)
  popup-made-froms x version id parent p =
      if-froms (is_some x.role) _ _ tt
      (if-froms (is_no_popup (role_of r x.surface)) _ _ tt
      (if-froms (may_be_parent (xdg_at parent r.owned.shell)) _ _ (if-froms (is_complete p) _ _ tt tt) tt))

  geometry-froms : (x : Xdg) (rect : Rect) → AskFroms (geometry_set x rect)
  geometry-froms x rect = if-asks (is_some x.role) _ _ (if-asks (int_lt (pos 0) rect.w && int_lt (pos 0) rect.h) _ _ tt tt) tt

  acknowledged-froms : (x : Xdg) (serial : ℕ) → AskFroms (acknowledged_by x serial)
  acknowledged-froms x serial = if-asks (is_some x.role) _ _ (if-asks (is_waiting serial x.configures) _ _ tt tt) tt

  xdg-froms : (o : Option Xdg) (version : ℕ) (request : XdgSurfaceRequest) → Froms (xdg_asked r o version request)
  xdg-froms None version request = tt
  xdg-froms (Some x) version xdg.Destroy = if-asks (is_some x.role) _ _ tt tt
  xdg-froms (Some x) version (xdg.GetToplevel id) =
      if-asks (is_some x.role) _ _ tt (if-asks (is_no_toplevel (role_of r x.surface)) _ _ tt tt)
  xdg-froms (Some x) version (xdg.GetPopup id parent positioner) =
      popup-made-froms x version id parent (positioner_of (r.peer.positioners positioner))
  xdg-froms (Some x) version (xdg.SetWindowGeometry a b width height) = geometry-froms x (rect a b width height)
  xdg-froms (Some x) version (xdg.AckConfigure serial) = acknowledged-froms x serial

  state-froms : (o : Option Xdg) → AskFroms (state_asked o)
  state-froms None = tt
  state-froms (Some x) = if-asks (option_map_or answers_states (stage_of x) false) _ _ (if-asks (is_full x.configures) _ _ tt tt) tt

  gone-froms : (object : ℕ) (o : Option Xdg) → Froms (toplevel_destroyed object o)
  gone-froms object None = tt
  gone-froms object (Some x) = tt

  moved-froms : (serial : ℕ) (o : Option Xdg) → Froms (moved_by_pointer serial o)
  moved-froms serial None = tt
  moved-froms serial (Some x) = tt

  toplevel-froms : (object : ℕ) (o : Option Xdg) (request : ToplevelRequest) → Froms (toplevel_asked object o request)
  toplevel-froms object o toplevel.Destroy = gone-froms object o
  toplevel-froms object o (toplevel.Move by serial) = moved-froms serial o
  toplevel-froms object o toplevel.SetMaximized = state-froms o
  toplevel-froms object o toplevel.UnsetMaximized = state-froms o
  toplevel-froms object o (toplevel.SetFullscreen output) = state-froms o
  toplevel-froms object o toplevel.UnsetFullscreen = state-froms o
  toplevel-froms object None request = tt
  toplevel-froms object (Some x) request = tt

  grab-froms : (object serial : ℕ) (x : Xdg) (o : Option Popped) → Froms (grab_of object serial x o)
  grab-froms object serial x None = tt
  grab-froms object serial x (Some p) = if-froms p.popup.is_dismissed _ _ tt (if-froms (is_popup_mapped p) _ _ tt tt)

  repositioned-froms : (x : Xdg) (token : ℕ) (p : Positioner) (o : Option Popped) → Froms (repositioned_by x token p o)
  repositioned-froms x token p None = tt
  repositioned-froms x token p (Some q) = if-froms (is_configured q && is_full x.configures) _ _ tt (if-froms (is_complete p) _ _ tt tt)

  popup-froms : (object : ℕ) (o : Option Xdg) (request : XdgPopupRequest) → Froms (popup_asked r object o request)
  popup-froms object None request = tt
  popup-froms object (Some x) popup.Destroy = if-froms (is_parent x.id r.owned.shell) _ _ tt tt
  popup-froms object (Some x) (popup.Grab by serial) = grab-froms object serial x (popup_at x.id r.owned.shell)
  popup-froms object (Some x) (popup.Reposition positioner token) =
      repositioned-froms x token (positioner_of (r.peer.positioners positioner)) (popup_at x.id r.owned.shell)

  -- ---- all of them

  demand-froms : (request : Asked) (object version : ℕ) → Froms (demand_by request r object version)
  demand-froms (ToCompositor (compositor.CreateSurface id)) object version = if-asks (nat_le 256 (length r.owned.surfaces.surfaces)) _ _ tt tt
  demand-froms (ToCompositor (compositor.CreateRegion id)) object version =
      own-froms (action_of (known_of r.peer) object version (ToCompositor (compositor.CreateRegion id)))
  demand-froms (ToSurface request) object version = surface-froms object version request
  demand-froms (ToSubcompositor (subcompositor.GetSubsurface id child parent)) object version = linked-froms object version id child parent
  demand-froms (ToSubsurface request) object version = link-froms (link_of_subsurface object r) object request
  demand-froms (ToPointer (pointer.SetCursor serial surface x y)) object version =
      if-froms (surface == 0) _ _ tt (if-froms (is_no_cursor (role_of r surface) || is_some (xdg_of surface r.owned.shell)) _ _ tt tt)
  demand-froms (ToBase request) object version = base-froms object version request
  demand-froms (ToPositioner request) object version = own-froms (action_of (known_of r.peer) object version (ToPositioner request))
  demand-froms (ToXdgSurface request) object version = xdg-froms (xdg_at object r.owned.shell) version request
  demand-froms (ToToplevel request) object version = toplevel-froms object (xdg_with object r.owned.shell) request
  demand-froms (ToPopup request) object version = popup-froms object (xdg_with object r.owned.shell) request
  demand-froms (ToDisplay request) object version = own-froms (action_of (known_of r.peer) object version (ToDisplay request))
  demand-froms (ToRegistry name text bound id) object version = own-froms (action_of (known_of r.peer) object version (ToRegistry name text bound id))
  demand-froms (ToRegion request) object version = own-froms (action_of (known_of r.peer) object version (ToRegion request))
  demand-froms (ToShm request) object version = own-froms (action_of (known_of r.peer) object version (ToShm request))
  demand-froms (ToPool request) object version = own-froms (action_of (known_of r.peer) object version (ToPool request))
  demand-froms (ToBuffer request) object version = own-froms (action_of (known_of r.peer) object version (ToBuffer request))
  demand-froms ToNothing object version = own-froms (action_of (known_of r.peer) object version ToNothing)
  demand-froms (ToSeat (seat.GetPointer id)) object version = tt
  demand-froms request object version = tt

  pub judged-from : (object opcode : ℕ) (body : List ℕ) (demand : Demand) → judge_all r object opcode body ≡ Ok demand
      → IsFrom r.peer.buffers demand
  judged-from object opcode body demand e =
      let heard = judged-hears r.peer.objects r.peer.held object opcode (λ version m. demand_of r object version m) body demand e in
      let said : Message = record { interface = heard.0.interface; opcode = opcode; fields = heard.1 } in
      let either : Froms (demand_of r object heard.0.version said) = demand-froms (request_of said) object heard.0.version in
      subst (λ (o : Result Demand Refusal). Froms o) heard.3 either

-- A grab that is accepted is asked for by a popup that isn't mapped.
use Rattle.std.proofs.Common.{◌≡◌, ℕ, List, Bool, true, false, Option, Some, None, Result, refl, subst, ◌∙◌, sym, ap}
use Rattle.std.proofs.lemmas.Option.{same_Some}
use Rattle.std.specs.Prelude.{Ok, Err, ◌==◌, ◌||◌, if◌then◌else◌, is_some, nat_le, ◌&&◌}
use Rattle.std.specs.List.{list_all}
use Rattle.wl_proto.specs.declared.argument.NewId.{NewId}
use Rattle.wl_proto.specs.declared.error.ProtoError.{ProtoError}
use Rattle.wl_proto.specs.declared.wl_compositor.WlCompositorRequest.TheVariants as compositor
use Rattle.wl_proto.specs.declared.wl_pointer.WlPointerRequest.TheVariants as pointer
use Rattle.wl_proto.specs.declared.wl_seat.WlSeatRequest.TheVariants as seat
use Rattle.wl_proto.specs.declared.wl_subcompositor.WlSubcompositorRequest.TheVariants as subcompositor
use Rattle.wl_proto.specs.declared.wl_subsurface.WlSubsurfaceRequest.{WlSubsurfaceRequest}
use Rattle.wl_proto.specs.declared.wl_subsurface.WlSubsurfaceRequest.TheVariants as subsurface
use Rattle.wl_proto.specs.declared.wl_surface.WlSurfaceRequest.{WlSurfaceRequest}
use Rattle.wl_proto.specs.declared.wl_surface.WlSurfaceRequest.TheVariants as surface
use Rattle.wl_proto.specs.declared.xdg_popup.XdgPopupRequest.{XdgPopupRequest}
use Rattle.wl_proto.specs.declared.xdg_popup.XdgPopupRequest.TheVariants as popup
use Rattle.wl_proto.specs.declared.xdg_surface.XdgSurfaceRequest.{XdgSurfaceRequest}
use Rattle.wl_proto.specs.declared.xdg_surface.XdgSurfaceRequest.TheVariants as xdg
use Rattle.wl_proto.specs.declared.xdg_wm_base.XdgWmBaseRequest.{XdgWmBaseRequest}
use Rattle.wl_proto.specs.declared.xdg_wm_base.XdgWmBaseRequest.TheVariants as base
use Rattle.wl_proto.specs.Messages.{Message}
use Rattle.wl_proto.specs.Objects.{objects_in as objects_named, new_id_in}
use Rattle.wl_proto.specs.Spelling.{decoded}
use Rattle.spec_desktop.specs.declared.refusals.Refusal.{Refusal}
use Rattle.spec_desktop.specs.Judgement.{action_of, after_new_id, is_free, judged, judged_at}
use Rattle.spec_desktop.specs.Objects.{Object, Objects, fits}
use Rattle.spec_desktop.specs.Peer.{known_of}
use Rattle.spec_desktop.specs.Requests.{Request, rect, ToCompositor, ToSurface, ToSubcompositor, ToSubsurface, ToSeat, ToPointer, ToBase, ToXdgSurface, ToToplevel, ToPopup, request_of}
use Rattle.spec_desktop.specs.ToplevelRequest.{ToplevelRequest}
use Rattle.spec_desktop.specs.ToplevelRequest as toplevel
use Rattle.wl_surface.specs.Request.{Request as Asked, Member, PlaceAbove, PlaceBelow}
use Rattle.wl_surface.specs.Surfaces.{Link}
use Rattle.wl_surface.specs.Trees.{is_bad_parent, is_too_deep}
use Rattle.wl_shell.specs.Popups.{Popped, is_parent, is_popup_mapped, popup_at, is_configured}
use Rattle.wl_shell.specs.Positioner.{Positioner, is_complete}
use Rattle.wl_shell.specs.Shell.{Effect, Configures, XdgSurface as Xdg, is_full, xdg_at, xdg_of, xdg_with}
use Rattle.spec_desktop.specs.Ask.{Ask, Ignore, owns}
use Rattle.spec_desktop.specs.Demand.{Asks, Demand, Grab}
use Rattle.spec_desktop.specs.Demanding.{base_demand, committed_by, demand_by, demand_of, demands, effect_of_commit, judge_all, moved_by_pointer, own_demand, surface_demand, if_whole}
use Rattle.spec_desktop.specs.Demanding.{toplevel_asked, toplevel_destroyed, xdg_asked}
use Rattle.spec_desktop.specs.Desktop.{Resident}
use Rattle.spec_desktop.specs.WlPointer.{cursor_set, is_no_cursor}
use Rattle.spec_desktop.specs.WlSubsurface.{beside, demand_by_link, has_subsurface, is_no_subsurface, link_of_subsurface, placed_beside, subsurface_made}
use Rattle.spec_desktop.specs.WlSurface.{surface_created, transform_set, will_be_whole, scale_set}
use Rattle.spec_desktop.specs.XdgPopup.{grab_of, is_no_popup, may_be_parent, popup_asked, popup_destroyed, popup_made, positioner_of, repositioned_by}
use Rattle.spec_desktop.specs.XdgShell.{acknowledged_by, base_destroyed, geometry_set, role_of, state_asked, toplevel_made, xdg_surface_destroyed, xdg_surface_made}

-- the popup that asks for a grab isn't mapped
abbrev pub IsBefore : Resident → Demand → Type 0
IsBefore r (Grab xdg serial) = (p : Popped) → popup_at xdg r.owned.shell ≡ Some p → is_popup_mapped p ≡ false
IsBefore r demand = Unit {0}

-- where the request isn't refused
abbrev IsBeforeSo : Resident → Result Demand Refusal → Type 0
IsBeforeSo r (Ok demand) = IsBefore r demand
IsBeforeSo r (Err refusal) = Unit {0}

module _ (r : Resident) where
  if-before : (b : Bool) (x y : Result Demand Refusal) → (b ≡ true → IsBeforeSo r x) → (b ≡ false → IsBeforeSo r y) → IsBeforeSo r (if b then x else y)
  if-before true x y f g = f refl
  if-before false x y f g = g refl

  asks-before : (asked : Result Ask Refusal) → IsBeforeSo r (demands asked)
  asks-before (Ok ask) = tt
  asks-before (Err refusal) = tt

  own-before : (object version : ℕ) (request : Request) → IsBeforeSo r (own_demand r object version request)
  own-before object version request = asks-before (owns (action_of (known_of r.peer) object version request))

  -- ---- surfaces

  commit-before : (o : Option Xdg) (object : ℕ) (effect : Effect) → IsBeforeSo r (committed_by o object effect)
  commit-before (Some x) object Configures = if-before (is_full x.configures) _ _ (λ full. tt) (λ room. tt)
  commit-before o object effect = tt

  -- where the buffer is whole, as without that
  whole-before : (b : Bool) (object : ℕ) (judged : Result Demand Refusal) → IsBeforeSo r judged → IsBeforeSo r (if_whole b object judged)
  whole-before true object judged before = before
  whole-before false object (Ok demand) before = tt
  whole-before false object (Err refusal) before = tt

  surface-before : (object version : ℕ) (request : WlSurfaceRequest) → IsBeforeSo r (surface_demand r object version request)
  surface-before object version surface.Destroy = if-before (is_some (xdg_of object r.owned.shell)) _ _ (λ there. tt) (λ none. tt)
  surface-before object version surface.Commit =
      whole-before (will_be_whole r object) object _ (commit-before (xdg_of object r.owned.shell) object (effect_of_commit r object))
  surface-before object version (surface.SetBufferTransform transform) = asks-before (transform_set object transform)
  surface-before object version (surface.SetBufferScale scale) = asks-before (scale_set object scale)
  surface-before object version request = tt

  -- ---- subsurfaces

  made-before : (object version id child parent : ℕ) → IsBeforeSo r (subsurface_made r object version id child parent)
  made-before object version id child parent =
      if-before (is_too_deep r.owned.surfaces child parent) _ _ (λ deep. tt)
      (λ shallow. if-before (is_no_subsurface (role_of r child) || (has_subsurface child r || is_some (xdg_of child r.owned.shell))) _ _ (λ bad. tt)
      (λ good. if-before (is_bad_parent r.owned.surfaces child parent) _ _ (λ bad. tt) (λ good. tt)))

  placed-before : (object parent : ℕ) (request : Member → Asked) (o : Option Member) → IsBeforeSo r (placed_beside object parent request o)
  placed-before object parent request None = tt
  placed-before object parent request (Some member) = tt

  link-before : (object : ℕ) (o : Option Link) (request : WlSubsurfaceRequest) → IsBeforeSo r (demand_by_link r object o request)
  link-before object o subsurface.Destroy = tt
  link-before object None request = tt
  link-before object (Some l) (subsurface.PlaceAbove sibling) = placed-before object l.parent (PlaceAbove l.number) (beside r.owned.surfaces l sibling)
  link-before object (Some l) (subsurface.PlaceBelow sibling) = placed-before object l.parent (PlaceBelow l.number) (beside r.owned.surfaces l sibling)
  link-before object o request = tt

  -- ---- the pointer

  cursor-before : (object surface : ℕ) → IsBeforeSo r (if surface == 0 then Ok (Asks Ignore) else cursor_set r object surface)
  cursor-before object surface =
      if-before (surface == 0) _ _ (λ null. tt)
      (λ one. if-before (is_no_cursor (role_of r surface) || is_some (xdg_of surface r.owned.shell)) _ _ (λ other. tt) (λ free. tt))

  -- ---- the shell

  base-before : (object version : ℕ) (request : XdgWmBaseRequest) → IsBeforeSo r (base_demand r object version request)
  base-before object version base.Destroy = asks-before (base_destroyed r object)
  base-before object version (base.CreatePositioner id) = own-before object version (ToBase (base.CreatePositioner id))
  base-before object version (base.GetXdgSurface id surface) = asks-before (xdg_surface_made r object version id surface)
  base-before object version (base.Pong serial) = tt

  popup-before : (x : Xdg) (version id parent : ℕ) (p : Positioner) → IsBeforeSo r (popup_made r x version id parent p)
  popup-before x version id parent p =
      if-before (is_some x.role) _ _ (λ there. tt)
      (λ none. if-before (is_no_popup (role_of r x.surface)) _ _ (λ other. tt)
      (λ fits. if-before (may_be_parent (xdg_at parent r.owned.shell)) _ _ (λ may. if-before (is_complete p) _ _ (λ complete. tt) (λ lacks. tt)) (λ may_not. tt)))

  popup-gone-before : (object : ℕ) (x : Xdg) → IsBeforeSo r (popup_destroyed r object x)
  popup-gone-before object x = if-before (is_parent x.id r.owned.shell) _ _ (λ parent. tt) (λ none. tt)

  grab-before : (object serial : ℕ) (x : Xdg) (o : Option Popped) → popup_at x.id r.owned.shell ≡ o → IsBeforeSo r (grab_of object serial x o)
  grab-before object serial x None here = tt
  grab-before object serial x (Some p) here =
      if-before p.popup.is_dismissed _ _ (λ dismissed. tt)
      (λ live. if-before (is_popup_mapped p) _ _ (λ mapped. tt) (λ unmapped q there. ap is_popup_mapped (same_Some q p (sym there ∙ here)) ∙ unmapped))

  repositioned-before : (x : Xdg) (token : ℕ) (p : Positioner) (o : Option Popped) → IsBeforeSo r (repositioned_by x token p o)
  repositioned-before x token p None = tt
  repositioned-before x token p (Some q) =
      if-before (is_configured q && is_full x.configures) _ _ (λ full. tt) (λ room. if-before (is_complete p) _ _ (λ complete. tt) (λ lacks. tt))

  popup-asked-before : (object : ℕ) (o : Option Xdg) (request : XdgPopupRequest) → IsBeforeSo r (popup_asked r object o request)
  popup-asked-before object None request = tt
  popup-asked-before object (Some x) popup.Destroy = popup-gone-before object x
  popup-asked-before object (Some x) (popup.Grab by serial) = grab-before object serial x (popup_at x.id r.owned.shell) refl
  popup-asked-before object (Some x) (popup.Reposition positioner token) =
      repositioned-before x token (positioner_of (r.peer.positioners positioner)) (popup_at x.id r.owned.shell)

  xdg-before : (x : Option Xdg) (version : ℕ) (request : XdgSurfaceRequest) → IsBeforeSo r (xdg_asked r x version request)
  xdg-before None version request = tt
  xdg-before (Some x) version xdg.Destroy = asks-before (xdg_surface_destroyed x)
  xdg-before (Some x) version (xdg.GetToplevel id) = asks-before (toplevel_made r x version id)
  xdg-before (Some x) version (xdg.GetPopup id parent positioner) = popup-before x version id parent (positioner_of (r.peer.positioners positioner))
  xdg-before (Some x) version (xdg.SetWindowGeometry a b width height) = asks-before (geometry_set x (rect a b width height))
  xdg-before (Some x) version (xdg.AckConfigure serial) = asks-before (acknowledged_by x serial)

  gone-before : (object : ℕ) (o : Option Xdg) → IsBeforeSo r (toplevel_destroyed object o)
  gone-before object None = tt
  gone-before object (Some x) = tt

  moved-before : (serial : ℕ) (o : Option Xdg) → IsBeforeSo r (moved_by_pointer serial o)
  moved-before serial None = tt
  moved-before serial (Some x) = tt

  toplevel-before : (object : ℕ) (o : Option Xdg) (request : ToplevelRequest) → IsBeforeSo r (toplevel_asked object o request)
  toplevel-before object o toplevel.Destroy = gone-before object o
  toplevel-before object o (toplevel.Move seat serial) = moved-before serial o
  toplevel-before object o toplevel.SetMaximized = asks-before (state_asked o)
  toplevel-before object o toplevel.UnsetMaximized = asks-before (state_asked o)
  toplevel-before object o (toplevel.SetFullscreen output) = asks-before (state_asked o)
  toplevel-before object o toplevel.UnsetFullscreen = asks-before (state_asked o)
  toplevel-before object None request = tt
  toplevel-before object (Some x) request = tt

  -- ---- every interface

  interface-before : (request : Request) (object version : ℕ) → IsBeforeSo r (demand_by request r object version)
  interface-before (ToCompositor (compositor.CreateSurface id)) object version = asks-before (surface_created r id version)
  interface-before (ToCompositor (compositor.CreateRegion id)) object version = own-before object version (ToCompositor (compositor.CreateRegion id))
  interface-before (ToSurface request) object version = surface-before object version request
  interface-before (ToSeat (seat.GetPointer id)) object version = tt
  interface-before (ToSeat (seat.GetKeyboard id)) object version = tt
  interface-before (ToSeat (seat.GetTouch id)) object version = tt
  interface-before (ToBase request) object version = base-before object version request
  interface-before (ToXdgSurface request) object version = xdg-before (xdg_at object r.owned.shell) version request
  interface-before (ToToplevel request) object version = toplevel-before object (xdg_with object r.owned.shell) request
  interface-before (ToSubcompositor subcompositor.Destroy) object version = tt
  interface-before (ToSubcompositor (subcompositor.GetSubsurface id child parent)) object version = made-before object version id child parent
  interface-before (ToSubsurface request) object version = link-before object (link_of_subsurface object r) request
  interface-before (ToPointer (pointer.SetCursor serial surface x y)) object version = cursor-before object surface
  interface-before (ToPopup request) object version = popup-asked-before object (xdg_with object r.owned.shell) request
  interface-before request object version = own-before object version request

  demand-before : (object version : ℕ) (m : Message) → IsBeforeSo r (demand_of r object version m)
  demand-before object version m = interface-before (request_of m) object version

  -- ---- the judgement

  new_id-before : (objects : Objects) (held : ℕ) (new : Option NewId) (demand : Result Demand Refusal) → IsBeforeSo r demand → IsBeforeSo r (after_new_id objects held new demand)
  new_id-before objects held None demand before = before
  new_id-before objects held (Some new) demand before =
      if-before (is_free objects new.id) _ _ (λ free. if-before (nat_le 8192 held) _ _ (λ full. tt) (λ room. before)) (λ used. tt)

  judged-before : (objects : Objects) (held : ℕ) (demand : Message → Result Demand Refusal) (request : Result Message ProtoError) → ((m : Message) → IsBeforeSo r (demand m))
      → IsBeforeSo r (judged objects held demand request)
  judged-before objects held demand (Err error) before = tt
  judged-before objects held demand (Ok m) before =
      if-before (list_all (fits objects) (objects_named m)) _ _ (λ fit. new_id-before objects held (new_id_in m) (demand m) (before m)) (λ unfit. tt)

  judged_at-before : (object opcode : ℕ) (body : List ℕ) (o : Option Object)
      → IsBeforeSo r (judged_at r.peer.objects r.peer.held (λ version m. demand_of r object version m) opcode body o)
  judged_at-before object opcode body None = tt
  judged_at-before object opcode body (Some o) =
      judged-before r.peer.objects r.peer.held (λ m. demand_of r object o.version m) (decoded o.interface o.version opcode body) (λ m. demand-before object o.version m)

  -- a message that is accepted is so
  pub grabs-before : (object opcode : ℕ) (body : List ℕ) (demand : Demand) → judge_all r object opcode body ≡ Ok demand → IsBefore r demand
  grabs-before object opcode body demand e = subst (IsBeforeSo r) e (judged_at-before object opcode body (r.peer.objects object))

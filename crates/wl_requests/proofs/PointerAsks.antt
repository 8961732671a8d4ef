-- What the first message of a client asks of the pointer.
use Rattle.std.proofs.Common.{◌≡◌, ℕ, List, ap, Bool, true, false, Option, Some, None, Result, refl, sym, subst, ◌∙◌}
use Rattle.std.specs.Prelude.{◌==◌, ◌||◌, ◌-◌, if◌then◌else◌, is_some, Ok, Err, take, drop, ◌&&◌}
use Rattle.wl_wire.specs.Wire.{split_of}
use Rattle.wl_wire.specs.declared.header.Split.{Split}
use Rattle.wl_wire.specs.declared.header.Split.TheVariants.{Message as Whole}
use Rattle.wl_proto.specs.declared.interface.Interface.TheVariants.{WlSurface, XdgToplevel}
use Rattle.wl_proto.specs.Messages.{Message, wl_compositor_request, wl_pointer_request, wl_seat_request, wl_subcompositor_request, wl_subsurface_request, wl_surface_request, xdg_surface_request}
use Rattle.wl_proto.specs.Messages.{xdg_popup_request, xdg_wm_base_request}
use Rattle.wl_proto.specs.declared.wl_compositor.WlCompositorRequest.{WlCompositorRequest}
use Rattle.wl_proto.specs.declared.wl_compositor.WlCompositorRequest.TheVariants as compositor
use Rattle.wl_proto.specs.declared.wl_pointer.WlPointerRequest.{WlPointerRequest}
use Rattle.wl_proto.specs.declared.wl_pointer.WlPointerRequest.TheVariants as on_pointer
use Rattle.wl_proto.specs.declared.wl_seat.WlSeatRequest.{WlSeatRequest}
use Rattle.wl_proto.specs.declared.wl_seat.WlSeatRequest.TheVariants as seat
use Rattle.wl_proto.specs.declared.wl_subcompositor.WlSubcompositorRequest.{WlSubcompositorRequest}
use Rattle.wl_proto.specs.declared.wl_subcompositor.WlSubcompositorRequest.TheVariants as subcompositor
use Rattle.wl_proto.specs.declared.wl_subsurface.WlSubsurfaceRequest.{WlSubsurfaceRequest}
use Rattle.wl_proto.specs.declared.wl_subsurface.WlSubsurfaceRequest.TheVariants as subsurface
use Rattle.wl_proto.specs.declared.wl_surface.WlSurfaceRequest.{WlSurfaceRequest}
use Rattle.wl_proto.specs.declared.wl_surface.WlSurfaceRequest.TheVariants as surface
use Rattle.wl_proto.specs.declared.xdg_surface.XdgSurfaceRequest.{XdgSurfaceRequest}
use Rattle.wl_proto.specs.declared.xdg_surface.XdgSurfaceRequest.TheVariants as requests
use Rattle.wl_proto.specs.declared.xdg_wm_base.XdgWmBaseRequest.{XdgWmBaseRequest}
use Rattle.wl_proto.specs.declared.xdg_wm_base.XdgWmBaseRequest.TheVariants as base
use Rattle.spec_desktop.specs.Objects.{ById}
use Rattle.spec_desktop.specs.Judgement.{action_of}
use Rattle.spec_desktop.specs.declared.actions.Action.{Action}
use Rattle.spec_desktop.specs.Requests.{rect, request_of, toplevel_request}
use Rattle.spec_desktop.specs.ToplevelRequest.{ToplevelRequest}
use Rattle.spec_desktop.specs.ToplevelRequest as toplevel
use Rattle.spec_desktop.specs.Peer.{known_of, with_rest}
use Rattle.spec_desktop.specs.declared.refusals.ErrorCode.TheVariants.{Role as HasAnotherRole}
use Rattle.spec_desktop.specs.declared.refusals.Refusal.{Refusal}
use Rattle.wl_client.specs.First.{IsRefused, Passes}
use Rattle.wl_client.specs.Serving.{PassesTo}
use Rattle.wl_client.proofs.Passing.{judged-refused}
use Rattle.wl_surface.specs.Request.{Member, PlaceAbove, PlaceBelow, Request as AskedOf}
use Rattle.wl_surface.specs.Surfaces.{Link}
use Rattle.wl_surface.specs.Trees.{is_bad_parent, is_too_deep}
use Rattle.wl_shell.specs.Kept.{kept_of}
use Rattle.wl_shell.specs.Shell.{Effect, Configures, Unconfigured, XdgSurface as Xdg, is_full, xdg_at, xdg_of, xdg_with}
use Rattle.law_desktop.specs.Owning.{targets_in}
use Rattle.law_desktop.specs.RoleNames.{names_of}
use Rattle.law_desktop.proofs.Keeping.OwningXdg.{toplevel-named}
use Rattle.law_desktop.proofs.Keeping.OwningNames.{targets-at}
use Rattle.spec_desktop.specs.Ask.{Ask, Ignore, owns}
use Rattle.spec_desktop.specs.Demand.{Asks, CommitTree, Demand, EndSurface}
use Rattle.spec_desktop.specs.Demanding.{committed_by, demand_of, demands, effect_of_commit, if_whole, toplevel_asked, xdg_asked}
use Rattle.spec_desktop.specs.Desktop.{Resident}
use Rattle.spec_desktop.specs.XdgPopup.{grab_of, is_no_popup, may_be_parent, popup_asked, popup_made, positioner_of, repositioned_by}
use Rattle.wl_shell.specs.Popups.{Popped, is_parent, is_popup_mapped, popup_at, is_configured}
use Rattle.wl_shell.specs.Positioner.{Positioner, is_complete}
use Rattle.wl_proto.specs.declared.xdg_popup.XdgPopupRequest.{XdgPopupRequest}
use Rattle.wl_proto.specs.declared.xdg_popup.XdgPopupRequest.TheVariants as popups
use Rattle.law_desktop.proofs.OwnedPopups.Naming.{roles-named}
use Rattle.spec_desktop.specs.Step.{with_peer}
use Rattle.spec_desktop.specs.WlPointer.{is_no_cursor}
use Rattle.spec_desktop.specs.WlSubsurface.{beside, demand_by_link, has_subsurface, is_no_subsurface, link_of_subsurface, past_limit, placed_beside, refuses}
use Rattle.spec_desktop.specs.WlSurface.{surface_created, transform_set, will_be_whole, scale_set}
use Rattle.spec_desktop.specs.XdgShell.{acknowledged_by, geometry_set, role_of, state_asked, toplevel_made, xdg_surface_destroyed}
use Rattle.wl_requests.specs.declared.messages.Asked.{Asked}
use Rattle.wl_requests.specs.declared.messages.Asked.TheVariants as asks
use Rattle.wl_requests.specs.declared.messages.Kind.{Kind}
use Rattle.wl_requests.specs.declared.messages.Kind.TheVariants as kind
use Rattle.wl_requests.specs.declared.pointer_asked.PointerAsked.{PointerAsked}
use Rattle.wl_requests.specs.declared.pointer_asked.PointerAsked.TheVariants.{NewPointer, Nothing}
use Rattle.wl_requests.specs.declared.residents.Resident.{Resident as Kept}
use Rattle.wl_requests.specs.declared.xdg_toplevel.ToplevelAsked.{ToplevelAsked}
use Rattle.wl_requests.specs.declared.xdg_toplevel.ToplevelAsked.TheVariants.{Move as MoveAsked}
use Rattle.wl_requests.specs.Messages.{IsAsked, IsKind}
use Rattle.wl_requests.specs.PointerAsks.{AsksPointerFirst, AsksPointerSo, pointer_asked_by, pointer_in}
use Rattle.wl_requests.specs.Residents.{IsResident, IsToplevel, Owns, asked_by}
use Rattle.wl_requests.proofs.Asking.{demanded-first, passing-peer, whole-first}
use Rattle.wl_requests.proofs.OwnAsking.{own-demand-of, passes-own}
use Rattle.wl_requests.proofs.Stackings.{toplevel-of}

module _ (numbers : ById ℕ) where
  -- what a client asks alone, and what is refused
  alone : (a : Result Ask Refusal) → AsksPointerSo numbers (demands a) Nothing
  alone (Ok ask) = refl
  alone (Err refusal) = tt

  if-nothing : (b : Bool) (x y : Result Demand Refusal) → AsksPointerSo numbers x Nothing → AsksPointerSo numbers y Nothing → AsksPointerSo numbers (if b then x else y) Nothing
  if-nothing true x y f g = f
  if-nothing false x y f g = g

  compositor-nothing : (r : Resident) (object version : ℕ) (request : WlCompositorRequest) → AsksPointerSo numbers (demand_of r object version (wl_compositor_request request)) Nothing
  compositor-nothing r object version (compositor.CreateSurface id) = alone (surface_created r id version)
  compositor-nothing r object version (compositor.CreateRegion id) = refl

  -- a surface is committed, if it may be
  committed-nothing : (o : Option Xdg) (object : ℕ) (effect : Effect) → AsksPointerSo numbers (committed_by o object effect) Nothing
  committed-nothing (Some x) object Unconfigured = tt
  committed-nothing (Some x) object Configures = if-nothing (is_full x.configures) past_limit (Ok (CommitTree object)) tt refl
  committed-nothing o object effect = refl

  ended-nothing : (object : ℕ) (b : Bool) (refused : Refusal) → AsksPointerSo numbers (if b then Err refused else Ok (EndSurface object)) Nothing
  ended-nothing object true refused = tt
  ended-nothing object false refused = refl

  -- a commit of a buffer that is no multiple of its scale is refused
  whole-nothing : (b : Bool) (object : ℕ) (judged : Result Demand Refusal) → AsksPointerSo numbers judged Nothing → AsksPointerSo numbers (if_whole b object judged) Nothing
  whole-nothing true object judged nothing = nothing
  whole-nothing false object (Ok demand) nothing = tt
  whole-nothing false object (Err refusal) nothing = tt

  surface-nothing : (r : Resident) (object version : ℕ) (request : WlSurfaceRequest) → AsksPointerSo numbers (demand_of r object version (wl_surface_request request)) Nothing
  surface-nothing r object version surface.Destroy = ended-nothing object (is_some (xdg_of object r.owned.shell)) _
  surface-nothing r object version surface.Commit =
      whole-nothing (will_be_whole r object) object _ (committed-nothing (xdg_of object r.owned.shell) object (effect_of_commit r object))
  surface-nothing r object version (surface.SetBufferTransform transform) = alone (transform_set object transform)
  surface-nothing r object version (surface.SetBufferScale scale) = alone (scale_set object scale)
  surface-nothing r object version request = refl

  made-nothing : (r : Resident) (x : Xdg) (version id parent : ℕ) (p : Positioner) → AsksPointerSo numbers (popup_made r x version id parent p) Nothing
  made-nothing r x version id parent p =
      if-nothing (is_some x.role) _ _ tt
      (if-nothing (is_no_popup (role_of r x.surface)) _ _ tt
      (if-nothing (may_be_parent (xdg_at parent r.owned.shell)) _ _ (if-nothing (is_complete p) _ _ refl tt) tt))

  xdg-asked-nothing : (r : Resident) (o : Option Xdg) (version : ℕ) (request : XdgSurfaceRequest) → AsksPointerSo numbers (xdg_asked r o version request) Nothing
  xdg-asked-nothing r None version request = tt
  xdg-asked-nothing r (Some x) version requests.Destroy = alone (xdg_surface_destroyed x)
  xdg-asked-nothing r (Some x) version (requests.GetToplevel id) = alone (toplevel_made r x version id)
  xdg-asked-nothing r (Some x) version (requests.GetPopup id parent positioner) = made-nothing r x version id parent (positioner_of (r.peer.positioners positioner))
  xdg-asked-nothing r (Some x) version (requests.SetWindowGeometry a b width height) = alone (geometry_set x (rect a b width height))
  xdg-asked-nothing r (Some x) version (requests.AckConfigure serial) = alone (acknowledged_by x serial)

  xdg-nothing : (r : Resident) (object version : ℕ) (request : XdgSurfaceRequest) → AsksPointerSo numbers (demand_of r object version (xdg_surface_request request)) Nothing
  xdg-nothing r object version requests.Destroy = xdg-asked-nothing r (xdg_at object r.owned.shell) version requests.Destroy
  xdg-nothing r object version (requests.GetToplevel id) = xdg-asked-nothing r (xdg_at object r.owned.shell) version (requests.GetToplevel id)
  xdg-nothing r object version (requests.GetPopup id parent positioner) = xdg-asked-nothing r (xdg_at object r.owned.shell) version (requests.GetPopup id parent positioner)
  xdg-nothing r object version (requests.SetWindowGeometry a b width height) = xdg-asked-nothing r (xdg_at object r.owned.shell) version (requests.SetWindowGeometry a b width height)
  xdg-nothing r object version (requests.AckConfigure serial) = xdg-asked-nothing r (xdg_at object r.owned.shell) version (requests.AckConfigure serial)

  -- a popup that goes
  destroyed-nothing : (r : Resident) (object : ℕ) (o : Option Xdg) → AsksPointerSo numbers (popup_asked r object o popups.Destroy) Nothing
  destroyed-nothing r object None = tt
  destroyed-nothing r object (Some x) = if-nothing (is_parent x.id r.owned.shell) _ _ tt refl

  -- and one that asks for a grab
  grab-nothing : (r : Resident) (object seat serial : ℕ) (o : Option Xdg) → AsksPointerSo numbers (popup_asked r object o (popups.Grab seat serial)) Nothing
  grab-nothing r object seat serial None = tt
  grab-nothing r object seat serial (Some x) = at (popup_at x.id r.owned.shell)
    where
      at : (o : Option Popped) → AsksPointerSo numbers (grab_of object serial x o) Nothing
      at None = tt
      at (Some p) = if-nothing p.popup.is_dismissed _ _ refl (if-nothing (is_popup_mapped p) _ _ tt refl)

  -- and one that is placed anew
  reposition-nothing : (r : Resident) (object positioner token : ℕ) (o : Option Xdg) → AsksPointerSo numbers (popup_asked r object o (popups.Reposition positioner token)) Nothing
  reposition-nothing r object positioner token None = tt
  reposition-nothing r object positioner token (Some x) = at (positioner_of (r.peer.positioners positioner)) (popup_at x.id r.owned.shell)
    where
      at : (p : Positioner) (o : Option Popped) → AsksPointerSo numbers (repositioned_by x token p o) Nothing
      at p None = tt
      at p (Some q) = if-nothing (is_configured q && is_full x.configures) _ _ tt (if-nothing (is_complete p) _ _ refl tt)

  popup-nothing : (r : Resident) (object version : ℕ) (request : XdgPopupRequest) → AsksPointerSo numbers (demand_of r object version (xdg_popup_request request)) Nothing
  popup-nothing r object version popups.Destroy = destroyed-nothing r object (xdg_with object r.owned.shell)
  popup-nothing r object version (popups.Grab seat serial) = grab-nothing r object seat serial (xdg_with object r.owned.shell)
  popup-nothing r object version (popups.Reposition positioner token) = reposition-nothing r object positioner token (xdg_with object r.owned.shell)

  placed-nothing : (object parent : ℕ) (request : Member → AskedOf) (o : Option Member) → AsksPointerSo numbers (placed_beside object parent request o) Nothing
  placed-nothing object parent request None = tt
  placed-nothing object parent request (Some member) = refl

  linked-nothing : (r : Resident) (object : ℕ) (o : Option Link) (request : WlSubsurfaceRequest) → AsksPointerSo numbers (demand_by_link r object o request) Nothing
  linked-nothing r object o subsurface.Destroy = refl
  linked-nothing r object None request = refl
  linked-nothing r object (Some l) (subsurface.PlaceAbove sibling) = placed-nothing object l.parent (PlaceAbove l.number) (beside r.owned.surfaces l sibling)
  linked-nothing r object (Some l) (subsurface.PlaceBelow sibling) = placed-nothing object l.parent (PlaceBelow l.number) (beside r.owned.surfaces l sibling)
  linked-nothing r object o request = refl

  subsurface-nothing : (r : Resident) (object version : ℕ) (request : WlSubsurfaceRequest) → AsksPointerSo numbers (demand_of r object version (wl_subsurface_request request)) Nothing
  subsurface-nothing r object version subsurface.Destroy = linked-nothing r object (link_of_subsurface object r) subsurface.Destroy
  subsurface-nothing r object version (subsurface.SetPosition x y) = linked-nothing r object (link_of_subsurface object r) (subsurface.SetPosition x y)
  subsurface-nothing r object version (subsurface.PlaceAbove sibling) = linked-nothing r object (link_of_subsurface object r) (subsurface.PlaceAbove sibling)
  subsurface-nothing r object version (subsurface.PlaceBelow sibling) = linked-nothing r object (link_of_subsurface object r) (subsurface.PlaceBelow sibling)
  subsurface-nothing r object version subsurface.SetSync = linked-nothing r object (link_of_subsurface object r) subsurface.SetSync
  subsurface-nothing r object version subsurface.SetDesync = linked-nothing r object (link_of_subsurface object r) subsurface.SetDesync

  subcompositor-nothing : (r : Resident) (object version : ℕ) (request : WlSubcompositorRequest)
      → AsksPointerSo numbers (demand_of r object version (wl_subcompositor_request request)) Nothing
  subcompositor-nothing r object version subcompositor.Destroy = refl
  subcompositor-nothing r object version (subcompositor.GetSubsurface id child parent) =
      if-nothing (is_too_deep r.owned.surfaces child parent) past_limit _ tt
      (if-nothing (is_no_subsurface (role_of r child) || (has_subsurface child r || is_some (xdg_of child r.owned.shell))) _ _ tt
      (if-nothing (is_bad_parent r.owned.surfaces child parent) _ _ tt refl))

  cursor-nothing : (r : Resident) (object version : ℕ) (request : WlPointerRequest) → AsksPointerSo numbers (demand_of r object version (wl_pointer_request request)) Nothing
  cursor-nothing r object version (on_pointer.SetCursor serial surface x y) =
      if-nothing (surface == 0) (Ok (Asks Ignore)) _ refl
      (if-nothing (is_no_cursor (role_of r surface) || is_some (xdg_of surface r.owned.shell)) (refuses object HasAnotherRole) _ tt refl)

  base-nothing : (r : Resident) (object version : ℕ) (request : XdgWmBaseRequest) → AsksPointerSo numbers (demand_of r object version (xdg_wm_base_request request)) Nothing
  base-nothing r object version (base.CreatePositioner id) = refl
  base-nothing r object version (base.Pong serial) = refl
  base-nothing r object version request = alone _

  seat-asks : (r : Resident) (object version target : ℕ) (request : WlSeatRequest)
      → AsksPointerSo numbers (demand_of r object version (wl_seat_request request)) (pointer_asked_by target (kind.Seat request))
  seat-asks r object version target (seat.GetPointer id) = refl
  seat-asks r object version target request = tt

  -- a toplevel's requests, where its surface has this number
  toplevel-asks : (object target : ℕ) (x : Xdg) (request : ToplevelRequest) → numbers x.surface ≡ Some target
      → AsksPointerSo numbers (toplevel_asked object (Some x) request) (pointer_asked_by target (kind.Toplevel (asked_by request)))
  toplevel-asks object target x (toplevel.Move by serial) named = (target, named, refl)
  toplevel-asks object target x toplevel.SetMaximized named = alone (state_asked (Some x))
  toplevel-asks object target x toplevel.UnsetMaximized named = alone (state_asked (Some x))
  toplevel-asks object target x (toplevel.SetFullscreen output) named = alone (state_asked (Some x))
  toplevel-asks object target x toplevel.UnsetFullscreen named = alone (state_asked (Some x))
  toplevel-asks object target x request named = refl

  -- a message that is this request
  told-asks : (r : Resident) (object version : ℕ) (m n : Message) (asked : PointerAsked) → m ≡ n → AsksPointerSo numbers (demand_of r object version n) asked
      → AsksPointerSo numbers (demand_of r object version m) asked
  told-asks r object version m n asked told h = subst (λ (x : Message). AsksPointerSo numbers (demand_of r object version x) asked) (sym told) h

-- ---- a message that passes

module _ {A : Type 0} (v : Kept A) (r : Resident) (its : Owns v r) where
  abbrev numbered : ById ℕ
  numbered = targets_in WlSurface v.client.objects

  toplevel-told : (object version target : ℕ) (m : Message) (t : ToplevelAsked) → IsToplevel v object target → IsKind (kind.Toplevel t) m
      → AsksPointerSo numbered (demand_of r object version m) (pointer_asked_by target (kind.Toplevel t))
  toplevel-told object version target m t named is_it =
      let request = toplevel_request m.opcode m.fields in
      let one = toplevel-named (names_of v.client.objects) v.owned.surfaces.states v.owned.surfaces.family (kept_of v.owned.shell) r.owned its object target
      (roles-named.toplevel v.client.objects object target named) in
      subst (λ (j : Result Demand Refusal). AsksPointerSo numbered j (pointer_asked_by target (kind.Toplevel t))) (sym (toplevel-of r object version m is_it.0))
      (subst (λ (o : Option Xdg). AsksPointerSo numbered (toplevel_asked object o request) (pointer_asked_by target (kind.Toplevel t))) (sym one.4)
      (subst (λ (k : ToplevelAsked). AsksPointerSo numbered (toplevel_asked object (Some one.1) request) (pointer_asked_by target (kind.Toplevel k))) (sym is_it.1)
      (toplevel-asks numbered object target one.1 request one.3.surface)))

  pub kind-asks : (object version target : ℕ) (m : Message) (k : Kind) → IsKind k m → (m.interface ≡ XdgToplevel → IsToplevel v object target)
      → AsksPointerSo numbered (demand_of r object version m) (pointer_asked_by target k)
  kind-asks object version target m (kind.Compositor request) is_it named = told-asks numbered r object version m _ Nothing is_it (compositor-nothing numbered r object version request)
  kind-asks object version target m (kind.Surface request) is_it named = told-asks numbered r object version m _ Nothing is_it (surface-nothing numbered r object version request)
  kind-asks object version target m (kind.Subcompositor request) is_it named = told-asks numbered r object version m _ Nothing is_it (subcompositor-nothing numbered r object version request)
  kind-asks object version target m (kind.Subsurface request) is_it named = told-asks numbered r object version m _ Nothing is_it (subsurface-nothing numbered r object version request)
  kind-asks object version target m (kind.Seat request) is_it named = told-asks numbered r object version m _ _ is_it (seat-asks numbered r object version target request)
  kind-asks object version target m (kind.Pointer request) is_it named = told-asks numbered r object version m _ Nothing is_it (cursor-nothing numbered r object version request)
  kind-asks object version target m (kind.Base request) is_it named = told-asks numbered r object version m _ Nothing is_it (base-nothing numbered r object version request)
  kind-asks object version target m (kind.XdgSurface request) is_it named = told-asks numbered r object version m _ Nothing is_it (xdg-nothing numbered r object version request)
  kind-asks object version target m (kind.Toplevel t) is_it named = toplevel-told object version target m t (named is_it.0) is_it
  kind-asks object version target m (kind.Popup request) is_it named = told-asks numbered r object version m _ Nothing is_it (popup-nothing numbered r object version request)

-- ---- the first message

module _ {A : Type 0} (v : Kept A) (r : Resident) (is : IsResident v r) where
  abbrev names : ById ℕ
  names = targets_in WlSurface v.client.objects

  -- one that passes
  passed-asks : (object version size target : ℕ) (m : Message) (asked : PointerAsked) → Passes v.client object version size target m
      → AsksPointerSo names (demand_of (with_peer (with_rest (drop size r.peer.rest) r.peer) r) object version m) asked
      → AsksPointerFirst names (split_of r.peer.rest) r asked
  passed-asks object version size target m asked passes h =
      subst (λ (s : Split). AsksPointerFirst names s r asked) (sym (whole-first v r object version size target m passes is))
      (subst (λ (j : Result Demand Refusal). AsksPointerSo names j asked) (sym (demanded-first v r object version size target m passes is)) h)

  refused-asks : (s : Split) (refusal : Refusal) → IsRefused s v.client refusal → AsksPointerFirst names s r Nothing
  refused-asks (Whole object opcode size) refusal why =
      let judged = judged-refused r.peer.objects r.peer.held (λ version m. demand_of r object version m) opcode (take (size - 8) (drop 8 r.peer.rest)) (r.peer.objects object) refusal
      (passing-peer v.client r.peer object opcode size (Err refusal) is.peer why) in
      subst (λ (j : Result Demand Refusal). AsksPointerSo names j Nothing) (sym judged) tt
  refused-asks s refusal why = tt

  first-refused-asks : (refusal : Refusal) → IsAsked v.client (asks.Refused refusal) → AsksPointerFirst names (split_of r.peer.rest) r Nothing
  first-refused-asks refusal why =
      subst (λ (rest : List ℕ). AsksPointerFirst names (split_of rest) r Nothing) is.peer.rest (refused-asks (split_of v.client.rest) refusal why)

  none-asks : IsAsked v.client asks.More → AsksPointerFirst names (split_of r.peer.rest) r Nothing
  none-asks none =
      subst (λ (s : Split). AsksPointerFirst names s r Nothing) (sym (ap split_of (sym is.peer.rest) ∙ none)) tt

  own-asks : PassesTo true v.client → AsksPointerFirst names (split_of r.peer.rest) r Nothing
  own-asks (object, version, size, target, m, passes, own) =
      let left : Resident = with_peer (with_rest (drop size r.peer.rest) r.peer) r in
      passed-asks object version size target m Nothing passes
      (subst (λ (j : Result Demand Refusal). AsksPointerSo names j Nothing) (sym (own-demand-of left object version m own)) (alone names (owns (action_of (known_of left.peer) object version
      (request_of m)))))

  own-message-asks : (size : ℕ) (judged : Result Action Refusal) → IsAsked v.client (asks.Own size judged) → AsksPointerFirst names (split_of r.peer.rest) r Nothing
  own-message-asks size judged own = own-asks (passes-own v.client size judged own)

  request-asks : (object version size target : ℕ) (k : Kind) → IsAsked v.client (asks.Request object version size target k)
      → AsksPointerFirst names (split_of r.peer.rest) r (pointer_asked_by target k)
  request-asks object version size target k (m, passes, is_it) =
      let left : Resident = with_peer (with_rest (drop size r.peer.rest) r.peer) r in
      passed-asks object version size target m (pointer_asked_by target k) passes
      (kind-asks v left is.owns object version target m k is_it (λ i. targets-at XdgToplevel v.client.objects object _ passes.entry i))

  pub asked-asks : (a : Asked) → IsAsked v.client a → AsksPointerFirst names (split_of r.peer.rest) r (pointer_in a)
  asked-asks asks.More asked = none-asks asked
  asked-asks (asks.Refused refusal) asked = first-refused-asks refusal asked
  asked-asks (asks.Own size judged) asked = own-message-asks size judged asked
  asked-asks (asks.Request object version size target k) asked = request-asks object version size target k asked

-- ---- a new wl_pointer

-- only wl_seat.get_pointer asks for one
pub seat-asked : (target : ℕ) (k : Kind) (id : ℕ) → pointer_asked_by target k ≡ NewPointer id → k ≡ kind.Seat (seat.GetPointer id)
seat-asked target (kind.Seat (seat.GetPointer other)) id e = cc
seat-asked target (kind.Toplevel (MoveAsked serial)) id e = absurd (cc)
seat-asked target k id e = absurd (cc)

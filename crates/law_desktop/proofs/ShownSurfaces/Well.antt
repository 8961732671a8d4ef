-- What is known of a demand that was accepted: a transform that it asks for is one of the eight, and a commit isn't that of a buffer before a
-- configure was acknowledged.
use Rattle.std.proofs.Common.{◌≡◌, ℕ, List, Bool, true, false, Option, Some, None, Result, refl, subst, ◌∙◌, arith, sym, ap, leb-true, lt-ltb}
use Rattle.std.specs.Prelude.{ℤ, pos, negsuc, Ok, Err, ◌==◌, ◌&&◌, ◌||◌, if◌then◌else◌, int_le, int_lt, is_some, length, nat_le, nat_lt, unsigned_abs}
use Rattle.std.specs.List.{list_all, list_any}
use Rattle.std.specs.Option.{option_map_or}
use Rattle.std.proofs.lemmas.Bool.{and_parts}
use Rattle.wl_proto.specs.declared.argument.NewId.{NewId}
use Rattle.wl_proto.specs.declared.error.ProtoError.{ProtoError}
use Rattle.wl_proto.specs.declared.wl_compositor.WlCompositorRequest.TheVariants as compositor
use Rattle.wl_proto.specs.declared.wl_pointer.WlPointerRequest.TheVariants as pointer
use Rattle.wl_proto.specs.declared.wl_seat.WlSeatRequest.TheVariants as seat
use Rattle.wl_proto.specs.declared.wl_subcompositor.WlSubcompositorRequest.TheVariants as subcompositor
use Rattle.wl_proto.specs.declared.wl_subsurface.WlSubsurfaceRequest.{WlSubsurfaceRequest}
use Rattle.wl_proto.specs.declared.wl_subsurface.WlSubsurfaceRequest.TheVariants as subsurface
use Rattle.wl_proto.specs.declared.wl_surface.WlSurfaceRequest.{WlSurfaceRequest}
use Rattle.wl_proto.specs.declared.wl_surface.WlSurfaceRequest.TheVariants as surface
use Rattle.wl_proto.specs.declared.xdg_popup.XdgPopupRequest.{XdgPopupRequest}
use Rattle.wl_proto.specs.declared.xdg_popup.XdgPopupRequest.TheVariants as popup
use Rattle.wl_proto.specs.declared.xdg_surface.XdgSurfaceRequest.{XdgSurfaceRequest}
use Rattle.wl_proto.specs.declared.xdg_surface.XdgSurfaceRequest.TheVariants as xdg
use Rattle.wl_proto.specs.declared.xdg_wm_base.XdgWmBaseRequest.{XdgWmBaseRequest}
use Rattle.wl_proto.specs.declared.xdg_wm_base.XdgWmBaseRequest.TheVariants as base
use Rattle.wl_proto.specs.Messages.{Message}
use Rattle.wl_proto.specs.Objects.{objects_in as objects_named, new_id_in}
use Rattle.wl_proto.specs.Spelling.{decoded}
use Rattle.spec_desktop.specs.declared.actions.Action.{Action}
use Rattle.spec_desktop.specs.declared.refusals.Refusal.{Refusal}
use Rattle.spec_desktop.specs.Judgement.{action_of, after_new_id, is_free, judged, judged_at}
use Rattle.spec_desktop.specs.Objects.{Object, Objects, fits}
use Rattle.spec_desktop.specs.Peer.{counted, known_of, with_rest}
use Rattle.spec_desktop.specs.Requests.{Request, ToCompositor, ToSurface, ToSubcompositor, ToSubsurface, ToSeat, ToPointer, ToBase, ToXdgSurface, ToToplevel, ToPopup, request_of}
use Rattle.spec_desktop.specs.ToplevelRequest.{ToplevelRequest}
use Rattle.spec_desktop.specs.ToplevelRequest as toplevel
use Rattle.wl_surface.specs.Request.{Request as Asked, Member, PlaceAbove, PlaceBelow}
use Rattle.wl_surface.specs.Surfaces.{Link}
use Rattle.wl_surface.specs.Trees.{is_bad_parent, is_too_deep}
use Rattle.wl_shell.specs.Popups.{Popped, is_parent, is_popup_mapped, popup_at, is_configured}
use Rattle.wl_shell.specs.Positioner.{Positioner, is_complete}
use Rattle.wl_shell.specs.Shell.{Effect, Stays, Unconfigured, Configures, Maps, Unmaps, XdgSurface as Xdg, answers_states, is_full, is_waiting, stage_of, xdg_at, xdg_of, xdg_with}
use Rattle.spec_desktop.specs.Ask.{Ask, AskSurface, Ignore, owns}
use Rattle.spec_desktop.specs.Demand.{Asks, CommitTree, Demand}
use Rattle.spec_desktop.specs.Demanding.{base_demand, committed_by, demand_by, demand_of, demands, effect_of_commit, effect_on_xdg, judge_all, moved_by_pointer, own_demand, surface_demand, if_whole}
use Rattle.spec_desktop.specs.Demanding.{toplevel_asked, toplevel_destroyed, xdg_asked}
use Rattle.spec_desktop.specs.Desktop.{Resident}
use Rattle.spec_desktop.specs.WlPointer.{cursor_set, is_no_cursor}
use Rattle.spec_desktop.specs.WlSubsurface.{beside, demand_by_link, has_subsurface, is_no_subsurface, link_of_subsurface, placed_beside, subsurface_made}
use Rattle.spec_desktop.specs.WlSurface.{transform_set, will_show, will_be_whole, scale_set}
use Rattle.spec_desktop.specs.Step.{with_peer}
use Rattle.spec_desktop.specs.XdgPopup.{grab_of, is_no_popup, may_be_parent, popup_asked, popup_destroyed, popup_made, positioner_of, repositioned_by}
use Rattle.spec_desktop.specs.XdgShell.{has_any, is_foreign, is_no_toplevel, role_of, state_asked}
use Rattle.law_desktop.specs.Standing.{turns_well}

abbrev pub IsWell : Resident → Demand → Type 0
IsWell r (Asks (AskSurface id request)) = turns_well request ≡ true
IsWell r (CommitTree id) = effect_of_commit r id ≡ Unconfigured → ⊥
IsWell r demand = Unit {0}

-- where the request isn't refused
abbrev IsWellSo : Resident → Result Demand Refusal → Type 0
IsWellSo r (Ok demand) = IsWell r demand
IsWellSo r (Err refusal) = Unit {0}

module _ (r : Resident) where
  if-well : (b : Bool) (x y : Result Demand Refusal) → (b ≡ true → IsWellSo r x) → (b ≡ false → IsWellSo r y) → IsWellSo r (if b then x else y)
  if-well true x y f g = f refl
  if-well false x y f g = g refl

  ask-well : (b : Bool) (x y : Result Ask Refusal) → (b ≡ true → IsWellSo r (demands x)) → (b ≡ false → IsWellSo r (demands y)) → IsWellSo r (demands (if b then x else y))
  ask-well true x y f g = f refl
  ask-well false x y f g = g refl

  -- ---- surfaces

  some-well : (object : ℕ) (effect : Effect) → effect_of_commit r object ≡ effect → (effect ≡ Unconfigured → ⊥) → IsWell r (CommitTree object)
  some-well object effect comes other u = other (sym comes ∙ u)

  commit-well : (o : Option Xdg) (object : ℕ) (effect : Effect) → xdg_of object r.owned.shell ≡ o → effect_of_commit r object ≡ effect → IsWellSo r (committed_by o object effect)
  commit-well None object effect here comes = λ u. stays (sym (ap (effect_on_xdg (will_show r object)) here) ∙ u)
    where
      stays : Effect.Stays ≡ Effect.Unconfigured → ⊥
      stays e = cc
  commit-well (Some x) object Stays here comes = some-well object Stays comes (λ e. cc)
  commit-well (Some x) object Unconfigured here comes = tt
  commit-well (Some x) object Configures here comes = if-well (is_full x.configures) _ _ (λ full. tt) (λ room. some-well object Configures comes (λ e. cc))
  commit-well (Some x) object Maps here comes = some-well object Maps comes (λ e. cc)
  commit-well (Some x) object Unmaps here comes = some-well object Unmaps comes (λ e. cc)

  -- where the buffer is whole, as without that
  whole-well : (b : Bool) (object : ℕ) (judged : Result Demand Refusal) → IsWellSo r judged → IsWellSo r (if_whole b object judged)
  whole-well true object judged well = well
  whole-well false object (Ok demand) well = tt
  whole-well false object (Err refusal) well = tt

  -- what is 0 to 7 is one of the eight
  below-eight : (z : ℤ) → (int_le (pos 0) z && int_le z (pos 7)) ≡ true → nat_lt (unsigned_abs z) 8 ≡ true
  below-eight (pos n) fits = let most = leb-true n 7 (and_parts (int_le (pos 0) (pos n)) (int_le (pos n) (pos 7)) fits).1 in lt-ltb n 8 (omega (arith, most))
  below-eight (negsuc n) fits = absurd (cc)

  transform-well : (object : ℕ) (z : ℤ) → IsWellSo r (demands (transform_set object z))
  transform-well object z = ask-well (int_le (pos 0) z && int_le z (pos 7)) _ _ (λ fits. below-eight z fits) (λ none. tt)

  scale-well : (object : ℕ) (z : ℤ) → IsWellSo r (demands (scale_set object z))
  scale-well object z = ask-well (int_le (pos 1) z) _ _ (λ fits. refl) (λ none. tt)

  surface-well : (object version : ℕ) (request : WlSurfaceRequest) → IsWellSo r (surface_demand r object version request)
  surface-well object version surface.Destroy = if-well (is_some (xdg_of object r.owned.shell)) _ _ (λ there. tt) (λ none. tt)
  surface-well object version (surface.Frame callback) = tt
  surface-well object version surface.Commit =
      whole-well (will_be_whole r object) object _ (commit-well (xdg_of object r.owned.shell) object (effect_of_commit r object) refl refl)
  surface-well object version (surface.SetBufferTransform transform) = transform-well object transform
  surface-well object version (surface.SetBufferScale scale) = scale-well object scale
  surface-well object version request = refl

  -- ---- subsurfaces

  made-well : (object version id child parent : ℕ) → IsWellSo r (subsurface_made r object version id child parent)
  made-well object version id child parent =
      if-well (is_too_deep r.owned.surfaces child parent) _ _ (λ deep. tt)
      (λ shallow. if-well (is_no_subsurface (role_of r child) || (has_subsurface child r || is_some (xdg_of child r.owned.shell))) _ _ (λ bad. tt)
      (λ good. if-well (is_bad_parent r.owned.surfaces child parent) _ _ (λ bad. tt) (λ good. tt)))

  placed-well : (object parent : ℕ) (request : Member → Asked) (o : Option Member) → ((m : Member) → turns_well (request m) ≡ true) → IsWellSo r (placed_beside object parent request o)
  placed-well object parent request None well = tt
  placed-well object parent request (Some member) well = well member

  link-well : (object : ℕ) (o : Option Link) (request : WlSubsurfaceRequest) → IsWellSo r (demand_by_link r object o request)
  link-well object o subsurface.Destroy = tt
  link-well object None request = tt
  link-well object (Some l) (subsurface.SetPosition x y) = refl
  link-well object (Some l) (subsurface.PlaceAbove sibling) = placed-well object l.parent (PlaceAbove l.number) (beside r.owned.surfaces l sibling) (λ m. refl)
  link-well object (Some l) (subsurface.PlaceBelow sibling) = placed-well object l.parent (PlaceBelow l.number) (beside r.owned.surfaces l sibling) (λ m. refl)
  link-well object o request = tt

  -- ---- the pointer

  cursor-well : (object surface : ℕ) → IsWellSo r (if surface == 0 then Ok (Asks Ignore) else cursor_set r object surface)
  cursor-well object surface =
      if-well (surface == 0) _ _ (λ null. tt)
      (λ one. if-well (is_no_cursor (role_of r surface) || is_some (xdg_of surface r.owned.shell)) _ _ (λ other. tt) (λ free. tt))

  -- ---- the shell

  base-well : (object version : ℕ) (request : XdgWmBaseRequest) → IsWellSo r (base_demand r object version request)
  base-well object version base.Destroy = ask-well (list_any (λ x. x.base == object) r.owned.shell) _ _ (λ used. tt) (λ unused. tt)
  base-well object version (base.GetXdgSurface id surface) =
      ask-well (is_foreign (role_of r surface) || is_some (xdg_of surface r.owned.shell)) _ _ (λ other. tt) (λ free. ask-well (has_any r surface) _ _ (λ full. tt) (λ none. tt))
  base-well object version request = tt

  popup-well : (x : Xdg) (version id parent : ℕ) (p : Positioner) → IsWellSo r (popup_made r x version id parent p)
  popup-well x version id parent p =
      if-well (is_some x.role) _ _ (λ there. tt)
      (λ none. if-well (is_no_popup (role_of r x.surface)) _ _ (λ other. tt)
      (λ fits. if-well (may_be_parent (xdg_at parent r.owned.shell)) _ _ (λ may. if-well (is_complete p) _ _ (λ complete. tt) (λ lacks. tt)) (λ may_not. tt)))

  popup-gone-well : (object : ℕ) (x : Xdg) → IsWellSo r (popup_destroyed r object x)
  popup-gone-well object x = if-well (is_parent x.id r.owned.shell) _ _ (λ parent. tt) (λ none. tt)

  grab-well : (object serial : ℕ) (x : Xdg) (o : Option Popped) → IsWellSo r (grab_of object serial x o)
  grab-well object serial x None = tt
  grab-well object serial x (Some p) = if-well p.popup.is_dismissed _ _ (λ dismissed. tt) (λ live. if-well (is_popup_mapped p) _ _ (λ mapped. tt) (λ unmapped. tt))

  repositioned-well : (x : Xdg) (token : ℕ) (p : Positioner) (o : Option Popped) → IsWellSo r (repositioned_by x token p o)
  repositioned-well x token p None = tt
  repositioned-well x token p (Some q) =
      if-well (is_configured q && is_full x.configures) _ _ (λ full. tt) (λ room. if-well (is_complete p) _ _ (λ complete. tt) (λ lacks. tt))

  popup-asked-well : (object : ℕ) (o : Option Xdg) (request : XdgPopupRequest) → IsWellSo r (popup_asked r object o request)
  popup-asked-well object None request = tt
  popup-asked-well object (Some x) popup.Destroy = popup-gone-well object x
  popup-asked-well object (Some x) (popup.Grab by serial) = grab-well object serial x (popup_at x.id r.owned.shell)
  popup-asked-well object (Some x) (popup.Reposition positioner token) =
      repositioned-well x token (positioner_of (r.peer.positioners positioner)) (popup_at x.id r.owned.shell)

  xdg-well : (x : Option Xdg) (version : ℕ) (request : XdgSurfaceRequest) → IsWellSo r (xdg_asked r x version request)
  xdg-well None version request = tt
  xdg-well (Some x) version xdg.Destroy = ask-well (is_some x.role) _ _ (λ there. tt) (λ none. tt)
  xdg-well (Some x) version (xdg.GetToplevel id) =
      ask-well (is_some x.role) _ _ (λ there. tt) (λ none. ask-well (is_no_toplevel (role_of r x.surface)) _ _ (λ other. tt) (λ fits. tt))
  xdg-well (Some x) version (xdg.GetPopup id parent positioner) = popup-well x version id parent (positioner_of (r.peer.positioners positioner))
  xdg-well (Some x) version (xdg.SetWindowGeometry a b width height) =
      ask-well (is_some x.role) _ _ (λ there. ask-well (int_lt (pos 0) width && int_lt (pos 0) height) _ _ (λ fits. refl) (λ no_size. tt)) (λ none. tt)
  xdg-well (Some x) version (xdg.AckConfigure serial) =
      ask-well (is_some x.role) _ _ (λ there. ask-well (is_waiting serial x.configures) _ _ (λ waits. tt) (λ unknown. tt)) (λ none. tt)

  state-well : (o : Option Xdg) → IsWellSo r (demands (state_asked o))
  state-well None = tt
  state-well (Some x) =
      ask-well (option_map_or answers_states (stage_of x) false) _ _ (λ answers. ask-well (is_full x.configures) _ _ (λ full. tt) (λ room. tt)) (λ none. tt)

  gone-well : (object : ℕ) (o : Option Xdg) → IsWellSo r (toplevel_destroyed object o)
  gone-well object None = tt
  gone-well object (Some x) = tt

  moved-well : (serial : ℕ) (o : Option Xdg) → IsWellSo r (moved_by_pointer serial o)
  moved-well serial None = tt
  moved-well serial (Some x) = tt

  toplevel-well : (object : ℕ) (o : Option Xdg) (request : ToplevelRequest) → IsWellSo r (toplevel_asked object o request)
  toplevel-well object o toplevel.Destroy = gone-well object o
  toplevel-well object o (toplevel.Move seat serial) = moved-well serial o
  toplevel-well object o toplevel.SetMaximized = state-well o
  toplevel-well object o toplevel.UnsetMaximized = state-well o
  toplevel-well object o (toplevel.SetFullscreen output) = state-well o
  toplevel-well object o toplevel.UnsetFullscreen = state-well o
  toplevel-well object None request = tt
  toplevel-well object (Some x) request = tt

  -- ---- every interface

  owned-well : (judged : Result Action Refusal) → IsWellSo r (demands (owns judged))
  owned-well (Ok action) = tt
  owned-well (Err refusal) = tt

  own-well : (object version : ℕ) (request : Request) → IsWellSo r (own_demand r object version request)
  own-well object version request = owned-well (action_of (known_of r.peer) object version request)

  interface-well : (request : Request) (object version : ℕ) → IsWellSo r (demand_by request r object version)
  interface-well (ToCompositor (compositor.CreateSurface id)) object version = ask-well (nat_le 256 (length r.owned.surfaces.surfaces)) _ _ (λ full. tt) (λ room. tt)
  interface-well (ToCompositor (compositor.CreateRegion id)) object version = own-well object version (ToCompositor (compositor.CreateRegion id))
  interface-well (ToSurface request) object version = surface-well object version request
  interface-well (ToSeat (seat.GetPointer id)) object version = tt
  interface-well (ToSeat (seat.GetKeyboard id)) object version = tt
  interface-well (ToSeat (seat.GetTouch id)) object version = tt
  interface-well (ToBase request) object version = base-well object version request
  interface-well (ToXdgSurface request) object version = xdg-well (xdg_at object r.owned.shell) version request
  interface-well (ToToplevel request) object version = toplevel-well object (xdg_with object r.owned.shell) request
  interface-well (ToSubcompositor subcompositor.Destroy) object version = tt
  interface-well (ToSubcompositor (subcompositor.GetSubsurface id child parent)) object version = made-well object version id child parent
  interface-well (ToSubsurface request) object version = link-well object (link_of_subsurface object r) request
  interface-well (ToPointer (pointer.SetCursor serial surface x y)) object version = cursor-well object surface
  interface-well (ToPopup request) object version = popup-asked-well object (xdg_with object r.owned.shell) request
  interface-well request object version = own-well object version request

  demand-well : (object version : ℕ) (m : Message) → IsWellSo r (demand_of r object version m)
  demand-well object version m = interface-well (request_of m) object version

  -- ---- the judgement

  new_id-well : (objects : Objects) (held : ℕ) (new : Option NewId) (demand : Result Demand Refusal) → IsWellSo r demand → IsWellSo r (after_new_id objects held new demand)
  new_id-well objects held None demand well = well
  new_id-well objects held (Some new) demand well =
      if-well (is_free objects new.id) _ _ (λ free. if-well (nat_le 8192 held) _ _ (λ full. tt) (λ room. well)) (λ used. tt)

  judged-well : (objects : Objects) (held : ℕ) (demand : Message → Result Demand Refusal) (request : Result Message ProtoError) → ((m : Message) → IsWellSo r (demand m))
      → IsWellSo r (judged objects held demand request)
  judged-well objects held demand (Err error) well = tt
  judged-well objects held demand (Ok m) well =
      if-well (list_all (fits objects) (objects_named m)) _ _ (λ fit. new_id-well objects held (new_id_in m) (demand m) (well m)) (λ unfit. tt)

  judged_at-well : (object opcode : ℕ) (body : List ℕ) (o : Option Object)
      → IsWellSo r (judged_at r.peer.objects r.peer.held (λ version m. demand_of r object version m) opcode body o)
  judged_at-well object opcode body None = tt
  judged_at-well object opcode body (Some o) =
      judged-well r.peer.objects r.peer.held (λ m. demand_of r object o.version m) (decoded o.interface o.version opcode body) (λ m. demand-well object o.version m)

  -- a message that is accepted is so
  pub well : (object opcode : ℕ) (body : List ℕ) (demand : Demand) → judge_all r object opcode body ≡ Ok demand → IsWell r demand
  well object opcode body demand e = subst (IsWellSo r) e (judged_at-well object opcode body (r.peer.objects object))

-- with its request counted and its bytes taken too
pub well-counted : (r : Resident) (rest : List ℕ) (demand : Demand) → IsWell r demand → IsWell (with_peer (counted (with_rest rest r.peer)) r) demand
well-counted r rest (Asks (AskSurface id request)) is = is
well-counted r rest (CommitTree id) is = is
well-counted r rest demand is = tt

-- More bytes of a client's stream behind the others change neither what a message asks, where every request is served, nor what is done.
use Rattle.std.proofs.Common.{◌≡◌, ℕ, List, [], ◌∷◌, ◌++◌, Bool, true, false, Option, Some, None, Result, refl, ap, ◌∙◌}
use Rattle.std.specs.Prelude.{Ok, Err, ◌&&◌, fold, if◌then◌else◌, map, not}
use Rattle.std.specs.List.{list_all}
use Rattle.std.specs.Option.{option_and_then}
use Rattle.wl_proto.specs.declared.error.ProtoError.{ProtoError}
use Rattle.wl_proto.specs.declared.wl_compositor.WlCompositorRequest.TheVariants as compositor
use Rattle.wl_proto.specs.declared.wl_pointer.WlPointerRequest.TheVariants as pointer
use Rattle.wl_proto.specs.declared.wl_subcompositor.WlSubcompositorRequest.TheVariants as subcompositor
use Rattle.wl_proto.specs.declared.wl_subsurface.WlSubsurfaceRequest.{WlSubsurfaceRequest}
use Rattle.wl_proto.specs.declared.wl_subsurface.WlSubsurfaceRequest.TheVariants as subsurface
use Rattle.wl_proto.specs.declared.wl_surface.WlSurfaceRequest.{WlSurfaceRequest}
use Rattle.wl_proto.specs.declared.wl_surface.WlSurfaceRequest.TheVariants as surface
use Rattle.wl_proto.specs.declared.xdg_popup.XdgPopupRequest.{XdgPopupRequest}
use Rattle.wl_proto.specs.declared.xdg_popup.XdgPopupRequest.TheVariants as popup
use Rattle.wl_proto.specs.declared.xdg_surface.XdgSurfaceRequest.{XdgSurfaceRequest}
use Rattle.wl_proto.specs.declared.xdg_surface.XdgSurfaceRequest.TheVariants as xdg
use Rattle.wl_proto.specs.declared.xdg_wm_base.XdgWmBaseRequest.{XdgWmBaseRequest}
use Rattle.wl_proto.specs.declared.xdg_wm_base.XdgWmBaseRequest.TheVariants as base
use Rattle.wl_proto.specs.Messages.{Message}
use Rattle.wl_proto.specs.declared.interface.Interface.TheVariants.{WlPointer, XdgPopup}
use Rattle.wl_proto.specs.Objects.{objects_in as objects_named, new_id_in}
use Rattle.wl_proto.specs.Spelling.{decoded}
use Rattle.spec_desktop.specs.declared.refusals.ErrorCode.TheVariants.{InvalidMethod}
use Rattle.spec_desktop.specs.declared.refusals.Refusal.{Refusal}
use Rattle.spec_desktop.specs.Judgement.{after_new_id, judged, judged_at}
use Rattle.spec_desktop.specs.Objects.{Object, Objects, fits}
use Rattle.spec_desktop.specs.Peer.{Peer, removed, with_rest}
use Rattle.spec_desktop.specs.Told.{Said, display_error}
use Rattle.wl_surface.specs.Surfaces.{Link}
use Rattle.wl_surface.specs.Trees.{destroyed_in}
use Rattle.wl_surface.specs.Waiting.{Callback}
use Rattle.wl_shell.specs.Popups.{Popped, copying, is_configured, is_toplevel, parent_allows, parent_of, popup_at, repositioning}
use Rattle.wl_shell.specs.Positioner.{Positioner}
use Rattle.wl_shell.specs.Shell.{Effect, Stays, Configures, Maps, Unmaps, Kind, Toplevel, IsPopup, RoleObject, XdgSurface as Xdg, xdg_at, xdg_of, xdg_with}
use Rattle.spec_desktop.specs.Windows.{Window}
use Rattle.spec_desktop.specs.Changing.{Placing, after_all, callbacks_of, changed_for, drawing, effect_placing, placement_now, grab_allowed, grabbed, has_focus, in_rising_order, is_held_elsewhere, is_latest, mode_set}
use Rattle.spec_desktop.specs.Changing.{popup_given_to, popup_repositioned, stacked_by, stacked_for, tree_committed, with_kept_move, without_callbacks, without_child}
use Rattle.spec_desktop.specs.Demand.{Demand, Asks, EndSurface, CommitTree, SetMode, GetPointer}
use Rattle.spec_desktop.specs.Demand.{GetPopup, Reposition, Grab}
use Rattle.spec_desktop.specs.Demanding.{base_demand, demand_by, demand_of, effect_of_commit, judge_all, surface_demand, xdg_asked}
use Rattle.spec_desktop.specs.Desktop.{Desktop, Resident}
use Rattle.spec_desktop.specs.Requests.{Request, ToCompositor, ToSurface, ToSubcompositor, ToSubsurface, ToPointer, ToBase, ToXdgSurface, ToPopup, request_of}
use Rattle.spec_desktop.specs.Replies.{commit_told, configure_told, new_pointer_told, own_answers, popups_done, releases, replies, reposition_told, role_told}
use Rattle.spec_desktop.specs.Stacked.{all_windows}
use Rattle.spec_desktop.specs.Step.{making, removing, with_peer, with_surfaces, xdg_changed, xdg_configured}
use Rattle.spec_desktop.specs.Happens.{done_for}
use Rattle.spec_desktop.specs.WlSubsurface.{demand_by_link, link_of_subsurface}
use Rattle.spec_desktop.specs.XdgPopup.{popup_asked}
use Rattle.law_desktop.proofs.Pieces.Behind.{answers-behind, ask-behind, with_behind}
use Rattle.law_desktop.proofs.Pieces.Places.{holder-longer, longer_in, windows-longer}

-- ---- what a message asks

xdg-asks : (x : Option Xdg) (r : Resident) (version : ℕ) (request : XdgSurfaceRequest) (rest : List ℕ) → xdg_asked (with_behind rest r) x version request ≡ xdg_asked r x version request
xdg-asks (Some x) r version xdg.Destroy rest = refl
xdg-asks x r version request rest = refl

link-asks : (l : Option Link) (r : Resident) (object : ℕ) (request : WlSubsurfaceRequest) (rest : List ℕ) → demand_by_link (with_behind rest r) object l request ≡ demand_by_link r object l request
link-asks l r object subsurface.Destroy rest = refl
link-asks None r object (subsurface.SetPosition x y) rest = refl
link-asks None r object (subsurface.PlaceAbove sibling) rest = refl
link-asks None r object (subsurface.PlaceBelow sibling) rest = refl
link-asks None r object subsurface.SetSync rest = refl
link-asks None r object subsurface.SetDesync rest = refl
link-asks l r object request rest = refl

popup-asks : (x : Option Xdg) (r : Resident) (object : ℕ) (request : XdgPopupRequest) (rest : List ℕ) → popup_asked (with_behind rest r) object x request ≡ popup_asked r object x request
popup-asks (Some x) r object popup.Destroy rest = refl
popup-asks x r object request rest = refl

surface-asks : (r : Resident) (object version : ℕ) (request : WlSurfaceRequest) (rest : List ℕ) → surface_demand (with_behind rest r) object version request ≡ surface_demand r object version request
surface-asks r object version surface.Destroy rest = refl
surface-asks r object version request rest = refl

base-asks : (r : Resident) (object version : ℕ) (request : XdgWmBaseRequest) (rest : List ℕ) → base_demand (with_behind rest r) object version request ≡ base_demand r object version request
base-asks r object version base.Destroy rest = refl
base-asks r object version request rest = refl

demand-by : (request : Request) (r : Resident) (object version : ℕ) (rest : List ℕ) → demand_by request (with_behind rest r) object version ≡ demand_by request r object version
demand-by (ToCompositor (compositor.CreateSurface id)) r object version rest = refl
demand-by (ToSurface request) r object version rest = surface-asks r object version request rest
demand-by (ToSubcompositor subcompositor.Destroy) r object version rest = refl
demand-by (ToSubsurface request) r object version rest = link-asks (link_of_subsurface object r) r object request rest
demand-by (ToPointer (pointer.SetCursor serial surface x y)) r object version rest = refl
demand-by (ToBase request) r object version rest = base-asks r object version request rest
demand-by (ToXdgSurface request) r object version rest = xdg-asks (xdg_at object r.owned.shell) r version request rest
demand-by (ToPopup request) r object version rest = popup-asks (xdg_with object r.owned.shell) r object request rest
demand-by request r object version rest = refl

demand-of : (r : Resident) (object version : ℕ) (m : Message) (rest : List ℕ) → demand_of (with_behind rest r) object version m ≡ demand_of r object version m
demand-of r object version m rest =
    demand-by (request_of m) r object version rest

judged-same : (objects : Objects) (held : ℕ) (ask other : Message → Result Demand Refusal) (request : Result Message ProtoError) → ((m : Message) → ask m ≡ other m)
    → judged objects held ask request ≡ judged objects held other request
judged-same objects held ask other (Err error) e = refl
judged-same objects held ask other (Ok m) e =
    ap (λ (asked : Result Demand Refusal). if list_all (fits objects) (objects_named m) then after_new_id objects held (new_id_in m) asked else Err (display_error InvalidMethod)) (e m)

judged-at : (r : Resident) (object opcode : ℕ) (body rest : List ℕ) (o : Option Object)
    → judged_at r.peer.objects r.peer.held (λ version m. demand_of (with_behind rest r) object version m) opcode body o
    ≡ judged_at r.peer.objects r.peer.held (λ version m. demand_of r object version m) opcode body o
judged-at r object opcode body rest None = refl
judged-at r object opcode body rest (Some o) =
    judged-same r.peer.objects r.peer.held (λ m. demand_of (with_behind rest r) object o.version m) (λ m. demand_of r object o.version m) (decoded o.interface o.version opcode body)
    (λ m. demand-of r object o.version m rest)

-- a message asks the same
pub judged-behind : (r : Resident) (object opcode : ℕ) (body rest : List ℕ) → judge_all (with_behind rest r) object opcode body ≡ judge_all r object opcode body
judged-behind r object opcode body rest = judged-at r object opcode body rest (r.peer.objects object)

-- ---- what it changes of its client

without-behind : (gone : List Callback) (p : Peer) (rest : List ℕ)
    → fold (λ p callback. removed callback.id p) (with_rest rest p) gone ≡ with_rest rest (fold (λ p callback. removed callback.id p) p gone)
without-behind [] p rest = refl
without-behind (callback ∷ gone) p rest = without-behind gone (removed callback.id p) rest

mode-behind : (link : ℕ) (b : Bool) (r : Resident) (rest : List ℕ) → mode_set link b (with_behind rest r) ≡ with_behind rest (mode_set link b r)
mode-behind link true r rest = refl
mode-behind link false r rest = refl

pub drawing-behind : (b : Bool) (r : Resident) (rest : List ℕ) → drawing b (with_behind rest r) ≡ with_behind rest (drawing b r)
drawing-behind true r rest = refl
drawing-behind false r rest = refl

popup-behind : (id xdg parent : ℕ) (p : Positioner) (x : Option Xdg) (r : Resident) (rest : List ℕ)
    → popup_given_to id xdg parent p x (with_behind rest r) ≡ with_behind rest (popup_given_to id xdg parent p x r)
popup-behind id xdg parent p None r rest = refl
popup-behind id xdg parent p (Some x) r rest = refl

repositioned-behind : (where_to : Placing) (p : Positioner) (o : Option Popped) (r : Resident) (rest : List ℕ)
    → popup_repositioned where_to p o (with_behind rest r) ≡ with_behind rest (popup_repositioned where_to p o r)
repositioned-behind where_to p None r rest = refl
repositioned-behind where_to p (Some q) r rest =
    drawing-behind (is_configured q) (xdg_changed q.xdg.id (repositioning (is_configured q) r.peer.serial (where_to (copying p q.popup)) p) r) rest

grab-behind : (b : Bool) (xdg : ℕ) (r : Resident) (rest : List ℕ) → grabbed b xdg (with_behind rest r) ≡ with_behind rest (grabbed b xdg r)
grab-behind true xdg r rest = refl
grab-behind false xdg r rest = refl

module _ (c : ℕ) (more : List ℕ) where
  effect-behind : (where_to : Placing) (surface : ℕ) (effect : Effect) (x : Option Xdg) (r : Resident) (rest : List ℕ)
      → effect_placing where_to surface effect x (with_behind rest r) ≡ with_behind rest (effect_placing where_to surface effect x r)
  effect-behind where_to surface effect None r rest = refl
  effect-behind where_to surface Stays (Some x) r rest = refl
  effect-behind where_to surface effect x r rest = refl

  allowed-behind : (xdg serial : ℕ) (r : Resident) (d : Desktop) (rest : List ℕ) → grab_allowed c xdg serial (with_behind rest r) (longer_in c more d) ≡ grab_allowed c xdg serial r d
  allowed-behind xdg serial r d rest =
      ap (λ (o : Option ℕ). is_latest serial r && (parent_allows (option_and_then (parent_of r.owned.shell) (popup_at xdg r.owned.shell)) && not (is_held_elsewhere c o))) (holder-longer c more d)

  -- the same is done
  pub done-behind : (demand : Demand) (r : Resident) (d : Desktop) (rest : List ℕ) → changed_for c demand (with_behind rest r) (longer_in c more d) ≡ with_behind rest (changed_for c demand r d)
  done-behind (Asks ask) r d rest = ask-behind ask r rest
  done-behind (EndSurface id) r d rest =
      let bare : Resident = after_all r (with_surfaces (destroyed_in id r.owned.surfaces) (record r { subsurfaces = map (without_child id) r.subsurfaces })) in
      ap (λ (p : Peer). removing id (with_peer p (without_callbacks (callbacks_of id r) bare))) (without-behind (callbacks_of id r) bare.peer rest)
  done-behind (CommitTree surface) r d rest = effect-behind (placement_now c r d) surface (effect_of_commit r surface) (xdg_of surface r.owned.shell) (tree_committed surface r) rest
  done-behind (SetMode link synchronised) r d rest = mode-behind link synchronised r rest
  done-behind (GetPointer id version) r d rest =
      ap (λ (q : Resident). making WlPointer id version q) (drawing-behind (has_focus c d.pointer.focus) (record r { pointers = in_rising_order id r.pointers }) rest)
  done-behind (GetPopup id version xdg parent p) r d rest = ap (λ (q : Resident). making XdgPopup id version q) (popup-behind id xdg parent p (xdg_at xdg r.owned.shell) r rest)
  done-behind (Reposition xdg token p) r d rest = repositioned-behind (placement_now c r d) p (popup_at xdg r.owned.shell) r rest
  done-behind (Grab xdg serial) r d rest =
      ap (λ (b : Bool). grabbed b xdg (with_behind rest r)) (allowed-behind xdg serial r d rest) ∙ grab-behind (grab_allowed c xdg serial r d) xdg r rest
  done-behind demand r d rest = refl

  -- ---- what it is answered with

  role-behind : (kind : Kind) (id : ℕ) (r : Resident) (d : Desktop) (rest : List ℕ) → role_told c (with_behind rest r) (longer_in c more d) id kind ≡ role_told c r d id kind
  role-behind Toplevel id r d rest = refl
  role-behind (IsPopup popup) id r d rest = refl

  configure-behind : (o : Option RoleObject) (xdg : ℕ) (r : Resident) (d : Desktop) (rest : List ℕ) → configure_told c (with_behind rest r) (longer_in c more d) xdg o ≡ configure_told c r d xdg o
  configure-behind None xdg r d rest = refl
  configure-behind (Some object) xdg r d rest = ap (λ (told : List Said). told ++ xdg_configured xdg r.peer.serial ∷ []) (role-behind object.kind object.id r d rest)

  commit-behind : (effect : Effect) (x : Option Xdg) (r : Resident) (d : Desktop) (rest : List ℕ) → commit_told c effect x (with_behind rest r) (longer_in c more d) ≡ commit_told c effect x r d
  commit-behind Configures (Some x) r d rest = configure-behind x.role x.id r d rest
  commit-behind effect x r d rest = refl

  reposition-behind : (o : Option Popped) (token : ℕ) (p : Positioner) (r : Resident) (d : Desktop) (rest : List ℕ)
      → reposition_told c (with_behind rest r) (longer_in c more d) token p o ≡ reposition_told c r d token p o
  reposition-behind None token p r d rest = refl
  reposition-behind (Some q) token p r d rest = refl

  pointer-behind : (b : Bool) (id serial : ℕ) (windows : List Window) (d : Desktop) → new_pointer_told b id serial windows (longer_in c more d) ≡ new_pointer_told b id serial windows d
  pointer-behind true id serial windows d = refl
  pointer-behind false id serial windows d = refl

  own-behind : (demand : Demand) (r : Resident) (windows : List Window) (d : Desktop) (rest : List ℕ)
      → own_answers c demand (with_behind rest r) windows (longer_in c more d) ≡ own_answers c demand r windows d
  own-behind (Asks ask) r windows d rest = answers-behind ask r rest
  own-behind (CommitTree surface) r windows d rest = commit-behind (effect_of_commit r surface) (xdg_of surface r.owned.shell) r d rest
  own-behind (GetPointer id version) r windows d rest = pointer-behind (has_focus c d.pointer.focus) id r.peer.serial windows d
  own-behind (Reposition xdg token p) r windows d rest = reposition-behind (popup_at xdg r.owned.shell) token p r d rest
  own-behind demand r windows d rest = refl

  -- the same is told
  pub replies-behind : (demand : Demand) (old new : Resident) (windows : List Window) (d : Desktop) (rest : List ℕ)
      → replies c demand (with_behind rest old) (with_behind rest new) windows (longer_in c more d) ≡ replies c demand old new windows d
  replies-behind demand old new windows d rest =
      ap (λ (told : List Said). told ++ releases old new ++ popups_done old new) (own-behind demand old windows d rest)

  -- ---- what it does to the stack of toplevels and to the pointer

  commit-stacks : (effect : Effect) (toplevel : Bool) (surface : ℕ) (d : Desktop)
      → stacked_by effect toplevel c surface (longer_in c more d) ≡ longer_in c more (stacked_by effect toplevel c surface d)
  commit-stacks Maps true surface d = refl
  commit-stacks Unmaps true surface d = refl
  commit-stacks effect toplevel surface d = refl

  stacks : (demand : Demand) (r : Resident) (windows : List Window) (d : Desktop) (rest : List ℕ)
      → stacked_for c demand (with_behind rest r) windows (longer_in c more d) ≡ longer_in c more (stacked_for c demand r windows d)
  stacks (CommitTree surface) r windows d rest = commit-stacks (effect_of_commit r surface) (is_toplevel (xdg_of surface r.owned.shell)) surface d
  stacks demand r windows d rest = refl

  pub stands-behind : (demand : Demand) (r : Resident) (d : Desktop) (rest : List ℕ) → done_for c demand (with_behind rest r) (longer_in c more d) ≡ longer_in c more (done_for c demand r d)
  stands-behind demand r d rest =
      ap (λ (windows : List Window). with_kept_move (stacked_for c demand (with_behind rest r) windows (longer_in c more d))) (windows-longer c more d)
      ∙ ap (λ (e : Desktop). with_kept_move e) (stacks demand r (all_windows d) d rest)

-- Which surface a message touches, by what is kept of its client.
use Rattle.std.proofs.Common.{◌≡◌, ℕ, ◌-◌, ◌⊎◌, inl, inr, List, Bool, true, false, Option, Some, None, Result, Ok, Err, take, drop, refl, ap, sym, subst, ◌∙◌}
use Rattle.std.proofs.lemmas.Option.{none-some}
use Rattle.std.specs.Prelude.{ℤ, ◌==◌, ◌||◌, if◌then◌else◌, is_some, ◌&&◌}
use Rattle.std.specs.Option.{option_and_then, option_map}
use Rattle.wl_wire.specs.Wire.{split_of}
use Rattle.wl_wire.specs.declared.header.Split.{Split}
use Rattle.wl_wire.specs.declared.header.Split.TheVariants.{Message as Whole, More, Bad}
use Rattle.wl_proto.specs.declared.interface.Interface.{Interface}
use Rattle.wl_proto.specs.declared.interface.Interface.TheVariants.{WlDisplay, WlRegistry, WlRegion, WlSurface, WlShm, WlShmPool, WlBuffer, XdgPopup, XdgPositioner, XdgToplevel}
use Rattle.wl_proto.specs.Messages.{Message, request_message, wl_compositor_request, wl_pointer_request, wl_seat_request, wl_subcompositor_request, wl_subsurface_request, wl_surface_request}
use Rattle.wl_proto.specs.Messages.{xdg_popup_request, xdg_surface_request, xdg_wm_base_request}
use Rattle.wl_proto.specs.declared.wl_compositor.WlCompositorRequest.{WlCompositorRequest}
use Rattle.wl_proto.specs.declared.wl_compositor.WlCompositorRequest.TheVariants as compositor
use Rattle.spec_desktop.specs.declared.refusals.ErrorCode.TheVariants.{Role as HasAnotherRole}
use Rattle.wl_proto.specs.declared.wl_pointer.WlPointerRequest.{WlPointerRequest}
use Rattle.wl_proto.specs.declared.wl_pointer.WlPointerRequest.TheVariants as pointer
use Rattle.wl_proto.specs.declared.wl_seat.WlSeatRequest.{WlSeatRequest}
use Rattle.wl_proto.specs.declared.wl_seat.WlSeatRequest.TheVariants as seat
use Rattle.wl_proto.specs.declared.wl_subcompositor.WlSubcompositorRequest.{WlSubcompositorRequest}
use Rattle.wl_proto.specs.declared.wl_subcompositor.WlSubcompositorRequest.TheVariants as subcompositor
use Rattle.wl_proto.specs.declared.wl_subsurface.WlSubsurfaceRequest.{WlSubsurfaceRequest}
use Rattle.wl_proto.specs.declared.wl_subsurface.WlSubsurfaceRequest.TheVariants as subsurface
use Rattle.wl_proto.specs.declared.wl_surface.WlSurfaceRequest.{WlSurfaceRequest}
use Rattle.wl_proto.specs.declared.wl_surface.WlSurfaceRequest.TheVariants as surface
use Rattle.wl_proto.specs.declared.xdg_popup.XdgPopupRequest.{XdgPopupRequest}
use Rattle.wl_proto.specs.declared.xdg_popup.XdgPopupRequest.TheVariants as popup
use Rattle.wl_proto.specs.declared.xdg_surface.XdgSurfaceRequest.{XdgSurfaceRequest}
use Rattle.wl_proto.specs.declared.xdg_surface.XdgSurfaceRequest.TheVariants as requests
use Rattle.wl_proto.specs.declared.xdg_wm_base.XdgWmBaseRequest.{XdgWmBaseRequest}
use Rattle.wl_proto.specs.declared.xdg_wm_base.XdgWmBaseRequest.TheVariants as base
use Rattle.wl_client.specs.First.{IsRefused, Passes}
use Rattle.wl_client.specs.Serving.{is_own}
use Rattle.wl_client.proofs.Passing.{judged-refused}
use Rattle.spec_desktop.specs.Judgement.{action_of}
use Rattle.spec_desktop.specs.Objects.{ById}
use Rattle.spec_desktop.specs.Peer.{known_of, with_rest}
use Rattle.spec_desktop.specs.Requests.{Request, ToCompositor, rect, request_of, toplevel_request}
use Rattle.spec_desktop.specs.ToplevelRequest.{ToplevelRequest}
use Rattle.spec_desktop.specs.ToplevelRequest as toplevel
use Rattle.spec_desktop.specs.declared.refusals.Refusal.{Refusal}
use Rattle.spec_desktop.proofs.Requests.{of-wl_subsurface, of-wl_surface}
use Rattle.wl_shell.specs.Kept.{kept_of}
use Rattle.wl_shell.specs.Popups.{Popped, is_parent, is_popup_mapped, popup_at, is_configured}
use Rattle.wl_shell.specs.Positioner.{Positioner, is_complete}
use Rattle.wl_shell.specs.Shell.{Effect, Stays, Unconfigured, Configures, Maps, Unmaps, XdgSurface as Xdg, is_full, xdg_at, xdg_of, xdg_with}
use Rattle.wl_surface.specs.Request.{Request as Asking, Member, PlaceAbove, PlaceBelow}
use Rattle.wl_surface.specs.Surfaces.{Link}
use Rattle.wl_surface.specs.Trees.{is_bad_parent, is_too_deep}
use Rattle.spec_desktop.specs.Ask.{Ask, Ignore, owns}
use Rattle.spec_desktop.specs.Demand.{Demand, Asks, CommitTree, EndPopup, EndSubsurface, EndSurface, EndToplevel, SetMode}
use Rattle.spec_desktop.specs.Demanding.{committed_by, demand_by, demand_of, demands, effect_of_commit, moved_by_pointer, surface_demand, toplevel_asked, toplevel_destroyed, if_whole}
use Rattle.spec_desktop.specs.Demanding.{xdg_asked}
use Rattle.spec_desktop.specs.Desktop.{Resident}
use Rattle.spec_desktop.specs.Step.{with_peer}
use Rattle.spec_desktop.specs.WlPointer.{is_no_cursor}
use Rattle.spec_desktop.specs.WlSubsurface.{beside, demand_by_link, has_subsurface, is_no_subsurface, link_of_subsurface, past_limit, placed_beside, refuses}
use Rattle.spec_desktop.specs.WlSurface.{surface_created, transform_set, will_be_whole, scale_set}
use Rattle.spec_desktop.specs.XdgPopup.{grab_of, is_no_popup, may_be_parent, popup_asked, popup_destroyed, popup_made, positioner_of, repositioned_by}
use Rattle.spec_desktop.specs.XdgShell.{acknowledged_by, base_destroyed, geometry_set, role_of, state_asked, toplevel_made, xdg_surface_destroyed, xdg_surface_made}
use Rattle.law_desktop.specs.Ordered.{OwnsOrdered}
use Rattle.law_desktop.specs.Done.{touched_by}
use Rattle.law_desktop.specs.Messages.{IsDemanded}
use Rattle.law_desktop.specs.Owning.{target_as, targets_in}
use Rattle.law_desktop.specs.RoleNames.{names_of}
use Rattle.law_desktop.proofs.Keeping.OwningXdg.{toplevel-named}
use Rattle.law_desktop.proofs.OwnedPopups.Naming.{roles-named}
use Rattle.wl_requests.specs.declared.messages.Asked.{Asked}
use Rattle.wl_requests.specs.declared.messages.Asked.TheVariants as asked
use Rattle.wl_requests.specs.declared.messages.Kind.{Kind}
use Rattle.wl_requests.specs.declared.messages.Kind.TheVariants as kind
use Rattle.wl_requests.specs.declared.residents.Resident.{Resident as Kept}
use Rattle.wl_requests.specs.declared.xdg_toplevel.ToplevelAsked.{ToplevelAsked}
use Rattle.wl_requests.specs.declared.xdg_toplevel.ToplevelAsked.TheVariants.{Configure, Destruction, Move as AskedMove, Nothing}
use Rattle.wl_requests.specs.Linking.{IsChildOf, IsOnlyChild}
use Rattle.wl_requests.specs.Messages.{IsAsked, IsKind, IsTouchOf, IsTouchOfAsked}
use Rattle.wl_requests.specs.Residents.{IsResident, asked_by}
use Rattle.wl_requests.specs.Touching.{Touch, Commits, Destroys, Parts, Releases, Closes, surface_of}
use Rattle.wl_requests.proofs.Asking.{demanded-first, passing-peer, whole-first}
use Rattle.wl_requests.proofs.Doing.{named-by}
use Rattle.wl_requests.proofs.Linking.{IsLinkOf, link-of-child, no-link-of}
use Rattle.wl_requests.proofs.Stackings.{toplevel-destroy, toplevel-of}
use Rattle.wl_requests.proofs.Subsurfaces.{only-number}
use Rattle.wl_clients.specs.Screens.{IsTouchedBy, IsTouchedIn}

-- ---- what is said

-- the numbers of the surfaces that are kept, by the ids of their wl_surfaces
abbrev pub kept_numbers : {A : Type 0} → Kept A → ById ℕ
kept_numbers v = targets_in WlSurface v.client.objects

-- what a demand touches is what is taken for it, by its number
abbrev pub IsTouchNamed : {A : Type 0} → Kept A → Resident → Demand → Option ℕ → Type 0
IsTouchNamed v r demand touched =
    ((touched_by demand r ≡ None) × (touched ≡ None))
    ⊎ ((id : ℕ) × (number : ℕ) × (touched_by demand r ≡ Some id) × (touched ≡ Some number) × (kept_numbers v id ≡ Some number))

-- what touches a surface is one of those that may change what several show, but for the end of a toplevel
abbrev pub IsTouchFor : (Touch → Type 0) → ℕ → Demand → Type 0
IsTouchFor T number (EndToplevel id xdg surface) = (touch : Touch) → T touch → ⊥
IsTouchFor T number demand = (touch : Touch) × T touch × (surface_of touch ≡ number)

abbrev pub IsTouchIf : (Touch → Type 0) → Option ℕ → Demand → Type 0
IsTouchIf T None demand = (touch : Touch) → T touch → ⊥
IsTouchIf T (Some number) demand = IsTouchFor T number demand

-- what such a request demands
abbrev pub IsDemandOf : {A : Type 0} → Kept A → Resident → Touch → Demand → Type 0
IsDemandOf v r (Commits number) demand = (id : ℕ) × (demand ≡ CommitTree id) × (kept_numbers v id ≡ Some number)
IsDemandOf v r (Destroys number) demand = (id : ℕ) × (demand ≡ EndSurface id) × (kept_numbers v id ≡ Some number)
IsDemandOf v r (Parts child) demand = (object : ℕ) × (demand ≡ EndSubsurface object) × IsLinkOf v r object child
IsDemandOf v r (Closes number) demand = (object : ℕ) × (xdg : ℕ) × (demand ≡ EndPopup object xdg)
IsDemandOf v r (Releases child) demand = (object : ℕ) × (its : IsLinkOf v r object child) × (demand ≡ SetMode its.link.number false)

-- all of it
pub record Touches {A : Type 0} (v : Kept A) (r : Resident) (T : Touch → Type 0) (touched : Option ℕ) (demand : Demand) : Type 0 where
  pub named : IsTouchNamed v r demand touched
  pub is_touch : IsTouchIf T touched demand
  pub demanded : (touch : Touch) → T touch → IsDemandOf v r touch demand

-- ---- what touches nothing

-- if it isn't refused, what it demands touches no surface of whatever client
abbrev Untouched : Result Demand Refusal → Type 0
Untouched (Ok demand) = (r : Resident) → touched_by demand r ≡ None
Untouched (Err refusal) = Unit {0}

asks-untouched : (judged : Result Ask Refusal) → Untouched (demands judged)
asks-untouched (Ok ask) = λ r. refl
asks-untouched (Err refusal) = tt

if-untouched : (b : Bool) (x y : Result Demand Refusal) → Untouched x → Untouched y → Untouched (if b then x else y)
if-untouched true x y f g = f
if-untouched false x y f g = g

compositor-untouched : (r : Resident) (object version : ℕ) (request : WlCompositorRequest) → Untouched (demand_of r object version (wl_compositor_request request))
compositor-untouched r object version (compositor.CreateSurface id) = asks-untouched (surface_created r id version)
compositor-untouched r object version (compositor.CreateRegion id) =
    asks-untouched (owns (action_of (known_of r.peer) object version (ToCompositor (compositor.CreateRegion id))))

seat-untouched : (r : Resident) (object version : ℕ) (request : WlSeatRequest) → Untouched (demand_of r object version (wl_seat_request request))
seat-untouched r object version (seat.GetPointer id) = λ q. refl
seat-untouched r object version (seat.GetKeyboard id) = tt
seat-untouched r object version (seat.GetTouch id) = tt

pointer-untouched : (r : Resident) (object version : ℕ) (request : WlPointerRequest) → Untouched (demand_of r object version (wl_pointer_request request))
pointer-untouched r object version (pointer.SetCursor serial surface x y) =
    if-untouched (surface == 0) _ _ (λ q. refl)
    (if-untouched (is_no_cursor (role_of r surface) || is_some (xdg_of surface r.owned.shell)) (refuses object HasAnotherRole) _ tt (λ q. refl))

subcompositor-untouched : (r : Resident) (object version : ℕ) (request : WlSubcompositorRequest) → Untouched (demand_of r object version (wl_subcompositor_request request))
subcompositor-untouched r object version subcompositor.Destroy = λ q. refl
subcompositor-untouched r object version (subcompositor.GetSubsurface id child parent) =
    if-untouched (is_too_deep r.owned.surfaces child parent) past_limit _ tt
    (if-untouched (is_no_subsurface (role_of r child) || (has_subsurface child r || is_some (xdg_of child r.owned.shell))) _ _ tt
    (if-untouched (is_bad_parent r.owned.surfaces child parent) _ _ tt (λ q. refl)))

base-untouched : (r : Resident) (object version : ℕ) (request : XdgWmBaseRequest) → Untouched (demand_of r object version (xdg_wm_base_request request))
base-untouched r object version base.Destroy = asks-untouched (base_destroyed r object)
base-untouched r object version (base.CreatePositioner id) = λ q. refl
base-untouched r object version (base.GetXdgSurface id surface) = asks-untouched (xdg_surface_made r object version id surface)
base-untouched r object version (base.Pong serial) = λ q. refl

popup-untouched : (r : Resident) (x : Xdg) (version id parent : ℕ) (p : Positioner) → Untouched (popup_made r x version id parent p)
popup-untouched r x version id parent p =
    if-untouched (is_some x.role) _ _ tt
    (if-untouched (is_no_popup (role_of r x.surface)) _ _ tt
    (if-untouched (may_be_parent (xdg_at parent r.owned.shell)) _ _ (if-untouched (is_complete p) _ _ (λ q. refl) tt) tt))

grab-untouched : (object serial : ℕ) (x : Xdg) (o : Option Popped) → Untouched (grab_of object serial x o)
grab-untouched object serial x None = tt
grab-untouched object serial x (Some p) =
    if-untouched p.popup.is_dismissed (Ok (Asks Ignore)) _ (λ q. refl) (if-untouched (is_popup_mapped p) _ _ tt (λ q. refl))

popup-grab-untouched : (r : Resident) (object by serial : ℕ) (o : Option Xdg) → Untouched (popup_asked r object o (popup.Grab by serial))
popup-grab-untouched r object by serial None = tt
popup-grab-untouched r object by serial (Some x) = grab-untouched object serial x (popup_at x.id r.owned.shell)

repositioned-untouched : (x : Xdg) (token : ℕ) (p : Positioner) (o : Option Popped) → Untouched (repositioned_by x token p o)
repositioned-untouched x token p None = tt
repositioned-untouched x token p (Some q) =
    if-untouched (is_configured q && is_full x.configures) _ _ tt (if-untouched (is_complete p) _ _ (λ r. refl) tt)

popup-reposition-untouched : (r : Resident) (object positioner token : ℕ) (o : Option Xdg) → Untouched (popup_asked r object o (popup.Reposition positioner token))
popup-reposition-untouched r object positioner token None = tt
popup-reposition-untouched r object positioner token (Some x) = repositioned-untouched x token (positioner_of (r.peer.positioners positioner)) (popup_at x.id r.owned.shell)

xdg-asked-untouched : (r : Resident) (o : Option Xdg) (version : ℕ) (request : XdgSurfaceRequest) → Untouched (xdg_asked r o version request)
xdg-asked-untouched r None version request = tt
xdg-asked-untouched r (Some x) version requests.Destroy = asks-untouched (xdg_surface_destroyed x)
xdg-asked-untouched r (Some x) version (requests.GetToplevel id) = asks-untouched (toplevel_made r x version id)
xdg-asked-untouched r (Some x) version (requests.GetPopup id parent positioner) = popup-untouched r x version id parent (positioner_of (r.peer.positioners positioner))
xdg-asked-untouched r (Some x) version (requests.SetWindowGeometry a b width height) = asks-untouched (geometry_set x (rect a b width height))
xdg-asked-untouched r (Some x) version (requests.AckConfigure serial) = asks-untouched (acknowledged_by x serial)

xdg-untouched : (r : Resident) (object version : ℕ) (request : XdgSurfaceRequest) → Untouched (demand_of r object version (xdg_surface_request request))
xdg-untouched r object version (requests.GetPopup id parent positioner) =
    xdg-asked-untouched r (xdg_at object r.owned.shell) version (requests.GetPopup id parent positioner)
xdg-untouched r object version requests.Destroy = xdg-asked-untouched r (xdg_at object r.owned.shell) version requests.Destroy
xdg-untouched r object version (requests.GetToplevel id) = xdg-asked-untouched r (xdg_at object r.owned.shell) version (requests.GetToplevel id)
xdg-untouched r object version (requests.SetWindowGeometry a b width height) =
    xdg-asked-untouched r (xdg_at object r.owned.shell) version (requests.SetWindowGeometry a b width height)
xdg-untouched r object version (requests.AckConfigure serial) = xdg-asked-untouched r (xdg_at object r.owned.shell) version (requests.AckConfigure serial)

moved-untouched : (serial : ℕ) (o : Option Xdg) → Untouched (moved_by_pointer serial o)
moved-untouched serial None = tt
moved-untouched serial (Some x) = λ q. refl

-- a request of a toplevel that isn't its end
toplevel-untouched : (object : ℕ) (o : Option Xdg) (request : ToplevelRequest) → (asked_by request ≡ Destruction → ⊥) → Untouched (toplevel_asked object o request)
toplevel-untouched object o toplevel.Destroy other = absurd (other refl)
toplevel-untouched object o (toplevel.Move seat serial) other = moved-untouched serial o
toplevel-untouched object o toplevel.SetMaximized other = asks-untouched (state_asked o)
toplevel-untouched object o toplevel.UnsetMaximized other = asks-untouched (state_asked o)
toplevel-untouched object o (toplevel.SetFullscreen output) other = asks-untouched (state_asked o)
toplevel-untouched object o toplevel.UnsetFullscreen other = asks-untouched (state_asked o)
toplevel-untouched object None request other = tt
toplevel-untouched object (Some x) request other = λ q. refl

placed-untouched : (object parent : ℕ) (request : Member → Asking) (o : Option Member) → Untouched (placed_beside object parent request o)
placed-untouched object parent request None = tt
placed-untouched object parent request (Some member) = λ q. refl

-- one of the client's own interfaces
own-judged : (interface : Interface) (r : Resident) (object version : ℕ) (m : Message) → is_own interface ≡ true → m.interface ≡ interface
    → demand_of r object version m ≡ demands (owns (action_of (known_of r.peer) object version (request_of m)))
own-judged WlDisplay r object version m own is = rw is refl
own-judged WlRegistry r object version m own is = rw is refl
own-judged WlRegion r object version m own is = rw is refl
own-judged WlShm r object version m own is = rw is refl
own-judged WlShmPool r object version m own is = rw is refl
own-judged WlBuffer r object version m own is = rw is refl
own-judged XdgPositioner r object version m own is = rw is refl
own-judged interface r object version m own is = absurd (cc)

own-untouched : (r : Resident) (object version : ℕ) (m : Message) → is_own m.interface ≡ true → Untouched (demand_of r object version m)
own-untouched r object version m own =
    subst (λ (j : Result Demand Refusal). Untouched j) (sym (own-judged m.interface r object version m own refl))
    (asks-untouched (owns (action_of (known_of r.peer) object version (request_of m))))

judged-untouched : (r : Resident) (object version : ℕ) (m n : Message) → n ≡ m → Untouched (demand_of r object version n) → Untouched (demand_of r object version m)
judged-untouched r object version m n is none = subst (λ (x : Message). Untouched (demand_of r object version x)) is none

-- ---- what is demanded of a surface

-- a request of a wl_surface
surface-judged : (r : Resident) (object version : ℕ) (m : Message) (request : WlSurfaceRequest) → m ≡ wl_surface_request request
    → demand_of r object version m ≡ surface_demand r object version request
surface-judged r object version m request is =
    ap (demand_of r object version) is
    ∙ ap (λ (q : Request). demand_by q r object version) (of-wl_surface request)

-- if it isn't refused, it demands this
abbrev IsOnly : Demand → Result Demand Refusal → Type 0
IsOnly demand (Ok other) = other ≡ demand
IsOnly demand (Err refusal) = Unit {0}

is-only : (demand other : Demand) (judged : Result Demand Refusal) → IsOnly demand judged → judged ≡ Ok other → other ≡ demand
is-only demand other judged only e = subst (λ (j : Result Demand Refusal). IsOnly demand j) e only

if-only : (demand : Demand) (b : Bool) (x y : Result Demand Refusal) → IsOnly demand x → IsOnly demand y → IsOnly demand (if b then x else y)
if-only demand true x y f g = f
if-only demand false x y f g = g

commit-only : (object : ℕ) (o : Option Xdg) (effect : Effect) → IsOnly (CommitTree object) (committed_by o object effect)
commit-only object None effect = refl
commit-only object (Some x) Unconfigured = tt
commit-only object (Some x) Configures = if-only (CommitTree object) (is_full x.configures) past_limit _ tt refl
commit-only object (Some x) Stays = refl
commit-only object (Some x) Maps = refl
commit-only object (Some x) Unmaps = refl

-- where the buffer is whole, as without that
whole-only : (demand : Demand) (b : Bool) (object : ℕ) (judged : Result Demand Refusal) → IsOnly demand judged → IsOnly demand (if_whole b object judged)
whole-only demand true object judged only = only
whole-only demand false object (Ok other) only = tt
whole-only demand false object (Err refusal) only = tt

-- ---- what is demanded of a wl_subsurface

subsurface-judged : (r : Resident) (object version : ℕ) (m : Message) (request : WlSubsurfaceRequest) → m ≡ wl_subsurface_request request
    → demand_of r object version m ≡ demand_by_link r object (link_of_subsurface object r) request
subsurface-judged r object version m request is =
    ap (demand_of r object version) is
    ∙ ap (λ (q : Request). demand_by q r object version) (of-wl_subsurface request)

synced-untouched : (r : Resident) (object : ℕ) (o : Option Link) → Untouched (demand_by_link r object o subsurface.SetSync)
synced-untouched r object None = λ q. refl
synced-untouched r object (Some l) = λ q. refl

moved-by-untouched : (r : Resident) (object : ℕ) (x y : ℤ) (o : Option Link) → Untouched (demand_by_link r object o (subsurface.SetPosition x y))
moved-by-untouched r object x y None = λ q. refl
moved-by-untouched r object x y (Some l) = λ q. refl

above-untouched : (r : Resident) (object sibling : ℕ) (o : Option Link) → Untouched (demand_by_link r object o (subsurface.PlaceAbove sibling))
above-untouched r object sibling None = λ q. refl
above-untouched r object sibling (Some l) = placed-untouched object l.parent (PlaceAbove l.number) (beside r.owned.surfaces l sibling)

below-untouched : (r : Resident) (object sibling : ℕ) (o : Option Link) → Untouched (demand_by_link r object o (subsurface.PlaceBelow sibling))
below-untouched r object sibling None = λ q. refl
below-untouched r object sibling (Some l) = placed-untouched object l.parent (PlaceBelow l.number) (beside r.owned.surfaces l sibling)

-- ---- a message

module _ {A : Type 0} (v : Kept A) (r : Resident) (is : IsResident v r) (orderly : OwnsOrdered r) where
  -- nothing is touched
  none-touched : (T : Touch → Type 0) (touched : Option ℕ) (demand : Demand) → touched_by demand r ≡ None → touched ≡ None → ((touch : Touch) → T touch → ⊥) → Touches v r T touched demand
  none-touched T touched demand none untouched never = record {
    named = inl (none, untouched);
    is_touch = subst (λ (o : Option ℕ). IsTouchIf T o demand) (sym untouched) never;
    demanded = λ touch it. absurd (never touch it);
  }

  -- this is touched
  one-touched : (T : Touch → Type 0) (touched : Option ℕ) (demand : Demand) (id number : ℕ) → touched_by demand r ≡ Some id → touched ≡ Some number → kept_numbers v id ≡ Some number
      → IsTouchFor T number demand → ((touch : Touch) → T touch → IsDemandOf v r touch demand) → Touches v r T touched demand
  one-touched T touched demand id number touches there named its demanded = record {
    named = inr (id, number, touches, there, named);
    is_touch = subst (λ (o : Option ℕ). IsTouchIf T o demand) (sym there) its;
    demanded = demanded;
  }

  -- ---- that passes

  module _ (object version size target : ℕ) (m : Message) (passes : Passes v.client object version size target m) (demand : Demand)
      (told : IsDemanded (split_of r.peer.rest) r demand) where
    abbrev left : Resident
    left = with_peer (with_rest (drop size r.peer.rest) r.peer) r

    judged : demand_of left object version m ≡ Ok demand
    judged =
        sym (demanded-first v r object version size target m passes is)
        ∙ subst (λ (s : Split). IsDemanded s r demand) (whole-first v r object version size target m passes is) told

    untouched : (T : Touch → Type 0) (touched : Option ℕ) → Untouched (demand_of left object version m) → touched ≡ None → ((touch : Touch) → T touch → ⊥)
        → Touches v r T touched demand
    untouched T touched none there never =
        none-touched T touched demand (subst (λ (j : Result Demand Refusal). Untouched j) judged none r) there never

    -- ---- of a wl_surface

    surface-of-wl : (request : WlSurfaceRequest) → (wl_surface_request request).interface ≡ WlSurface
    surface-of-wl surface.Destroy = refl
    surface-of-wl request = refl

    surface-named : (request : WlSurfaceRequest) → m ≡ wl_surface_request request → kept_numbers v object ≡ Some target
    surface-named request is_it =
        named-by v.client.objects object target _ passes.entry (ap (λ (n : Message). n.interface) is_it ∙ surface-of-wl request) refl

    surface-asks : (request : WlSurfaceRequest) → m ≡ wl_surface_request request → surface_demand left object version request ≡ Ok demand
    surface-asks request is_it = sym (surface-judged left object version m request is_it) ∙ judged

    -- one that touches no other surface
    surface-untouched : (T : Touch → Type 0) (request : WlSurfaceRequest) → m ≡ wl_surface_request request → (touched : Option ℕ) → Untouched (surface_demand left object version request)
        → touched ≡ None → ((touch : Touch) → T touch → ⊥) → Touches v r T touched demand
    surface-untouched T request is_it touched none there never =
        untouched T touched (subst (λ (j : Result Demand Refusal). Untouched j) (sym (surface-judged left object version m request is_it)) none) there never

    surface-touches : (request : WlSurfaceRequest) → m ≡ wl_surface_request request → (touched : Option ℕ) → IsTouchedIn v object target (kind.Surface request) touched
        → Touches v r (IsTouchOf (kind.Surface request) object target v) touched demand
    surface-touches surface.Commit is_it touched there =
        let named = surface-named surface.Commit is_it in
        let e : demand ≡ CommitTree object =
        is-only (CommitTree object) demand (surface_demand left object version surface.Commit)
        (whole-only (CommitTree object) (will_be_whole left object) object _ (commit-only object (xdg_of object left.owned.shell) (effect_of_commit left object)))
        (surface-asks surface.Commit is_it) in
        subst (λ (d : Demand). Touches v r (λ touch. touch ≡ Commits target) touched d) (sym e)
        (one-touched (λ touch. touch ≡ Commits target) touched (CommitTree object) object target refl there named (Commits target, refl, refl)
        (λ touch same. subst (λ (t : Touch). IsDemandOf v r t (CommitTree object)) (sym same) (object, refl, named)))
    surface-touches surface.Destroy is_it touched there =
        let named = surface-named surface.Destroy is_it in
        let e : demand ≡ EndSurface object =
        is-only (EndSurface object) demand (surface_demand left object version surface.Destroy)
        (if-only (EndSurface object) (is_some (xdg_of object left.owned.shell)) _ (Ok (EndSurface object)) tt refl) (surface-asks surface.Destroy is_it) in
        subst (λ (d : Demand). Touches v r (λ touch. touch ≡ Destroys target) touched d) (sym e)
        (one-touched (λ touch. touch ≡ Destroys target) touched (EndSurface object) object target refl there named (Destroys target, refl, refl)
        (λ touch same. subst (λ (t : Touch). IsDemandOf v r t (EndSurface object)) (sym same) (object, refl, named)))
    surface-touches (surface.Attach buffer x y) is_it touched there = surface-untouched (λ touch. ⊥) (surface.Attach buffer x y) is_it touched (λ q. refl) there (λ touch it. it)
    surface-touches (surface.Damage x y width height) is_it touched there = surface-untouched (λ touch. ⊥) (surface.Damage x y width height) is_it touched (λ q. refl) there (λ touch it. it)
    surface-touches (surface.Frame callback) is_it touched there = surface-untouched (λ touch. ⊥) (surface.Frame callback) is_it touched (λ q. refl) there (λ touch it. it)
    surface-touches (surface.SetOpaqueRegion region) is_it touched there = surface-untouched (λ touch. ⊥) (surface.SetOpaqueRegion region) is_it touched (λ q. refl) there (λ touch it. it)
    surface-touches (surface.SetInputRegion region) is_it touched there = surface-untouched (λ touch. ⊥) (surface.SetInputRegion region) is_it touched (λ q. refl) there (λ touch it. it)
    surface-touches (surface.SetBufferTransform transform) is_it touched there =
        surface-untouched (λ touch. ⊥) (surface.SetBufferTransform transform) is_it touched (asks-untouched (transform_set object transform)) there (λ touch it. it)
    surface-touches (surface.SetBufferScale scale) is_it touched there =
        surface-untouched (λ touch. ⊥) (surface.SetBufferScale scale) is_it touched (asks-untouched (scale_set object scale)) there (λ touch it. it)
    surface-touches (surface.DamageBuffer x y width height) is_it touched there =
        surface-untouched (λ touch. ⊥) (surface.DamageBuffer x y width height) is_it touched (λ q. refl) there (λ touch it. it)

    -- ---- of a wl_subsurface

    linked-judged : (request : WlSubsurfaceRequest) → m ≡ wl_subsurface_request request → demand_by_link left object (link_of_subsurface object r) request ≡ Ok demand
    linked-judged request is_it = sym (subsurface-judged left object version m request is_it) ∙ judged

    -- one that touches no surface
    linked-untouched : (T : Touch → Type 0) (request : WlSubsurfaceRequest) → m ≡ wl_subsurface_request request → (touched : Option ℕ)
        → Untouched (demand_by_link left object (link_of_subsurface object r) request) → touched ≡ None → ((touch : Touch) → T touch → ⊥) → Touches v r T touched demand
    linked-untouched T request is_it touched none there never =
        untouched T touched (subst (λ (j : Result Demand Refusal). Untouched j) (sym (subsurface-judged left object version m request is_it)) none) there never

    -- no other surface keeps the id of the wl_subsurface
    only-child : (child : ℕ) → IsChildOf v object (Some child) → IsOnlyChild v object child
    only-child child of = (of, λ other here. only-number v.subsurfaces (kept_numbers v) r.subsurfaces object other child is.subsurfaces here of.0)

    -- what is asked of one whose link has ended is asked of none
    never-child : IsChildOf v object None → (child : ℕ) → IsOnlyChild v object child → ⊥
    never-child none child only =
        let its = link-of-child v r is orderly object child only.0 in
        none-some its.link (sym (no-link-of v r is orderly object none) ∙ its.of_object)

    ended-touches : m ≡ wl_subsurface_request subsurface.Destroy → (touched : Option ℕ) → IsChildOf v object touched
        → Touches v r (IsTouchOf (kind.Subsurface subsurface.Destroy) object target v) touched demand
    ended-touches is_it touched of = at touched of
      where
        e : demand ≡ EndSubsurface object
        e = is-only (EndSubsurface object) demand (Ok (EndSubsurface object)) refl (linked-judged subsurface.Destroy is_it)

        touched-is : (o : Option Link) → link_of_subsurface object r ≡ o → touched_by demand r ≡ option_map (λ (l : Link). l.child) o
        touched-is o its = ap (λ (d : Demand). touched_by d r) e ∙ ap (option_map (λ (l : Link). l.child)) its

        at : (touched : Option ℕ) → IsChildOf v object touched → Touches v r (IsTouchOf (kind.Subsurface subsurface.Destroy) object target v) touched demand
        at None none =
            none-touched (IsTouchOf (kind.Subsurface subsurface.Destroy) object target v) None demand (touched-is None (no-link-of v r is orderly object none)) refl
            (λ touch it. never-child none it.0 it.1)
        at (Some child) of =
            let its = link-of-child v r is orderly object child of in
            one-touched (IsTouchOf (kind.Subsurface subsurface.Destroy) object target v) (Some child) demand its.link.child child (touched-is (Some its.link) its.of_object) refl its.named
            (subst (λ (d : Demand). IsTouchFor (IsTouchOf (kind.Subsurface subsurface.Destroy) object target v) child d) (sym e) (Parts child, (child, only-child child of, refl), refl))
            (λ touch it. subst (λ (t : Touch). IsDemandOf v r t demand) (sym it.2) (object, e, link-of-child v r is orderly object it.0 it.1.0))

    freed-touches : m ≡ wl_subsurface_request subsurface.SetDesync → (touched : Option ℕ) → IsChildOf v object touched
        → Touches v r (IsTouchOf (kind.Subsurface subsurface.SetDesync) object target v) touched demand
    freed-touches is_it touched of = at touched of
      where
        asks : (o : Option Link) → link_of_subsurface object r ≡ o → demand_by_link left object o subsurface.SetDesync ≡ Ok demand
        asks o its = ap (λ (o : Option Link). demand_by_link left object o subsurface.SetDesync) (sym its) ∙ linked-judged subsurface.SetDesync is_it

        e : (child : ℕ) (its : IsLinkOf v r object child) → demand ≡ SetMode its.link.number false
        e child its = is-only (SetMode its.link.number false) demand (Ok (SetMode its.link.number false)) refl (asks (Some its.link) its.of_object)

        at : (touched : Option ℕ) → IsChildOf v object touched → Touches v r (IsTouchOf (kind.Subsurface subsurface.SetDesync) object target v) touched demand
        at None none =
            none-touched (IsTouchOf (kind.Subsurface subsurface.SetDesync) object target v) None demand
            (ap (λ (d : Demand). touched_by d r) (is-only (Asks Ignore) demand (Ok (Asks Ignore)) refl (asks None (no-link-of v r is orderly object none)))) refl
            (λ touch it. never-child none it.0 it.1)
        at (Some child) of =
            let its = link-of-child v r is orderly object child of in
            one-touched (IsTouchOf (kind.Subsurface subsurface.SetDesync) object target v) (Some child) demand its.link.child child
            (ap (λ (d : Demand). touched_by d r) (e child its) ∙ ap (option_map (λ (l : Link). l.child)) its.here) refl its.named
            (subst (λ (d : Demand). IsTouchFor (IsTouchOf (kind.Subsurface subsurface.SetDesync) object target v) child d) (sym (e child its))
            (Releases child, (child, only-child child of, refl), refl))
            (λ touch it.
            let other = link-of-child v r is orderly object it.0 it.1.0 in
            subst (λ (t : Touch). IsDemandOf v r t demand) (sym it.2) (object, other, e it.0 other))

    subsurface-touches : (request : WlSubsurfaceRequest) → m ≡ wl_subsurface_request request → (touched : Option ℕ) → IsTouchedIn v object target (kind.Subsurface request) touched
        → Touches v r (IsTouchOf (kind.Subsurface request) object target v) touched demand
    subsurface-touches subsurface.Destroy is_it touched of = ended-touches is_it touched of
    subsurface-touches subsurface.SetDesync is_it touched of = freed-touches is_it touched of
    subsurface-touches subsurface.SetSync is_it touched there =
        linked-untouched (λ touch. ⊥) subsurface.SetSync is_it touched (synced-untouched left object (link_of_subsurface object r)) there (λ touch it. it)
    subsurface-touches (subsurface.SetPosition x y) is_it touched there =
        linked-untouched (λ touch. ⊥) (subsurface.SetPosition x y) is_it touched (moved-by-untouched left object x y (link_of_subsurface object r)) there (λ touch it. it)
    subsurface-touches (subsurface.PlaceAbove sibling) is_it touched there =
        linked-untouched (λ touch. ⊥) (subsurface.PlaceAbove sibling) is_it touched (above-untouched left object sibling (link_of_subsurface object r)) there (λ touch it. it)
    subsurface-touches (subsurface.PlaceBelow sibling) is_it touched there =
        linked-untouched (λ touch. ⊥) (subsurface.PlaceBelow sibling) is_it touched (below-untouched left object sibling (link_of_subsurface object r)) there (λ touch it. it)

    -- ---- of an xdg_toplevel

    other-touches : (t : ToplevelAsked) → m.interface ≡ XdgToplevel → t ≡ asked_by (toplevel_request m.opcode m.fields) → (t ≡ Destruction → ⊥) → (touched : Option ℕ) → touched ≡ None
        → Touches v r (λ touch. ⊥) touched demand
    other-touches t i is_it other touched there =
        untouched (λ touch. ⊥) touched
        (subst (λ (j : Result Demand Refusal). Untouched j) (sym (toplevel-of left object version m i))
        (toplevel-untouched object (xdg_with object r.owned.shell) (toplevel_request m.opcode m.fields) (λ same. other (is_it ∙ same))))
        there (λ touch it. it)

    toplevel-touches : (t : ToplevelAsked) → m.interface ≡ XdgToplevel → t ≡ asked_by (toplevel_request m.opcode m.fields) → (touched : Option ℕ)
        → IsTouchedIn v object target (kind.Toplevel t) touched
        → Touches v r (IsTouchOf (kind.Toplevel t) object target v) touched demand
    toplevel-touches Destruction i is_it touched there =
        let request = toplevel_request m.opcode m.fields in
        let named : targets_in XdgToplevel v.client.objects object ≡ Some target =
        ap (option_and_then (target_as XdgToplevel)) passes.entry ∙ ap (λ (n : Interface). target_as XdgToplevel (record { interface = n; version = version; target = target })) i in
        let its =
        toplevel-named (names_of v.client.objects) v.owned.surfaces.states v.owned.surfaces.family (kept_of v.owned.shell) r.owned is.owns object target
        (roles-named.toplevel v.client.objects object target named) in
        let e : demand ≡ EndToplevel object its.1.id its.1.surface =
        is-only (EndToplevel object its.1.id its.1.surface) demand (Ok (EndToplevel object its.1.id its.1.surface)) refl
        (ap (toplevel_destroyed object) (sym its.4)
        ∙ (ap (toplevel_asked object (xdg_with object r.owned.shell)) (sym (toplevel-destroy request (sym is_it))) ∙ (sym (toplevel-of left object version m i) ∙ judged))) in
        subst (λ (d : Demand). Touches v r (λ touch. ⊥) touched d) (sym e)
        (one-touched (λ touch. ⊥) touched (EndToplevel object its.1.id its.1.surface) its.1.surface target refl there its.3.surface (λ touch it. it) (λ touch it. absurd it))
    toplevel-touches Configure i is_it touched there = other-touches Configure i is_it (λ same. absurd (cc)) touched there
    toplevel-touches (AskedMove serial) i is_it touched there = other-touches (AskedMove serial) i is_it (λ same. absurd (cc)) touched there
    toplevel-touches Nothing i is_it touched there = other-touches Nothing i is_it (λ same. absurd (cc)) touched there

    -- ---- of an xdg_popup

    popup-touches : (request : XdgPopupRequest) → m ≡ xdg_popup_request request → (touched : Option ℕ) → IsTouchedIn v object target (kind.Popup request) touched
        → Touches v r (IsTouchOf (kind.Popup request) object target v) touched demand
    popup-touches popup.Destroy is_it touched there =
        let named : targets_in XdgPopup v.client.objects object ≡ Some target =
        ap (option_and_then (target_as XdgPopup)) passes.entry
        ∙ ap (λ (n : Message). target_as XdgPopup (record { interface = n.interface; version = version; target = target })) is_it in
        let its =
        toplevel-named (names_of v.client.objects) v.owned.surfaces.states v.owned.surfaces.family (kept_of v.owned.shell) r.owned is.owns object target
        (roles-named.popup v.client.objects object target named) in
        let asks : popup_asked left object (xdg_with object r.owned.shell) popup.Destroy ≡ Ok demand =
        subst (λ (n : Message). demand_of left object version n ≡ Ok demand) is_it judged in
        let e : demand ≡ EndPopup object its.1.id =
        is-only (EndPopup object its.1.id) demand (popup_destroyed left object its.1)
        (if-only (EndPopup object its.1.id) (is_parent its.1.id left.owned.shell) _ (Ok (EndPopup object its.1.id)) tt refl)
        (ap (λ (o : Option Xdg). popup_asked left object o popup.Destroy) (sym its.4) ∙ asks) in
        subst (λ (d : Demand). Touches v r (λ touch. touch ≡ Closes target) touched d) (sym e)
        (one-touched (λ touch. touch ≡ Closes target) touched (EndPopup object its.1.id) its.1.surface target (ap (option_map (λ (x : Xdg). x.surface)) its.3.at_id) there its.3.surface
        (Closes target, refl, refl) (λ touch same. subst (λ (t : Touch). IsDemandOf v r t (EndPopup object its.1.id)) (sym same) (object, its.1.id, refl)))
    popup-touches (popup.Grab by serial) is_it touched there =
        untouched (λ touch. ⊥) touched
        (judged-untouched left object version m (xdg_popup_request (popup.Grab by serial)) (sym is_it) (popup-grab-untouched left object by serial (xdg_with object left.owned.shell))) there
        (λ touch it. it)
    popup-touches (popup.Reposition positioner token) is_it touched there =
        untouched (λ touch. ⊥) touched
        (judged-untouched left object version m (xdg_popup_request (popup.Reposition positioner token)) (sym is_it)
        (popup-reposition-untouched left object positioner token (xdg_with object left.owned.shell))) there (λ touch it. it)

    -- ---- of whatever interface

    by-kind : (k : Kind) → IsKind k m → (touched : Option ℕ) → IsTouchedIn v object target k touched → Touches v r (IsTouchOf k object target v) touched demand
    by-kind (kind.Surface request) is_it touched there = surface-touches request is_it touched there
    by-kind (kind.Subsurface request) is_it touched there = subsurface-touches request is_it touched there
    by-kind (kind.Popup request) is_it touched there = popup-touches request is_it touched there
    by-kind (kind.Toplevel t) is_it touched there = toplevel-touches t is_it.0 is_it.1 touched there
    by-kind (kind.Compositor request) is_it touched there =
        untouched (λ touch. ⊥) touched (judged-untouched left object version m _ (sym is_it) (compositor-untouched left object version request)) there (λ touch it. it)
    by-kind (kind.Subcompositor request) is_it touched there =
        untouched (λ touch. ⊥) touched (judged-untouched left object version m _ (sym is_it) (subcompositor-untouched left object version request)) there (λ touch it. it)
    by-kind (kind.Seat request) is_it touched there =
        untouched (λ touch. ⊥) touched (judged-untouched left object version m _ (sym is_it) (seat-untouched left object version request)) there (λ touch it. it)
    by-kind (kind.Pointer request) is_it touched there =
        untouched (λ touch. ⊥) touched (judged-untouched left object version m _ (sym is_it) (pointer-untouched left object version request)) there (λ touch it. it)
    by-kind (kind.Base request) is_it touched there =
        untouched (λ touch. ⊥) touched (judged-untouched left object version m _ (sym is_it) (base-untouched left object version request)) there (λ touch it. it)
    by-kind (kind.XdgSurface request) is_it touched there =
        untouched (λ touch. ⊥) touched (judged-untouched left object version m _ (sym is_it) (xdg-untouched left object version request)) there (λ touch it. it)

  -- ---- that is refused

  refused-demands : (s : Split) (refusal : Refusal) (demand : Demand) → IsRefused s v.client refusal → IsDemanded s r demand → ⊥
  refused-demands (Whole object opcode size) refusal demand why told =
      let judged = judged-refused r.peer.objects r.peer.held (λ version m. demand_of r object version m) opcode (take (size - 8) (drop 8 r.peer.rest)) (r.peer.objects object) refusal
      (passing-peer v.client r.peer object opcode size (Err refusal) is.peer why) in
      let both : Result.Err refusal ≡ Ok demand = sym judged ∙ told in
      absurd (cc)
  refused-demands Bad refusal demand why told = told
  refused-demands More refusal demand why told = told

  -- ---- whatever is asked

  pub touches : (a : Asked) (demand : Demand) (touched : Option ℕ) → IsAsked v.client a → IsDemanded (split_of r.peer.rest) r demand → IsTouchedBy v a touched
      → Touches v r (IsTouchOfAsked a v) touched demand
  touches asked.More demand touched more told there = absurd (subst (λ (s : Split). IsDemanded s r demand) (ap split_of (sym is.peer.rest) ∙ more) told)
  touches (asked.Refused refusal) demand touched why told there =
      absurd (refused-demands (split_of v.client.rest) refusal demand why (subst (λ (rest : List ℕ). IsDemanded (split_of rest) r demand) (sym is.peer.rest) told))
  touches (asked.Own size j) demand touched own told there =
      let m = request_message own.request in
      untouched own.object own.version size own.target m own.passes demand told (λ touch. ⊥) touched
      (own-untouched (with_peer (with_rest (drop size r.peer.rest) r.peer) r) own.object own.version m own.own) there (λ touch it. it)
  touches (asked.Request object version size target k) demand touched (m, passes, is_it) told there =
      by-kind object version size target m passes demand told k is_it touched there

-- The surface that a message touches is the one that is taken for it, by its number.
pub touch-named : {A : Type 0} (v : Kept A) (r : Resident) (a : Asked) (demand : Demand) (touched : Option ℕ) → IsResident v r → OwnsOrdered r → IsAsked v.client a
    → IsDemanded (split_of r.peer.rest) r demand → IsTouchedBy v a touched → IsTouchNamed v r demand touched
touch-named v r a demand touched is orderly asks told by = (touches v r is orderly a demand touched asks told by).named

-- And the request is one of that surface that may change what several show, unless it is the end of a toplevel; where none is touched it is none.
pub touch-is : {A : Type 0} (v : Kept A) (r : Resident) (a : Asked) (demand : Demand) (touched : Option ℕ) → IsResident v r → OwnsOrdered r → IsAsked v.client a
    → IsDemanded (split_of r.peer.rest) r demand → IsTouchedBy v a touched → IsTouchIf (IsTouchOfAsked a v) touched demand
touch-is v r a demand touched is orderly asks told by = (touches v r is orderly a demand touched asks told by).is_touch

-- the surface of such a request is the one that is taken for it
touch-in : {A : Type 0} (v : Kept A) (object target : ℕ) (k : Kind) (touch : Touch) → IsTouchOf k object target v touch → IsTouchedIn v object target k (Some (surface_of touch))
touch-in v object target (kind.Surface surface.Commit) touch it = ap (λ (t : Touch). Some (surface_of t)) it
touch-in v object target (kind.Surface surface.Destroy) touch it = ap (λ (t : Touch). Some (surface_of t)) it
touch-in v object target (kind.Subsurface subsurface.Destroy) touch it = subst (λ (t : Touch). IsChildOf v object (Some (surface_of t))) (sym it.2) it.1.0
touch-in v object target (kind.Subsurface subsurface.SetDesync) touch it = subst (λ (t : Touch). IsChildOf v object (Some (surface_of t))) (sym it.2) it.1.0
touch-in v object target (kind.Popup popup.Destroy) touch it = ap (λ (t : Touch). Some (surface_of t)) it
touch-in v object target (kind.Toplevel Destruction) touch it = absurd it
touch-in v object target k touch it = absurd it

touch-by : {A : Type 0} (v : Kept A) (a : Asked) (touch : Touch) → IsTouchOfAsked a v touch → IsTouchedBy v a (Some (surface_of touch))
touch-by v (asked.Request object version size target k) touch it = touch-in v object target k touch it
touch-by v a touch it = absurd it

-- Such a request demands what changes the surfaces so.
pub touch-demands : {A : Type 0} (v : Kept A) (r : Resident) (a : Asked) (demand : Demand) (touch : Touch) → IsResident v r → OwnsOrdered r → IsAsked v.client a
    → IsDemanded (split_of r.peer.rest) r demand → IsTouchOfAsked a v touch → IsDemandOf v r touch demand
touch-demands v r a demand touch is orderly asks told it = (touches v r is orderly a demand (Some (surface_of touch)) asks told (touch-by v a touch it)).demanded touch it

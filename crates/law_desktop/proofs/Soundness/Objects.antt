-- What a client owns goes on being known by the ids of its objects, whatever an accepted message does.
use Rattle.std.proofs.Common.{◌≡◌, ℕ, Bool, true, false, List, Option, Some, None, cond, refl, ap, sym, subst, ◌∙◌, map, inl, inr}
use Rattle.std.proofs.lemmas.Bool.{true≢false}
use Rattle.std.specs.Prelude.{◌==◌, filter}
use Rattle.wl_proto.specs.declared.interface.Interface.{Interface}
use Rattle.wl_proto.specs.declared.interface.Interface.TheVariants as of
use Rattle.spec_desktop.specs.declared.actions.Action.{Action}
use Rattle.spec_desktop.specs.declared.actions.Action.TheVariants.{GetRegistry, Bind, CreateRegion, DestroyRegion, CreatePool, CreateBuffer, DestroyPool}
use Rattle.spec_desktop.specs.declared.actions.Action.TheVariants.{DestroyBuffer, CreatePositioner, DestroyPositioner}
use Rattle.spec_desktop.specs.Objects.{Objects, is_of, with_id}
use Rattle.spec_desktop.specs.Peer.{Peer, object_at_version, changed}
use Rattle.spec_desktop.specs.Used.{changed_with, has_used, keeps_store}
use Rattle.wl_surface.specs.FrameRequests.{frames_asked}
use Rattle.wl_surface.specs.Request.{Frame}
use Rattle.wl_surface.specs.Surface.{asking, with_role}
use Rattle.wl_surface.specs.Surfaces.{Surfaces, history_in, is_used, with_new, with_change as with_surface_change}
use Rattle.wl_surface.specs.Trees.{committed_in, desynchronised_in, destroyed_in, linked, synchronised_in}
use Rattle.wl_surface.specs.declared.role.Role.TheVariants as role
use Rattle.wl_surface.specs.Waiting.{Callback}
use Rattle.wl_shell.specs.Popups.{Popped, dismissed_among, dismissed_with, dismissing, is_parent_of, orphan, orphaning, placing, popup_changed, with_grab}
use Rattle.wl_shell.specs.Positioner.{Positioner}
use Rattle.wl_shell.specs.Shell.{Effect, Stays, Unconfigured, Configures, Maps, Unmaps, Waiting, Mapped, Shell, XdgSurface as Xdg, acknowledging, configuring, in_stage, unmapping, with_change}
use Rattle.wl_shell.specs.Shell.{without_role, xdg_at, xdg_of}
use Rattle.spec_desktop.specs.Stacking.{Owned}
use Rattle.spec_desktop.specs.Ask.{Ask, Own, CreateSurface, AskSurface, EndObject, GetXdgSurface, DestroyXdgSurface, GetToplevel, Acknowledge, ConfigureAgain, Ignore}
use Rattle.spec_desktop.specs.Changing.{after_all, is_asked, link_with_id, unlinked_at, changed_for, drawing, effect_placing, frame_asked, grab_allowed, grabbed, has_focus, in_rising_order, mode_set}
use Rattle.spec_desktop.specs.Changing.{Placing, placement_now, popup_given_to, subsurface_ended, subsurface_given, surface_ended, toplevel_ended, tree_committed, without_callbacks, without_child}
use Rattle.spec_desktop.specs.Demand.{Demand, Asks, EndSurface, AskFrame, CommitTree, GetSubsurface, EndSubsurface, SetMode, GetPointer, MakeCursor}
use Rattle.spec_desktop.specs.Demand.{GetPopup, Grab, EndPopup, EndToplevel, Move}
use Rattle.spec_desktop.specs.Demanding.{effect_of_commit}
use Rattle.spec_desktop.specs.Desktop.{Desktop, Resident, Subsurface}
use Rattle.spec_desktop.specs.Step.{asked_so_far, changed_by, configured, making, toplevel_given, with_shell, with_surfaces, xdg_changed}
use Rattle.law_desktop.proofs.Soundness.Orderly.{HasObjects, IsAllowed, IsAsked, IsNew, IsObject, IsOwn, is_no_surface}
use Rattle.law_desktop.proofs.Soundness.ObjectsCalls.{has-callbacks, is_left, left, other-left}
use Rattle.law_desktop.proofs.Soundness.ObjectsHas.{Has, HasOf, has-made, has-of, has-subsurfaces, has-surfaces, has_sub, has_toplevel, of-has}
use Rattle.law_desktop.proofs.Soundness.ObjectsKeys.{free-none, none-of-gone, objects-map}
use Rattle.law_desktop.proofs.Soundness.ObjectsNew.{has-callback-more, has-object, has-object-gone, has-popup-more, has-subsurface-gone, has-subsurface-more, has-toplevel-more, has-xdg-gone, has-xdg-more}
use Rattle.law_desktop.proofs.Soundness.ObjectsRoles.{has-popup-gone, has-toplevel-gone, only-mapped, only-popup, only-toplevel}
use Rattle.law_desktop.proofs.Soundness.ObjectsShell.{BringsNoId, has-mapped, no-id-acknowledged, no-id-arriving, no-id-repositioned, no-id-change, no-id-configured, no-id-dismissed, no-id-itself, no-id-popup, no-id-stage, no-id-then}
use Rattle.law_desktop.proofs.Soundness.ObjectsShell.{no-id-unmapped}
use Rattle.law_desktop.proofs.Soundness.ObjectsThere.{There, there-changed, there-committed, there-desynchronised, there-destroyed, there-linked, there-more, there-new, there-unlinked}
use Rattle.law_desktop.proofs.InOrder.Held.{child-id}
use Rattle.wl_shell.specs.Popups.{arriving, copying, is_configured, popup_at, repositioning, unmapped, waiting_in}
use Rattle.wl_shell.specs.Positioner.{Placed}
use Rattle.spec_desktop.specs.Changing.{popup_repositioned}
use Rattle.spec_desktop.specs.Demand.{Reposition}

-- where nothing of it changes
pub objects-same : (r q : Resident) → q.peer.objects ≡ r.peer.objects → q.owned ≡ r.owned → q.subsurfaces ≡ r.subsurfaces → q.callbacks ≡ r.callbacks → HasObjects r → HasObjects q
objects-same r q objects owned subsurfaces callbacks h =
    of-has q
    (subst (λ (o : Objects). Has o q.owned.surfaces q.subsurfaces q.owned.shell q.callbacks) (sym objects)
    (subst (λ (o : Owned). Has r.peer.objects o.surfaces q.subsurfaces o.shell q.callbacks) (sym owned)
    (subst (λ (s : List Subsurface). Has r.peer.objects r.owned.surfaces s r.owned.shell q.callbacks) (sym subsurfaces)
    (subst (λ (c : List Callback). Has r.peer.objects r.owned.surfaces r.subsurfaces r.owned.shell c) (sym callbacks) (has-of r h)))))

-- where callbacks go
pub objects-callbacks : (which : Callback → Bool) (r : Resident) → HasObjects r → HasObjects (without_callbacks (filter which r.callbacks) r)
objects-callbacks which r h =
    of-has (without_callbacks (filter which r.callbacks) r) (has-callbacks r.peer r.owned.surfaces r.subsurfaces r.owned.shell r.callbacks which (has-of r h))

-- where popups are dismissed
pub objects-dismissed : (is : Popped → Bool) (r : Resident) → HasObjects r → HasObjects (with_shell (dismissing is r.owned.shell) r)
objects-dismissed is r h =
    of-has (with_shell (dismissing is r.owned.shell) r)
    (has-mapped r.peer.objects r.owned.surfaces r.subsurfaces r.owned.shell r.callbacks (has-of r h) (dismissed_among (dismissed_with is r.owned.shell))
    (no-id-dismissed (dismissed_with is r.owned.shell)))

-- ---- what is owned changes

-- where the same surfaces are there
there-has : (r : Resident) (new : Surfaces) → There r.owned.surfaces new → HasOf r → Has r.peer.objects new r.subsurfaces r.owned.shell r.callbacks
there-has r new there h =
    has-surfaces r.peer.objects r.owned.surfaces r.subsurfaces r.owned.shell r.callbacks h new (λ id is was. there id ∙ was)

-- where an xdg_surface changes
xdg-has : (r : Resident) (id : ℕ) (change : Xdg → Xdg) → BringsNoId change → HasOf r → HasOf (xdg_changed id change r)
xdg-has r id change brings h =
    has-mapped r.peer.objects r.owned.surfaces r.subsurfaces r.owned.shell r.callbacks h (λ x. cond (x.id == id) (change x) x) (no-id-change id change brings)

configured-has : (r : Resident) (id : ℕ) → HasOf r → HasOf (configured id r)
configured-has r id h = xdg-has r id (configuring r.peer.serial) (no-id-configured r.peer.serial) h

effect-has : (where_to : Placing) (surface : ℕ) (effect : Effect) (x : Option Xdg) (q : Resident) → HasOf q → HasOf (effect_placing where_to surface effect x q)
effect-has where_to surface effect None q h = h
effect-has where_to surface Stays (Some x) q h = xdg-has q x.id (λ y. arriving (waiting_in y.role) y) no-id-arriving h
effect-has where_to surface Unconfigured (Some x) q h = xdg-has q x.id (λ y. y) no-id-itself h
effect-has where_to surface Configures (Some x) q h =
    let placed : Xdg → Xdg = λ y. popup_changed (placing where_to) (in_stage Waiting y) in
    xdg-has q x.id (λ y. configuring q.peer.serial (placed y))
    (no-id-then placed (configuring q.peer.serial) (no-id-then (in_stage Waiting) (popup_changed (placing where_to)) (no-id-stage Waiting) (no-id-popup (placing where_to)))
    (no-id-configured q.peer.serial)) h
effect-has where_to surface Maps (Some x) q h =
    xdg-has q x.id (λ y. in_stage Mapped (arriving (waiting_in y.role) y))
    (no-id-then (λ y. arriving (waiting_in y.role) y) (in_stage Mapped) no-id-arriving (no-id-stage Mapped)) h
effect-has where_to surface Unmaps (Some x) q h =
    xdg-has q x.id (λ x. popup_changed unmapped (unmapping (asked_so_far surface q) x))
    (no-id-then (unmapping (asked_so_far surface q)) (popup_changed unmapped) (no-id-unmapped (asked_so_far surface q)) (no-id-popup unmapped)) h

-- ---- the end of a surface

module _ (peer : Peer) (all : Surfaces) (subs : List Subsurface) (shell : Shell) (calls : List Callback) (which : Callback → Bool) (h : Has peer.objects all subs shell calls) (surface : ℕ) where
  has-surface-gone : is_of of.WlSurface (peer.objects surface) ≡ true
      → Has (with_id surface None (left peer all subs shell calls which h)) (destroyed_in surface all) (map (without_child surface) subs) shell (filter (is_left (filter which calls)) calls)
  has-surface-gone is =
      let objects = left peer all subs shell calls which h in
      let rest = filter (is_left (filter which calls)) calls in
      let one = has-callbacks peer all subs shell calls which h in
      let still : is_of of.WlSurface (objects surface) ≡ true = other-left peer all subs shell calls which h of.WlSurface refl surface is in
      let inert = has-subsurfaces objects all subs shell rest one (map (without_child surface) subs)
      (objects-map of.WlSubsurface has_sub objects (without_child surface) subs (λ key s e. ap (λ i. i == key) (sym (child-id surface s)) ∙ e) one.subsurfaces) in
      let gone = has-object-gone objects all (map (without_child surface) subs) shell rest inert surface of.WlSurface refl refl refl refl refl still in
      has-surfaces (with_id surface None objects) all (map (without_child surface) subs) shell rest gone (destroyed_in surface all)
      (λ id is was. there-destroyed surface all id (none-of-gone of.WlSurface objects surface id is).1 ∙ was)

-- ---- what is asked

not-surface : (interface : Interface) (version : ℕ) → is_no_surface interface ≡ true → is_of of.WlSurface (Some (object_at_version interface version)) ≡ false
not-surface of.WlSurface version e = absurd (true≢false (sym e))
not-surface interface version e = refl

own-has : (used : ℕ → Bool) (action : Action) (r : Resident) → IsOwn r action → HasOf r → Has (changed_with used action r.peer).objects r.owned.surfaces r.subsurfaces r.owned.shell r.callbacks
own-has used (GetRegistry id) r ok h = has-object r.peer.objects r.owned.surfaces r.subsurfaces r.owned.shell r.callbacks h id 1 ok of.WlRegistry refl
own-has used (Bind id interface version) r ok h =
    has-object r.peer.objects r.owned.surfaces r.subsurfaces r.owned.shell r.callbacks h id version ok.0 interface (not-surface interface version ok.1)
own-has used (CreateRegion id version) r ok h = has-object r.peer.objects r.owned.surfaces r.subsurfaces r.owned.shell r.callbacks h id version ok of.WlRegion refl
own-has used (DestroyRegion id) r ok h = has-object-gone r.peer.objects r.owned.surfaces r.subsurfaces r.owned.shell r.callbacks h id of.WlRegion refl refl refl refl refl ok
own-has used (CreatePool id version size) r ok h = has-object r.peer.objects r.owned.surfaces r.subsurfaces r.owned.shell r.callbacks h id version ok of.WlShmPool refl
own-has used (CreateBuffer id version laid) r ok h = has-object r.peer.objects r.owned.surfaces r.subsurfaces r.owned.shell r.callbacks h id version ok of.WlBuffer refl
own-has used (DestroyPool id store) r ok h = has-object-gone r.peer.objects r.owned.surfaces r.subsurfaces r.owned.shell r.callbacks h id of.WlShmPool refl refl refl refl refl ok
own-has used (CreatePositioner id version) r ok h = has-object r.peer.objects r.owned.surfaces r.subsurfaces r.owned.shell r.callbacks h id version ok of.XdgPositioner refl
own-has used (DestroyPositioner id) r ok h = has-object-gone r.peer.objects r.owned.surfaces r.subsurfaces r.owned.shell r.callbacks h id of.XdgPositioner refl refl refl refl refl ok
own-has used (DestroyBuffer id store) r ok h = at (has_used used (r.peer.buffers id))
  where
    at : (b : Bool) → Has (keeps_store b r.peer.stores (changed (DestroyBuffer id store) r.peer)).objects r.owned.surfaces r.subsurfaces r.owned.shell r.callbacks
    at true = has-object-gone r.peer.objects r.owned.surfaces r.subsurfaces r.owned.shell r.callbacks h id of.WlBuffer refl refl refl refl refl ok
    at false = has-object-gone r.peer.objects r.owned.surfaces r.subsurfaces r.owned.shell r.callbacks h id of.WlBuffer refl refl refl refl refl ok
own-has used action r ok h = h

surface-made : (id version : ℕ) (r : Resident) → IsNew id r → HasOf r
    → Has (with_id id (Some (object_at_version of.WlSurface version)) r.peer.objects) (with_new id r.owned.surfaces) r.subsurfaces r.owned.shell r.callbacks
surface-made id version r new h =
    let more = has-surfaces r.peer.objects r.owned.surfaces r.subsurfaces r.owned.shell r.callbacks h (with_new id r.owned.surfaces) (λ other is was. there-more id other r.owned.surfaces was) in
    has-made r.peer.objects (with_new id r.owned.surfaces) r.subsurfaces r.owned.shell r.callbacks more id (object_at_version of.WlSurface version)
    (λ interface. free-none interface r.peer.objects id new)
    (λ is. there-new id r.owned.surfaces)

toplevel-made : (id version xdg : ℕ) (r : Resident) (o : Option Xdg) → IsNew id r → xdg_at xdg r.owned.shell ≡ o → HasOf r → HasOf (making of.XdgToplevel id version (toplevel_given id xdg o r))
toplevel-made id version xdg r None new found h = has-object r.peer.objects r.owned.surfaces r.subsurfaces r.owned.shell r.callbacks h id version new of.XdgToplevel refl
toplevel-made id version xdg r (Some x) new found h =
    let all = with_surface_change x.surface (with_role role.Toplevel) r.owned.surfaces in
    has-toplevel-more r.peer.objects all r.subsurfaces r.owned.shell r.callbacks (there-has r all (there-changed x.surface (with_role role.Toplevel) r.owned.surfaces (λ s. refl)) h) id version new xdg
    _ x found

popup-made : (id version xdg parent : ℕ) (p : Positioner) (r : Resident) (o : Option Xdg) → IsNew id r → xdg_at xdg r.owned.shell ≡ o → HasOf r
    → HasOf (making of.XdgPopup id version (popup_given_to id xdg parent p o r))
popup-made id version xdg parent p r None new found h = has-object r.peer.objects r.owned.surfaces r.subsurfaces r.owned.shell r.callbacks h id version new of.XdgPopup refl
popup-made id version xdg parent p r (Some x) new found h =
    let all = with_surface_change x.surface (with_role role.Popup) r.owned.surfaces in
    has-popup-more r.peer.objects all r.subsurfaces r.owned.shell r.callbacks (there-has r all (there-changed x.surface (with_role role.Popup) r.owned.surfaces (λ s. refl)) h) id version new xdg
    parent p _ _ x found

asks-has : (ask : Ask) (r : Resident) → IsAsked r ask → HasOf r → HasOf (changed_by ask r)
asks-has (Own action) r ok h = own-has (λ number. is_used number r.owned.surfaces) action r ok h
asks-has (CreateSurface id version) r ok h = surface-made id version r ok h
asks-has (AskSurface id request) r ok h = there-has r (with_surface_change id (asking request) r.owned.surfaces) (there-changed id (asking request) r.owned.surfaces (λ s. refl)) h
asks-has (EndObject id) r (inl ok) h = has-object-gone r.peer.objects r.owned.surfaces r.subsurfaces r.owned.shell r.callbacks h id of.XdgWmBase refl refl refl refl refl ok
asks-has (EndObject id) r (inr ok) h = has-object-gone r.peer.objects r.owned.surfaces r.subsurfaces r.owned.shell r.callbacks h id of.WlSubcompositor refl refl refl refl refl ok
asks-has (GetXdgSurface id version base surface) r ok h = has-xdg-more r.peer.objects r.owned.surfaces r.subsurfaces r.owned.shell r.callbacks h id version ok.0 base surface
asks-has (DestroyXdgSurface id) r ok h = has-xdg-gone r.peer.objects r.owned.surfaces r.subsurfaces r.owned.shell r.callbacks h id ok.0
asks-has (GetToplevel id version xdg) r ok h = toplevel-made id version xdg r (xdg_at xdg r.owned.shell) ok.0 refl h
asks-has (Acknowledge xdg serial) r ok h = xdg-has r xdg (acknowledging serial) (no-id-acknowledged serial) h
asks-has (ConfigureAgain xdg) r ok h = configured-has r xdg h
asks-has Ignore r ok h = h

-- ---- what is demanded

popup-ended : (id xdg : ℕ) (r : Resident) → IsAllowed r (EndPopup id xdg) → HasOf r → Has (with_id id None r.peer.objects) r.owned.surfaces r.subsurfaces (with_change xdg without_role r.owned.shell)
    r.callbacks
popup-ended id xdg r ok h =
    has-popup-gone r.peer.objects r.owned.surfaces r.subsurfaces r.owned.shell r.callbacks h id xdg ok.0
    (only-popup r.peer.objects r.owned.surfaces r.subsurfaces r.owned.shell r.callbacks h id xdg ok.0 ok.1)

toplevel-gone : (id xdg top : ℕ) (r : Resident) → IsAllowed r (EndToplevel id xdg top) → HasOf r → HasOf (toplevel_ended id xdg r)
toplevel-gone id xdg top r ok h =
    let ids = dismissed_with (λ p. is_parent_of xdg p.popup) r.owned.shell in
    let dismissed = dismissing (λ p. is_parent_of xdg p.popup) r.owned.shell in
    let only = only-toplevel r.peer.objects r.owned.surfaces r.subsurfaces r.owned.shell r.callbacks h id xdg ok.0 ok.1 in
    let first = has-mapped r.peer.objects r.owned.surfaces r.subsurfaces r.owned.shell r.callbacks h (dismissed_among ids) (no-id-dismissed ids) in
    let second = has-mapped r.peer.objects r.owned.surfaces r.subsurfaces dismissed r.callbacks first (popup_changed (orphan xdg)) (no-id-popup (orphan xdg)) in
    let only_first = only-mapped has_toplevel id xdg (dismissed_among ids) r.owned.shell (no-id-dismissed ids).id ((no-id-dismissed ids).toplevel id) only in
    has-toplevel-gone r.peer.objects r.owned.surfaces r.subsurfaces (orphaning xdg dismissed) r.callbacks second id xdg ok.0
    (only-mapped has_toplevel id xdg (popup_changed (orphan xdg)) dismissed (no-id-popup (orphan xdg)).id ((no-id-popup (orphan xdg)).toplevel id) only_first)

reposition-has : (b : Bool) (xdg serial : ℕ) (placement : Option Placed) (p : Positioner) (r : Resident) → HasOf r
    → HasOf (drawing b (xdg_changed xdg (repositioning b serial placement p) r))
reposition-has true xdg serial placement p r h = xdg-has r xdg (repositioning true serial placement p) (no-id-repositioned true serial placement p) h
reposition-has false xdg serial placement p r h = xdg-has r xdg (repositioning false serial placement p) (no-id-repositioned false serial placement p) h

repositioned-has : (where_to : Placing) (p : Positioner) (o : Option Popped) (r : Resident) → HasOf r → HasOf (popup_repositioned where_to p o r)
repositioned-has where_to p None r h = h
repositioned-has where_to p (Some q) r h = reposition-has (is_configured q) q.xdg.id r.peer.serial (where_to (copying p q.popup)) p r h

grabbed-has : (b : Bool) (xdg : ℕ) (r : Resident) → HasOf r → HasOf (grabbed b xdg r)
grabbed-has true xdg r h = xdg-has r xdg (popup_changed with_grab) (no-id-popup with_grab) h
grabbed-has false xdg r h =
    let ids = dismissed_with (λ p. p.xdg.id == xdg) r.owned.shell in
    has-mapped r.peer.objects r.owned.surfaces r.subsurfaces r.owned.shell r.callbacks h (dismissed_among ids) (no-id-dismissed ids)

mode-has : (link : ℕ) (b : Bool) (r : Resident) → HasOf r → HasOf (mode_set link b r)
mode-has link true r h = there-has r (synchronised_in link r.owned.surfaces) (λ id. refl) h
mode-has link false r h = there-has r (desynchronised_in link r.owned.surfaces) (there-desynchronised link r.owned.surfaces) h

pointer-made : (b : Bool) (id version : ℕ) (r : Resident) → IsNew id r → HasOf r → HasOf (making of.WlPointer id version (drawing b (record r { pointers = in_rising_order id r.pointers })))
pointer-made true id version r new h = has-object r.peer.objects r.owned.surfaces r.subsurfaces r.owned.shell r.callbacks h id version new of.WlPointer refl
pointer-made false id version r new h = has-object r.peer.objects r.owned.surfaces r.subsurfaces r.owned.shell r.callbacks h id version new of.WlPointer refl

subsurface-gone : (id : ℕ) (r : Resident) → IsObject of.WlSubsurface id r → HasOf r → HasOf (subsurface_ended id r)
subsurface-gone id r ok h =
    let all = unlinked_at (link_with_id id r) r.owned.surfaces in
    has-subsurface-gone r.peer.objects all r.subsurfaces r.owned.shell r.callbacks (there-has r all (there-unlinked (link_with_id id r) r.owned.surfaces) h) id ok

subsurface-made : (id version child parent : ℕ) (r : Resident) → IsNew id r → HasOf r → HasOf (subsurface_given id version child parent r)
subsurface-made id version child parent r new h =
    let all = linked r.peer.requests child parent r.owned.surfaces in
    has-subsurface-more r.peer.objects all r.subsurfaces r.owned.shell r.callbacks (there-has r all (there-linked r.peer.requests child parent r.owned.surfaces) h) id version new _ refl

frame-made : (id version surface : ℕ) (r : Resident) → IsNew id r → HasOf r → HasOf (frame_asked id version surface r)
frame-made id version surface r new h =
    let all = with_surface_change surface (asking (Frame r.peer.requests)) r.owned.surfaces in
    has-callback-more r.peer.objects all r.subsurfaces r.owned.shell r.callbacks (there-has r all (there-changed surface (asking (Frame r.peer.requests)) r.owned.surfaces (λ s. refl)) h) id version
    new _ refl

surface-gone : (surface : ℕ) (r : Resident) → IsObject of.WlSurface surface r → HasOf r → HasOf (surface_ended surface r)
surface-gone surface r ok h =
    let ended = after_all r (with_surfaces (destroyed_in surface r.owned.surfaces) (record r { subsurfaces = map (without_child surface) r.subsurfaces })) in
    has-surface-gone ended.peer r.owned.surfaces r.subsurfaces r.owned.shell r.callbacks (is_asked (frames_asked (history_in surface r.owned.surfaces))) h surface ok

tree-has : (surface : ℕ) (r : Resident) → HasOf r → HasOf (tree_committed surface r)
tree-has surface r h = there-has r (committed_in surface r.owned.surfaces) (there-committed surface r.owned.surfaces) h

changed-has : (c : ℕ) (demand : Demand) (r : Resident) (d : Desktop) → IsAllowed r demand → HasOf r → HasOf (changed_for c demand r d)
changed-has c (Asks ask) r d ok h = asks-has ask r ok h
changed-has c (EndSurface id) r d ok h = surface-gone id r ok.0 h
changed-has c (AskFrame id version surface) r d ok h = frame-made id version surface r ok h
changed-has c (CommitTree surface) r d ok h = effect-has (placement_now c r d) surface (effect_of_commit r surface) (xdg_of surface r.owned.shell) (tree_committed surface r) (tree-has surface r h)
changed-has c (GetSubsurface id version child parent) r d ok h = subsurface-made id version child parent r ok.0 h
changed-has c (EndSubsurface id) r d ok h = subsurface-gone id r ok h
changed-has c (SetMode link synchronised) r d ok h = mode-has link synchronised r h
changed-has c (GetPointer id version) r d ok h = pointer-made (has_focus c d.pointer.focus) id version r ok h
changed-has c (MakeCursor surface) r d ok h =
    there-has r (with_surface_change surface (with_role role.Cursor) r.owned.surfaces) (there-changed surface (with_role role.Cursor) r.owned.surfaces (λ s. refl)) h
changed-has c (GetPopup id version xdg parent p) r d ok h = popup-made id version xdg parent p r (xdg_at xdg r.owned.shell) ok.0 refl h
changed-has c (Reposition xdg token p) r d ok h = repositioned-has (placement_now c r d) p (popup_at xdg r.owned.shell) r h
changed-has c (Grab xdg serial) r d ok h = grabbed-has (grab_allowed c xdg serial r d) xdg r h
changed-has c (EndPopup id xdg) r d ok h = popup-ended id xdg r ok h
changed-has c (EndToplevel id xdg top) r d ok h = toplevel-gone id xdg top r ok h
changed-has c (Move surface serial) r d ok h = h

-- whatever an accepted message does
pub objects-kept : (c : ℕ) (demand : Demand) (r : Resident) (d : Desktop) → IsAllowed r demand → HasObjects r → HasObjects (changed_for c demand r d)
objects-kept c demand r d ok h = of-has (changed_for c demand r d) (changed-has c demand r d ok (has-of r h))

-- The requests of a client's own interfaces leave the objects that name surfaces as they were.
use Rattle.std.proofs.Common.{◌≡◌, ℕ, ℤ, List, [], ◌∷◌, Bool, true, false, Option, Some, None, Result, refl, ap, subst, sym, ◌∙◌}
use Rattle.std.specs.List.{list_all}
use Rattle.std.specs.Option.{option_map}
use Rattle.std.specs.Prelude.{Ok, Err, IfSome, find, if◌then◌else◌, is_some, nat_le, not, ◌&&◌, ◌==◌}
use Rattle.std.proofs.lemmas.Bool.{eqb-true}
use Rattle.wl_proto.specs.declared.interface.Interface.{Interface}
use Rattle.wl_proto.specs.declared.interface.Interface.TheVariants.{WlRegistry, WlShmPool, WlBuffer, WlCompositor, WlSurface, WlSubcompositor, WlSubsurface, WlSeat, WlPointer, XdgWmBase}
use Rattle.wl_proto.specs.declared.interface.Interface.TheVariants.{XdgSurface, XdgToplevel, XdgPopup}
use Rattle.wl_proto.specs.declared.request.Request.{Request}
use Rattle.wl_proto.specs.declared.request.Request.TheVariants as requests
use Rattle.wl_proto.specs.declared.wl_display.WlDisplayRequest.{WlDisplayRequest}
use Rattle.wl_proto.specs.declared.wl_display.WlDisplayRequest.TheVariants as displays
use Rattle.wl_proto.specs.declared.wl_registry.WlRegistryRequest.TheVariants as registries
use Rattle.wl_proto.specs.declared.wl_region.WlRegionRequest.{WlRegionRequest}
use Rattle.wl_proto.specs.declared.wl_region.WlRegionRequest.TheVariants as regions
use Rattle.wl_proto.specs.declared.wl_shm.WlShmRequest.TheVariants as shms
use Rattle.wl_proto.specs.declared.wl_shm_pool.WlShmPoolRequest.{WlShmPoolRequest}
use Rattle.wl_proto.specs.declared.wl_shm_pool.WlShmPoolRequest.TheVariants as pools
use Rattle.wl_proto.specs.declared.wl_buffer.WlBufferRequest.TheVariants as buffers
use Rattle.wl_proto.specs.declared.wl_compositor.WlCompositorRequest.{WlCompositorRequest}
use Rattle.wl_proto.specs.declared.wl_compositor.WlCompositorRequest.TheVariants as wl_compositor_requests
use Rattle.wl_proto.specs.declared.wl_surface.WlSurfaceRequest.{WlSurfaceRequest}
use Rattle.wl_proto.specs.declared.wl_surface.WlSurfaceRequest.TheVariants as wl_surface_requests
use Rattle.wl_proto.specs.declared.wl_subcompositor.WlSubcompositorRequest.{WlSubcompositorRequest}
use Rattle.wl_proto.specs.declared.wl_subcompositor.WlSubcompositorRequest.TheVariants as wl_subcompositor_requests
use Rattle.wl_proto.specs.declared.wl_subsurface.WlSubsurfaceRequest.{WlSubsurfaceRequest}
use Rattle.wl_proto.specs.declared.wl_subsurface.WlSubsurfaceRequest.TheVariants as wl_subsurface_requests
use Rattle.wl_proto.specs.declared.wl_seat.WlSeatRequest.{WlSeatRequest}
use Rattle.wl_proto.specs.declared.wl_seat.WlSeatRequest.TheVariants as wl_seat_requests
use Rattle.wl_proto.specs.declared.wl_pointer.WlPointerRequest.{WlPointerRequest}
use Rattle.wl_proto.specs.declared.wl_pointer.WlPointerRequest.TheVariants as wl_pointer_requests
use Rattle.wl_proto.specs.declared.xdg_wm_base.XdgWmBaseRequest.{XdgWmBaseRequest}
use Rattle.wl_proto.specs.declared.xdg_wm_base.XdgWmBaseRequest.TheVariants as xdg_wm_base_requests
use Rattle.wl_proto.specs.declared.xdg_positioner.XdgPositionerRequest.{XdgPositionerRequest}
use Rattle.wl_proto.specs.declared.xdg_positioner.XdgPositionerRequest.TheVariants as xdg_positioner_requests
use Rattle.wl_proto.specs.declared.xdg_surface.XdgSurfaceRequest.{XdgSurfaceRequest}
use Rattle.wl_proto.specs.declared.xdg_surface.XdgSurfaceRequest.TheVariants as xdg_surface_requests
use Rattle.wl_proto.specs.declared.xdg_toplevel.XdgToplevelRequest.{XdgToplevelRequest}
use Rattle.wl_proto.specs.declared.xdg_toplevel.XdgToplevelRequest.TheVariants as xdg_toplevel_requests
use Rattle.wl_proto.specs.declared.xdg_popup.XdgPopupRequest.{XdgPopupRequest}
use Rattle.wl_proto.specs.declared.xdg_popup.XdgPopupRequest.TheVariants as xdg_popup_requests
use Rattle.wl_proto.specs.Messages.{request_message, wl_display_request, wl_shm_pool_request, wl_compositor_request, wl_surface_request, wl_subcompositor_request, wl_subsurface_request}
use Rattle.wl_proto.specs.Messages.{wl_seat_request, wl_pointer_request, xdg_wm_base_request, xdg_surface_request, xdg_toplevel_request, xdg_popup_request}
use Rattle.wl_proto.specs.Objects.{new_id_in}
use Rattle.wl_table.specs.declared.entry.Entry.{Entry}
use Rattle.wl_table.specs.Objects.{Held, HoldsAt, entry_of}
use Rattle.wl_store.specs.Stores.{Stock, can_hold, create_refusal, resize_refusal, size_of}
use Rattle.wl_store.specs.Layout.{layout_refusal}
use Rattle.wl_store.specs.declared.place.LayoutError.{LayoutError}
use Rattle.wl_store.specs.declared.stores.StoreError.{StoreError}
use Rattle.wl_store.specs.declared.stores.StoreError.TheVariants as store_errors
use Rattle.spec_desktop.specs.declared.actions.Action.{Action}
use Rattle.spec_desktop.specs.declared.actions.Action.TheVariants.{Sync, GetRegistry, Bind, AddToRegion, SubtractFromRegion, DestroyRegion, CreatePool, CreateBuffer, ResizePool, DestroyPool, DestroyBuffer}
use Rattle.spec_desktop.specs.declared.refusals.Refusal.{Refusal}
use Rattle.spec_desktop.specs.declared.actions.Action.TheVariants.{SetPositioner, DestroyPositioner}
use Rattle.spec_desktop.specs.declared.refusals.ErrorCode.TheVariants.{Implementation, InvalidInput}
use Rattle.wl_shell.specs.Settings.{is_allowed}
use Rattle.wl_shell.specs.declared.settings.Setting.{Setting}
use Rattle.wl_shell.specs.declared.settings.Setting.TheVariants as settings
use Rattle.spec_desktop.specs.Told.{display_error}
use Rattle.spec_desktop.specs.Buffers.{Buffer, Laid, buffer_asked}
use Rattle.spec_desktop.specs.Judgement.{Known, action_of, binds, buffer_destroyed, buffer_laid, display_action, is_free, pool_action, pool_created, pool_resized, region_action}
use Rattle.spec_desktop.specs.Judgement.{positioner_action, set_if_allowed}
use Rattle.spec_desktop.specs.Requests.{rect, request_of}
use Rattle.spec_desktop.specs.Objects.{Global, bound_interface, entry_at_version, globals, is_bound, object_of, objects_in}
use Rattle.wl_client.specs.Serving.{ChangesTable, KeepsSurfaces, is_of_surface, is_own, of_surface}
use Rattle.wl_client.proofs.Peers.{differ}

-- ---- what is held, or no longer

keeps-at : (old new : Held) (id : ℕ) (now : Option Entry) → of_surface (entry_of old id) ≡ None → of_surface now ≡ None → HoldsAt old new id now → KeepsSurfaces old new
keeps-at old new id now before after holds = λ other. at other (other == id) refl
  where
    at : (other : ℕ) (b : Bool) → (other == id) ≡ b → of_surface (entry_of new other) ≡ of_surface (entry_of old other)
    at other true e =
        let here = eqb-true other id e in
        ap (λ k. of_surface (entry_of new k)) here ∙ ap of_surface holds.here ∙ after ∙ sym before ∙ sym (ap (λ k. of_surface (entry_of old k)) here)
    at other false e = ap of_surface (holds.others other (differ other id e))

absent : (a b : Bool) (o : Option Entry) → (a && (b && not (is_some (option_map object_of o)))) ≡ true → o ≡ None
absent true true None h = refl
absent true true (Some entry) h = absurd (cc)
absent true false o h = absurd (cc)
absent false b o h = absurd (cc)

-- no object has a free id
pub free-absent : (held : Held) (id : ℕ) → is_free (objects_in held) id ≡ true → entry_of held id ≡ None
free-absent held id free = absent (nat_le 1 id) (nat_le id 4278190079) (entry_of held id) free

keeps-made : (old new : Held) (id : ℕ) (interface : Interface) (version : ℕ) → is_free (objects_in old) id ≡ true → is_of_surface interface ≡ false
    → HoldsAt old new id (Some (entry_at_version interface version)) → KeepsSurfaces old new
keeps-made old new id interface version free another holds =
    keeps-at old new id (Some (entry_at_version interface version)) (ap of_surface (free-absent old id free))
    (ap (λ (b : Bool). if b then Some (entry_at_version interface version) else None) another) holds

keeps-removed : (old new : Held) (id : ℕ) (was : Entry) → entry_of old id ≡ Some was → of_surface (Some was) ≡ None → HoldsAt old new id None → KeepsSurfaces old new
keeps-removed old new id was there another holds = keeps-at old new id None (ap of_surface there ∙ another) refl holds

keeps-same : (old new : Held) → new ≡ old → KeepsSurfaces old new
keeps-same old new same = λ id. ap (λ (held : Held). of_surface (entry_of held id)) same

-- ---- what is asked

abbrev accepted : Action → Result Action Refusal
accepted action = Ok action

same-action : (a b : Action) → accepted a ≡ accepted b → a ≡ b
same-action a b h = cc

asked : (action is : Action) (old new : Held) → action ≡ is → ChangesTable action old new → ChangesTable is old new
asked action is old new same changes = subst (λ (a : Action). ChangesTable a old new) same changes

-- no global is one of those
bound-next : (b s : Bool) (g : Global) (rest : Bool) (found : Option Global) → is_of_surface g.interface ≡ s → (not s && rest) ≡ true
    → (rest ≡ true → IfSome (option_map (λ (h : Global). h.interface) found) (λ i. is_of_surface i ≡ false)) → IfSome (option_map (λ (h : Global). h.interface) (if b then Some g else found))
    (λ i. is_of_surface i ≡ false)
bound-next true false g rest found e h later = e
bound-next true true g rest found e h later = absurd (cc)
bound-next false true g rest found e h later = absurd (cc)
bound-next false false g rest found e h later = later h

none-bound : (test : Global → Bool) (gs : List Global) → list_all (λ g. not (is_of_surface g.interface)) gs ≡ true
    → IfSome (option_map (λ (g : Global). g.interface) (find test gs)) (λ i. is_of_surface i ≡ false)
none-bound test [] h = tt
none-bound test (g ∷ gs) h =
    bound-next (test g) (is_of_surface g.interface) g (list_all (λ g. not (is_of_surface g.interface)) gs) (find test gs) refl h (λ later. none-bound test gs later)

keeps-bound : (old new : Held) (action : Action) (id version : ℕ) (o : Option Interface) → IfSome o (λ i. is_of_surface i ≡ false) → is_free (objects_in old) id ≡ true → Ok action ≡ binds id version o
    → ChangesTable action old new → KeepsSurfaces old new
keeps-bound old new action id version None another free is changes = absurd (cc)
keeps-bound old new action id version (Some interface) another free is changes =
    keeps-made old new id interface version free another (asked action (Bind id interface version) old new (same-action action (Bind id interface version) is) changes)

keeps-changed : (old new : Held) (action change : Action) (full : Bool) → (ChangesTable change old new → KeepsSurfaces old new)
    → Ok action ≡ (if full then Err (display_error Implementation) else Ok change) → ChangesTable action old new → KeepsSurfaces old new
keeps-changed old new action change true keeps is changes = absurd (cc)
keeps-changed old new action change false keeps is changes = keeps (asked action change old new (same-action action change is) changes)

keeps-region : (old new : Held) (action : Action) (object : ℕ) (o : Option ℕ) (was : Entry) (request : WlRegionRequest) → entry_of old object ≡ Some was → of_surface (Some was) ≡ None
    → Ok action ≡ region_action object o request → ChangesTable action old new → KeepsSurfaces old new
keeps-region old new action object None was request there another is changes = absurd (cc)
keeps-region old new action object (Some count) was regions.Destroy there another is changes =
    keeps-removed old new object was there another (asked action (DestroyRegion object) old new (same-action action (DestroyRegion object) is) changes)
keeps-region old new action object (Some count) was (regions.Add x y width height) there another is changes =
    keeps-changed old new action (AddToRegion object (rect x y width height)) (nat_le 512 count) (λ same. keeps-same old new same) is changes
keeps-region old new action object (Some count) was (regions.Subtract x y width height) there another is changes =
    keeps-changed old new action (SubtractFromRegion object (rect x y width height)) (nat_le 512 count) (λ same. keeps-same old new same) is changes

keeps-pool_created : (old new : Held) (action : Action) (object version id : ℕ) (size : ℤ) (o : Option StoreError) → is_free (objects_in old) id ≡ true
    → Ok action ≡ pool_created object version id size o → ChangesTable action old new → KeepsSurfaces old new
keeps-pool_created old new action object version id size None free is changes =
    keeps-made old new id WlShmPool version free refl (asked action (CreatePool id version size) old new (same-action action (CreatePool id version size) is) changes)
keeps-pool_created old new action object version id size (Some store_errors.BadSize) free is changes = absurd (cc)
keeps-pool_created old new action object version id size (Some error) free is changes = absurd (cc)

keeps-buffer_laid : (old new : Held) (action : Action) (object version id : ℕ) (laid : Laid) (o : Option LayoutError) → is_free (objects_in old) id ≡ true
    → Ok action ≡ buffer_laid object version id laid o → ChangesTable action old new → KeepsSurfaces old new
keeps-buffer_laid old new action object version id laid None free is changes =
    keeps-made old new id WlBuffer version free refl (asked action (CreateBuffer id version laid) old new (same-action action (CreateBuffer id version laid) is) changes)
keeps-buffer_laid old new action object version id laid (Some error) free is changes = absurd (cc)

keeps-buffer_created : (old new : Held) (action : Action) (object version id : ℕ) (laid : Laid) (o : Option LayoutError) (held : Bool) → is_free (objects_in old) id ≡ true
    → Ok action ≡ (if held then buffer_laid object version id laid o else Err (display_error Implementation)) → ChangesTable action old new → KeepsSurfaces old new
keeps-buffer_created old new action object version id laid o true free is changes = keeps-buffer_laid old new action object version id laid o free is changes
keeps-buffer_created old new action object version id laid o false free is changes = absurd (cc)

keeps-pool_resized : (old new : Held) (action : Action) (object store : ℕ) (size : ℤ) (o : Option StoreError) → Ok action ≡ pool_resized object store size o → ChangesTable action old new
    → KeepsSurfaces old new
keeps-pool_resized old new action object store size None is changes =
    keeps-same old new (asked action (ResizePool store size) old new (same-action action (ResizePool store size) is) changes)
keeps-pool_resized old new action object store size (Some store_errors.Shrinks) is changes = absurd (cc)
keeps-pool_resized old new action object store size (Some error) is changes = absurd (cc)

keeps-buffer_destroyed : (old new : Held) (action : Action) (object : ℕ) (o : Option Buffer) (was : Entry) → entry_of old object ≡ Some was → of_surface (Some was) ≡ None
    → Ok action ≡ buffer_destroyed object o → ChangesTable action old new → KeepsSurfaces old new
keeps-buffer_destroyed old new action object None was there another is changes = absurd (cc)
keeps-buffer_destroyed old new action object (Some buffer) was there another is changes =
    keeps-removed old new object was there another (asked action (DestroyBuffer object buffer.laid.store) old new (same-action action (DestroyBuffer object buffer.laid.store) is) changes)

keeps-set : (old new : Held) (action : Action) (object : ℕ) (setting : Setting) → Ok action ≡ set_if_allowed object setting → ChangesTable action old new → KeepsSurfaces old new
keeps-set old new action object setting is changes = at (is_allowed setting) (record { object = object; code = InvalidInput }) is
  where
    at : (allowed : Bool) (refusal : Refusal) → accepted action ≡ (if allowed then accepted (SetPositioner object setting) else Err refusal) → KeepsSurfaces old new
    at true refusal set = keeps-same old new (asked action (SetPositioner object setting) old new (same-action action (SetPositioner object setting) set) changes)
    at false refusal set = absurd (cc)

keeps-positioner : (old new : Held) (action : Action) (object : ℕ) (was : Entry) (request : XdgPositionerRequest) → entry_of old object ≡ Some was → of_surface (Some was) ≡ None
    → Ok action ≡ positioner_action object request → ChangesTable action old new → KeepsSurfaces old new
keeps-positioner old new action object was xdg_positioner_requests.Destroy there another is changes =
    keeps-removed old new object was there another (asked action (DestroyPositioner object) old new (same-action action (DestroyPositioner object) is) changes)
keeps-positioner old new action object was (xdg_positioner_requests.SetSize width height) there another is changes = keeps-set old new action object (settings.Size width height) is changes
keeps-positioner old new action object was (xdg_positioner_requests.SetAnchorRect x y width height) there another is changes =
    keeps-set old new action object (settings.AnchorRect (rect x y width height)) is changes
keeps-positioner old new action object was (xdg_positioner_requests.SetAnchor anchor) there another is changes = keeps-set old new action object (settings.Anchor anchor) is changes
keeps-positioner old new action object was (xdg_positioner_requests.SetGravity gravity) there another is changes = keeps-set old new action object (settings.Gravity gravity) is changes
keeps-positioner old new action object was (xdg_positioner_requests.SetConstraintAdjustment adjustment) there another is changes =
    keeps-set old new action object (settings.Adjustment adjustment) is changes
keeps-positioner old new action object was (xdg_positioner_requests.SetOffset x y) there another is changes = keeps-set old new action object (settings.Offset x y) is changes
keeps-positioner old new action object was xdg_positioner_requests.SetReactive there another is changes = keeps-set old new action object settings.Reactive is changes
keeps-positioner old new action object was (xdg_positioner_requests.SetParentSize width height) there another is changes =
    keeps-set old new action object (settings.ParentSize width height) is changes
keeps-positioner old new action object was (xdg_positioner_requests.SetParentConfigure serial) there another is changes =
    keeps-set old new action object (settings.ParentConfigure serial) is changes

-- ---- by requests

keeps-display : (old new : Held) (action : Action) (request : WlDisplayRequest) → IfSome (new_id_in (wl_display_request request)) (λ n. is_free (objects_in old) n.id ≡ true)
    → accepted action ≡ accepted (display_action request) → ChangesTable action old new → KeepsSurfaces old new
keeps-display old new action (displays.Sync callback) free is changes = keeps-same old new (asked action (Sync callback) old new (same-action action (Sync callback) is) changes)
keeps-display old new action (displays.GetRegistry registry) free is changes =
    keeps-made old new registry WlRegistry 1 free refl (asked action (GetRegistry registry) old new (same-action action (GetRegistry registry) is) changes)

keeps-pool : (old new : Held) (action : Action) (object version : ℕ) (stores : Stock) (o : Option ℕ) (was : Entry) (request : WlShmPoolRequest) → entry_of old object ≡ Some was
    → of_surface (Some was) ≡ None → IfSome (new_id_in (wl_shm_pool_request request)) (λ n. is_free (objects_in old) n.id ≡ true) → Ok action ≡ pool_action object version stores o request
    → ChangesTable action old new → KeepsSurfaces old new
keeps-pool old new action object version stores None was request there another free is changes = absurd (cc)
keeps-pool old new action object version stores (Some store) was (pools.CreateBuffer id offset width height stride format) there another free is changes =
    keeps-buffer_created old new action object version id (buffer_asked store offset width height stride format) (layout_refusal (size_of store stores) offset width height stride format)
    (can_hold store stores) free is changes
keeps-pool old new action object version stores (Some store) was pools.Destroy there another free is changes =
    keeps-removed old new object was there another (asked action (DestroyPool object store) old new (same-action action (DestroyPool object store) is) changes)
keeps-pool old new action object version stores (Some store) was (pools.Resize size) there another free is changes =
    keeps-pool_resized old new action object store size (resize_refusal store size stores) is changes

-- the other requests are of other interfaces
foreign : {X : Type 0} {is : Interface} (interface : Interface) → is ≡ interface → is_own interface ≡ false → is_own is ≡ true → X
foreign interface same another own = let e : true ≡ false = sym own ∙ ap is_own same ∙ another in absurd (cc)

of-wl_compositor : (request : WlCompositorRequest) → (wl_compositor_request request).interface ≡ WlCompositor
of-wl_compositor (wl_compositor_requests.CreateSurface id) = refl
of-wl_compositor (wl_compositor_requests.CreateRegion id) = refl

of-wl_surface : (request : WlSurfaceRequest) → (wl_surface_request request).interface ≡ WlSurface
of-wl_surface wl_surface_requests.Destroy = refl
of-wl_surface request = refl

of-wl_subcompositor : (request : WlSubcompositorRequest) → (wl_subcompositor_request request).interface ≡ WlSubcompositor
of-wl_subcompositor wl_subcompositor_requests.Destroy = refl
of-wl_subcompositor (wl_subcompositor_requests.GetSubsurface id surface parent) = refl

of-wl_subsurface : (request : WlSubsurfaceRequest) → (wl_subsurface_request request).interface ≡ WlSubsurface
of-wl_subsurface wl_subsurface_requests.Destroy = refl
of-wl_subsurface request = refl

of-wl_seat : (request : WlSeatRequest) → (wl_seat_request request).interface ≡ WlSeat
of-wl_seat (wl_seat_requests.GetPointer id) = refl
of-wl_seat request = refl

of-wl_pointer : (request : WlPointerRequest) → (wl_pointer_request request).interface ≡ WlPointer
of-wl_pointer (wl_pointer_requests.SetCursor serial surface hotspot_x hotspot_y) = refl

of-xdg_wm_base : (request : XdgWmBaseRequest) → (xdg_wm_base_request request).interface ≡ XdgWmBase
of-xdg_wm_base xdg_wm_base_requests.Destroy = refl
of-xdg_wm_base request = refl

of-xdg_surface : (request : XdgSurfaceRequest) → (xdg_surface_request request).interface ≡ XdgSurface
of-xdg_surface xdg_surface_requests.Destroy = refl
of-xdg_surface request = refl

of-xdg_toplevel : (request : XdgToplevelRequest) → (xdg_toplevel_request request).interface ≡ XdgToplevel
of-xdg_toplevel xdg_toplevel_requests.Destroy = refl
of-xdg_toplevel request = refl

of-xdg_popup : (request : XdgPopupRequest) → (xdg_popup_request request).interface ≡ XdgPopup
of-xdg_popup xdg_popup_requests.Destroy = refl
of-xdg_popup request = refl

-- an accepted request of one of a client's own interfaces
pub keeps-surfaces : (old new : Held) (known : Known) (object version target : ℕ) (action : Action) (request : Request)
    → entry_of old object ≡ Some (record { interface = (request_message request).interface; version = version; target = target })
    → IfSome (new_id_in (request_message request)) (λ n. is_free (objects_in old) n.id ≡ true) → is_own (request_message request).interface ≡ true
    → Ok action ≡ action_of known object version (request_of (request_message request)) → ChangesTable action old new → KeepsSurfaces old new
keeps-surfaces old new known object version target action (requests.WlDisplay (displays.Sync callback)) there free own is changes =
    keeps-display old new action (displays.Sync callback) free is changes
keeps-surfaces old new known object version target action (requests.WlDisplay (displays.GetRegistry registry)) there free own is changes =
    keeps-display old new action (displays.GetRegistry registry) free is changes
keeps-surfaces old new known object version target action (requests.WlRegistry (registries.Bind name interface bound id)) there free own is changes =
    keeps-bound old new action id bound (bound_interface name interface.now bound) (none-bound (is_bound name interface.now bound) globals refl) free is changes
keeps-surfaces old new known object version target action (requests.WlRegion regions.Destroy) there free own is changes =
    keeps-region old new action object (known.changes object) _ regions.Destroy there refl is changes
keeps-surfaces old new known object version target action (requests.WlRegion (regions.Add x y width height)) there free own is changes =
    keeps-region old new action object (known.changes object) _ (regions.Add x y width height) there refl is changes
keeps-surfaces old new known object version target action (requests.WlRegion (regions.Subtract x y width height)) there free own is changes =
    keeps-region old new action object (known.changes object) _ (regions.Subtract x y width height) there refl is changes
keeps-surfaces old new known object version target action (requests.WlShm (shms.CreatePool id size)) there free own is changes =
    keeps-pool_created old new action object version id size (create_refusal size known.stores) free is changes
keeps-surfaces old new known object version target action (requests.WlShmPool (pools.CreateBuffer id offset width height stride format)) there free own is changes =
    keeps-pool old new action object version known.stores (known.pools object) _ (pools.CreateBuffer id offset width height stride format) there refl free is changes
keeps-surfaces old new known object version target action (requests.WlShmPool pools.Destroy) there free own is changes =
    keeps-pool old new action object version known.stores (known.pools object) _ pools.Destroy there refl free is changes
keeps-surfaces old new known object version target action (requests.WlShmPool (pools.Resize size)) there free own is changes =
    keeps-pool old new action object version known.stores (known.pools object) _ (pools.Resize size) there refl free is changes
keeps-surfaces old new known object version target action (requests.WlBuffer buffers.Destroy) there free own is changes =
    keeps-buffer_destroyed old new action object (known.buffers object) _ there refl is changes
keeps-surfaces old new known object version target action (requests.WlCompositor request) there free own is changes = foreign WlCompositor (of-wl_compositor request) refl own
keeps-surfaces old new known object version target action (requests.WlSurface request) there free own is changes = foreign WlSurface (of-wl_surface request) refl own
keeps-surfaces old new known object version target action (requests.WlSubcompositor request) there free own is changes = foreign WlSubcompositor (of-wl_subcompositor request) refl own
keeps-surfaces old new known object version target action (requests.WlSubsurface request) there free own is changes = foreign WlSubsurface (of-wl_subsurface request) refl own
keeps-surfaces old new known object version target action (requests.WlSeat request) there free own is changes = foreign WlSeat (of-wl_seat request) refl own
keeps-surfaces old new known object version target action (requests.WlPointer request) there free own is changes = foreign WlPointer (of-wl_pointer request) refl own
keeps-surfaces old new known object version target action (requests.XdgWmBase request) there free own is changes = foreign XdgWmBase (of-xdg_wm_base request) refl own
keeps-surfaces old new known object version target action (requests.XdgPositioner xdg_positioner_requests.Destroy) there free own is changes =
    keeps-positioner old new action object _ xdg_positioner_requests.Destroy there refl is changes
keeps-surfaces old new known object version target action (requests.XdgPositioner (xdg_positioner_requests.SetSize width height)) there free own is changes =
    keeps-positioner old new action object _ (xdg_positioner_requests.SetSize width height) there refl is changes
keeps-surfaces old new known object version target action (requests.XdgPositioner (xdg_positioner_requests.SetAnchorRect x y width height)) there free own is changes =
    keeps-positioner old new action object _ (xdg_positioner_requests.SetAnchorRect x y width height) there refl is changes
keeps-surfaces old new known object version target action (requests.XdgPositioner (xdg_positioner_requests.SetAnchor anchor)) there free own is changes =
    keeps-positioner old new action object _ (xdg_positioner_requests.SetAnchor anchor) there refl is changes
keeps-surfaces old new known object version target action (requests.XdgPositioner (xdg_positioner_requests.SetGravity gravity)) there free own is changes =
    keeps-positioner old new action object _ (xdg_positioner_requests.SetGravity gravity) there refl is changes
keeps-surfaces old new known object version target action (requests.XdgPositioner (xdg_positioner_requests.SetConstraintAdjustment adjustment)) there free own is changes =
    keeps-positioner old new action object _ (xdg_positioner_requests.SetConstraintAdjustment adjustment) there refl is changes
keeps-surfaces old new known object version target action (requests.XdgPositioner (xdg_positioner_requests.SetOffset x y)) there free own is changes =
    keeps-positioner old new action object _ (xdg_positioner_requests.SetOffset x y) there refl is changes
keeps-surfaces old new known object version target action (requests.XdgPositioner xdg_positioner_requests.SetReactive) there free own is changes =
    keeps-positioner old new action object _ xdg_positioner_requests.SetReactive there refl is changes
keeps-surfaces old new known object version target action (requests.XdgPositioner (xdg_positioner_requests.SetParentSize width height)) there free own is changes =
    keeps-positioner old new action object _ (xdg_positioner_requests.SetParentSize width height) there refl is changes
keeps-surfaces old new known object version target action (requests.XdgPositioner (xdg_positioner_requests.SetParentConfigure serial)) there free own is changes =
    keeps-positioner old new action object _ (xdg_positioner_requests.SetParentConfigure serial) there refl is changes
keeps-surfaces old new known object version target action (requests.XdgSurface request) there free own is changes = foreign XdgSurface (of-xdg_surface request) refl own
keeps-surfaces old new known object version target action (requests.XdgToplevel request) there free own is changes = foreign XdgToplevel (of-xdg_toplevel request) refl own
keeps-surfaces old new known object version target action (requests.XdgPopup request) there free own is changes = foreign XdgPopup (of-xdg_popup request) refl own

-- What an accepted message sets of a positioner is allowed.
use Rattle.std.proofs.Common.{◌≡◌, ℕ, ℤ, Bool, true, false, Option, Some, None, Result, refl, ap, sym, ◌∙◌}
use Rattle.std.specs.Prelude.{Ok, Err, if◌then◌else◌, nat_le}
use Rattle.wl_proto.specs.declared.interface.Interface.{Interface}
use Rattle.wl_proto.specs.Messages.{request_message}
use Rattle.wl_proto.specs.declared.wl_display.WlDisplayRequest.TheVariants as displays
use Rattle.wl_proto.specs.declared.wl_region.WlRegionRequest.{WlRegionRequest}
use Rattle.wl_proto.specs.declared.wl_region.WlRegionRequest.TheVariants as regions
use Rattle.wl_proto.specs.declared.wl_shm.WlShmRequest.TheVariants as shms
use Rattle.wl_proto.specs.declared.wl_shm_pool.WlShmPoolRequest.{WlShmPoolRequest}
use Rattle.wl_proto.specs.declared.wl_shm_pool.WlShmPoolRequest.TheVariants as pools
use Rattle.wl_proto.specs.declared.wl_compositor.WlCompositorRequest.TheVariants as compositors
use Rattle.wl_proto.specs.declared.xdg_wm_base.XdgWmBaseRequest.{XdgWmBaseRequest}
use Rattle.wl_proto.specs.declared.xdg_wm_base.XdgWmBaseRequest.TheVariants as bases
use Rattle.wl_proto.specs.declared.xdg_positioner.XdgPositionerRequest.{XdgPositionerRequest}
use Rattle.wl_proto.specs.declared.xdg_positioner.XdgPositionerRequest.TheVariants as positioners
use Rattle.wl_store.specs.Layout.{layout_refusal}
use Rattle.wl_store.specs.Stores.{Stock, can_hold, create_refusal, resize_refusal, size_of}
use Rattle.wl_store.specs.declared.place.LayoutError.{LayoutError}
use Rattle.wl_store.specs.declared.stores.StoreError.{StoreError}
use Rattle.wl_store.specs.declared.stores.StoreError.TheVariants as store_errors
use Rattle.wl_shell.specs.Settings.{is_allowed}
use Rattle.wl_shell.specs.declared.settings.Setting.{Setting}
use Rattle.wl_shell.specs.declared.settings.Setting.TheVariants as settings
use Rattle.spec_desktop.specs.Buffers.{Buffer, Laid, buffer_asked}
use Rattle.spec_desktop.specs.declared.actions.Action.{Action}
use Rattle.spec_desktop.specs.declared.actions.Action.TheVariants.{AddToRegion, SetPositioner, SubtractFromRegion}
use Rattle.spec_desktop.specs.declared.refusals.Refusal.{Refusal}
use Rattle.spec_desktop.specs.Judgement.{Known, action_of, base_action, binds, buffer_destroyed, buffer_laid, changed_unless_full, pool_action, pool_created, pool_resized, positioner_action}
use Rattle.spec_desktop.specs.Judgement.{region_action, set_if_allowed}
use Rattle.spec_desktop.specs.Objects.{bound_interface}
use Rattle.spec_desktop.specs.Requests.{Request, ToDisplay, ToRegistry, ToCompositor, ToRegion, ToSurface, ToShm, ToPool, ToBuffer, ToSubcompositor, ToSubsurface, ToSeat, ToPointer, ToBase}
use Rattle.spec_desktop.specs.Requests.{ToPositioner, ToXdgSurface, ToToplevel, ToPopup, ToNothing, rect, request_of}
use Rattle.wl_client.specs.Agreement.{known_in}
use Rattle.wl_client.specs.Serving.{IsOwnMessage, may_be_done}
use Rattle.wl_client.specs.View.{ClientView}

abbrev may_all : Result Action Refusal → Bool
may_all (Ok action) = may_be_done action
may_all (Err refusal) = true

unless : (b : Bool) (refusal : Refusal) (action : Action) → may_be_done action ≡ true → may_all (if b then Err refusal else Ok action) ≡ true
unless true refusal action may = refl
unless false refusal action may = may

bound : (id version : ℕ) (o : Option Interface) → may_all (binds id version o) ≡ true
bound id version None = refl
bound id version (Some interface) = refl

region-may : (object : ℕ) (o : Option ℕ) (request : WlRegionRequest) → may_all (region_action object o request) ≡ true
region-may object None request = refl
region-may object (Some count) regions.Destroy = refl
region-may object (Some count) (regions.Add x y width height) = unless (nat_le 512 count) _ (AddToRegion object _) refl
region-may object (Some count) (regions.Subtract x y width height) = unless (nat_le 512 count) _ (SubtractFromRegion object _) refl

pool-made : (object version id : ℕ) (size : ℤ) (o : Option StoreError) → may_all (pool_created object version id size o) ≡ true
pool-made object version id size None = refl
pool-made object version id size (Some store_errors.BadSize) = refl
pool-made object version id size (Some error) = refl

laid-may : (object version id : ℕ) (laid : Laid) (o : Option LayoutError) → may_all (buffer_laid object version id laid o) ≡ true
laid-may object version id laid None = refl
laid-may object version id laid (Some error) = refl

held-may : (b : Bool) (x : Result Action Refusal) (refusal : Refusal) → may_all x ≡ true → may_all (if b then x else Err refusal) ≡ true
held-may true x refusal may = may
held-may false x refusal may = refl

resized-may : (object store : ℕ) (size : ℤ) (o : Option StoreError) → may_all (pool_resized object store size o) ≡ true
resized-may object store size None = refl
resized-may object store size (Some store_errors.Shrinks) = refl
resized-may object store size (Some error) = refl

pool-may : (object version : ℕ) (stores : Stock) (o : Option ℕ) (request : WlShmPoolRequest) → may_all (pool_action object version stores o request) ≡ true
pool-may object version stores None request = refl
pool-may object version stores (Some store) (pools.CreateBuffer id offset width height stride format) =
    held-may (can_hold store stores) _ _ (laid-may object version id (buffer_asked store offset width height stride format) (layout_refusal (size_of store stores) offset width height stride format))
pool-may object version stores (Some store) pools.Destroy = refl
pool-may object version stores (Some store) (pools.Resize size) = resized-may object store size (resize_refusal store size stores)

buffer-may : (object : ℕ) (o : Option Buffer) → may_all (buffer_destroyed object o) ≡ true
buffer-may object None = refl
buffer-may object (Some buffer) = refl

base-may : (version : ℕ) (request : XdgWmBaseRequest) → may_all (base_action version request) ≡ true
base-may version (bases.CreatePositioner id) = refl
base-may version request = refl

set-may : (object : ℕ) (setting : Setting) → may_all (set_if_allowed object setting) ≡ true
set-may object setting = at (is_allowed setting) refl _
  where
    at : (b : Bool) → is_allowed setting ≡ b → (refusal : Refusal) → may_all (if b then Ok (SetPositioner object setting) else Err refusal) ≡ true
    at true e refusal = e
    at false e refusal = refl

positioner-may : (object : ℕ) (request : XdgPositionerRequest) → may_all (positioner_action object request) ≡ true
positioner-may object positioners.Destroy = refl
positioner-may object (positioners.SetSize width height) = set-may object (settings.Size width height)
positioner-may object (positioners.SetAnchorRect x y width height) = set-may object (settings.AnchorRect (rect x y width height))
positioner-may object (positioners.SetAnchor anchor) = set-may object (settings.Anchor anchor)
positioner-may object (positioners.SetGravity gravity) = set-may object (settings.Gravity gravity)
positioner-may object (positioners.SetConstraintAdjustment adjustment) = set-may object (settings.Adjustment adjustment)
positioner-may object (positioners.SetOffset x y) = set-may object (settings.Offset x y)
positioner-may object positioners.SetReactive = set-may object settings.Reactive
positioner-may object (positioners.SetParentSize width height) = set-may object (settings.ParentSize width height)
positioner-may object (positioners.SetParentConfigure serial) = set-may object (settings.ParentConfigure serial)

asked-may : (known : Known) (object version : ℕ) (request : Request) → may_all (action_of known object version request) ≡ true
asked-may known object version (ToDisplay (displays.Sync callback)) = refl
asked-may known object version (ToDisplay (displays.GetRegistry id)) = refl
asked-may known object version (ToRegistry name interface asked id) = bound id asked (bound_interface name interface asked)
asked-may known object version (ToCompositor (compositors.CreateSurface id)) = refl
asked-may known object version (ToCompositor (compositors.CreateRegion id)) = refl
asked-may known object version (ToRegion request) = region-may object (known.changes object) request
asked-may known object version (ToSurface request) = refl
asked-may known object version (ToShm (shms.CreatePool id size)) = pool-made object version id size (create_refusal size known.stores)
asked-may known object version (ToPool request) = pool-may object version known.stores (known.pools object) request
asked-may known object version (ToBuffer request) = buffer-may object (known.buffers object)
asked-may known object version (ToSubcompositor request) = refl
asked-may known object version (ToSubsurface request) = refl
asked-may known object version (ToSeat request) = refl
asked-may known object version (ToPointer request) = refl
asked-may known object version (ToBase request) = base-may version request
asked-may known object version (ToPositioner request) = positioner-may object request
asked-may known object version (ToXdgSurface request) = refl
asked-may known object version (ToToplevel request) = refl
asked-may known object version (ToPopup request) = refl
asked-may known object version ToNothing = refl

-- what is asked by a message of a client's own interfaces may be done
pub own-may : (v : ClientView) (size : ℕ) (judged : Result Action Refusal) (action : Action) → IsOwnMessage v size judged → judged ≡ Ok action → may_be_done action ≡ true
own-may v size judged action own is = sym (ap may_all is) ∙ ap may_all own.is_judged ∙ asked-may (known_in v) own.object own.version (request_of (request_message own.request))

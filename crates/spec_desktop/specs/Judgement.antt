-- The order of refusals: what a message asks, or the first error that it has.
use Rattle.std.specs.List.{list_all}
use Rattle.std.specs.Prelude.{ℕ, ℤ, List, Bool, ◌&&◌, not, nat_le, if◌then◌else◌, is_some, Option, Some, None, Result, Ok, Err}
use Rattle.wl_proto.specs.declared.wl_compositor.WlCompositorRequest.{WlCompositorRequest}
use Rattle.wl_proto.specs.declared.wl_compositor.WlCompositorRequest.TheVariants as compositor
use Rattle.wl_proto.specs.declared.wl_display.WlDisplayRequest.{WlDisplayRequest}
use Rattle.wl_proto.specs.declared.wl_display.WlDisplayRequest.TheVariants as display
use Rattle.wl_proto.specs.declared.wl_region.WlRegionRequest.{WlRegionRequest}
use Rattle.wl_proto.specs.declared.wl_region.WlRegionRequest.TheVariants as region
use Rattle.wl_proto.specs.declared.wl_registry.WlRegistryRequest.{WlRegistryRequest}
use Rattle.wl_proto.specs.declared.wl_registry.WlRegistryRequest.TheVariants as registry
use Rattle.wl_proto.specs.declared.wl_seat.WlSeatRequest.{WlSeatRequest}
use Rattle.wl_proto.specs.declared.wl_seat.WlSeatRequest.TheVariants as seat
use Rattle.wl_proto.specs.declared.wl_shm.WlShmRequest.{WlShmRequest}
use Rattle.wl_proto.specs.declared.wl_shm.WlShmRequest.TheVariants as shm
use Rattle.wl_proto.specs.declared.wl_shm_pool.WlShmPoolRequest.{WlShmPoolRequest}
use Rattle.wl_proto.specs.declared.wl_shm_pool.WlShmPoolRequest.TheVariants as pool
use Rattle.wl_proto.specs.declared.xdg_positioner.XdgPositionerRequest.{XdgPositionerRequest}
use Rattle.wl_proto.specs.declared.xdg_positioner.XdgPositionerRequest.TheVariants as positioner
use Rattle.wl_proto.specs.declared.xdg_wm_base.XdgWmBaseRequest.{XdgWmBaseRequest}
use Rattle.wl_proto.specs.declared.xdg_wm_base.XdgWmBaseRequest.TheVariants as base
use Rattle.spec_desktop.specs.Requests.{Request, ToDisplay, ToRegistry, ToCompositor, ToRegion, ToShm, ToPool, ToBuffer, ToSeat, ToBase}
use Rattle.spec_desktop.specs.Requests.{ToPositioner, rect, request_of}
use Rattle.wl_proto.specs.declared.interface.Interface.{Interface}
use Rattle.wl_proto.specs.declared.error.ProtoError.{ProtoError}
use Rattle.wl_proto.specs.declared.argument.NewId.{NewId}
use Rattle.wl_proto.specs.Messages.{Message}
use Rattle.wl_proto.specs.Objects.{objects_in as objects_named, new_id_in}
use Rattle.wl_proto.specs.Spelling.{decoded}
use Rattle.wl_store.specs.Layout.{layout_refusal}
use Rattle.wl_store.specs.Stores.{Stock, can_hold, create_refusal, resize_refusal, size_of}
use Rattle.wl_store.specs.declared.place.LayoutError.{LayoutError}
use Rattle.wl_store.specs.declared.place.LayoutError.TheVariants.{Format, Stride}
use Rattle.wl_store.specs.declared.stores.StoreError.{StoreError}
use Rattle.wl_store.specs.declared.stores.StoreError.TheVariants.{BadSize, Shrinks}
use Rattle.spec_desktop.specs.declared.refusals.ErrorCode.TheVariants.{InvalidObject, InvalidMethod, Implementation, MissingCapability}
use Rattle.wl_shell.specs.Settings.{is_allowed}
use Rattle.wl_shell.specs.declared.settings.Setting.{Setting}
use Rattle.wl_shell.specs.declared.settings.Setting.TheVariants.{Size, AnchorRect, Anchor, Gravity, Adjustment, Offset}
use Rattle.wl_shell.specs.declared.settings.Setting.TheVariants.{Reactive, ParentSize, ParentConfigure}
use Rattle.spec_desktop.specs.declared.refusals.ErrorCode.TheVariants.{InvalidFormat, InvalidStride, InvalidFd, InvalidInput}
use Rattle.spec_desktop.specs.declared.refusals.Refusal.{Refusal}
use Rattle.spec_desktop.specs.declared.actions.Action.{Action}
use Rattle.spec_desktop.specs.declared.actions.Action.TheVariants.{Sync, GetRegistry, Bind, CreateRegion, AddToRegion, SubtractFromRegion}
use Rattle.spec_desktop.specs.declared.actions.Action.TheVariants.{DestroyRegion, CreatePool, CreateBuffer, ResizePool, DestroyPool}
use Rattle.spec_desktop.specs.declared.actions.Action.TheVariants.{DestroyBuffer, CreatePositioner, SetPositioner, DestroyPositioner}
use Rattle.spec_desktop.specs.Buffers.{Buffer, Laid, buffer_asked}
use Rattle.spec_desktop.specs.Objects.{ById, Object, Objects, bound_interface, fits}
use Rattle.spec_desktop.specs.Told.{display_error}

-- What a judgement looks at: the live objects, and how many they are; how many changes each region had; the stores of the pools; the
-- buffers; and the stores.
pub record Known : Type 0 where
  pub objects : Objects
  pub held : ℕ
  pub changes : ById ℕ
  pub pools : ById ℕ
  pub buffers : ById Buffer
  pub stores : Stock

-- After the header come the object, the opcode at the object's version, the arguments, the objects
-- that they name, the new id, the limits, and the request's own errors. Out of memory comes last.

-- a new object may have this id: 1 to 0xfeffffff are the client's (Wayland protocol, 'Creating Objects'), and none has it
abbrev pub is_free : Objects → ℕ → Bool
is_free objects id = nat_le 1 id && (nat_le id 4278190079 && not (is_some (objects id)))

-- wl_display
abbrev pub display_action : WlDisplayRequest → Action
display_action (display.Sync callback) = Sync callback
display_action (display.GetRegistry id) = GetRegistry id

-- wl_registry.bind: one of the globals' versions
abbrev pub binds : ℕ → ℕ → Option Interface → Result Action Refusal
binds id version None = Err (display_error InvalidObject)
binds id version (Some interface) = Ok (Bind id interface version)

abbrev pub bind_action : ℕ → List ℕ → ℕ → ℕ → Result Action Refusal
bind_action name interface version id = binds id version (bound_interface name interface version)

abbrev pub registry_action : WlRegistryRequest → Result Action Refusal
registry_action (registry.Bind name interface version id) = bind_action name interface.now version id

-- wl_compositor: by itself a client's definition leaves create_surface out; the desk serves it
abbrev pub compositor_action : ℕ → WlCompositorRequest → Result Action Refusal
compositor_action version (compositor.CreateRegion id) = Ok (CreateRegion id version)
compositor_action version (compositor.CreateSurface id) = Err (display_error Implementation)

-- wl_region: a region takes 512 changes
abbrev pub changed_unless_full : ℕ → Action → Result Action Refusal
changed_unless_full changes change = if nat_le 512 changes then Err (display_error Implementation) else Ok change

abbrev pub region_action : ℕ → Option ℕ → WlRegionRequest → Result Action Refusal
region_action object None request = Err (display_error Implementation)
region_action object (Some changes) region.Destroy = Ok (DestroyRegion object)
region_action object (Some changes) (region.Add x y width height) = changed_unless_full changes (AddToRegion object (rect x y width height))
region_action object (Some changes) (region.Subtract x y width height) =
    changed_unless_full changes (SubtractFromRegion object (rect x y width height))

-- wl_shm.create_pool: the limits on stores come first
abbrev pub pool_created : ℕ → ℕ → ℕ → ℤ → Option StoreError → Result Action Refusal
pool_created object version id size None = Ok (CreatePool id version size)
pool_created object version id size (Some BadSize) = Err (record { object = object; code = InvalidStride })
pool_created object version id size (Some error) = Err (display_error Implementation)

abbrev pub shm_action : ℕ → ℕ → Stock → WlShmRequest → Result Action Refusal
shm_action object version stores (shm.CreatePool id size) = pool_created object version id size (create_refusal size stores)

-- wl_shm_pool.create_buffer
abbrev pub layout_refused : ℕ → LayoutError → Refusal
layout_refused object Format = record { object = object; code = InvalidFormat }
layout_refused object Stride = record { object = object; code = InvalidStride }

abbrev pub buffer_laid : ℕ → ℕ → ℕ → Laid → Option LayoutError → Result Action Refusal
buffer_laid object version id laid None = Ok (CreateBuffer id version laid)
buffer_laid object version id laid (Some error) = Err (layout_refused object error)

-- The buffer lies in the store. A store has at most 4,294,967,295 uses.
abbrev pub buffer_created : ℕ → ℕ → ℕ → Stock → ℕ → ℤ → ℤ → ℤ → ℤ → ℕ → Result Action Refusal
buffer_created object version store stores id offset width height stride format =
    if can_hold store stores
    then buffer_laid object version id (buffer_asked store offset width height stride format)
    (layout_refusal (size_of store stores) offset width height stride format)
    else Err (display_error Implementation)

-- wl_shm_pool.resize: the limit on the bytes of all stores comes first
abbrev pub pool_resized : ℕ → ℕ → ℤ → Option StoreError → Result Action Refusal
pool_resized object store size None = Ok (ResizePool store size)
pool_resized object store size (Some Shrinks) = Err (record { object = object; code = InvalidFd })
pool_resized object store size (Some error) = Err (display_error Implementation)

abbrev pub pool_action : ℕ → ℕ → Stock → Option ℕ → WlShmPoolRequest → Result Action Refusal
pool_action object version stores None request = Err (display_error Implementation)
pool_action object version stores (Some store) (pool.CreateBuffer id offset width height stride format) =
    buffer_created object version store stores id offset width height stride format
pool_action object version stores (Some store) pool.Destroy = Ok (DestroyPool object store)
pool_action object version stores (Some store) (pool.Resize size) = pool_resized object store size (resize_refusal store size stores)

-- wl_buffer.destroy
abbrev pub buffer_destroyed : ℕ → Option Buffer → Result Action Refusal
buffer_destroyed object None = Err (display_error Implementation)
buffer_destroyed object (Some buffer) = Ok (DestroyBuffer object buffer.laid.store)

-- wl_seat has no keyboard and no touch; its pointer is asked of the desktop
abbrev pub seat_refusal : ℕ → WlSeatRequest → Refusal
seat_refusal object (seat.GetPointer id) = display_error Implementation
seat_refusal object (seat.GetKeyboard id) = record { object = object; code = MissingCapability }
seat_refusal object (seat.GetTouch id) = record { object = object; code = MissingCapability }

-- xdg_wm_base: but for create_positioner its requests are asked of the desktop
abbrev pub base_action : ℕ → XdgWmBaseRequest → Result Action Refusal
base_action version (base.CreatePositioner id) = Ok (CreatePositioner id version)
base_action version request = Err (display_error Implementation)

-- xdg_positioner: a size or an anchor rectangle that can't be, and an anchor or gravity that there isn't, are errors
abbrev pub set_if_allowed : ℕ → Setting → Result Action Refusal
set_if_allowed object setting =
    if is_allowed setting then Ok (SetPositioner object setting) else Err (record { object = object; code = InvalidInput })

abbrev pub positioner_action : ℕ → XdgPositionerRequest → Result Action Refusal
positioner_action object positioner.Destroy = Ok (DestroyPositioner object)
positioner_action object (positioner.SetSize width height) = set_if_allowed object (Size width height)
positioner_action object (positioner.SetAnchorRect x y width height) = set_if_allowed object (AnchorRect (rect x y width height))
positioner_action object (positioner.SetAnchor anchor) = set_if_allowed object (Anchor anchor)
positioner_action object (positioner.SetGravity gravity) = set_if_allowed object (Gravity gravity)
positioner_action object (positioner.SetConstraintAdjustment adjustment) = set_if_allowed object (Adjustment adjustment)
positioner_action object (positioner.SetOffset x y) = set_if_allowed object (Offset x y)
positioner_action object positioner.SetReactive = set_if_allowed object Reactive
positioner_action object (positioner.SetParentSize width height) = set_if_allowed object (ParentSize width height)
positioner_action object (positioner.SetParentConfigure serial) = set_if_allowed object (ParentConfigure serial)

-- The request's own errors, and what it asks. What is asked of the desktop is nothing here, and is refused as a limit would be.
abbrev pub action_of : Known → ℕ → ℕ → Request → Result Action Refusal
action_of known object version (ToDisplay request) = Ok (display_action request)
action_of known object version (ToRegistry name interface bound id) = bind_action name interface bound id
action_of known object version (ToCompositor request) = compositor_action version request
action_of known object version (ToRegion request) = region_action object (known.changes object) request
action_of known object version (ToShm request) = shm_action object version known.stores request
action_of known object version (ToPool request) = pool_action object version known.stores (known.pools object) request
action_of known object version (ToBuffer request) = buffer_destroyed object (known.buffers object)
action_of known object version (ToSeat request) = Err (seat_refusal object request)
action_of known object version (ToBase request) = base_action version request
action_of known object version (ToPositioner request) = positioner_action object request
action_of known object version request = Err (display_error Implementation)

-- A new id must be free, and no client has more than 8,192 objects.
abbrev pub after_new_id : {X : Type 0} → Objects → ℕ → Option NewId → Result X Refusal → Result X Refusal
after_new_id objects held None asked = asked
after_new_id objects held (Some new) asked =
    if is_free objects new.id
    then (if nat_le 8192 held then Err (display_error Implementation) else asked)
    else Err (display_error InvalidObject)

-- After these the request's own errors come, and what it asks.
abbrev pub judged : {X : Type 0} → Objects → ℕ → (Message → Result X Refusal) → Result Message ProtoError → Result X Refusal
judged objects held asks (Err error) = Err (display_error InvalidMethod)
judged objects held asks (Ok request) =
    if list_all (fits objects) (objects_named request)
    then after_new_id objects held (new_id_in request) (asks request)
    else Err (display_error InvalidMethod)

abbrev pub judged_at : {X : Type 0} → Objects → ℕ → (ℕ → Message → Result X Refusal) → ℕ → List ℕ → Option Object → Result X Refusal
judged_at objects held asks opcode body None = Err (display_error InvalidObject)
judged_at objects held asks opcode body (Some o) = judged objects held (asks o.version) (decoded o.interface o.version opcode body)

-- what a message to an object asks, or the first error that it has
abbrev pub judge : Known → ℕ → ℕ → List ℕ → Result Action Refusal
judge known object opcode body =
    judged_at known.objects known.held (λ version m. action_of known object version (request_of m)) opcode body
    (known.objects object)

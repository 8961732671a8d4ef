-- What is known of an accepted message to one of a client's own interfaces.
use Rattle.std.proofs.Common.{◌≡◌, ℕ, zero, suc, ℤ, List, [], ◌∷◌, Bool, true, false, Option, Some, None, Result, refl}
use Rattle.std.specs.Prelude.{Ok, Err, if◌then◌else◌, cond, find, nat_le}
use Rattle.std.specs.Option.{option_map}
use Rattle.wl_wire.specs.Wire.{Field}
use Rattle.wl_proto.specs.declared.interface.Interface.{Interface}
use Rattle.wl_proto.specs.declared.interface.Interface.TheVariants.{WlDisplay, WlRegistry, WlCompositor, WlRegion, WlShm, WlShmPool, WlBuffer, XdgWmBase, XdgPositioner}
use Rattle.wl_proto.specs.Table.{AUint, AnInt}
use Rattle.wl_store.specs.declared.place.LayoutError.{LayoutError}
use Rattle.wl_store.specs.declared.stores.StoreError.{StoreError}
use Rattle.wl_store.specs.declared.stores.StoreError.TheVariants.{BadSize, Shrinks}
use Rattle.wl_store.specs.Stores.{Stock, can_hold, create_refusal}
use Rattle.spec_desktop.specs.declared.actions.Action.{Action}
use Rattle.spec_desktop.specs.declared.refusals.Refusal.{Refusal}
use Rattle.spec_desktop.specs.Buffers.{Buffer, Laid}
use Rattle.spec_desktop.specs.Judgement.{Known, action_of, binds, buffer_destroyed, buffer_laid, changed_unless_full, pool_action, pool_created, pool_resized, region_action}
use Rattle.spec_desktop.specs.Judgement.{positioner_action, set_if_allowed}
use Rattle.wl_proto.specs.declared.wl_region.WlRegionRequest.{WlRegionRequest}
use Rattle.wl_proto.specs.declared.wl_region.WlRegionRequest.TheVariants as region
use Rattle.wl_proto.specs.declared.xdg_positioner.XdgPositionerRequest.{XdgPositionerRequest}
use Rattle.wl_proto.specs.declared.xdg_positioner.XdgPositionerRequest.TheVariants as positioner
use Rattle.wl_shell.specs.Settings.{is_allowed}
use Rattle.wl_shell.specs.declared.settings.Setting.{Setting}
use Rattle.wl_shell.specs.declared.settings.Setting.TheVariants.{Size, AnchorRect, Anchor, Gravity, Adjustment, Offset}
use Rattle.wl_shell.specs.declared.settings.Setting.TheVariants.{ParentConfigure, ParentSize, Reactive}
use Rattle.spec_desktop.specs.Requests.{pool_request, positioner_request, region_request, rect, request_in, number_in, text_in, word_in}
use Rattle.spec_desktop.specs.Objects.{Global, bound_interface, globals, is_bound}
use Rattle.spec_desktop.specs.Desktop.{Resident}
use Rattle.law_desktop.proofs.Soundness.Orderly.{IsNew, IsObject, IsOwn, is_no_surface}
use Rattle.law_desktop.proofs.Soundness.AllowedHeard.{IsHeard, fresh-bound, fresh-first}

-- what an action that is accepted asks is allowed
abbrev pub AllowsOwn : Resident → Result Action Refusal → Type 0
AllowsOwn r (Ok action) = IsOwn r action
AllowsOwn r (Err refusal) = Unit {0}

pub own-either : (r : Resident) (b : Bool) (x y : Result Action Refusal) → (b ≡ true → AllowsOwn r x) → (b ≡ false → AllowsOwn r y) → AllowsOwn r (if b then x else y)
own-either r true x y f g = f refl
own-either r false x y f g = g refl

abbrev pub IsHeardBy : Interface → Resident → ℕ → ℕ → List Field → Type 0
IsHeardBy interface r object opcode fields = IsHeard r.peer.objects object interface opcode fields

-- ---- a bind

abbrev IsNoSurface : Option Interface → Type 0
IsNoSurface None = Unit {0}
IsNoSurface (Some interface) = is_no_surface interface ≡ true

abbrev NoneIsSurface : List Global → Type 0
NoneIsSurface [] = Unit {0}
NoneIsSurface (g ∷ gs) = (is_no_surface g.interface ≡ true) × NoneIsSurface gs

found-global : (p : Global → Bool) (gs : List Global) → NoneIsSurface gs → IsNoSurface (option_map (λ g. g.interface) (find p gs))
found-global p [] none = tt
found-global p (g ∷ gs) none = at (p g) (found-global p gs none.1)
  where
    at : (b : Bool) → IsNoSurface (option_map (λ g. g.interface) (find p gs)) → IsNoSurface (option_map (λ g. g.interface) (cond b (Some g) (find p gs)))
    at true later = none.0
    at false later = later

bind-allowed : (r : Resident) (id version : ℕ) (o : Option Interface) → IsNew id r → IsNoSurface o → AllowsOwn r (binds id version o)
bind-allowed r id version None new none = tt
bind-allowed r id version (Some interface) new none = (new, none)

registry-allowed : (r : Resident) (object opcode : ℕ) (fields : List Field) → IsHeardBy WlRegistry r object opcode fields → (known : Known) (version : ℕ)
    → AllowsOwn r (action_of known object version (request_in WlRegistry opcode fields))
registry-allowed r object zero fields heard known version =
    bind-allowed r (word_in 3 fields) (word_in 2 fields) (bound_interface (word_in 0 fields) (text_in 1 fields) (word_in 2 fields)) (fresh-bound r.peer.objects fields heard.kinds heard.fresh)
    (found-global (is_bound (word_in 0 fields) (text_in 1 fields) (word_in 2 fields)) globals (refl, (refl, (refl, (refl, (refl, (refl, tt)))))))
registry-allowed r object (suc opcode) fields heard known version = absurd heard.kinds

-- ---- the others

display-allowed : (r : Resident) (object opcode : ℕ) (fields : List Field) → IsHeardBy WlDisplay r object opcode fields → (known : Known) (version : ℕ)
    → AllowsOwn r (action_of known object version (request_in WlDisplay opcode fields))
display-allowed r object zero fields heard known version = tt
display-allowed r object (suc zero) fields heard known version = fresh-first r.peer.objects _ [] [] fields heard.kinds heard.fresh
display-allowed r object (suc (suc opcode)) fields heard known version = absurd heard.kinds

compositor-allowed : (r : Resident) (object opcode : ℕ) (fields : List Field) → IsHeardBy WlCompositor r object opcode fields → (known : Known) (version : ℕ)
    → AllowsOwn r (action_of known object version (request_in WlCompositor opcode fields))
compositor-allowed r object zero fields heard known version = tt
compositor-allowed r object (suc zero) fields heard known version = fresh-first r.peer.objects _ [] [] fields heard.kinds heard.fresh
compositor-allowed r object (suc (suc opcode)) fields heard known version = absurd heard.kinds

full-allowed : (r : Resident) (changes : ℕ) (action : Action) → IsOwn r action → AllowsOwn r (changed_unless_full changes action)
full-allowed r changes action own = own-either r (nat_le 512 changes) _ _ (λ e. tt) (λ e. own)

region-allowed : (r : Resident) (object : ℕ) (changes : Option ℕ) (request : WlRegionRequest) → IsObject WlRegion object r → AllowsOwn r (region_action object changes request)
region-allowed r object None request live = tt
region-allowed r object (Some changes) region.Destroy live = live
region-allowed r object (Some changes) request live = full-allowed r changes _ tt

created-allowed : (r : Resident) (object version id : ℕ) (size : ℤ) (o : Option StoreError) → IsNew id r → AllowsOwn r (pool_created object version id size o)
created-allowed r object version id size None new = new
created-allowed r object version id size (Some BadSize) new = tt
created-allowed r object version id size (Some error) new = tt

shm-allowed : (r : Resident) (object opcode : ℕ) (fields : List Field) → IsHeardBy WlShm r object opcode fields → (known : Known) (version : ℕ)
    → AllowsOwn r (action_of known object version (request_in WlShm opcode fields))
shm-allowed r object zero fields heard known version =
    created-allowed r object version (word_in 0 fields) (number_in 1 fields) (create_refusal (number_in 1 fields) known.stores)
    (fresh-first r.peer.objects _ (AnInt ∷ []) _ fields heard.kinds heard.fresh)
shm-allowed r object (suc opcode) fields heard known version = absurd heard.kinds

laid-allowed : (r : Resident) (object version id : ℕ) (laid : Laid) (o : Option LayoutError) → IsNew id r → AllowsOwn r (buffer_laid object version id laid o)
laid-allowed r object version id laid None new = new
laid-allowed r object version id laid (Some error) new = tt

resized-allowed : (r : Resident) (object store : ℕ) (size : ℤ) (o : Option StoreError) → AllowsOwn r (pool_resized object store size o)
resized-allowed r object store size None = tt
resized-allowed r object store size (Some Shrinks) = tt
resized-allowed r object store size (Some error) = tt

pool-allowed : (r : Resident) (object opcode : ℕ) (fields : List Field) → IsHeardBy WlShmPool r object opcode fields → (version : ℕ) (stores : Stock) (o : Option ℕ)
    → AllowsOwn r (pool_action object version stores o (pool_request opcode fields))
pool-allowed r object opcode fields heard version stores None = tt
pool-allowed r object zero fields heard version stores (Some store) =
    own-either r (can_hold store stores) _ _ (λ f. laid-allowed r object version (word_in 0 fields) _ _ (fresh-first r.peer.objects _ (AnInt ∷ AnInt ∷ AnInt ∷ AnInt ∷ AUint ∷ []) _ fields heard.kinds
    heard.fresh)) (λ f. tt)
pool-allowed r object (suc zero) fields heard version stores (Some store) = heard.live
pool-allowed r object (suc (suc zero)) fields heard version stores (Some store) = resized-allowed r object store (number_in 0 fields) _
pool-allowed r object (suc (suc (suc opcode))) fields heard version stores (Some store) = absurd heard.kinds

buffer-allowed : (r : Resident) (object : ℕ) (o : Option Buffer) → IsObject WlBuffer object r → AllowsOwn r (buffer_destroyed object o)
buffer-allowed r object None live = tt
buffer-allowed r object (Some buffer) live = live

base-allowed : (r : Resident) (object opcode : ℕ) (fields : List Field) → IsHeardBy XdgWmBase r object opcode fields → (known : Known) (version : ℕ)
    → AllowsOwn r (action_of known object version (request_in XdgWmBase opcode fields))
base-allowed r object (suc zero) fields heard known version = fresh-first r.peer.objects _ [] [] fields heard.kinds heard.fresh
base-allowed r object (suc (suc (suc (suc opcode)))) fields heard known version = absurd heard.kinds
base-allowed r object opcode fields heard known version = tt

set-allowed : (r : Resident) (object : ℕ) (setting : Setting) → AllowsOwn r (set_if_allowed object setting)
set-allowed r object setting = own-either r (is_allowed setting) _ _ (λ e. tt) (λ e. tt)

positioner-allowed : (r : Resident) (object : ℕ) (request : XdgPositionerRequest) → IsObject XdgPositioner object r → AllowsOwn r (positioner_action object request)
positioner-allowed r object positioner.Destroy live = live
positioner-allowed r object (positioner.SetSize width height) live = set-allowed r object (Size width height)
positioner-allowed r object (positioner.SetAnchorRect x y width height) live = set-allowed r object (AnchorRect (rect x y width height))
positioner-allowed r object (positioner.SetAnchor anchor) live = set-allowed r object (Anchor anchor)
positioner-allowed r object (positioner.SetGravity gravity) live = set-allowed r object (Gravity gravity)
positioner-allowed r object (positioner.SetConstraintAdjustment adjustment) live = set-allowed r object (Adjustment adjustment)
positioner-allowed r object (positioner.SetOffset x y) live = set-allowed r object (Offset x y)
positioner-allowed r object positioner.SetReactive live = set-allowed r object Reactive
positioner-allowed r object (positioner.SetParentSize width height) live = set-allowed r object (ParentSize width height)
positioner-allowed r object (positioner.SetParentConfigure serial) live = set-allowed r object (ParentConfigure serial)

-- what a client's own interfaces accept
pub own-allowed : (interface : Interface) (r : Resident) (object opcode : ℕ) (fields : List Field) → IsHeardBy interface r object opcode fields → (known : Known) (version : ℕ)
    → AllowsOwn r (action_of known object version (request_in interface opcode fields))
own-allowed WlDisplay r object opcode fields heard known version = display-allowed r object opcode fields heard known version
own-allowed WlRegistry r object opcode fields heard known version = registry-allowed r object opcode fields heard known version
own-allowed WlCompositor r object opcode fields heard known version = compositor-allowed r object opcode fields heard known version
own-allowed WlRegion r object opcode fields heard known version = region-allowed r object (known.changes object) (region_request opcode fields) heard.live
own-allowed WlShm r object opcode fields heard known version = shm-allowed r object opcode fields heard known version
own-allowed WlShmPool r object opcode fields heard known version = pool-allowed r object opcode fields heard version known.stores (known.pools object)
own-allowed WlBuffer r object opcode fields heard known version = buffer-allowed r object (known.buffers object) heard.live
own-allowed XdgWmBase r object opcode fields heard known version = base-allowed r object opcode fields heard known version
own-allowed XdgPositioner r object opcode fields heard known version = positioner-allowed r object (positioner_request opcode fields) heard.live
own-allowed interface r object opcode fields heard known version = tt

-- One client of the plain desktop: what a compositor holds of it, whatever a program keeps.
use Rattle.std.specs.Option.{option_map}
use Rattle.std.specs.Prelude.{ℕ, ◌≡◌, ◌+◌, ◌-◌, List, [], ◌∷◌, ◌++◌, fold, length, drop, Bool, true, false, ◌&&◌, nat_le}
use Rattle.std.specs.Prelude.{if◌then◌else◌, is_some, Option, Some, None, ◌⊎◌, IsTrue, MatchBool, MatchOption}
use Rattle.std.specs.Prelude.{unsigned_abs}
use Rattle.wl_wire.specs.Wire.{split_of}
use Rattle.wl_wire.specs.declared.header.Split.TheVariants.{More}
use Rattle.wl_proto.specs.declared.interface.Interface.{Interface}
use Rattle.wl_proto.specs.declared.interface.Interface.TheVariants.{WlDisplay, WlRegistry, WlRegion, WlShmPool, WlBuffer}
use Rattle.wl_proto.specs.declared.interface.Interface.TheVariants.{XdgPositioner}
use Rattle.wl_proto.specs.Spelling.{event_size}
use Rattle.wl_geom.specs.Region.{Change, Add, Subtract}
use Rattle.wl_store.specs.Stores.{Stock, created, let_go, resized, store_at, used, write_refusal, written}
use Rattle.wl_store.specs.declared.stores.StoreError.{StoreError}
use Rattle.wl_shell.specs.Positioner.{Positioner, first_positioner}
use Rattle.wl_shell.specs.Settings.{with_setting}
use Rattle.wl_shell.specs.declared.settings.Setting.{Setting}
use Rattle.spec_desktop.specs.declared.cause.Cause.{Cause}
use Rattle.spec_desktop.specs.declared.cause.Cause.TheVariants.{Protocol, Memory, Slow, Gone}
use Rattle.spec_desktop.specs.declared.refusals.ErrorCode.TheVariants.{NoMemory}
use Rattle.spec_desktop.specs.declared.refusals.Refusal.{Refusal}
use Rattle.spec_desktop.specs.declared.actions.Action.{Action}
use Rattle.spec_desktop.specs.declared.actions.Action.TheVariants.{Sync, GetRegistry, Bind, CreateRegion, AddToRegion, SubtractFromRegion}
use Rattle.spec_desktop.specs.declared.actions.Action.TheVariants.{DestroyRegion, CreatePool, CreateBuffer, ResizePool, DestroyPool}
use Rattle.spec_desktop.specs.declared.actions.Action.TheVariants.{DestroyBuffer, CreatePositioner, SetPositioner, DestroyPositioner}
use Rattle.spec_desktop.specs.Buffers.{Buffer, numbered}
use Rattle.spec_desktop.specs.Judgement.{Known}
use Rattle.spec_desktop.specs.Objects.{ById, Object, Objects, nothing, with_id}
use Rattle.spec_desktop.specs.Told.{Output, Said, bind_told, callback_done, code_number, display_error, error_told, id_deleted, registry_told}
use Rattle.spec_desktop.specs.Told.{said_bytes}

-- One client: why it ended, if it did; how many requests it made; its live objects, and how many they are; of the regions, pools, buffers
-- and positioners among them each region's list of changes, each pool's store, each buffer's number and place, and each positioner's
-- values; the stores; the next serial; the bytes that wait to be sent to it; the bytes that came from it after its last whole message; and
-- the output that it is shown on.
pub record Peer : Type 0 where
  pub status : Option Cause
  pub requests : ℕ
  pub objects : Objects
  pub held : ℕ
  pub regions : ById (List Change)
  pub pools : ById ℕ
  pub buffers : ById Buffer
  pub positioners : ById Positioner
  pub stores : Stock
  pub serial : ℕ
  pub unsent : List ℕ
  pub rest : List ℕ
  pub output : Output

abbrev pub object_at_version : Interface → ℕ → Object
object_at_version interface version = record { interface = interface; version = version }

abbrev pub no_stores : Stock
no_stores = record { held = []; made = 0 }

-- A client that has just connected has the one object wl_display, whose id is 1 (Wayland protocol, 'Creating Objects').
abbrev pub newcomer : Output → Peer
newcomer output =
    record {
      status = None;
      requests = 0;
      objects = with_id 1 (Some (object_at_version WlDisplay 1)) nothing;
      held = 1;
      regions = nothing;
      pools = nothing;
      buffers = nothing;
      positioners = nothing;
      stores = no_stores;
      serial = 1;
      unsent = [];
      rest = [];
      output = output;
    }

-- what a judgement of its messages looks at
abbrev pub known_of : Peer → Known
known_of p =
    record {
      objects = p.objects;
      held = p.held;
      changes = λ id. option_map length (p.regions id);
      pools = p.pools;
      buffers = p.buffers;
      stores = p.stores;
    }

-- The client ends: its objects and stores go. What waits to be sent to it stays.
abbrev pub ended : Cause → Peer → Peer
ended cause p =
    record p {
      status = Some cause;
      objects = nothing;
      held = 0;
      regions = nothing;
      pools = nothing;
      buffers = nothing;
      positioners = nothing;
      stores = no_stores;
      rest = [];
    }

abbrev pub queued : Said → Peer → Peer
queued event p = record p { unsent = p.unsent ++ said_bytes event }

abbrev pub counted : Peer → Peer
counted p = record p { requests = p.requests + 1 }

abbrev pub made : ℕ → Object → Peer → Peer
made id object p = record p { objects = with_id id (Some object) p.objects; held = p.held + 1 }

abbrev pub with_rest : List ℕ → Peer → Peer
with_rest rest p = record p { rest = rest }

-- an event may be queued: with it at most 1,048,576 bytes wait
abbrev pub has_room : List ℕ → Said → Bool
has_room unsent event = nat_le (event_size event.message) 65532 && nat_le (length unsent + event_size event.message) 1048576

-- An event isn't queued for this cause: the one that an event before it wasn't queued for, if there is one; else as out of memory where
-- there is room, and of room where there is none.
abbrev pub IsUnqueuedFor : Option Cause → Bool → Cause → Type 0
IsUnqueuedFor before room cause = MatchOption before (MatchBool room (cause ≡ Memory) (cause ≡ Slow)) (λ was. cause ≡ was)

-- One event: past the limit the client ends, and it may end as out of memory. `Later` is what comes where it was queued.
abbrev pub QueuesOr : Bool → Type 0 → Peer → Peer → Type 0
QueuesOr false Later old new = new ≡ ended Slow old
QueuesOr true Later old new = (new ≡ ended Memory old) ⊎ Later

-- these events are queued in turn, until one isn't
abbrev pub Queues : List Said → Peer → Peer → Type 0
Queues [] old new = new ≡ old
Queues (event ∷ events) old new = QueuesOr (has_room old.unsent event) (Queues events (queued event old) new) old new

-- An event is queued, or it isn't, and ends nobody by that: past the limit, or where memory runs out. `Later` is what comes where it was.
abbrev pub QueuesFirst : Bool → Type 0 → Peer → Peer → Option Cause → Type 0
QueuesFirst false Later p q why = (q ≡ p) × (why ≡ Some Slow)
QueuesFirst true Later p q why = ((q ≡ p) × (why ≡ Some Memory)) ⊎ Later

-- these are queued in turn, until one isn't, and why
abbrev pub QueuesTo : List Said → Peer → Peer → Option Cause → Type 0
QueuesTo [] p q why = (q ≡ p) × (why ≡ None)
QueuesTo (event ∷ events) p q why = QueuesFirst (has_room p.unsent event) (QueuesTo events (queued event p) q why) p q why

-- The client ends with an error, of which it is told. Where the event isn't queued, the cause is why.
abbrev pub Errs : Refusal → Peer → Peer → Type 0
Errs refusal old new =
    QueuesOr (has_room old.unsent (error_told refusal))
    (new ≡ ended (Protocol refusal.object (code_number refusal.code)) (queued (error_told refusal) old)) old new

-- The client ends as out of memory, of which it is told where there is memory and room for that.
abbrev pub LacksMemory : Peer → Peer → Type 0
LacksMemory old new =
    (new ≡ ended Memory old)
    ⊎ (IsTrue (has_room old.unsent (error_told (display_error NoMemory)))
    × (new ≡ ended Memory (queued (error_told (display_error NoMemory)) old)))

-- an object goes, if it is there
abbrev pub removed : ℕ → Peer → Peer
removed id p = record p { objects = with_id id None p.objects; held = p.held - (if is_some (p.objects id) then 1 else 0) }

-- these objects go, in turn
abbrev pub all_removed : List ℕ → Peer → Peer
all_removed ids p = fold (λ p id. removed id p) p ids

abbrev pub changed_region : ℕ → Change → Peer → Peer
changed_region id change p = record p { regions = with_id id (option_map (λ changes. changes ++ change ∷ []) (p.regions id)) p.regions }

-- of a positioner this is set, in place of what was set before
abbrev pub set_positioner : ℕ → Setting → Peer → Peer
set_positioner id setting p =
    record p { positioners = with_id id (option_map (λ values. with_setting setting values) (p.positioners id)) p.positioners }

-- one use of a store less: at none it goes, so a store lives while its pool or one of its buffers does
abbrev pub released : ℕ → Stock → Stock
released store stores = if is_some (store_at store stores) then let_go store stores else stores

-- What an accepted message changes. A pool's store is the next of the client's (wayland.xml, wl_shm.create_pool); its bytes are zeros. A
-- buffer's number is that of its request.
abbrev pub changed : Action → Peer → Peer
changed (Sync callback) p = p
changed (GetRegistry registry) p = made registry (object_at_version WlRegistry 1) p
changed (Bind id interface version) p = made id (object_at_version interface version) p
changed (CreateRegion id version) p = made id (object_at_version WlRegion version) (record p { regions = with_id id (Some []) p.regions })
changed (AddToRegion id rect) p = changed_region id (Add rect) p
changed (SubtractFromRegion id rect) p = changed_region id (Subtract rect) p
changed (DestroyRegion id) p = removed id (record p { regions = with_id id None p.regions })
changed (CreatePool id version size) p =
    made id (object_at_version WlShmPool version)
    (record p { pools = with_id id (Some (p.stores.made + 1)) p.pools; stores = created (unsigned_abs size) p.stores })
changed (CreateBuffer id version laid) p =
    made id (object_at_version WlBuffer version)
    (record p { buffers = with_id id (Some (numbered p.requests laid)) p.buffers; stores = used laid.store p.stores })
changed (ResizePool store size) p = record p { stores = resized store (unsigned_abs size) p.stores }
changed (DestroyPool id store) p = removed id (record p { pools = with_id id None p.pools; stores = released store p.stores })
changed (DestroyBuffer id store) p = removed id (record p { buffers = with_id id None p.buffers; stores = released store p.stores })
changed (CreatePositioner id version) p =
    made id (object_at_version XdgPositioner version) (record p { positioners = with_id id (Some first_positioner) p.positioners })
changed (SetPositioner id setting) p = set_positioner id setting p
changed (DestroyPositioner id) p = removed id (record p { positioners = with_id id None p.positioners })

-- What it is answered with. A sync's callback is done at once, and its id given back (wayland.xml, wl_display.sync), as is the id of
-- an object that is destroyed (wl_display.delete_id).
abbrev pub answers_to : Output → Action → List Said
answers_to output (Sync callback) = callback_done callback ∷ id_deleted callback ∷ []
answers_to output (GetRegistry registry) = registry_told registry
answers_to output (Bind id interface version) = bind_told output id interface
answers_to output (DestroyRegion id) = id_deleted id ∷ []
answers_to output (DestroyPool id store) = id_deleted id ∷ []
answers_to output (DestroyBuffer id store) = id_deleted id ∷ []
answers_to output (DestroyPositioner id) = id_deleted id ∷ []
answers_to output action = []

-- It may run out of memory for what it changes.
abbrev pub takes_memory : Action → Bool
takes_memory (Sync callback) = false
takes_memory (DestroyRegion id) = false
takes_memory (DestroyPool id store) = false
takes_memory (DestroyBuffer id store) = false
takes_memory (SetPositioner id setting) = false
takes_memory (DestroyPositioner id) = false
takes_memory action = true

-- there may be no memory; or `Later`
abbrev pub WantsOr : Bool → Type 0 → Peer → Peer → Type 0
WantsOr false Later old new = Later
WantsOr true Later old new = LacksMemory old new ⊎ Later

-- What an accepted message asks is done, and then answered.
abbrev pub Acts : Action → Peer → Peer → Type 0
Acts action old new = WantsOr (takes_memory action) (Queues (answers_to old.output action) (changed action old) new) old new

-- nothing is left to take
abbrev pub IsIdleAt : Option Cause → List ℕ → Type 0
IsIdleAt (Some cause) rest = Unit {0}
IsIdleAt None rest = split_of rest ≡ More

abbrev pub IsIdle : Peer → Type 0
IsIdle p = IsIdleAt p.status p.rest

-- The client goes: one that lives ends so.
abbrev pub left_by : Option Cause → Peer → Peer
left_by None p = ended Gone p
left_by (Some cause) p = p

-- so many of the unsent bytes were sent, if there are so many
abbrev pub sent_by : ℕ → Peer → Peer
sent_by n p = if nat_le n (length p.unsent) then record p { unsent = drop n p.unsent } else p

-- bytes are put into a store of a client that lives, where they lie in it
abbrev pub stored_by : ℕ → ℕ → List ℕ → Option StoreError → Peer → Peer
stored_by store at bytes None p = record p { stores = written store at bytes p.stores }
stored_by store at bytes (Some error) p = p

abbrev pub stored_at : Option Cause → ℕ → ℕ → List ℕ → Peer → Peer
stored_at (Some cause) store at bytes p = p
stored_at None store at bytes p = stored_by store at bytes (write_refusal store at (length bytes) p.stores) p

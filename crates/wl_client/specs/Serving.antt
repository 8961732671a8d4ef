-- One message of a client whose surfaces use some of its buffers.
use Rattle.std.specs.Prelude.{ℕ, ◌≡◌, ◌≢◌, ◌-◌, ◌==◌, Bool, true, false, if◌then◌else◌, List, take, drop, Option, Some, None, Result, Ok}
use Rattle.std.specs.Prelude.{Err, ◌⊎◌}
use Rattle.std.specs.List.{list_any}
use Rattle.wl_wire.specs.declared.header.Split.{Split}
use Rattle.wl_wire.specs.declared.header.Split.TheVariants.{Message as Whole, More, Bad}
use Rattle.wl_proto.specs.declared.interface.Interface.{Interface}
use Rattle.wl_proto.specs.declared.interface.Interface.TheVariants.{WlDisplay, WlRegistry, WlRegion, WlShm, WlShmPool, WlBuffer}
use Rattle.wl_proto.specs.declared.interface.Interface.TheVariants.{WlSurface, XdgPopup, XdgPositioner, XdgSurface, XdgToplevel}
use Rattle.wl_proto.specs.Messages.{Message, request_message}
use Rattle.wl_proto.specs.declared.request.Request.{Request}
use Rattle.wl_wire.specs.Wire.{split_of}
use Rattle.wl_surface.specs.Slots.{IsAny, Numbered, Slots, StandForAll, has_at}
use Rattle.wl_shell.specs.Settings.{is_allowed}
use Rattle.wl_table.specs.Objects.{Held, HoldsAt, entry_of}
use Rattle.wl_table.specs.declared.entry.Entry.{Entry}
use Rattle.spec_desktop.specs.declared.actions.Action.{Action}
use Rattle.spec_desktop.specs.declared.actions.Action.TheVariants.{GetRegistry, Bind, CreateRegion, DestroyRegion, CreatePool, CreateBuffer}
use Rattle.spec_desktop.specs.declared.actions.Action.TheVariants.{DestroyPool, DestroyBuffer, CreatePositioner, SetPositioner, DestroyPositioner}
use Rattle.spec_desktop.specs.declared.cause.Cause.{Cause}
use Rattle.spec_desktop.specs.declared.cause.Cause.TheVariants.{Protocol, Memory, Slow}
use Rattle.spec_desktop.specs.declared.refusals.ErrorCode.TheVariants.{InvalidMethod}
use Rattle.spec_desktop.specs.declared.refusals.Refusal.{Refusal}
use Rattle.wl_client.specs.declared.served.Next.{Next}
use Rattle.wl_client.specs.declared.served.Next.TheVariants as nexts
use Rattle.wl_client.specs.declared.served.Served.{Served}
use Rattle.wl_client.specs.declared.served.Served.TheVariants as answers
use Rattle.wl_client.specs.Agreement.{known_in}
use Rattle.wl_client.specs.First.{IsRefused, Passes}
use Rattle.spec_desktop.specs.Judgement.{action_of, judge}
use Rattle.spec_desktop.specs.Requests.{request_of}
use Rattle.spec_desktop.specs.Objects.{entry_at_version}
use Rattle.spec_desktop.specs.Peer.{Peer, Errs, Queues, WantsOr, answers_to, counted, known_of, takes_memory, with_rest}
use Rattle.spec_desktop.specs.Told.{code_number, display_error}
use Rattle.wl_client.specs.View.{ClientView}
use Rattle.spec_desktop.specs.Used.{changed_with}

-- the interfaces whose requests change nothing but the client, and leave its surfaces as they are
abbrev pub is_own : Interface → Bool
is_own WlDisplay = true
is_own WlRegistry = true
is_own WlRegion = true
is_own WlShm = true
is_own WlShmPool = true
is_own WlBuffer = true
is_own XdgPositioner = true
is_own interface = false

-- the interfaces whose objects name a surface: wl_surface, xdg_surface, and those of role objects
abbrev pub is_of_surface : Interface → Bool
is_of_surface WlSurface = true
is_of_surface XdgSurface = true
is_of_surface XdgToplevel = true
is_of_surface XdgPopup = true
is_of_surface interface = false

-- what is held, where it is one of those objects
abbrev pub of_surface : Option Entry → Option Entry
of_surface None = None
of_surface (Some entry) = if is_of_surface entry.interface then Some entry else None

-- those are the same under each id
abbrev pub KeepsSurfaces : Held → Held → Type 0
KeepsSurfaces old new = (id : ℕ) → of_surface (entry_of new id) ≡ of_surface (entry_of old id)

-- the numbers of the buffers that the surfaces use, which are kept so: pending, held or applied
abbrev pub AreUsed : Slots → (ℕ → Bool) → Type 0
AreUsed slots used = (all : Numbered) × StandForAll slots all × ((number : ℕ) → IsAny (has_at number) all (used number))

-- what an accepted message asks is done, and then answered
abbrev pub ActsWith : (ℕ → Bool) → Action → Peer → Peer → Type 0
ActsWith used action old new = WantsOr (takes_memory action) (Queues (answers_to old.output action) (changed_with used action old) new) old
    new

-- what is set of a positioner is allowed; all else may be done anyway
abbrev pub may_be_done : Action → Bool
may_be_done (SetPositioner id setting) = is_allowed setting
may_be_done action = true

-- a message is answered, or refused
abbrev pub AnswersWith : (ℕ → Bool) → Result Action Refusal → Peer → Peer → Type 0
AnswersWith used (Ok action) old new = ActsWith used action (counted old) new
AnswersWith used (Err refusal) old new = Errs refusal old new

-- the first message of what has come is taken
abbrev pub TakesWith : (ℕ → Bool) → Split → Peer → Peer → Type 0
TakesWith used (Whole object opcode size) old new =
    AnswersWith used (judge (known_of old) object opcode (take (size - 8) (drop 8 old.rest))) (with_rest (drop size old.rest) old) new
TakesWith used Bad old new = Errs (display_error InvalidMethod) old new
TakesWith used More old new = ⊥

-- what it makes of the table of objects
abbrev pub ChangesTable : Action → Held → Held → Type 0
ChangesTable (GetRegistry id) old new = HoldsAt old new id (Some (entry_at_version WlRegistry 1))
ChangesTable (Bind id interface version) old new = HoldsAt old new id (Some (entry_at_version interface version))
ChangesTable (CreateRegion id version) old new = HoldsAt old new id (Some (entry_at_version WlRegion version))
ChangesTable (CreatePool id version size) old new = HoldsAt old new id (Some (entry_at_version WlShmPool version))
ChangesTable (CreateBuffer id version laid) old new = HoldsAt old new id (Some (entry_at_version WlBuffer version))
ChangesTable (DestroyRegion id) old new = HoldsAt old new id None
ChangesTable (DestroyPool id store) old new = HoldsAt old new id None
ChangesTable (DestroyBuffer id store) old new = HoldsAt old new id None
ChangesTable (CreatePositioner id version) old new = HoldsAt old new id (Some (entry_at_version XdgPositioner version))
ChangesTable (DestroyPositioner id) old new = HoldsAt old new id None
ChangesTable action old new = new ≡ old

-- new holds nothing under these ids, and under every other id what old holds
abbrev pub HoldsWithout : Held → Held → List ℕ → Type 0
HoldsWithout old new ids = (other : ℕ) → entry_of new other ≡ (if list_any (λ id. other == id) ids then None else entry_of old other)

-- the first message passes, and is to an object of this kind
abbrev pub PassesTo : Bool → ClientView → Type 0
PassesTo own v =
    (object : ℕ) × (version : ℕ) × (size : ℕ) × (target : ℕ) × (m : Message) × Passes v object version size target m
    × (is_own m.interface ≡ own)

-- The first message passes, is of one of these, and is judged so.
pub record IsOwnMessage (v : ClientView) (size : ℕ) (judged : Result Action Refusal) : Type 0 where
  pub object : ℕ
  pub version : ℕ
  pub target : ℕ
  pub request : Request
  pub passes : Passes v object version size target (request_message request)
  pub own : is_own (request_message request).interface ≡ true
  pub is_judged : judged ≡ action_of (known_in v) object version (request_of (request_message request))

abbrev pub IsNext : ClientView → Next → Type 0
IsNext v nexts.More = split_of v.rest ≡ More
IsNext v nexts.Other = PassesTo false v
IsNext v (nexts.Refused refusal) = IsRefused (split_of v.rest) v refusal
IsNext v (nexts.Own size judged) = IsOwnMessage v size judged

-- a client that lives takes one message
abbrev pub ServesWith : (ℕ → Bool) → Peer → Peer → Type 0
ServesWith used old new = (old.status ≡ None) × TakesWith used (split_of old.rest) old new

abbrev pub was_taken : Served → Bool
was_taken answers.Done = true
was_taken (answers.Refused object code) = true
was_taken answers.More = false
was_taken answers.Other = false

-- a client that is refused ends by the error, or by why it couldn't be told of it
abbrev pub EndsBy : Refusal → Option Cause → Type 0
EndsBy refusal ended = (ended ≡ Some (Protocol refusal.object (code_number refusal.code))) ⊎ ((ended ≡ Some Memory) ⊎ (ended ≡ Some Slow))

-- Why a client has ended, by the answer: one refused, by that error or since it couldn't be told; one served, not as out of memory.
abbrev pub EndsSo : Served → Option Cause → Type 0
EndsSo answers.Done ended = ended ≢ Some Memory
EndsSo (answers.Refused object code) ended = (ended ≡ Some (Protocol object code)) ⊎ ((ended ≡ Some Memory) ⊎ (ended ≡ Some Slow))
EndsSo answers.More ended = Unit {0}
EndsSo answers.Other ended = Unit {0}

-- What the desk keeps of a client agrees with a client of the plain desktop, and what a request makes of both.
use Rattle.std.specs.List.{list_all}
use Rattle.std.specs.Prelude.{ℕ, ◌≡◌, ◌⊎◌, ◌+◌, ◌-◌, IfSome, None, Some, is_some, Result, Ok, Err, Bool, true, false, Option}
use Rattle.std.specs.Prelude.{◌≤◌, take, drop, length}
use Rattle.wl_wire.specs.Wire.{split_of}
use Rattle.wl_wire.specs.declared.header.Split.{Split}
use Rattle.wl_wire.specs.declared.header.Split.TheVariants.{Message as Whole, More, Bad}
use Rattle.wl_proto.specs.declared.interface.Interface.TheVariants.{WlSubcompositor, WlSubsurface, WlSurface, XdgSurface, XdgToplevel}
use Rattle.wl_proto.specs.declared.interface.Interface.TheVariants.{XdgPopup, XdgWmBase}
use Rattle.wl_proto.specs.Messages.{Message}
use Rattle.wl_proto.specs.Objects.{new_id_in, objects_in as objects_named}
use Rattle.wl_table.specs.Objects.{Held, entry_of}
use Rattle.wl_client.specs.Agreement.{IsPeer}
use Rattle.spec_desktop.specs.Objects.{fits, is_of, objects_in}
use Rattle.spec_desktop.specs.Peer.{Errs, LacksMemory, Peer, Queues, WantsOr, counted, with_rest}
use Rattle.spec_desktop.specs.declared.refusals.Refusal.{Refusal}
use Rattle.spec_desktop.specs.declared.refusals.ErrorCode.TheVariants.{InvalidMethod}
use Rattle.spec_desktop.specs.Told.{display_error}
use Rattle.wl_shell.specs.Kept.{kept_of}
use Rattle.wl_shell.specs.Popups.{is_toplevel}
use Rattle.wl_shell.specs.Shell.{Effect, Maps, Unmaps, next_serial, xdg_of}
use Rattle.wl_shell.specs.declared.acts.ShellAct.{ShellAct}
use Rattle.wl_shell.specs.declared.acts.ShellAct.TheVariants.{Configure, Map, Unmap}
use Rattle.wl_requests.specs.declared.residents.Resident.{Resident as Kept}
use Rattle.wl_requests.specs.declared.xdg_toplevel.ToplevelAsked.{ToplevelAsked}
use Rattle.wl_requests.specs.declared.xdg_toplevel.ToplevelAsked.TheVariants.{Destruction, Configure as AskedConfigure}
use Rattle.wl_requests.specs.declared.xdg_toplevel.ToplevelAsked.TheVariants.{Move as AskedMove, Nothing as AskedNothing}
use Rattle.wl_requests.specs.declared.messages.Asked.{Asked}
use Rattle.wl_requests.specs.declared.messages.Kind.{Kind}
use Rattle.wl_requests.specs.declared.residents.Grabbing.{Grabbing}
use Rattle.wl_requests.specs.declared.residents.Placing.{Placing}
use Rattle.wl_requests.specs.declared.residents.Stacking.{Stacking}
use Rattle.wl_requests.specs.declared.residents.Stacking.TheVariants.{Stays, ToTop, Out}
use Rattle.wl_requests.specs.Grabbing.{IsGrabbingFor, IsGrabbingOf}
use Rattle.wl_requests.specs.Placing.{IsPlacingFor, IsPlacingOf}
use Rattle.spec_desktop.specs.Ask.{Ask}
use Rattle.spec_desktop.specs.Changing.{changed_for}
use Rattle.spec_desktop.specs.Demand.{Demand, CommitTree, EndToplevel}
use Rattle.spec_desktop.specs.Demanding.{effect_of_commit, judge_all}
use Rattle.spec_desktop.specs.ToplevelRequest.{ToplevelRequest}
use Rattle.spec_desktop.specs.ToplevelRequest as toplevel
use Rattle.spec_desktop.specs.Desktop.{Desktop, Resident, unpointed}
use Rattle.law_desktop.specs.Ordered.{OwnsOrdered}
use Rattle.law_desktop.specs.Owning.{IsOwned, by_number, targets_in}
use Rattle.law_desktop.specs.RoleNames.{names_of}
use Rattle.law_desktop.specs.Subsurfaces.{AreOfSurfaces}
use Rattle.spec_desktop.specs.Replies.{replies}
use Rattle.spec_desktop.specs.Stacked.{all_windows}
use Rattle.spec_desktop.specs.Step.{answers_to, changed_by, takes_memory, with_peer}
use Rattle.spec_desktop.specs.Happens.{wants_memory}
use Rattle.spec_desktop.specs.Framing.{AreFramed}

-- what is kept of the surfaces and of the shell stands for what the client owns
abbrev pub Owns : {A : Type 0} → Kept A → Resident → Type 0
Owns v r = IsOwned (names_of v.client.objects) v.owned.surfaces.states v.owned.surfaces.family (kept_of v.owned.shell) r.owned

-- the frame callbacks that are kept are those of the client, whose frame requests have numbers up to that of its last request
abbrev pub KeepsFrames : {A : Type 0} → Kept A → Resident → Type 0
KeepsFrames v r =
    AreFramed v.owned.surfaces.states.frames (by_number (targets_in WlSurface v.client.objects) r.owned.surfaces) (r.peer.requests + 1)
    r.callbacks

-- and so are its wl_subsurfaces
abbrev pub KeepsSubsurfaces : {A : Type 0} → Kept A → Resident → Type 0
KeepsSubsurfaces v r = AreOfSurfaces v.subsurfaces (targets_in WlSurface v.client.objects) r.subsurfaces

-- a client that lives
pub record IsResident {A : Type 0} (v : Kept A) (r : Resident) : Type 0 where
  pub lives : v.client.ended ≡ None
  pub peer : IsPeer v.client r.peer
  pub owns : Owns v r
  pub frames : KeepsFrames v r
  pub subsurfaces : KeepsSubsurfaces v r

-- the surfaces that were there and are there still keep their numbers
abbrev pub KeepsNumbers : Held → Held → Type 0
KeepsNumbers old new = (id a b : ℕ) → targets_in WlSurface old id ≡ Some a → targets_in WlSurface new id ≡ Some b → a ≡ b

-- a client after it was told what makes it this peer: if that ended it, nothing is said of what it owned
pub record IsLeft {A : Type 0} (old new : Kept A) (r : Resident) (q : Peer) : Type 0 where
  pub peer : IsPeer new.client q
  pub owns : new.client.ended ≡ None → Owns new r
  pub frames : new.client.ended ≡ None → KeepsFrames new r
  pub subsurfaces : new.client.ended ≡ None → KeepsSubsurfaces new r
  pub numbers : new.client.ended ≡ None → KeepsNumbers old.client.objects new.client.objects

-- What is asked is done, and then answered; there may be no memory for it.
abbrev pub ActsFor : Ask → Resident → Peer → Type 0
ActsFor ask r q = WantsOr (takes_memory ask) (Queues (answers_to ask r) (changed_by ask r).peer q) r.peer q

-- so it is done, whatever client is stood for
abbrev pub Does : {A : Type 0} → (Resident → Ask) → Kept A → Kept A → Type 0
Does ask old new = (r : Resident) → IsResident old r → (q : Peer) × ActsFor (ask r) r q × IsLeft old new (changed_by (ask r) r) q

-- What client c demands of a desktop is done, and it is told of it, as where nobody points; there may be no memory for it.
abbrev pub MeetsFor : ℕ → Demand → Resident → Desktop → Peer → Type 0
MeetsFor c demand r d q =
    WantsOr (wants_memory demand)
    (Queues (replies c demand r (changed_for c demand r (unpointed d)) (all_windows d) (unpointed d))
    (changed_for c demand r (unpointed d)).peer q)
    r.peer q

-- The same, and what is kept of the client agrees with what became of it.
abbrev pub MeetsSo : {A : Type 0} → ℕ → Demand → Resident → Desktop → Kept A → Kept A → Type 0
MeetsSo c demand r d old new = (q : Peer) × MeetsFor c demand r d q × IsLeft old new (changed_for c demand r (unpointed d)) q

-- What is judged so is answered: what is demanded is done, with its request counted; a refusal ends the client.
abbrev pub AnswersSo : {A : Type 0} → Result Demand Refusal → ℕ → Resident → Desktop → Kept A → Kept A → Type 0
AnswersSo (Ok demand) c r d old new = MeetsSo c demand (with_peer (counted r.peer) r) d old new
AnswersSo (Err refusal) c r d old new = (q : Peer) × Errs refusal r.peer q × IsLeft old new r q

abbrev pub AnswersDemand : {A : Type 0} → (Resident → Result Demand Refusal) → Kept A → Kept A → Type 0
AnswersDemand judged old new = (c : ℕ) (r : Resident) (d : Desktop) → IsResident old r → OwnsOrdered r
    → AnswersSo (judged r) c r d old new

-- The same where it is known which of the two it was: done and told, though an event that isn't queued may end the client; or without
-- memory.
abbrev pub MeetsAs : {A : Type 0} → Bool → ℕ → Demand → Resident → Desktop → Kept A → Kept A → Type 0
MeetsAs true c demand r d old new =
    (q : Peer)
    × Queues (replies c demand r (changed_for c demand r (unpointed d)) (all_windows d) (unpointed d))
    (changed_for c demand r (unpointed d)).peer q
    × IsLeft old new (changed_for c demand r (unpointed d)) q
MeetsAs false c demand r d old new = (wants_memory demand ≡ true) × (q : Peer) × LacksMemory r.peer q
    × IsLeft old new (changed_for c demand r (unpointed d)) q

-- so it is of whatever client is stood for, where something is answered if it was done
abbrev pub MeetsTold : {A X : Type 0} → (Resident → Demand) → Option X → Kept A → Kept A → Type 0
MeetsTold demand result old new =
    (c : ℕ) (r : Resident) (d : Desktop) → IsResident old r → OwnsOrdered r → MeetsAs (is_some result) c (demand r) r d old new

-- done, or refused or without memory
abbrev pub AnswersAs : {A : Type 0} → Bool → Result Demand Refusal → ℕ → Resident → Desktop → Kept A → Kept A → Type 0
AnswersAs done (Ok demand) c r d old new = MeetsAs done c demand (with_peer (counted r.peer) r) d old new
AnswersAs true (Err refusal) c r d old new = ⊥
AnswersAs false (Err refusal) c r d old new = (q : Peer) × Errs refusal r.peer q × IsLeft old new r q

abbrev pub AnswersDemandAs : {A : Type 0} → Bool → (Resident → Result Demand Refusal) → Kept A → Kept A → Type 0
AnswersDemandAs done judged old new = (c : ℕ) (r : Resident) (d : Desktop) → IsResident old r → OwnsOrdered r
    → AnswersAs done (judged r) c r d old new

-- So it is answered where what popups are placed by is that of the desktop, with this request to this object.
abbrev pub AnswersPlaced : {A : Type 0} → Placing → Kind → ℕ → (Resident → Result Demand Refusal) → Kept A → Kept A → Type 0
AnswersPlaced placing kind object judged old new = (c : ℕ) (r : Resident) (d : Desktop) → IsResident old r → OwnsOrdered r
    → IsPlacingFor placing object kind c r d → AnswersSo (judged r) c r d old new

abbrev pub AnswersPlacedAs : {A : Type 0} → Bool → Placing → Kind → ℕ → (Resident → Result Demand Refusal) → Kept A → Kept A → Type 0
AnswersPlacedAs done placing kind object judged old new = (c : ℕ) (r : Resident) (d : Desktop) → IsResident old r → OwnsOrdered r
    → IsPlacingFor placing object kind c r d → AnswersAs done (judged r) c r d old new

-- So it is answered where what a grab is allowed by is that of the desktop, with this request.
abbrev pub AnswersAllowed : {A : Type 0} → Grabbing → Kind → (Resident → Result Demand Refusal) → Kept A → Kept A → Type 0
AnswersAllowed grabbing kind judged old new = (c : ℕ) (r : Resident) (d : Desktop) → IsResident old r → OwnsOrdered r
    → IsGrabbingFor grabbing kind c r d → AnswersSo (judged r) c r d old new

-- where both are
abbrev pub AnswersGiven : {A : Type 0} → Placing → Grabbing → Kind → ℕ → (Resident → Result Demand Refusal) → Kept A → Kept A → Type 0
AnswersGiven placing grabbing kind object judged old new = (c : ℕ) (r : Resident) (d : Desktop) → IsResident old r → OwnsOrdered r
    → IsPlacingFor placing object kind c r d → IsGrabbingFor grabbing kind c r d → AnswersSo (judged r) c r d old new

-- what has come of a client and wasn't taken gets no longer
abbrev pub Leaves : {A : Type 0} → Kept A → Kept A → Type 0
Leaves old new = length new.client.rest ≤ length old.client.rest

-- the wl_surface with this id has the surface of this number
abbrev pub IsSurface : {A : Type 0} → Kept A → ℕ → ℕ → Type 0
IsSurface v id surface = targets_in WlSurface v.client.objects id ≡ Some surface

-- no object has this id
abbrev pub IsFree : {A : Type 0} → Kept A → ℕ → Type 0
IsFree v id = entry_of v.client.objects id ≡ None

-- the object with this id is an xdg_wm_base
abbrev pub IsBase : {A : Type 0} → Kept A → ℕ → Type 0
IsBase v id = is_of XdgWmBase (objects_in v.client.objects id) ≡ true

-- the object with this id is a wl_subcompositor
abbrev pub IsSubcompositor : {A : Type 0} → Kept A → ℕ → Type 0
IsSubcompositor v id = is_of WlSubcompositor (objects_in v.client.objects id) ≡ true

-- the object with this id is a wl_subsurface
abbrev pub IsSubsurface : {A : Type 0} → Kept A → ℕ → Type 0
IsSubsurface v id = is_of WlSubsurface (objects_in v.client.objects id) ≡ true

-- nothing else that the client owns goes with the object of this id
abbrev pub GoesAlone : {A : Type 0} → Kept A → ℕ → Type 0
GoesAlone v id = IsBase v id ⊎ IsSubcompositor v id

-- the xdg_surface with this id is that of the surface of this number
abbrev pub IsXdgSurface : {A : Type 0} → Kept A → ℕ → ℕ → Type 0
IsXdgSurface v id surface = targets_in XdgSurface v.client.objects id ≡ Some surface

-- the toplevel with this id is that of the surface of this number
abbrev pub IsToplevel : {A : Type 0} → Kept A → ℕ → ℕ → Type 0
IsToplevel v id surface = targets_in XdgToplevel v.client.objects id ≡ Some surface

-- the popup with this id is that of the surface of this number
abbrev pub IsPopup : {A : Type 0} → Kept A → ℕ → ℕ → Type 0
IsPopup v id surface = targets_in XdgPopup v.client.objects id ≡ Some surface

-- the new id of a message is free, if it has one
abbrev pub NewIsFree : {A : Type 0} → Kept A → Message → Type 0
NewIsFree v m = IfSome (new_id_in m) (λ new. IsFree v new.id)

-- the objects that a message names are there, each of its interface
abbrev pub ObjectsFit : {A : Type 0} → Kept A → Message → Type 0
ObjectsFit v m = list_all (fits (objects_in v.client.objects)) (objects_named m) ≡ true

-- the next serial is drawn, or isn't
abbrev pub drawn_if : Bool → Peer → Peer
drawn_if true p = record p { serial = next_serial p.serial }
drawn_if false p = p

-- Where a commit came to a configure, the next serial is drawn.
abbrev pub drawn_by : ShellAct → Peer → Peer
drawn_by (Configure placed) p = record p { serial = next_serial p.serial }
drawn_by act p = p

-- What a request does to the stack of toplevels, by the number of its toplevel's surface: one that is mapped comes to the top, and one that
-- is unmapped or goes is taken out.
abbrev pub StacksTo : {A : Type 0} → Kept A → ℕ → (ℕ → Stacking) → Stacking → Type 0
StacksTo old id place stacking = (number : ℕ) × (targets_in WlSurface old.client.objects id ≡ Some number) × (stacking ≡ place number)

abbrev pub StacksBy : {A : Type 0} → Kept A → ℕ → Effect → Stacking → Type 0
StacksBy old id Maps stacking = StacksTo old id ToTop stacking
StacksBy old id Unmaps stacking = StacksTo old id Out stacking
StacksBy old id effect stacking = stacking ≡ Stays

-- what a commit does to it, which came to this for the shell
abbrev pub stacking_by : ShellAct → ℕ → Stacking
stacking_by Map number = ToTop number
stacking_by Unmap number = Out number
stacking_by act number = Stays

-- only a toplevel is stacked so: a popup's windows are stacked with those of a toplevel
abbrev pub StacksIf : {A : Type 0} → Bool → Kept A → ℕ → Effect → Stacking → Type 0
StacksIf true old id effect stacking = StacksBy old id effect stacking
StacksIf false old id effect stacking = stacking ≡ Stays

abbrev pub StacksFor : {A : Type 0} → Kept A → Resident → Demand → Stacking → Type 0
StacksFor old r (CommitTree id) stacking = StacksIf (is_toplevel (xdg_of id r.owned.shell)) old id (effect_of_commit r id) stacking
StacksFor old r (EndToplevel id xdg surface) stacking = StacksTo old surface Out stacking
StacksFor old r demand stacking = stacking ≡ Stays

-- What a request does to the order of the mapped toplevels. Of one that is refused nothing is said, since it ends the client.
abbrev pub StacksSo : {A : Type 0} → Kept A → Resident → Result Demand Refusal → Stacking → Type 0
StacksSo old r (Ok demand) stacking = StacksFor old r demand stacking
StacksSo old r (Err refusal) stacking = Unit {0}

-- of whatever client is stood for, whose surfaces are in order
abbrev pub Stacks : {A : Type 0} → (Resident → Result Demand Refusal) → Kept A → Stacking → Type 0
Stacks judged old stacking = (r : Resident) → IsResident old r → OwnsOrdered r → StacksSo old r (judged r) stacking

-- The first message of what has come is taken and answered, and the mapped toplevels are restacked as it asks.
abbrev pub TakesSo : {A : Type 0} → Split → ℕ → Resident → Desktop → Kept A → Kept A → Stacking → Type 0
TakesSo (Whole object opcode size) c r d old new stacking =
    AnswersSo (judge_all r object opcode (take (size - 8) (drop 8 r.peer.rest))) c
    (with_peer (with_rest (drop size r.peer.rest) r.peer) r) d old new
    × StacksSo old r (judge_all r object opcode (take (size - 8) (drop 8 r.peer.rest))) stacking
TakesSo Bad c r d old new stacking = AnswersSo (Err (display_error InvalidMethod)) c r d old new
TakesSo More c r d old new stacking = ⊥

-- The same where it is known whether it was done.
abbrev pub TakesAs : {A : Type 0} → Bool → Split → ℕ → Resident → Desktop → Kept A → Kept A → Type 0
TakesAs done (Whole object opcode size) c r d old new =
    AnswersAs done (judge_all r object opcode (take (size - 8) (drop 8 r.peer.rest))) c
    (with_peer (with_rest (drop size r.peer.rest) r.peer) r) d old new
TakesAs done Bad c r d old new = AnswersAs done (Err (display_error InvalidMethod)) c r d old new
TakesAs done More c r d old new = ⊥

-- It is taken so where what popups are placed by, and what a grab is allowed by, is that of the desktop.
abbrev pub TakesMessageAs : {A : Type 0} → Bool → Asked → Placing → Grabbing → Kept A → Kept A → Type 0
TakesMessageAs done asked placing grabbing old new = (c : ℕ) (r : Resident) (d : Desktop) → IsResident old r → OwnsOrdered r
    → IsPlacingOf placing asked c r d → IsGrabbingOf grabbing asked c r d → TakesAs done (split_of r.peer.rest) c r d old new

abbrev pub TakesMessage : {A : Type 0} → Asked → Placing → Grabbing → Kept A → Kept A → Stacking → Type 0
TakesMessage asked placing grabbing old new stacking =
    (c : ℕ) (r : Resident) (d : Desktop) → IsResident old r → OwnsOrdered r → IsPlacingOf placing asked c r d
    → IsGrabbingOf grabbing asked c r d → TakesSo (split_of r.peer.rest) c r d old new stacking

-- what a toplevel's request comes to
abbrev pub asked_by : ToplevelRequest → ToplevelAsked
asked_by toplevel.Destroy = Destruction
asked_by toplevel.SetMaximized = AskedConfigure
asked_by toplevel.UnsetMaximized = AskedConfigure
asked_by (toplevel.SetFullscreen output) = AskedConfigure
asked_by toplevel.UnsetFullscreen = AskedConfigure
asked_by (toplevel.Move by serial) = AskedMove serial
asked_by request = AskedNothing

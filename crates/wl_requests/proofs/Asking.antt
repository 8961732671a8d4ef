-- The first message of a client, as the desk takes it.
use Rattle.std.proofs.Common.{◌≡◌, ℕ, ◌-◌, ◌⊎◌, inl, inr, Bool, false, List, take, drop, true, Option, Some, None, Result, refl, ap, subst, sym, ◌∙◌}
use Rattle.std.specs.Prelude.{IfSome, Ok, Err, is_some, length}
use Rattle.std.specs.Option.{option_map}
use Rattle.wl_wire.specs.declared.header.Split.{Split}
use Rattle.wl_wire.specs.declared.header.Split.TheVariants.{Message as Whole, More, Bad}
use Rattle.wl_wire.specs.Wire.{split_of}
use Rattle.wl_proto.specs.Messages.{Message, wl_seat_request}
use Rattle.wl_proto.specs.declared.wl_seat.WlSeatRequest.{WlSeatRequest}
use Rattle.wl_proto.specs.declared.wl_seat.WlSeatRequest.TheVariants.{GetKeyboard, GetTouch}
use Rattle.wl_client.specs.Agreement.{IsPeer}
use Rattle.wl_client.specs.First.{IsRefused, Passes, passing, passing_in}
use Rattle.spec_desktop.specs.Objects.{Object, Objects, fits, object_of, objects_in}
use Rattle.spec_desktop.specs.Peer.{Errs, Peer, counted, ended, with_rest}
use Rattle.std.specs.List.{list_all}
use Rattle.wl_proto.specs.Objects.{new_id_in, objects_in as objects_named}
use Rattle.wl_proto.specs.declared.argument.NewId.{NewId}
use Rattle.spec_desktop.specs.Judgement.{is_free, judged_at}
use Rattle.spec_desktop.specs.Told.{display_error}
use Rattle.wl_shell.specs.Popups.{is_toplevel}
use Rattle.wl_shell.specs.Shell.{Effect, Maps, Unmaps, xdg_of}
use Rattle.wl_table.specs.Objects.{Held}
use Rattle.wl_proto.specs.declared.interface.Interface.TheVariants.{WlSurface}
use Rattle.law_desktop.specs.Owning.{targets_in}
use Rattle.wl_client.specs.View.{ClientView}
use Rattle.spec_desktop.specs.declared.refusals.ErrorCode.TheVariants.{InvalidMethod, MissingCapability}
use Rattle.spec_desktop.specs.declared.refusals.Refusal.{Refusal}
use Rattle.wl_client.proofs.Passing.{judged-passing, judged-refused}
use Rattle.wl_client.proofs.Peers.{IsPeer-with_rest}
use Rattle.wl_client.proofs.Taking.{Errs-rest}
use Rattle.wl_requests.specs.declared.residents.Resident.{Resident as Kept}
use Rattle.wl_requests.specs.declared.residents.Stacking.{Stacking}
use Rattle.wl_requests.specs.declared.residents.Stacking.TheVariants.{Stays}
use Rattle.wl_requests.specs.declared.residents.Stacking.TheVariants as on
use Rattle.spec_desktop.specs.Changing.{changed_for}
use Rattle.spec_desktop.specs.Demand.{Demand, CommitTree, EndToplevel}
use Rattle.spec_desktop.specs.Demanding.{demand_of, effect_of_commit, judge_all}
use Rattle.spec_desktop.specs.Desktop.{Desktop, Resident, unpointed}
use Rattle.law_desktop.specs.Ordered.{OwnsOrdered}
use Rattle.wl_requests.specs.Residents.{AnswersAs, AnswersGiven, AnswersPlacedAs, AnswersSo, IsResident, NewIsFree, ObjectsFit, Stacks, StacksBy, StacksFor, StacksIf, StacksSo, StacksTo, TakesAs, TakesSo}
use Rattle.wl_requests.specs.Grabbing.{IsGrabbingFor}
use Rattle.wl_requests.specs.Placing.{IsPlacingFor}
use Rattle.wl_requests.specs.declared.messages.Kind.{Kind}
use Rattle.wl_requests.specs.declared.messages.Kind.TheVariants as kind
use Rattle.wl_requests.specs.declared.residents.Grabbing.{Grabbing}
use Rattle.wl_requests.specs.declared.residents.Placing.{Placing}
use Rattle.wl_proto.specs.declared.wl_surface.WlSurfaceRequest.TheVariants as surface
use Rattle.wl_proto.specs.declared.xdg_popup.XdgPopupRequest.TheVariants as popup
use Rattle.spec_desktop.specs.Step.{with_peer}
use Rattle.wl_requests.proofs.Framing.{no-more}
use Rattle.law_desktop.proofs.Pieces.Changing.{judged-behind}
use Rattle.wl_requests.proofs.Numbers.{left-from}
use Rattle.wl_requests.proofs.Meeting.{ordered-peer}
use Rattle.wl_requests.proofs.Shelling.{meets-from, new-free, refused-whole}

-- a seat has no keyboard and no touch
pub seat-refused : (r : Resident) (object version : ℕ) (request : WlSeatRequest) → ((id : ℕ) × (request ≡ GetKeyboard id)) ⊎ ((id : ℕ) × (request ≡ GetTouch id))
    → demand_of r object version (wl_seat_request request) ≡ Err (record { object = object; code = MissingCapability })
seat-refused r object version request (inl is) = rw is.1 refl
seat-refused r object version request (inr is) = rw is.1 refl

-- ---- a message that is refused before its own errors are looked at

pub passing-peer : (v : ClientView) (p : Peer) (object opcode size : ℕ) (answer : Result Message Refusal) → IsPeer v p → passing_in v object opcode size ≡ answer
    → passing p.objects p.held opcode (take (size - 8) (drop 8 p.rest)) (p.objects object) ≡ answer
passing-peer v p object opcode size answer is e =
    let objects = objects_in v.objects in
    sym
    (ap (λ (o : Objects). passing o (length v.objects) opcode (take (size - 8) (drop 8 v.rest)) (o object)) is.objects
    ∙ ap (λ (held : ℕ). passing p.objects held opcode (take (size - 8) (drop 8 v.rest)) (p.objects object)) is.held
    ∙ ap (λ (rest : List ℕ). passing p.objects p.held opcode (take (size - 8) (drop 8 rest)) (p.objects object)) is.rest)
    ∙ e

first-refused-by : {A : Type 0} (old new : Kept A) (c : ℕ) (r : Resident) (d : Desktop) (refusal : Refusal) (s : Split) → IsRefused s old.client refusal → IsResident old r
    → is_some new.client.ended ≡ true
    → (q : Peer) × Errs refusal r.peer q × IsPeer new.client q → TakesSo s c r d old new Stays
first-refused-by old new c r d refusal (Whole object opcode size) why is ended errs =
    let body = take (size - 8) (drop 8 r.peer.rest) in
    let judged : judge_all r object opcode body ≡ Err refusal =
    judged-refused r.peer.objects r.peer.held (λ version m. demand_of r object version m) opcode body (r.peer.objects object) refusal
    (passing-peer old.client r.peer object opcode size (Err refusal) is.peer why) in (
      refused-whole old new c (with_peer (with_rest (drop size r.peer.rest) r.peer) r) d (judge_all r object opcode body) refusal judged ended
          (errs.0, Errs-rest refusal r.peer errs.0 (drop size r.peer.rest) errs.1, errs.2),
      subst (λ (j : Result Demand Refusal). StacksSo old r j Stays) (sym judged) tt,
    )
first-refused-by old new c r d refusal Bad why is ended errs = refused-whole old new c r d (Err (display_error InvalidMethod)) refusal (ap (λ (f : Refusal). Err f) (sym why)) ended errs
first-refused-by old new c r d refusal More why is ended errs = absurd why

pub first-refused : {A : Type 0} (old new : Kept A) (c : ℕ) (r : Resident) (d : Desktop) (refusal : Refusal) → IsRefused (split_of old.client.rest) old.client refusal → IsResident old r
    → is_some new.client.ended ≡ true
    → (q : Peer) × Errs refusal r.peer q × IsPeer new.client q → TakesSo (split_of r.peer.rest) c r d old new Stays
first-refused old new c r d refusal why is ended errs =
    subst (λ (rest : List ℕ). TakesSo (split_of rest) c r d old new Stays) is.peer.rest (first-refused-by old new c r d refusal (split_of old.client.rest) why is ended errs)

-- ---- a message that passes

pub fit-passed : {A : Type 0} (mid old : Kept A) (m : Message) → mid.client.objects ≡ old.client.objects → list_all (fits (objects_in old.client.objects)) (objects_named m) ≡ true → ObjectsFit mid m
fit-passed mid old m same fit = rw same fit

pub new-passed : {A : Type 0} (mid old : Kept A) (m : Message) → mid.client.objects ≡ old.client.objects → IfSome (new_id_in m) (λ new. is_free (objects_in old.client.objects) new.id ≡ true)
    → NewIsFree mid m
new-passed mid old m same free = new-free mid m (λ new is. at (new_id_in m) new is (rw same free))
  where
    at : (o : Option NewId) (new : NewId) → o ≡ Some new → IfSome o (λ new. is_free (objects_in mid.client.objects) new.id ≡ true) → is_free (objects_in mid.client.objects) new.id ≡ true
    at None new is free = absurd (cc)
    at (Some other) new is free = let same : other ≡ new = cc in subst (λ (n : NewId). is_free (objects_in mid.client.objects) n.id ≡ true) same free

-- the client without its first message
pub dropped : {A : Type 0} (old mid : Kept A) (r : Resident) (size : ℕ) → mid ≡ record old { client = record old.client { rest = drop size old.client.rest } } → IsResident old r
    → IsResident mid (with_peer (with_rest (drop size r.peer.rest) r.peer) r)
dropped old mid r size e is = rw e (record {
  lives = is.lives;
  peer = subst (λ (rest : List ℕ). IsPeer (record old.client { rest = drop size rest }) (with_rest (drop size r.peer.rest) r.peer)) (sym is.peer.rest)
      (IsPeer-with_rest old.client r.peer (drop size r.peer.rest) is.peer);
  owns = is.owns;
  frames = is.frames;
  subsurfaces = is.subsurfaces;
})

-- what is answered to a client with the same objects before
answers-from : {A : Type 0} (old mid new : Kept A) (c : ℕ) (r : Resident) (d : Desktop) (judged : Result Demand Refusal) → mid.client.objects ≡ old.client.objects → AnswersSo judged c r d mid new
    → AnswersSo judged c r d old new
answers-from old mid new c r d (Ok demand) same h = (h.0, h.1, left-from old mid new (changed_for c demand (with_peer (counted r.peer) r) (unpointed d)) h.0 same h.2)
answers-from old mid new c r d (Err refusal) same h = (h.0, h.1, left-from old mid new r h.0 same h.2)

decided-from : {A : Type 0} (done : Bool) (old mid new : Kept A) (c : ℕ) (r : Resident) (d : Desktop) (judged : Result Demand Refusal) → mid.client.objects ≡ old.client.objects
    → AnswersAs done judged c r d mid new → AnswersAs done judged c r d old new
decided-from done old mid new c r d (Ok demand) same h = meets-from done demand c (with_peer (counted r.peer) r) d old mid new same h
decided-from true old mid new c r d (Err refusal) same h = absurd h
decided-from false old mid new c r d (Err refusal) same h = (h.0, h.1, left-from old mid new r h.0 same h.2)

stacks-to-from : {A : Type 0} (old mid : Kept A) (id : ℕ) (place : ℕ → Stacking) (stacking : Stacking) → mid.client.objects ≡ old.client.objects → StacksTo mid id place stacking
    → StacksTo old id place stacking
stacks-to-from old mid id place stacking same h = (h.0, ap (λ (held : Held). targets_in WlSurface held id) (sym same) ∙ h.1, h.2)

stacks-by-from : {A : Type 0} (old mid : Kept A) (id : ℕ) (effect : Effect) (stacking : Stacking) → mid.client.objects ≡ old.client.objects → StacksBy mid id effect stacking
    → StacksBy old id effect stacking
stacks-by-from old mid id Maps stacking same h = stacks-to-from old mid id on.ToTop stacking same h
stacks-by-from old mid id Unmaps stacking same h = stacks-to-from old mid id on.Out stacking same h
stacks-by-from old mid id effect stacking same h = h

stacks-if-from : {A : Type 0} (old mid : Kept A) (toplevel : Bool) (id : ℕ) (effect : Effect) (stacking : Stacking) → mid.client.objects ≡ old.client.objects
    → StacksIf toplevel mid id effect stacking → StacksIf toplevel old id effect stacking
stacks-if-from old mid true id effect stacking same h = stacks-by-from old mid id effect stacking same h
stacks-if-from old mid false id effect stacking same h = h

stacks-for-from : {A : Type 0} (old mid : Kept A) (r : Resident) (rest : List ℕ) (demand : Demand) (stacking : Stacking) → mid.client.objects ≡ old.client.objects
    → StacksFor mid (with_peer (with_rest rest r.peer) r) demand stacking → StacksFor old r demand stacking
stacks-for-from old mid r rest (CommitTree id) stacking same h = stacks-if-from old mid (is_toplevel (xdg_of id r.owned.shell)) id (effect_of_commit r id) stacking same h
stacks-for-from old mid r rest (EndToplevel id xdg top) stacking same h = stacks-to-from old mid top on.Out stacking same h
stacks-for-from old mid r rest demand stacking same h = h

stacks-from : {A : Type 0} (old mid : Kept A) (r : Resident) (rest : List ℕ) (judged : Result Demand Refusal) (stacking : Stacking) → mid.client.objects ≡ old.client.objects
    → StacksSo mid (with_peer (with_rest rest r.peer) r) judged stacking → StacksSo old r judged stacking
stacks-from old mid r rest (Ok demand) stacking same h = stacks-for-from old mid r rest demand stacking same h
stacks-from old mid r rest (Err refusal) stacking same h = tt

-- what popups are placed by stays so where only the peer changes
pub placed-behind : (placing : Placing) (object : ℕ) (k : Kind) (c : ℕ) (r : Resident) (p : Peer) (d : Desktop) → IsPlacingFor placing object k c r d
    → IsPlacingFor placing object k c (with_peer p r) d
placed-behind placing object (kind.Surface surface.Commit) c r p d h = record { bounds = h.bounds; parent = h.parent }
placed-behind placing object (kind.Popup (popup.Reposition positioner token)) c r p d h = record { bounds = h.bounds; parent = h.parent }
placed-behind placing object k c r p d h = h

-- and so does what a grab is allowed by
pub grabbing-behind : (grabbing : Grabbing) (k : Kind) (c : ℕ) (r : Resident) (p : Peer) (d : Desktop) → IsGrabbingFor grabbing k c r d → IsGrabbingFor grabbing k c (with_peer p r) d
grabbing-behind grabbing (kind.Popup (popup.Grab seat serial)) c r p d h = record { press = h.press; release = h.release; held = h.held }
grabbing-behind grabbing k c r p d h = h

module _ {A : Type 0} (old : Kept A) (r : Resident) (object version size target : ℕ) (m : Message) (passes : Passes old.client object version size target m) (is : IsResident old r) where
  abbrev left : Resident
  left = with_peer (with_rest (drop size r.peer.rest) r.peer) r

  abbrev body : List ℕ
  body = take (size - 8) (drop 8 r.peer.rest)

  object-there : r.peer.objects object ≡ Some (record { interface = m.interface; version = version })
  object-there = ap (λ (f : Objects). f object) (sym is.peer.objects) ∙ ap (option_map object_of) passes.entry

  -- it is judged by its own errors
  pub judged-by : {X : Type 0} (asks : ℕ → Message → Result X Refusal) → judged_at r.peer.objects r.peer.held asks m.opcode body (r.peer.objects object) ≡ asks version m
  judged-by asks =
      let passed = passing-peer old.client r.peer object m.opcode size (Ok m) is.peer passes.passes in
      ap (λ (o : Option Object). judged_at r.peer.objects r.peer.held asks m.opcode body o) object-there
      ∙ judged-passing r.peer.objects r.peer.held asks m.opcode body (record { interface = m.interface; version = version }) m
      (ap (λ (o : Option Object). passing r.peer.objects r.peer.held m.opcode body o) (sym object-there) ∙ passed)

  pub demanded-first : judge_all r object m.opcode body ≡ demand_of left object version m
  demanded-first = sym (judged-behind r object m.opcode body (drop size r.peer.rest)) ∙ judged-by (λ version m. demand_of left object version m)

  pub whole-first : split_of r.peer.rest ≡ Whole object m.opcode size
  whole-first = ap split_of (sym is.peer.rest) ∙ passes.first

  pub first-taken : (mid new : Kept A) (stacking : Stacking) → mid ≡ record old { client = record old.client { rest = drop size old.client.rest } }
      → (placing : Placing) (grabbing : Grabbing) (k : Kind) → AnswersGiven placing grabbing k object (λ r. demand_of r object version m) mid new
      → Stacks (λ r. demand_of r object version m) mid stacking → (c : ℕ) (d : Desktop) → OwnsOrdered r → IsPlacingFor placing object k c r d
      → IsGrabbingFor grabbing k c r d → TakesSo (split_of r.peer.rest) c r d old new stacking
  first-taken mid new stacking same placing grabbing k answers stacks c d only placed given =
      let there = dropped old mid r size same is in
      let objects : mid.client.objects ≡ old.client.objects = ap (λ (k : Kept A). k.client.objects) same in
      let has : OwnsOrdered left = ordered-peer r left.peer refl refl (no-more r.peer.requests) only in
      subst (λ (s : Split). TakesSo s c r d old new stacking) (sym whole-first) (
        subst (λ (j : Result Demand Refusal). AnswersSo j c left d old new) (sym demanded-first) (answers-from old mid new c left d (demand_of left object version m) objects
            (answers c left d there has (placed-behind placing object k c r left.peer d placed) (grabbing-behind grabbing k c r left.peer d given))),
        subst (λ (j : Result Demand Refusal). StacksSo old r j stacking) (sym demanded-first) (stacks-from old mid r (drop size r.peer.rest) (demand_of left object version m) stacking
            objects (stacks left there has)),
      )

  -- the same where it is known whether it was done
  pub first-decided : (mid new : Kept A) (done : Bool) → mid ≡ record old { client = record old.client { rest = drop size old.client.rest } }
      → (placing : Placing) (k : Kind) → AnswersPlacedAs done placing k object (λ r. demand_of r object version m) mid new
      → (c : ℕ) (d : Desktop) → OwnsOrdered r → IsPlacingFor placing object k c r d → TakesAs done (split_of r.peer.rest) c r d old new
  first-decided mid new done same placing k answers c d only placed =
      let there = dropped old mid r size same is in
      let objects : mid.client.objects ≡ old.client.objects = ap (λ (k : Kept A). k.client.objects) same in
      let has : OwnsOrdered left = ordered-peer r left.peer refl refl (no-more r.peer.requests) only in
      subst (λ (s : Split). TakesAs done s c r d old new) (sym whole-first)
      (subst (λ (j : Result Demand Refusal). AnswersAs done j c left d old new) (sym demanded-first) (decided-from done old mid new c left d (demand_of left object version m) objects
      (answers c left d there has (placed-behind placing object k c r left.peer d placed))))

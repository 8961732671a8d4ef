-- Where nobody points, a client that gets a wl_pointer leaves all windows as they are.
use Rattle.std.proofs.Common.{◌≡◌, ℕ, List, [], drop, take, Bool, false, Option, Some, None, Result, refl, ap, subst, sym, ◌∙◌, inl, inr}
use Rattle.std.proofs.lemmas.Option.{none-some, same_Some}
use Rattle.std.specs.Prelude.{◌-◌, ◌⊎◌, Ok, Err}
use Rattle.wl_wire.specs.Wire.{split_of}
use Rattle.wl_wire.specs.declared.header.Split.{Split}
use Rattle.wl_wire.specs.declared.header.Split.TheVariants.{Message as Whole}
use Rattle.wl_proto.specs.declared.interface.Interface.TheVariants.{WlPointer}
use Rattle.spec_desktop.specs.declared.cause.Cause.{Cause}
use Rattle.spec_desktop.specs.declared.cause.Cause.TheVariants.{Memory}
use Rattle.spec_desktop.specs.declared.refusals.Refusal.{Refusal}
use Rattle.spec_desktop.specs.Peer.{LacksMemory, Peer, counted, with_rest}
use Rattle.spec_desktop.specs.Told.{Said}
use Rattle.spec_desktop.specs.Pointer.{Pointer, first_pointer}
use Rattle.spec_desktop.specs.Changing.{changed_for, drawing, has_focus, in_rising_order, kept_move}
use Rattle.spec_desktop.specs.Demand.{Demand, GetPointer}
use Rattle.spec_desktop.specs.Demanding.{judge_all}
use Rattle.spec_desktop.specs.Desktop.{Desktop, Resident, become_by, client_at, status_in, with_client}
use Rattle.spec_desktop.specs.Happens.{AnswersThen, BecomesThen, DoesThen, ServesThen, TakesThen, changed_so, done_for}
use Rattle.spec_desktop.specs.Replies.{new_pointer_told, replies}
use Rattle.spec_desktop.specs.Settling.{QueuesTo, after_status, becomes, pointer_without}
use Rattle.spec_desktop.specs.Stacked.{all_windows}
use Rattle.spec_desktop.specs.Step.{making, with_peer}
use Rattle.spec_desktop.specs.Through.{settling_through}
use Rattle.law_desktop.proofs.Runs.Places.{status-become}
use Rattle.law_desktop.proofs.Runs.Settled.{put-shows, same-windows}
use Rattle.law_desktop.specs.Pointed.Pointed.{asked_by, asked_first, asked_of}
use Rattle.law_desktop.specs.Pointed.Seats.{NewPointerShowsNothing}
use Rattle.law_desktop.proofs.PointerAside.Entering.{told-alone}
use Rattle.law_desktop.proofs.PointerAside.Messages.{after-status}
use Rattle.law_desktop.proofs.PointerAside.Pointers.{settled-nowhere}
use Rattle.law_desktop.proofs.Runs.Serves.{lacking}

-- who ends leaves a pointer that is nowhere where it is
after-nowhere : (s : Option Cause) (c : ℕ) (r : Resident) (q : Peer) (d : Desktop) → d.pointer ≡ first_pointer → (after_status s c (become_by s c r q d)).pointer ≡ first_pointer
after-nowhere None c r q d still = still
after-nowhere (Some why) c r q d still = ap (pointer_without c) still

module _ (c id version : ℕ) (d : Desktop) (path : List Desktop) (e : Desktop) (still : d.pointer ≡ first_pointer) (lives : status_in c e ≡ None) (there : Resident)
    (is : client_at c d ≡ Some there) where
  demand : Demand
  demand = GetPointer id version

  abbrev Same : Type 0
  Same = all_windows e ≡ all_windows d

  -- it ended as out of memory
  lacked : (r : Resident) → BecomesThen (LacksMemory r.peer) c r d (settling_through path e) → Same
  lacked r h =
      let q : Peer = h.0 in
      let ends = settled-nowhere 32 (becomes c r q d) e h.2.0 (after-nowhere q.status c r q d still) h.2.2 in
      let ended : status_in c e ≡ Some Memory =
      ap (status_in c) ends.0 ∙ after-status q.status c (become_by q.status c r q d) ∙ status-become c r q d there is ∙ lacking r.peer q h.1 in
      absurd (none-some Memory (sym lives ∙ ended))

  did : (r : Resident) → r.owned ≡ there.owned → DoesThen c demand r d (settling_through path e) → Same
  unfolding demand
  did r owns h =
      let away : has_focus c d.pointer.focus ≡ false = ap (λ (p : Pointer). has_focus c p.focus) still in
      let with_pointer : Resident = record r { pointers = in_rising_order id r.pointers } in
      let drawn : Resident = changed_for c demand r d in
      let same : drawn ≡ making WlPointer id version with_pointer = ap (λ (b : Bool). making WlPointer id version (drawing b with_pointer)) away in
      let owned : drawn.owned ≡ r.owned = ap (λ (m : Resident). m.owned) same in
      let none : replies c demand r drawn (all_windows d) d ≡ [] =
      told-alone (new_pointer_told (has_focus c d.pointer.focus) id r.peer.serial (all_windows d) d) r drawn owned
      ∙ ap (λ (b : Bool). new_pointer_told b id r.peer.serial (all_windows d) d) away in
      let queued : QueuesTo [] drawn.peer h.0 h.1 = subst (λ (events : List Said). QueuesTo events drawn.peer h.0 h.1) none h.2 in
      let settles : settling_through path e (changed_so c demand r d h.0 None) =
      subst (λ (why : Option Cause). settling_through path e (changed_so c demand r d h.0 why)) queued.1 h.3 in
      let made : Resident = with_peer h.0 drawn in
      let nowhere : (done_for c demand r d).pointer ≡ first_pointer = ap (λ (p : Pointer). record p { move = kept_move p.move d.standing }) still in
      let ends = settled-nowhere 32 (with_client c (Some made) (done_for c demand r d)) e settles.0 nowhere settles.2 in
      ap all_windows ends.0 ∙ same-windows d (with_client c (Some made) d) (put-shows c there (Some made) d is (owned ∙ owns))

  answered : (judged : Result Demand Refusal) (r : Resident) → asked_of judged ≡ Some demand → r.owned ≡ there.owned → AnswersThen judged c r d (settling_through path e) → Same
  unfolding demand
  answered (Err refusal) r asked-is owns h = absurd (none-some demand asked-is)
  answered (Ok other) r asked-is owns h =
      by (with_peer (counted r.peer) r) owns (subst (λ (x : Demand). AnswersThen (Ok x) c r d (settling_through path e)) (same_Some other demand asked-is) h)
    where
      by : (now : Resident) → now.owned ≡ there.owned
          → BecomesThen (LacksMemory now.peer) c now d (settling_through path e) ⊎ DoesThen c demand now d (settling_through path e) → Same
      by now owns (inl h) = lacked now h
      by now owns (inr h) = did now owns h

  took : (split : Split) (r : Resident) → asked_first split r ≡ Some demand → r.owned ≡ there.owned → TakesThen split c r d (settling_through path e) → Same
  took (Whole object opcode size) r asked-is owns h =
      answered (judge_all r object opcode (take (size - 8) (drop 8 r.peer.rest))) (with_peer (with_rest (drop size r.peer.rest) r.peer) r) asked-is owns h
  took split r asked-is owns h = absurd (none-some demand asked-is)

pub new-pointer-shows-nothing : NewPointerShowsNothing
unfolding demand
new-pointer-shows-nothing c id version d path e still asks h lives = at (client_at c d) refl h
  where
    at : (o : Option Resident) → client_at c d ≡ o → ServesThen c o d (settling_through path e) → all_windows e ≡ all_windows d
    at None is h = absurd h
    at (Some r) is h = took c id version d path e still lives r is (split_of r.peer.rest) r (sym (ap asked_by is) ∙ asks) refl h.1

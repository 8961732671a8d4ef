-- What holds of the surfaces and the wl_subsurfaces of a client that owns nothing, and that each accepted message keeps, holds whatever
-- happens.
use Rattle.std.proofs.Common.{◌≡◌, ℕ, zero, suc, ◌+◌, ◌-◌, take, drop, List, [], ◌∷◌, ◌++◌, length, Bool, true, false, Option, Some, None, Result, refl, ap, sym, subst, ◌∙◌, inl, inr}
use Rattle.std.specs.Prelude.{Ok, Err, ◌⊎◌, if◌then◌else◌, nat_le}
use Rattle.wl_wire.specs.Wire.{split_of}
use Rattle.wl_wire.specs.declared.header.Split.{Split}
use Rattle.wl_wire.specs.declared.header.Split.TheVariants.{Message, More, Bad}
use Rattle.spec_desktop.specs.declared.cause.Cause.{Cause}
use Rattle.spec_desktop.specs.declared.cause.Cause.TheVariants.{Gone, Memory}
use Rattle.spec_desktop.specs.declared.refusals.ErrorCode.TheVariants.{InvalidMethod}
use Rattle.spec_desktop.specs.declared.refusals.Refusal.{Refusal}
use Rattle.spec_desktop.specs.Peer.{Errs, LacksMemory, Peer, counted, ended, sent_by, stored_at, stored_by, with_rest}
use Rattle.spec_desktop.specs.Told.{Output, Said, display_error}
use Rattle.wl_store.specs.Stores.{write_refusal}
use Rattle.wl_store.specs.declared.stores.StoreError.{StoreError}
use Rattle.wl_surface.specs.Surfaces.{Surfaces, no_surfaces}
use Rattle.spec_desktop.specs.Pointer.{hit_now, is_down, is_press}
use Rattle.spec_desktop.specs.Stacking.{Standing}
use Rattle.spec_desktop.specs.Windows.{Place}
use Rattle.spec_desktop.specs.declared.answers.Done.{Done}
use Rattle.spec_desktop.specs.Act.{Act, Connect, Feed, Store, Leave, Tick, Send, Close, Motion, Button, IsClosed, IsSent, IsStored, closed_by, lowest}
use Rattle.spec_desktop.specs.Changing.{changed_for, drawing, without_callbacks}
use Rattle.spec_desktop.specs.Demand.{Demand}
use Rattle.spec_desktop.specs.Demanding.{judge_all}
use Rattle.spec_desktop.specs.Desktop.{Desktop, Resident, Subsurface, arrival, client_at, client_in, empty, place, resident_of, toplevels_of, with_client, with_number, with_place}
use Rattle.spec_desktop.specs.Happens.{AnswersThen, BecomesThen, ChangesThen, ConnectsThen, DoesThen, FeedsAt, Happens, HappensThen, IsFedAt, LeavesThen, PressesThen, Reaches, ReleasesThen, ServesThen}
use Rattle.spec_desktop.specs.Happens.{StopsAt, TakesThen, WantsOrThen, callbacks_due, changed_so, done_for, ending, frames_told, point_in, settling, wants_memory}
use Rattle.spec_desktop.specs.Pointing.{button_told, entered_surface, has_pointers, left_surface, motion_told}
use Rattle.spec_desktop.specs.Replies.{popups_done, replies}
use Rattle.spec_desktop.specs.Settling.{Midstep, Strike, becomes, leave_drawn, noted, noted_if, number_of, told_drawn, unstruck, without_grabs}
use Rattle.spec_desktop.specs.Stacked.{all_windows}
use Rattle.spec_desktop.specs.Step.{with_peer}
use Rattle.law_desktop.proofs.Soundness.RunMessages.{HasEnded, erred-ended, lacking-ended}
use Rattle.law_desktop.specs.RunLaws.{Lasts}
use Rattle.law_desktop.proofs.Isolation.Kept.{TellsDone, TellsPointer, has-more}
use Rattle.law_desktop.proofs.Isolation.Own.{Shifting, move-shifts, moves-then, pressed-then, raise-shifts, released-then, shown-then}
use Rattle.law_desktop.proofs.Isolation.Settling.{AreIn, Stays, ending-in, settled-in, settling-in}
use Rattle.law_desktop.proofs.Isolation.Told.{TellsBy}
use Rattle.law_desktop.proofs.Runs.Places.{number-same}
use Rattle.law_desktop.proofs.Runs.Serves.{done-clients_stay}
use Rattle.law_desktop.proofs.Runs.Through.{connects-with}
use Rattle.law_desktop.proofs.Soundness.Message.{message-keeps}
use Rattle.law_desktop.proofs.Soundness.Orderly.{AreOrderly, IsOrderly, IsOrderlyAt, IsOrderlyBy}
use Rattle.law_desktop.proofs.Soundness.Run.{empty-orderly}
use Rattle.law_desktop.proofs.Soundness.RunIsSound.{frames, happens-keeps}
use Rattle.law_desktop.proofs.Soundness.RunMessages.{serves-so}
use Rattle.law_desktop.proofs.Soundness.RunSteady.{callbacks-steady, changed-steady}
use Rattle.law_desktop.proofs.Soundness.RunTold.{Known as KnownOrderly, alike, known-same, known-so, settling-known}
use Rattle.law_desktop.proofs.Soundness.First.{no-client}

-- ---- clients by their numbers

-- one is put there, or it is as it was
IsEither : Option Resident → Option Resident → Option Resident → Type 0
IsEither now put was = (now ≡ put) ⊎ (now ≡ was)

place-either : (rs : List (Option Resident)) (k n : ℕ) (x : Option Resident) → IsEither (place (with_place k x rs) n) x (place rs n)
unfolding IsEither
place-either (r ∷ rs) zero zero x = inl refl
place-either (r ∷ rs) (suc k) (suc n) x = place-either rs k n x
place-either rs k n x = inr refl

number-either : (rs : List (Option Resident)) (a c : ℕ) (x : Option Resident) → IsEither (client_in (with_number a x rs) c) x (client_in rs c)
unfolding IsEither
number-either rs zero c x = inr refl
number-either rs (suc k) zero x = inr refl
number-either rs (suc k) (suc n) x = place-either rs k n x

-- ---- what holds

-- An accepted message of a client that is orderly keeps it; the bound is past the number of its last request.
abbrev pub MessageHolds : (ℕ → Surfaces → List Subsurface → Type 0) → Type 0
MessageHolds Holds =
    (c : ℕ) (r : Resident) (rest : List ℕ) (object opcode : ℕ) (body : List ℕ) (demand : Demand) (tops : List Standing) (d : Desktop)
    → judge_all r object opcode body ≡ Ok demand → IsOrderly (r.peer.requests + 1) r tops → Holds (r.peer.requests + 1) r.owned.surfaces r.subsurfaces
    → (let s : Resident = with_peer (counted (with_rest rest r.peer)) r in Holds (s.peer.requests + 1) (changed_for c demand s d).owned.surfaces (changed_for c demand s d).subsurfaces)

-- nothing need be known of why a client is to end
abbrev Anyhow : Resident → Cause → Type 0
Anyhow r cause = Unit {0}

module _ (Holds : ℕ → Surfaces → List Subsurface → Type 0) (first : (bound : ℕ) → Holds bound no_surfaces []) where
  abbrev pub HoldsOf : Resident → Type 0
  HoldsOf r = Holds (r.peer.requests + 1) r.owned.surfaces r.subsurfaces

  abbrev pub HoldsAt : Option Resident → Type 0
  HoldsAt None = Unit {0}
  HoldsAt (Some r) = HoldsOf r

  abbrev HoldsBy : Option Resident → List Standing → Type 0
  HoldsBy o tops = HoldsAt o

  abbrev ToldHolds : Resident → Resident → Option Cause → Type 0
  ToldHolds r q why = HoldsOf r → HoldsOf q

  -- of each client
  abbrev pub AllHold : Desktop → Type 0
  AllHold d = (c : ℕ) → HoldsAt (client_at c d)

  holds-so : (r : Resident) (requests : ℕ) (surfaces : Surfaces) (subsurfaces : List Subsurface) → requests ≡ r.peer.requests → surfaces ≡ r.owned.surfaces → subsurfaces ≡ r.subsurfaces
      → HoldsOf r → Holds (requests + 1) surfaces subsurfaces
  holds-so r requests surfaces subsurfaces e f g known = rw (e, f, g) known

  at-so : (o p : Option Resident) → o ≡ p → HoldsAt p → HoldsAt o
  at-so o p e known = rw e known

  hold-same : (d e : Desktop) → e ≡ d → AllHold d → AllHold e
  hold-same d e same known c = at-so (client_at c e) (client_at c d) (ap (λ (x : Desktop). client_at c x) same) (known c)

  put-in : (rs : List (Option Resident)) (a c : ℕ) (x : Option Resident) → HoldsAt x → HoldsAt (client_in rs c) → HoldsAt (client_in (with_number a x rs) c)
  unfolding IsEither
  put-in rs a c x put was = at (number-either rs a c x)
    where
      at : (client_in (with_number a x rs) c ≡ x) ⊎ (client_in (with_number a x rs) c ≡ client_in rs c) → HoldsAt (client_in (with_number a x rs) c)
      at (inl e) = at-so (client_in (with_number a x rs) c) x e put
      at (inr e) = at-so (client_in (with_number a x rs) c) (client_in rs c) e was

  put : (a : ℕ) (x : Option Resident) (d : Desktop) → HoldsAt x → AllHold d → AllHold (with_client a x d)
  put a x d holds known c = put-in d.clients a c x holds (known c)

  -- where a client ended
  gone : (a : ℕ) (cause : Cause) (p : Peer) (r : Resident) (d : Desktop) → AllHold d → AllHold (becomes a r (ended cause p) d)
  gone a cause p r d known c = put-in d.clients a c (Some (resident_of (ended cause p))) (first _) (known c)

  -- ---- a client is told

  told-holds : (change : Resident → Resident) → ((r : Resident) → HoldsOf r → HoldsOf (change r)) → (told : Resident → List Said) → TellsBy ToldHolds change told
  told-holds change keeps told r q why h known =
      let more = has-more (told r) (change r).peer q why h in
      holds-so (change r) q.requests (change r).owned.surfaces (change r).subsurfaces (ap (λ (p : Peer). p.requests) more.1) refl refl (keeps r known)

  drawn-holds : (b : Bool) (r : Resident) → HoldsOf r → HoldsOf (drawing b r)
  drawn-holds true r known = known
  drawn-holds false r known = known

  noted-holds : (b : Bool) (r : Resident) → HoldsOf r → HoldsOf (noted b r)
  noted-holds true r known = known
  noted-holds false r known = known

  pressed-holds : (b pressed : Bool) (r : Resident) → HoldsOf r → HoldsOf (noted_if b pressed r)
  pressed-holds true pressed r known = drawn-holds (has_pointers (noted pressed r)) (noted pressed r) (noted-holds pressed r known)
  pressed-holds false pressed r known = known

  frames-hold : TellsDone ToldHolds
  frames-hold time =
      told-holds (λ r. without_callbacks (callbacks_due r) r)
      (λ r known. holds-so r (without_callbacks (callbacks_due r) r).peer.requests r.owned.surfaces r.subsurfaces (callbacks-steady (callbacks_due r) r.peer).1 refl refl known) (frames_told time)

  pointer-holds : TellsPointer ToldHolds
  pointer-holds = record {
    focus = record {
      leave = λ surface. told-holds (leave_drawn surface) (λ r. drawn-holds _ r) (left_surface surface);
      enter = λ at w. told-holds told_drawn (λ r. drawn-holds _ r) (entered_surface at w);
    };
    motion = λ time at w. told-holds (λ r. r) (λ r known. known) (motion_told time at w);
    dismissed = told-holds without_grabs (λ r known. known) (λ r. popups_done r (without_grabs r));
    pressed = λ time button pressed.
        told-holds (λ r. noted_if (has_pointers r) pressed r) (λ r. pressed-holds (has_pointers r) pressed r) (button_told time button (number_of pressed));
  }

  stays-so : Stays ToldHolds HoldsBy Anyhow
  stays-so = record {
    told = λ r q tops why alive known so. so known;
    untold = λ r q tops cause alive known so. tt;
    ends = λ r tops cause known why. first _;
    again = λ r cause other why why_too. tt;
  }

  -- ---- those that are to end do, and the focus is settled

  strikes-known : (c : ℕ) (o : Option Resident) (ss : List Strike) → AreIn c ToldHolds pointer-holds.focus HoldsBy Anyhow stays-so o ss
  strikes-known c o [] = tt
  strikes-known c None (s ∷ ss) = (λ same. tt, strikes-known c None ss)
  strikes-known c (Some r) (s ∷ ss) = (λ same. tt, strikes-known c (Some r) ss)

  settling-holds : (c : ℕ) (new : Desktop) (mid : Midstep) → HoldsAt (client_at c mid.desktop) → settling new mid → HoldsAt (client_at c new)
  settling-holds c new mid known h =
      settling-in c ToldHolds pointer-holds.focus HoldsBy Anyhow stays-so mid new (known, strikes-known c (client_at c mid.desktop) mid.struck) h

  ending-holds : (c : ℕ) (new : Desktop) (mid : Midstep) → HoldsAt (client_at c mid.desktop) → ending new mid → HoldsAt (client_at c new)
  ending-holds c new mid known h =
      ending-in c ToldHolds pointer-holds.focus HoldsBy Anyhow stays-so mid new (known, strikes-known c (client_at c mid.desktop) mid.struck) h

  settled-holds : (d new : Desktop) → AllHold d → settling new (unstruck d) → AllHold new
  settled-holds d new known h c = settled-in c ToldHolds pointer-holds.focus HoldsBy Anyhow stays-so d new (known c) h

  -- ---- a client is written to, sent to or closed

  abbrev held_by : Option Peer → Resident → Option Resident
  held_by None r = None
  held_by (Some q) r = Some (with_peer q r)

  abbrev KeepsHeld : (Peer → Done → Option Peer → Type 0) → Done → Type 0
  KeepsHeld R done = (r : Resident) (q : Option Peer) → R r.peer done q → HoldsOf r → HoldsAt (held_by q r)

  held-so : (r : Resident) (q other : Option Peer) → q ≡ other → HoldsAt (held_by other r) → HoldsAt (held_by q r)
  held-so r q other e known = rw e known

  closed-keeps : (done : Done) → KeepsHeld IsClosed done
  closed-keeps done r q h known = held-so r q (closed_by r.peer.status r.peer) h.0 (at r.peer.status)
    where
      at : (s : Option Cause) → HoldsAt (held_by (closed_by s r.peer) r)
      at None = known
      at (Some cause) = tt

  stored-keeps : (store at : ℕ) (bytes : List ℕ) (done : Done) → KeepsHeld (IsStored store at bytes) done
  stored-keeps store at bytes done r q h known = held-so r q (Some (stored_at r.peer.status store at bytes r.peer)) h.0 (by r.peer.status)
    where
      refused : (refusal : Option StoreError) → HoldsAt (Some (with_peer (stored_by store at bytes refusal r.peer) r))
      refused None = known
      refused (Some error) = known

      by : (s : Option Cause) → HoldsAt (Some (with_peer (stored_at s store at bytes r.peer) r))
      by (Some cause) = known
      by None = refused (write_refusal store at (length bytes) r.peer.stores)

  sent-keeps : (n : ℕ) (done : Done) → KeepsHeld (IsSent n) done
  sent-keeps n done r q h known = held-so r q (Some (sent_by n r.peer)) h.0 (at (nat_le n (length r.peer.unsent)))
    where
      at : (b : Bool) → HoldsAt (Some (with_peer (if b then record r.peer { unsent = drop n r.peer.unsent } else r.peer) r))
      at true = known
      at false = known

  -- ---- all that happens, but for the messages of a client

  -- What follows for a client from the middle of a step, where it holds, with what comes then, follows from the step.
  module _ (c : ℕ) (X : Type 0) (Next Settled : Midstep → Type 0)
      (next : (mid : Midstep) → HoldsAt (client_at c mid.desktop) → Next mid → X)
      (last : (mid : Midstep) → HoldsAt (client_at c mid.desktop) → Settled mid → X) where
    connects : (k : Option ℕ) (d : Desktop) (done : Done) → AllHold d → ConnectsThen k d done Settled → X
    connects None d done known h = last (unstruck d) (known c) h.1
    connects (Some k) d done known (inl h) = last (unstruck d) (known c) h.1
    connects (Some k) d done known (inr h) =
        last (unstruck (with_client (k + 1) (Some (arrival d.output)) d)) (put (k + 1) (Some (arrival d.output)) d (first _) known c) h.1

    changes : (R : Peer → Done → Option Peer → Type 0) (absent : Done) (a : ℕ) (o : Option Resident) (d : Desktop) (done : Done)
        → KeepsHeld R done → client_at a d ≡ o → AllHold d → ChangesThen R absent a o d done Settled → X
    changes R absent a None d done keeps found known h = last (unstruck d) (known c) h.1
    changes R absent a (Some r) d done keeps found known (None, h, e) = last (unstruck (with_client a None d)) (put a None d tt known c) e
    changes R absent a (Some r) d done keeps found known (Some q, h, e) =
        let x : Option Resident = Some (with_peer q r) in
        last (unstruck (with_client a x d)) (put a x d (keeps r (Some q) h (at-so (Some r) (client_at a d) (sym found) (known a))) known c) e

    leaves : (a : ℕ) (o : Option Resident) (d : Desktop) (done : Done) → AllHold d → LeavesThen a o d done Next Settled → X
    leaves a None d done known h = last (unstruck d) (known c) h.1
    leaves a (Some r) d done known h = at r.peer.status refl
      where
        at : (s : Option Cause) → r.peer.status ≡ s → X
        at (Some cause) e = let k : Settled (unstruck d) = rw e at h.1 in last (unstruck d) (known c) k
        at None e =
            let over : Midstep = unstruck (becomes a r (ended Gone r.peer) d) in
            let k : Next over = rw e at h.1 in
            next over (gone a Gone r.peer r d known c) k

    -- nothing is said of what stands
    holds-shifting : Shifting c HoldsBy
    holds-shifting = record { raises = λ t o ss known. known; moves = λ t x y o ss known. known }

    presses : (b : Bool) (time button : ℕ) (d : Desktop) → HoldsAt (client_at c d) → PressesThen b time button d Settled → X
    presses false time button d known h = last (unstruck d) known h
    presses true time button d known h =
        pressed-then c ToldHolds pointer-holds HoldsBy Anyhow stays-so X Settled (λ mid within. last mid within.0)
        time button d (raise-shifts c HoldsBy holds-shifting (hit_now d.pointer.place (all_windows d))) known h

    releases : (b : Bool) (time button : ℕ) (d : Desktop) → HoldsAt (client_at c d) → ReleasesThen b time button d Settled → X
    releases false time button d known h = last (unstruck d) known h
    releases true time button d known h =
        released-then c ToldHolds pointer-holds HoldsBy Anyhow stays-so X Settled (λ mid within. last mid within.0)
        time button d known h

    happens-known : (act : Act) (done : Done) (d : Desktop) → AllHold d → HappensThen act done d Next Settled → X
    happens-known Connect done d known h = connects (lowest d.clients) d done known h
    happens-known (Feed a piece) done d known h = absurd h
    happens-known (Store a store at bytes) done d known h =
        changes (IsStored store at bytes) _ a (client_at a d) d done (stored-keeps store at bytes done) refl known h
    happens-known (Leave a) done d known h = leaves a (client_at a d) d done known h
    happens-known (Tick time) done d known h =
        shown-then c ToldHolds pointer-holds HoldsBy Anyhow stays-so X Next (λ mid within. next mid within.0) frames-hold time d (known c) h.1
    happens-known (Send a n) done d known h = changes (IsSent n) _ a (client_at a d) d done (sent-keeps n done) refl known h
    happens-known (Close a) done d known h = changes IsClosed _ a (client_at a d) d done (closed-keeps done) refl known h
    happens-known (Motion time x y) done d known h =
        let at : Place = point_in d.output x y in
        moves-then c ToldHolds pointer-holds HoldsBy Anyhow stays-so X Settled (λ mid within. last mid within.0)
        time at d (move-shifts c HoldsBy holds-shifting d.pointer.place at d.pointer.move) (known c) h.1
    happens-known (Button time button true) done d known h = presses (is_press button d.pointer.buttons) time button d (known c) h.1
    happens-known (Button time button false) done d known h = releases (is_down button d.pointer.buttons) time button d (known c) h.1

  single : (act : Act) (done : Done) (d e : Desktop) → AllHold d → HappensThen act done d (settling e) (ending e) → AllHold e
  single act done d e known h c =
      happens-known c (HoldsAt (client_at c e)) (settling e) (ending e) (settling-holds c e) (ending-holds c e) act done d known h

  -- ---- the messages of a client

  module _ (message : MessageHolds Holds) (c : ℕ) where
    -- what follows from the middle of a step, with what comes then, follows from the message
    module _ (X : Type 0) (Next : Midstep → Type 0) (next : (mid : Midstep) → AllHold mid.desktop → Next mid → X) where
      over : (Q : Peer → Type 0) → ((q : Peer) → Q q → HasEnded q) → (r : Resident) (d : Desktop) → AllHold d → BecomesThen Q c r d Next → X
      over Q ends r d known h =
          let k = ends h.0 h.1 in
          next (unstruck (becomes c r h.0 d)) (subst (λ (q : Peer). AllHold (becomes c r q d)) (sym k.2) (gone c k.0 k.1 r d known)) h.2

      does : (r : Resident) (rest : List ℕ) (object opcode : ℕ) (body : List ℕ) (demand : Demand) (d : Desktop)
          → judge_all r object opcode body ≡ Ok demand → client_at c d ≡ Some r → IsOrderly (r.peer.requests + 1) r (toplevels_of c d) → AllHold d
          → DoesThen c demand (with_peer (counted (with_rest rest r.peer)) r) d Next → X
      does r rest object opcode body demand d judged found orderly known h =
          let s : Resident = with_peer (counted (with_rest rest r.peer)) r in
          let changed : Resident = changed_for c demand s d in
          let done : Desktop = done_for c demand s d in
          let own : HoldsOf r = at-so (Some r) (client_at c d) (sym found) (known c) in
          let after : Holds (s.peer.requests + 1) changed.owned.surfaces changed.subsurfaces = message c r rest object opcode body demand (toplevels_of c d) d judged orderly own in
          let more = has-more (replies c demand s changed (all_windows d) d) changed.peer h.0 h.1 h.2 in
          let counts : h.0.requests ≡ s.peer.requests = ap (λ (p : Peer). p.requests) more.1 ∙ (changed-steady c demand d s).1 in
          let told : Resident = with_peer h.0 changed in
          let it : HoldsAt (Some told) = subst (λ (n : ℕ). Holds (n + 1) changed.owned.surfaces changed.subsurfaces) (sym counts) after in
          let stay : AllHold done = λ k. at-so (client_at k done) (client_at k d) (ap (λ (clients : List (Option Resident)). client_in clients k) (done-clients_stay c demand s d)) (known k) in
          next (changed_so c demand s d h.0 h.1) (put c (Some told) done it stay) h.3

      wants : (b : Bool) (r : Resident) (rest : List ℕ) (object opcode : ℕ) (body : List ℕ) (demand : Demand) (d : Desktop)
          → judge_all r object opcode body ≡ Ok demand → client_at c d ≡ Some r → IsOrderly (r.peer.requests + 1) r (toplevels_of c d) → AllHold d
          → WantsOrThen b (DoesThen c demand (with_peer (counted (with_rest rest r.peer)) r) d Next) c (with_peer (counted (with_rest rest r.peer)) r) d Next → X
      wants false r rest object opcode body demand d judged found orderly known h = does r rest object opcode body demand d judged found orderly known h
      wants true r rest object opcode body demand d judged found orderly known (inl h) =
          over (LacksMemory (counted (with_rest rest r.peer))) (λ q lacks. lacking-ended (counted (with_rest rest r.peer)) q lacks)
          (with_peer (counted (with_rest rest r.peer)) r) d known h
      wants true r rest object opcode body demand d judged found orderly known (inr h) = does r rest object opcode body demand d judged found orderly known h

      takes : (split : Split) (r : Resident) (d : Desktop)
          → client_at c d ≡ Some r → IsOrderly (r.peer.requests + 1) r (toplevels_of c d) → AllHold d → TakesThen split c r d Next → X
      takes (Message object opcode size) r d found orderly known h = at (judge_all r object opcode body) refl h
        where
          rest : List ℕ
          rest = drop size r.peer.rest

          body : List ℕ
          body = take (size - 8) (drop 8 r.peer.rest)

          at : (judged : Result Demand Refusal) → judge_all r object opcode body ≡ judged
              → AnswersThen judged c (with_peer (with_rest rest r.peer) r) d Next → X
          at (Ok demand) e k = wants (wants_memory demand) r rest object opcode body demand d e found orderly known k
          at (Err refusal) e k =
              over (Errs refusal (with_rest rest r.peer)) (λ q errs. erred-ended refusal (with_rest rest r.peer) q errs)
              (with_peer (with_rest rest r.peer) r) d known k
      takes Bad r d found orderly known h =
          over (Errs (display_error InvalidMethod) r.peer) (λ q errs. erred-ended (display_error InvalidMethod) r.peer q errs) r d known h
      takes More r d found orderly known h = absurd h

      serves : (o : Option Resident) (d : Desktop) → client_at c d ≡ o → IsOrderlyAt o (toplevels_of c d) → AllHold d → ServesThen c o d Next → X
      serves None d found orderly known h = absurd h
      serves (Some r) d found orderly known h = takes (split_of r.peer.rest) r d found (subst (λ (s : Option Cause). IsOrderlyBy s r (toplevels_of c d)) h.0 orderly) known h.1

    -- ---- a piece

    abbrev Both : Desktop → Type 0
    Both d = KnownOrderly c d × AllHold d

    served : (d new : Desktop) → Both d → ServesThen c (client_at c d) d (settling new) → Both new
    served d new known h = (
      serves-so frames message-keeps c (KnownOrderly c new) (settling new) (settling-known frames c new) (client_at c d) d refl known.0 h,
      serves (AllHold new) (settling new) (λ mid holds k a. settling-holds a new mid (holds a) k) (client_at c d) d refl known.0 known.1 h,
    )

    reaches : (n : ℕ) (d new : Desktop) → Both d → Reaches c n d new → Both new
    reaches zero d new known h = (known-same c d new h known.0, hold-same d new h known.1)
    reaches (suc n) d new known h = served h.0 new (reaches n d h.0 known h.1) h.2

    stops : (o : Option Resident) (mid new : Desktop) → AllHold mid → StopsAt c o mid new → AllHold new
    stops None mid new known h = absurd h
    stops (Some r) mid new known (inl h) = hold-same mid new h.0 known
    stops (Some r) mid new known (inr h) = settled-holds (becomes c r (ended Memory r.peer) mid) new (gone c Memory r.peer r mid known) h.1

    feeds : (piece : List ℕ) (s : Option Cause) (r : Resident) (d new : Desktop) → client_at c d ≡ Some r → Both d → FeedsAt c piece s r d new → AllHold new
    feeds piece (Some cause) r d new found known h = hold-same d new h known.1
    feeds piece None r d new found known h =
        let come : Resident = with_peer (with_rest (r.peer.rest ++ piece) r.peer) r in
        let start : Desktop = with_client c (Some come) d in
        let it : IsOrderlyAt (Some r) (toplevels_of c d) = subst (λ (o : Option Resident). IsOrderlyAt o (toplevels_of c d)) found known.0 in
        let orderly : KnownOrderly c start =
        known-so c start (Some come) (toplevels_of c d) (number-same d.clients c (Some come) r found) refl
        (alike frames r come (record { status = refl; requests = refl; objects = refl; owned = refl; subsurfaces = refl; callbacks = refl }) (toplevels_of c d) it) in
        let own : HoldsOf r = at-so (Some r) (client_at c d) (sym found) (known.1 c) in
        stops (client_at c h.1) h.1 new (reaches h.0 start h.1 (orderly, put c (Some come) d own known.1) h.2).1 h.3

    fed : (piece : List ℕ) (o : Option Resident) (d : Desktop) (done : Done) (new : Desktop) → client_at c d ≡ o → Both d → IsFedAt c piece o d done new → AllHold new
    fed piece None d done new found known h = hold-same d new h.1 known.1
    fed piece (Some r) d done new found known h = feeds piece r.peer.status r d new found known h.0

  -- ---- all that happens

  module _ (message : MessageHolds Holds) where
    happens-holds : (act : Act) (done : Done) (d e : Desktop) → AreOrderly d → AllHold d → Happens act done d e → AllHold e
    happens-holds Connect done d e orderly known h = single Connect done d e known (connects-with (lowest d.clients) d done e h)
    happens-holds (Feed a piece) done d e orderly known h = fed message a piece (client_at a d) d done e refl (orderly a, known) h
    happens-holds (Store a store at bytes) done d e orderly known h = single (Store a store at bytes) done d e known h
    happens-holds (Leave a) done d e orderly known h = single (Leave a) done d e known h
    happens-holds (Tick time) done d e orderly known h = single (Tick time) done d e known h
    happens-holds (Send a n) done d e orderly known h = single (Send a n) done d e known h
    happens-holds (Close a) done d e orderly known h = single (Close a) done d e known h
    happens-holds (Motion time x y) done d e orderly known h = single (Motion time x y) done d e known h
    happens-holds (Button time button pressed) done d e orderly known h = single (Button time button pressed) done d e known h

    lasts : (acts : List Act) (dones : List Done) (d e : Desktop) → AreOrderly d → AllHold d → Lasts acts dones d e → AllHold e
    lasts [] [] d e orderly known h = hold-same d e h known
    lasts [] (done ∷ dones) d e orderly known h = absurd h
    lasts (act ∷ acts) [] d e orderly known h = absurd h
    lasts (act ∷ acts) (done ∷ dones) d e orderly known h =
        lasts acts dones h.0 e (happens-keeps act done d h.0 orderly h.1) (happens-holds act done d h.0 orderly known h.1) h.2

    -- it holds of each client, whatever happens
    pub lasts-hold : (output : Output) (acts : List Act) (dones : List Done) (d : Desktop) → Lasts acts dones (empty output) d → AllHold d
    lasts-hold output acts dones d h =
        lasts acts dones (empty output) d (empty-orderly output) (λ c. at-so (client_at c (empty output)) None (no-client output c) tt) h

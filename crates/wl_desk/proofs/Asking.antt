-- Where a message leads once the pointer is put back, by what it asks of the pointer and by how its client is then.
use Rattle.std.proofs.Common.{◌≡◌, ℕ, List, [], ◌∷◌, ◌++◌, drop, take, Bool, true, false, Option, Some, None, Result, Ok, Err, refl, ap, subst, sym, ◌∙◌, ◌⊎◌, inl, inr}
use Rattle.std.proofs.lemmas.Bool.{true≢false}
use Rattle.std.proofs.lemmas.Option.{none-some}
use Rattle.std.specs.Prelude.{◌-◌, ◌||◌, is_some}
use Rattle.wl_wire.specs.Wire.{split_of}
use Rattle.wl_wire.specs.declared.header.Split.{Split}
use Rattle.wl_wire.specs.declared.header.Split.TheVariants.{Message as Whole, More, Bad}
use Rattle.spec_desktop.specs.declared.cause.Cause.{Cause}
use Rattle.spec_desktop.specs.declared.cause.Cause.TheVariants.{Protocol}
use Rattle.spec_desktop.specs.declared.refusals.ErrorCode.TheVariants.{InvalidMethod}
use Rattle.spec_desktop.specs.declared.refusals.Refusal.{Refusal}
use Rattle.spec_desktop.specs.Peer.{Errs, Peer, QueuesOr, ended, has_room, queued, with_rest}
use Rattle.spec_desktop.specs.Told.{Said, code_number, display_error, error_told}
use Rattle.spec_desktop.specs.Changing.{drawing, has_focus}
use Rattle.spec_desktop.specs.Demand.{Demand, GetPointer}
use Rattle.spec_desktop.specs.Demanding.{judge_all}
use Rattle.spec_desktop.specs.Desktop.{Desktop, Resident, become_by, client_at, status_in, status_of, unpointed}
use Rattle.spec_desktop.specs.Happens.{AnswersThen, BecomesThen, ServesThen, TakesThen}
use Rattle.spec_desktop.specs.Moments.{marks_at_least_through, marks_at_most_through}
use Rattle.spec_desktop.specs.Marks.{AreDistinct}
use Rattle.spec_desktop.specs.Settling.{Midstep, Tells, TellsAt, TellsUnless, becomes, ended_all, unstruck}
use Rattle.spec_desktop.specs.Stacked.{all_windows}
use Rattle.spec_desktop.specs.Step.{with_peer}
use Rattle.spec_desktop.specs.Through.{ServesThrough, SettlesAllThrough, ends_through, settling_through}
use Rattle.law_desktop.proofs.Runs.Places.{status-become}
use Rattle.law_desktop.specs.Pointed.Apart.{SettlesOn}
use Rattle.law_desktop.specs.Pointed.Entering.{TellsNew, new_entered}
use Rattle.law_desktop.specs.Pointed.Pointed.{MovedStands, asked, asked_by, asked_first, asked_of, pointer_after, put_back}
use Rattle.law_desktop.proofs.PointerAside.Entering.{new-pointer-apart-through}
use Rattle.law_desktop.proofs.PointerAside.Marking.{marks-apart, new-pointer-marks}
use Rattle.law_desktop.proofs.PointerAside.Messages.{after-status, becomes-still, pointer-apart-through}
use Rattle.law_desktop.proofs.PointerAside.Pointers.{settled-nowhere}
use Rattle.wl_desk.proofs.Onward.{MarksSame, none-more}

-- ---- what is asked

-- no wl_pointer is asked for, or one is
abbrev pub AsksNone : Option Demand → Type 0
AsksNone o = (id version : ℕ) → o ≡ Some (GetPointer id version) → ⊥

abbrev pub AsksNew : Option Demand → Type 0
AsksNew o = (id : ℕ) × (version : ℕ) × (o ≡ Some (GetPointer id version))

pub asks-new : (o : Option Demand) → AsksNone o ⊎ AsksNew o
asks-new (Some (GetPointer id version)) = inr (id, version, refl)
asks-new o = inl (λ id version e. absurd (cc))

-- ---- a message that is refused ends its client

errs-ended : (refusal : Refusal) (p q : Peer) → Errs refusal p q → is_some q.status ≡ true
errs-ended refusal p q h = at (has_room p.unsent (error_told refusal)) h
  where
    at : (b : Bool) → QueuesOr b (q ≡ ended (Protocol refusal.object (code_number refusal.code)) (queued (error_told refusal) p)) p q → is_some q.status ≡ true
    at false e = ap (λ (x : Peer). is_some x.status) e
    at true (inl e) = ap (λ (x : Peer). is_some x.status) e
    at true (inr e) = ap (λ (x : Peer). is_some x.status) e

module _ (c : ℕ) (d : Desktop) (path : List Desktop) (e : Desktop) (there : Resident) (is : client_at c d ≡ Some there) where
  erred : (r : Resident) (refusal : Refusal) → BecomesThen (Errs refusal r.peer) c r (unpointed d) (settling_through path e) → is_some (status_in c e) ≡ true
  erred r refusal h =
      let q : Peer = h.0 in
      let over = settled-nowhere 32 (becomes c r q (unpointed d)) e h.2.0 (becomes-still q.status c r q d) h.2.2 in
      ap (λ (x : Desktop). is_some (status_in c x)) over.0
      ∙ ap (λ (s : Option Cause). is_some s) (after-status q.status c (become_by q.status c r q (unpointed d)) ∙ status-become c r q (unpointed d) there is)
      ∙ errs-ended refusal r.peer q h.1

  answered : (judged : Result Demand Refusal) (r : Resident) → asked_of judged ≡ None → AnswersThen judged c r (unpointed d) (settling_through path e) → is_some (status_in c e) ≡ true
  answered (Ok demand) r none h = absurd (none-some demand (sym none))
  answered (Err refusal) r none h = erred r refusal h

  took : (split : Split) (r : Resident) → asked_first split r ≡ None → TakesThen split c r (unpointed d) (settling_through path e) → is_some (status_in c e) ≡ true
  took (Whole object opcode size) r none h =
      answered (judge_all r object opcode (take (size - 8) (drop 8 r.peer.rest))) (with_peer (with_rest (drop size r.peer.rest) r.peer) r) none h
  took Bad r none h = erred r (display_error InvalidMethod) h
  took More r none h = absurd h

pub refused-ends : (c : ℕ) (d : Desktop) (path : List Desktop) (e : Desktop) → asked c d ≡ None → ServesThrough c (unpointed d) path e
    → is_some (status_in c e) ≡ true
refused-ends c d path e none h = at (client_at c d) refl none h
  where
    at : (o : Option Resident) → client_at c d ≡ o → asked_by o ≡ None → ServesThen c o (unpointed d) (settling_through path e) → is_some (status_in c e) ≡ true
    at None is none h = absurd h
    at (Some r) is none h = took c d path e r is (split_of r.peer.rest) r none h.1

-- ---- who is told

tells-ended : (change : Resident → Resident) (events : Resident → List Said) (c : ℕ) (x : Desktop) → is_some (status_in c x) ≡ true → Tells change events c (unstruck x) (unstruck x)
tells-ended change events c x ended = at (client_at c x) ended
  where
    unless : (r : Resident) (b : Bool) → b ≡ true → TellsUnless (b || false) change events c r (unstruck x) (unstruck x)
    unless r true e = refl
    unless r false e = absurd (true≢false (sym e))

    at : (o : Option Resident) → is_some (status_of o) ≡ true → TellsAt change events c o (unstruck x) (unstruck x)
    at None e = refl
    at (Some r) e = unless r (is_some r.peer.status) e

-- who is told leaves the pointer as it is
pub told-still : (change : Resident → Resident) (events : Resident → List Said) (c : ℕ) (x : Desktop) (n : Midstep) → Tells change events c (unstruck x) n
    → n.desktop.pointer ≡ x.pointer
told-still change events c x n h = at (client_at c x) h
  where
    unless : (r : Resident) (b : Bool) → TellsUnless b change events c r (unstruck x) n → n.desktop.pointer ≡ x.pointer
    unless r true h = ap (λ (m : Midstep). m.desktop.pointer) h
    unless r false h = ap (λ (m : Midstep). m.desktop.pointer) h.3

    at : (o : Option Resident) → TellsAt change events c o (unstruck x) n → n.desktop.pointer ≡ x.pointer
    at None h = ap (λ (m : Midstep). m.desktop.pointer) h
    at (Some r) h = unless r (is_some r.peer.status || false) h

-- ---- the pointer is put back, and nobody is told

pub on-away : (c : ℕ) (d : Desktop) (path : List Desktop) (e : Desktop) → MovedStands d → AsksNone (asked c d) ⊎ (has_focus c d.pointer.focus ≡ false)
    → ServesThrough c (unpointed d) path e → SettlesOn (put_back c d) (ServesThrough c d) path e
on-away c d path e moved (inl never) h = pointer-apart-through c d path e moved (λ id version asks. absurd (never id version asks)) h
on-away c d path e moved (inr away) h = pointer-apart-through c d path e moved (λ id version asks. away) h

pub on-ended : (c : ℕ) (d : Desktop) (path : List Desktop) (e : Desktop) → MovedStands d → ServesThrough c (unpointed d) path e
    → is_some (status_in c e) ≡ true → SettlesOn (put_back c d) (ServesThrough c d) path e
on-ended c d path e moved h ended = at (has_focus c d.pointer.focus) refl (asks-new (asked c d))
  where
    at : (b : Bool) → has_focus c d.pointer.focus ≡ b → AsksNone (asked c d) ⊎ AsksNew (asked c d) → SettlesOn (put_back c d) (ServesThrough c d) path e
    at false has asks = on-away c d path e moved (inr has) h
    at true has (inl never) = on-away c d path e moved (inl never) h
    at true has (inr is) =
        let put : Desktop = put_back c d e in
        let both = new-pointer-apart-through c is.0 is.1 d path e (unstruck put) moved is.2 has h (tells-ended (drawing true) (new_entered is.0 put) c put ended) in
        ([], both.0, λ later new k. both.1 (put ∷ later) new (later, refl, k))

-- ---- the new wl_pointer is told

module _ (c id version : ℕ) (d : Desktop) (path : List Desktop) (e : Desktop) (n : Midstep) (moved : MovedStands d)
    (asks : asked c d ≡ Some (GetPointer id version)) (has : has_focus c d.pointer.focus ≡ true) (leads : ServesThrough c (unpointed d) path e)
    (tells : TellsNew id c (put_back c d e) n) where
  pub on-new : (later : List Desktop) (new : Desktop) → SettlesAllThrough 33 (unstruck (ended_all n.struck n.desktop)) later new
      → ServesThrough c d ((n.desktop ∷ []) ++ (ends_through n.struck n.desktop ++ later)) new
  on-new later new k =
      (new-pointer-apart-through c id version d path e n moved asks has leads tells).1 (n.desktop ∷ (ends_through n.struck n.desktop ++ later)) new (later, refl, k)

  -- what it is told marks nothing
  pub told-marks : AreDistinct (all_windows e) → MarksSame d (n.desktop ∷ []) (unpointed d) path
  told-marks apart x y =
      let way = (new-pointer-apart-through c id version d path e n moved asks has leads tells).0 in
      let told = new-pointer-marks id c d (put_back c d e) n [] x y tells in
      let both = marks-apart (pointer_after c d) None d e [] [] x y apart in (
        told.0 ∙ both.0 ∙ none-more (marks_at_least_through all_windows (unpointed d) (e ∷ e ∷ []) x y)
            ∙ ap (λ (xs : List Desktop). marks_at_least_through all_windows (unpointed d) xs x y) (sym way),
        told.1 ∙ both.1 ∙ none-more (marks_at_most_through all_windows None (unpointed d) (e ∷ e ∷ []) x y)
            ∙ ap (λ (xs : List Desktop). marks_at_most_through all_windows None (unpointed d) xs x y) (sym way),
      )

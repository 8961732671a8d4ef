-- A message of a client that lives on, from what its parts say.
use Rattle.std.proofs.Common.{◌≡◌, ℕ, ◌-◌, take, drop, Bool, true, false, Option, None, refl, ap, sym, subst, ◌∙◌, inl, inr, ◌⊎◌}
use Rattle.std.proofs.lemmas.Bool.{true≢false}
use Rattle.std.proofs.lemmas.Option.{none-some}
use Rattle.std.specs.Prelude.{Result, Ok, Err, is_some}
use Rattle.wl_wire.specs.Wire.{split_of}
use Rattle.wl_wire.specs.declared.header.Split.{Split}
use Rattle.wl_wire.specs.declared.header.Split.TheVariants.{Message as Whole, More, Bad}
use Rattle.wl_client.specs.Agreement.{IsPeer}
use Rattle.spec_desktop.specs.declared.cause.Cause.{Cause}
use Rattle.spec_desktop.specs.declared.refusals.ErrorCode.TheVariants.{InvalidMethod}
use Rattle.spec_desktop.specs.declared.refusals.Refusal.{Refusal}
use Rattle.spec_desktop.specs.Peer.{Peer, counted, with_rest}
use Rattle.spec_desktop.specs.Step.{with_peer}
use Rattle.spec_desktop.specs.Told.{display_error}
use Rattle.wl_shell.specs.Popups.{is_toplevel}
use Rattle.wl_shell.specs.Shell.{Effect, Stays, Unconfigured, Configures, Maps, Unmaps, xdg_of}
use Rattle.wl_surface.specs.declared.applied.Applied.{Applied}
use Rattle.spec_desktop.specs.Demand.{Demand, CommitTree, EndToplevel}
use Rattle.spec_desktop.specs.Demanding.{effect_of_commit, judge_all}
use Rattle.spec_desktop.specs.Desktop.{Desktop, Resident}
use Rattle.law_desktop.specs.Ordered.{OwnsOrdered}
use Rattle.law_desktop.specs.Done.{touched_by}
use Rattle.law_desktop.specs.Messages.{IsDemanded}
use Rattle.wl_requests.specs.declared.messages.Asked.{Asked}
use Rattle.wl_requests.specs.declared.residents.Placing.{Placing}
use Rattle.wl_requests.specs.declared.residents.Resident.{Resident as Kept}
use Rattle.wl_requests.specs.declared.residents.Stacking.{Stacking}
use Rattle.wl_requests.specs.declared.residents.Stacking.TheVariants as on
use Rattle.wl_requests.specs.Messages.{IsTouchOfAsked}
use Rattle.wl_requests.specs.Placing.{IsPlacingOf}
use Rattle.wl_requests.specs.Residents.{AnswersAs, AnswersSo, IsResident, StacksFor, StacksIf, StacksSo, TakesAs, TakesSo}
use Rattle.wl_requests.specs.Touching.{Touch}
use Rattle.wl_clients.proofs.OnScreen.Ends.{errs-over, lacks-over, over-ended}
use Rattle.wl_clients.proofs.OnScreen.Given.{TakesGiven, TakesGivenAs}

-- ---- what isn't done ends the client

ended-by-peer : {A : Type 0} (mid : Kept A) (q : Peer) → IsPeer mid.client q → is_some q.status ≡ true → mid.client.ended ≡ None → true ≡ false
ended-by-peer mid q peer over alive = sym over ∙ (ap (λ (s : Option Cause). is_some s) (sym peer.status) ∙ ap (λ (s : Option Cause). is_some s) alive)

undone-by : {A : Type 0} (judged : Result Demand Refusal) (c : ℕ) (r : Resident) (d : Desktop) (old mid : Kept A) → AnswersAs false judged c r d old mid → mid.client.ended ≡ None → true ≡ false
undone-by (Ok demand) c r d old mid h alive = ended-by-peer mid h.1 h.3.peer (over-ended h.1 (lacks-over (counted r.peer) h.1 h.2)) alive
undone-by (Err refusal) c r d old mid h alive = ended-by-peer mid h.0 h.2.peer (over-ended h.0 (errs-over refusal r.peer h.0 h.1)) alive

undone : {A : Type 0} (split : Split) (c : ℕ) (r : Resident) (d : Desktop) (old mid : Kept A) → TakesAs false split c r d old mid → mid.client.ended ≡ None → true ≡ false
undone (Whole object opcode size) c r d old mid h alive = undone-by _ c _ d old mid h alive
undone Bad c r d old mid h alive = undone-by (Err (display_error InvalidMethod)) c r d old mid h alive
undone More c r d old mid h alive = absurd h

-- ---- what comes to the top was mapped by a commit

top-commits : {A : Type 0} (old : Kept A) (r : Resident) (demand : Demand) (n : ℕ) → StacksFor old r demand (on.ToTop n) → (id : ℕ) × (demand ≡ CommitTree id) × (effect_of_commit r id ≡ Maps)
top-commits old r (CommitTree id) n h = (id, refl, at (is_toplevel (xdg_of id r.owned.shell)) (effect_of_commit r id) refl h)
  where
    stays-top : on.ToTop n ≡ on.Stays → ⊥
    stays-top e = absurd (cc)

    out-top : (m n : ℕ) → on.ToTop n ≡ on.Out m → ⊥
    out-top m n e = absurd (cc)

    at : (b : Bool) (effect : Effect) → effect_of_commit r id ≡ effect → StacksIf b old id effect (on.ToTop n) → effect_of_commit r id ≡ Maps
    at b Maps e h = e
    at true Stays e h = absurd (stays-top h)
    at true Unconfigured e h = absurd (stays-top h)
    at true Configures e h = absurd (stays-top h)
    at true Unmaps e h = absurd (out-top h.0 n h.2)
    at false Stays e h = absurd (stays-top h)
    at false Unconfigured e h = absurd (stays-top h)
    at false Configures e h = absurd (stays-top h)
    at false Unmaps e h = absurd (stays-top h)
top-commits old r (EndToplevel id xdg surface) n h = absurd (out-top h.0 n h.2)
  where
    out-top : (m n : ℕ) → on.ToTop n ≡ on.Out m → ⊥
    out-top m n e = absurd (cc)
top-commits old r demand n h = absurd (cc)

top-demanded : {A : Type 0} (split : Split) (c : ℕ) (r : Resident) (d : Desktop) (old mid : Kept A) (n : ℕ) → TakesSo split c r d old mid (on.ToTop n) → mid.client.ended ≡ None
    → (id : ℕ) × IsDemanded split r (CommitTree id) × (effect_of_commit r id ≡ Maps)
top-demanded {A} (Whole object opcode size) c r d old mid n h alive = at (judge_all r object opcode (take (size - 8) (drop 8 r.peer.rest))) refl h.0 h.1
  where
    at : (judged : Result Demand Refusal) → judge_all r object opcode (take (size - 8) (drop 8 r.peer.rest)) ≡ judged
        → AnswersSo judged c (with_peer (with_rest (drop size r.peer.rest) r.peer) r) d old mid
        → StacksSo old r judged (on.ToTop n) → (id : ℕ) × IsDemanded (Whole object opcode size) r (CommitTree id) × (effect_of_commit r id ≡ Maps)
    at (Ok demand) is told stacks =
        let top = top-commits old r demand n stacks in
        (top.0, is ∙ ap (λ (x : Demand). let j : Result Demand Refusal = Ok x in j) top.1, top.2)
    at (Err refusal) is told stacks = absurd (true≢false (ended-by-peer mid told.0 told.2.peer (over-ended told.0 (errs-over refusal (with_rest (drop size r.peer.rest) r.peer) told.0 told.1)) alive))
top-demanded Bad c r d old mid n h alive = absurd (true≢false (ended-by-peer mid h.0 h.2.peer (over-ended h.0 (errs-over (display_error InvalidMethod) r.peer h.0 h.1)) alive))
top-demanded More c r d old mid n h alive = absurd h

-- ---- what touches no tree leaves the stack as it is

untouched-stays : {A : Type 0} (old : Kept A) (r : Resident) (demand : Demand) (stacking : Stacking) → StacksFor old r demand stacking → touched_by demand r ≡ None → stacking ≡ on.Stays
untouched-stays old r (CommitTree id) stacking h none = absurd (none-some id (sym none))
untouched-stays old r (EndToplevel id xdg surface) stacking h none = absurd (none-some surface (sym none))
untouched-stays old r demand stacking h none = h

demanded-stays : {A : Type 0} (split : Split) (c : ℕ) (r : Resident) (d : Desktop) (old mid : Kept A) (stacking : Stacking) → TakesSo split c r d old mid stacking → mid.client.ended ≡ None
    → ((demand : Demand) → IsDemanded split r demand → touched_by demand r ≡ None) → stacking ≡ on.Stays
demanded-stays (Whole object opcode size) c r d old mid stacking h alive none = at (judge_all r object opcode (take (size - 8) (drop 8 r.peer.rest))) refl h.0 h.1
  where
    at : (judged : Result Demand Refusal) → judge_all r object opcode (take (size - 8) (drop 8 r.peer.rest)) ≡ judged
        → AnswersSo judged c (with_peer (with_rest (drop size r.peer.rest) r.peer) r) d old mid → StacksSo old r judged stacking → stacking ≡ on.Stays
    at (Ok demand) is told stacks = untouched-stays old r demand stacking stacks (none demand is)
    at (Err refusal) is told stacks = absurd (true≢false (ended-by-peer mid told.0 told.2.peer (over-ended told.0 (errs-over refusal (with_rest (drop size r.peer.rest) r.peer) told.0 told.1)) alive))
demanded-stays Bad c r d old mid stacking h alive none =
    absurd (true≢false (ended-by-peer mid h.0 h.2.peer (over-ended h.0 (errs-over (display_error InvalidMethod) r.peer h.0 h.1)) alive))
demanded-stays More c r d old mid stacking h alive none = absurd h

module _ {A : Type 0} (c : ℕ) (r : Resident) (d : Desktop) (old mid : Kept A) (resident : IsResident old r) (owns : OwnsOrdered r) (asked : Asked) (placing : Placing)
    (placed : IsPlacingOf placing asked c r d) (applied : Option (Applied A))
    (decides : (touch : Touch) → IsTouchOfAsked asked old touch → TakesGivenAs (is_some applied) asked placing c r d old mid) (alive : mid.client.ended ≡ None) where
  -- What may change what several surfaces show was done.
  pub some-applied : (touch : Touch) → IsTouchOfAsked asked old touch → is_some applied ≡ true
  some-applied touch it = at (is_some applied) refl (decides touch it resident owns placed)
    where
      at : (b : Bool) → is_some applied ≡ b → TakesAs b (split_of r.peer.rest) c r d old mid → is_some applied ≡ true
      at true is h = is
      at false is h = absurd (true≢false (undone (split_of r.peer.rest) c r d old mid h alive))

  -- A toplevel that was mapped was by such a request.
  pub top-applied : ((touch : Touch) × IsTouchOfAsked asked old touch) ⊎ ((touch : Touch) → IsTouchOfAsked asked old touch → ⊥)
      → (((touch : Touch) → IsTouchOfAsked asked old touch → ⊥) → (id : ℕ) → IsDemanded (split_of r.peer.rest) r (CommitTree id) → effect_of_commit r id ≡ Maps → ⊥)
      → (stacking : Stacking) → TakesGiven asked placing c r d old mid stacking → (n : ℕ) → stacking ≡ on.ToTop n → is_some applied ≡ true
  top-applied touches never stacking takes n is = by touches
    where
      answers : TakesSo (split_of r.peer.rest) c r d old mid (on.ToTop n)
      answers = subst (λ (s : Stacking). TakesSo (split_of r.peer.rest) c r d old mid s) is (takes resident owns placed)

      by : ((touch : Touch) × IsTouchOfAsked asked old touch) ⊎ ((touch : Touch) → IsTouchOfAsked asked old touch → ⊥) → is_some applied ≡ true
      by (inl t) = some-applied t.0 t.1
      by (inr none) =
          let top = top-demanded (split_of r.peer.rest) c r d old mid n answers alive in
          absurd (never none top.0 top.1 top.2)

  -- What touches no tree leaves the stack as it is.
  pub stays-apart : (stacking : Stacking) → TakesGiven asked placing c r d old mid stacking
      → ((demand : Demand) → IsDemanded (split_of r.peer.rest) r demand → touched_by demand r ≡ None) → stacking ≡ on.Stays
  stays-apart stacking takes untouched = demanded-stays (split_of r.peer.rest) c r d old mid stacking (takes resident owns placed) alive untouched

-- A message of a client that lives on changes the windows stacked with one toplevel, or none.
use Rattle.std.proofs.Common.{◌≡◌, ℕ, ◌-◌, Bool, true, false, List, Option, Some, None, Result, drop, take, refl, ap, sym, subst, ◌∙◌, inl, inr}
use Rattle.std.specs.Prelude.{Ok, Err}
use Rattle.wl_wire.specs.Wire.{split_of}
use Rattle.wl_wire.specs.declared.header.Split.{Split}
use Rattle.wl_wire.specs.declared.header.Split.TheVariants.{Message as Whole, More, Bad}
use Rattle.spec_desktop.specs.declared.refusals.ErrorCode.TheVariants.{InvalidMethod}
use Rattle.spec_desktop.specs.declared.refusals.Refusal.{Refusal}
use Rattle.spec_desktop.specs.Peer.{Errs, LacksMemory, Peer, counted, with_rest}
use Rattle.spec_desktop.specs.Told.{Said, display_error}
use Rattle.spec_desktop.specs.Pointer.{first_pointer}
use Rattle.spec_desktop.specs.Changing.{changed_for, stacked_for}
use Rattle.spec_desktop.specs.Demand.{Demand}
use Rattle.spec_desktop.specs.Demanding.{judge_all}
use Rattle.spec_desktop.specs.Desktop.{Desktop, Resident, become, become_by, client_at, client_in, owned_in, owned_of, status_in, with_client}
use Rattle.spec_desktop.specs.Happens.{wants_memory}
use Rattle.spec_desktop.specs.Replies.{replies}
use Rattle.spec_desktop.specs.Settling.{becomes}
use Rattle.spec_desktop.specs.Stacked.{all_windows}
use Rattle.spec_desktop.specs.Step.{with_peer}
use Rattle.law_desktop.proofs.Runs.Forms.{Answers, Becomes, Does, ServesAt, Takes, WantsOr, after_why}
use Rattle.law_desktop.proofs.Runs.Places.{client-become, other-become, status-become}
use Rattle.law_desktop.proofs.Runs.Serves.{done-clients_stay}
use Rattle.law_desktop.proofs.Soundness.RunSteady.{changed-steady}
use Rattle.law_desktop.specs.InOrder.{OwnsInOrder}
use Rattle.law_desktop.proofs.EachClient.Steps.{done-still}
use Rattle.law_desktop.proofs.InOrder.Laws.{clients_are_in_order, messages_keep_in_order}
use Rattle.law_desktop.proofs.KeptRecords.Toplevels.Back.{erred, lacking, settled-back}
use Rattle.law_desktop.proofs.KeptRecords.Toplevels.Serves.{IsDone as IsTold, after-same, becomes-same, by-pointer, ended_why}
use Rattle.law_desktop.proofs.ShownSurfaces.Laws.{messages_keep_shown}
use Rattle.law_desktop.specs.Done.{IsDone, IsMeant}
use Rattle.law_desktop.specs.Messages.{IsDemanded, MessagesChangeOneToplevel}
use Rattle.law_desktop.proofs.RootsOf.Each.{demands-change}
use Rattle.law_desktop.proofs.RootsOf.Meant.{judged-is-meant}
use Rattle.law_desktop.proofs.RootsOf.Orders.{in-order-has-trees}
use Rattle.law_desktop.proofs.MessageWays.Told.{stacked-still}

-- ---- a message

module _ (c : ℕ) (r : Resident) (d e : Desktop) (still : d.pointer ≡ first_pointer) (here : client_at c d ≡ Some r) (lives : r.peer.status ≡ None) (alive : status_in c e ≡ None) where
  -- a client that lives wasn't told that it ended
  ends : (Q : Peer → Type 0) → ((q : Peer) → Q q → q.status ≡ None → ⊥) → (now : Resident) → Becomes Q c now d e → ⊥
  ends Q never now h =
      let same = becomes-same c now h.0 d still in
      let last : e ≡ become c now h.0 d =
      settled-back (becomes c now h.0 d) e (ap (λ (x : Desktop). x.pointer) same ∙ by-pointer h.0.status c now h.0 d ∙ still) h.2 ∙ same in
      never h.0 h.1 (sym (status-become c now h.0 d r here) ∙ (sym (ap (status_in c) last) ∙ alive))

  module _ (demand : Demand) (p : Peer) (steady : p.status ≡ None) where
    abbrev Now : Resident
    Now = with_peer p r

    abbrev Made : Resident
    Made = changed_for c demand (with_peer p r) d

    abbrev On : Desktop
    On = stacked_for c demand (with_peer p r) (all_windows d) d

    abbrev Events : List Said
    Events = replies c demand (with_peer p r) (changed_for c demand (with_peer p r) d) (all_windows d) d

    client-on : (other : ℕ) → client_at other On ≡ client_at other d
    client-on other =
        ap (λ (clients : List (Option Resident)). client_in clients other) (ap (λ (x : Desktop). x.clients) (sym (done-still c demand Now d still)) ∙ done-clients_stay c demand Now d)

    found : client_at c On ≡ Some r
    found = client-on c ∙ here

    on-still : On.pointer ≡ first_pointer
    on-still = stacked-still c demand Now (all_windows d) d still

    done : Does c demand (with_peer p r) d e → IsDone c demand (with_peer p r) d e
    done h =
        let first : IsTold Events c Made On e = subst (λ (x : Desktop). IsTold Events c Made x e) (done-still c demand Now d still) h in
        let living : Made.peer.status ≡ None = (changed-steady c demand d Now).0 ∙ steady in
        let same = after-same Events c Made r On found on-still living first.0 first.1 first.2 in
        let last : Peer = ended_why first.1 first.0 in
        let after : Desktop = after_why first.1 c (with_client c (Some (with_peer first.0 Made)) On) in
        let is : e ≡ become c Made last On =
        settled-back after e (ap (λ (x : Desktop). x.pointer) same ∙ by-pointer last.status c Made last On ∙ on-still) first.3 ∙ same in
        let last_lives : last.status ≡ None = sym (status-become c Made last On r found) ∙ (sym (ap (status_in c) is) ∙ alive) in
        let lived : e ≡ become_by None c Made last On = is ∙ ap (λ s. become_by s c Made last On) last_lives in
        record {
          own = ap (λ (x : Desktop). owned_in x c) lived ∙ ap owned_of (client-become None c Made last On r found);
          others = λ other another.
              ap (λ (x : Desktop). owned_in x other) is
              ∙ ap owned_of (other-become c other Made last On (λ same. another (sym same)) ∙ client-on other);
          stack = ap (λ (x : Desktop). x.standing) lived;
        }

    wants : (b : Bool) → WantsOr b (Does c demand (with_peer p r) d e) c (with_peer p r) d e → IsDone c demand (with_peer p r) d e
    wants false h = done h
    wants true (inl h) = absurd (ends (LacksMemory p) (lacking p) (with_peer p r) h)
    wants true (inr h) = done h

  -- it is demanded, and done
  abbrev IsMade : Split → Type 0
  IsMade split = (demand : Demand) × (p : Peer) × IsDemanded split r demand × IsDone c demand (with_peer p r) d e

  answers : (object opcode size : ℕ) (judged : Result Demand Refusal) → judge_all r object opcode (take (size - 8) (drop 8 r.peer.rest)) ≡ judged
      → Answers judged c (with_peer (with_rest (drop size r.peer.rest) r.peer) r) d e → IsMade (Whole object opcode size)
  answers object opcode size (Ok demand) judged h =
      let p : Peer = counted (with_rest (drop size r.peer.rest) r.peer) in
      (demand, p, judged, wants demand p lives (wants_memory demand) h)
  answers object opcode size (Err refusal) judged h =
      let p : Peer = with_rest (drop size r.peer.rest) r.peer in
      absurd (ends (Errs refusal p) (erred refusal p) (with_peer p r) h)

  takes : (split : Split) → Takes split c r d e → IsMade split
  takes (Whole object opcode size) h = answers object opcode size (judge_all r object opcode (take (size - 8) (drop 8 r.peer.rest))) refl h
  takes Bad h = absurd (ends (Errs (display_error InvalidMethod) r.peer) (erred (display_error InvalidMethod) r.peer) r h)
  takes More h = absurd h

meant : (r : Resident) → OwnsInOrder r → (split : Split) (demand : Demand) → IsDemanded split r demand → IsMeant demand r
meant r owns (Whole object opcode size) demand judged = judged-is-meant r object opcode (take (size - 8) (drop 8 r.peer.rest)) demand owns judged
meant r owns split demand judged = absurd judged

pub messages-change : MessagesChangeOneToplevel
messages-change c r d e order shown here serves alive =
    let h : ServesAt c (Some r) d e = subst (λ (o : Option Resident). ServesAt c o d e) here serves in
    let made = takes c r d e order.pointer here h.0 alive (split_of r.peer.rest) h.1 in
    record {
      demand = made.0;
      peer = made.1;
      demanded = made.2;
      done = made.3;
      changes =
          demands-change made.0 c r made.1 d e (in-order-has-trees d order shown)
          (in-order-has-trees e (messages_keep_in_order c d e order serves) (messages_keep_shown c d e order shown serves)) here
          (meant r (clients_are_in_order d c r order here h.0) (split_of r.peer.rest) made.0 made.2) made.3;
    }

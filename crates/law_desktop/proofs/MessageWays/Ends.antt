-- A client that ended is gone, by whatever it did: the others own what they did, and their toplevels stand as they did.
use Rattle.std.proofs.Common.{◌≡◌, ℕ, ◌-◌, List, [], ◌∷◌, ◌++◌, Bool, true, false, Option, Some, None, Result, cond, drop, take, refl, ap, sym, subst, ◌∙◌, inl, inr}
use Rattle.std.specs.Prelude.{Ok, Err, ◌==◌, filter, is_some, not}
use Rattle.std.proofs.lemmas.List.{append-nil}
use Rattle.std.proofs.lemmas.List.Elements.{filter-append}
use Rattle.wl_wire.specs.Wire.{split_of}
use Rattle.wl_wire.specs.declared.header.Split.{Split}
use Rattle.wl_wire.specs.declared.header.Split.TheVariants.{Message as Whole, More, Bad}
use Rattle.spec_desktop.specs.declared.cause.Cause.{Cause}
use Rattle.spec_desktop.specs.declared.cause.Cause.TheVariants as cause
use Rattle.spec_desktop.specs.declared.refusals.ErrorCode.TheVariants.{InvalidMethod}
use Rattle.spec_desktop.specs.declared.refusals.Refusal.{Refusal}
use Rattle.spec_desktop.specs.Peer.{Errs, LacksMemory, Peer, Queues, counted, ended, with_rest}
use Rattle.spec_desktop.specs.Told.{Said, display_error}
use Rattle.wl_shell.specs.Popups.{is_toplevel}
use Rattle.wl_shell.specs.Shell.{Effect, Maps, Unmaps, xdg_of}
use Rattle.spec_desktop.specs.Pointer.{first_pointer}
use Rattle.spec_desktop.specs.Stacking.{Standing, is_of, with_mapped, without_client, without_surface_of}
use Rattle.spec_desktop.specs.Windows.{Window, mapping_place}
use Rattle.spec_desktop.specs.declared.answers.Done.{Done}
use Rattle.spec_desktop.specs.Changing.{changed_for, stacked_by, stacked_for}
use Rattle.spec_desktop.specs.Demand.{Demand, CommitTree, EndToplevel, Move}
use Rattle.spec_desktop.specs.Demanding.{effect_of_commit, judge_all}
use Rattle.spec_desktop.specs.Desktop.{Desktop, Resident, become, become_by, client_at, client_in, owned_of, resident_of, status_in, toplevels_of, with_client}
use Rattle.spec_desktop.specs.Framing.{FramesToldAt, FramesToldBy, done_due}
use Rattle.spec_desktop.specs.Happens.{wants_memory}
use Rattle.spec_desktop.specs.Replies.{replies}
use Rattle.spec_desktop.specs.Settling.{EndsAndSettles, becomes, unstruck}
use Rattle.spec_desktop.specs.Stacked.{all_windows}
use Rattle.spec_desktop.specs.Step.{with_peer}
use Rattle.law_desktop.proofs.Lists.Standings.{of-client}
use Rattle.law_desktop.proofs.Marks.Stacks.{equal-numbers}
use Rattle.law_desktop.proofs.Runs.Forms.{Answers, Becomes as StepBecomes, Does, LeavesAt, ServesAt, Takes, WantsOr}
use Rattle.law_desktop.proofs.Runs.Places.{client-become, number-other, status-become}
use Rattle.law_desktop.proofs.Soundness.RunSteady.{changed-steady}
use Rattle.law_desktop.specs.InOrder.{InOrder, InOrderAt, InOrderBy}
use Rattle.law_desktop.proofs.EachClient.Steps.{done-still}
use Rattle.law_desktop.proofs.KeptRecords.Toplevels.Back.{settled-back}
use Rattle.law_desktop.proofs.KeptRecords.Toplevels.Serves.{IsDone as IsTold, becomes-same}
use Rattle.law_desktop.specs.WaysLaws.{EndIsGone, EndedIsGone, LeftIsGone, UntoldIsGone}
use Rattle.law_desktop.specs.Ways.{Becomes, IsGone}
use Rattle.law_desktop.proofs.MessageWays.Told.{becomes-back, done-back, stacked-still}
use Rattle.law_desktop.proofs.Truth.{differ}

-- ---- a client becomes one that ended

gone-by : (s : Option Cause) (c : ℕ) (r there : Resident) (q : Peer) (d : Desktop) → client_at c d ≡ Some there → is_some s ≡ true → IsGone c d (become_by s c r q d)
gone-by None c r there q d is over = absurd (differ over)
gone-by (Some cause) c r there q d is over = record {
  nothing = ap owned_of (client-become (Some cause) c r q d there is);
  others = λ other another. ap owned_of (number-other d.clients c other (Some (resident_of q)) (λ same. another (sym same)));
  standing = refl;
  output = refl;
}

pub become-gone : (c : ℕ) (r there : Resident) (q : Peer) (d : Desktop) → client_at c d ≡ Some there → is_some q.status ≡ true → IsGone c d (become c r q d)
become-gone c r there q d is over = gone-by q.status c r there q d is over

-- ---- what is demanded before

-- where its own toplevels change, the others are the same
without-mapped : (mappings c surface : ℕ) (ss : List Standing) → without_client c (with_mapped mappings c surface ss) ≡ without_client c ss
without-mapped mappings c surface ss =
    filter-append (λ (s : Standing). not (s.client == c)) ss (newest ∷ [])
    ∙ ap (λ b. without_client c ss ++ cond (not b) (newest ∷ []) []) (equal-numbers c c refl) ∙ append-nil (without_client c ss)
  where
    newest : Standing
    newest = record { client = c; surface = surface; place = mapping_place mappings }

without-its : (c surface : ℕ) (ss : List Standing) → without_client c (without_surface_of c surface ss) ≡ without_client c ss
without-its c surface [] = refl
without-its c surface (s ∷ ss) = at (is_of c surface s) refl (without-its c surface ss)
  where
    at : (b : Bool) → is_of c surface s ≡ b → without_client c (without_surface_of c surface ss) ≡ without_client c ss
        → without_client c (cond (not b) (s ∷ without_surface_of c surface ss) (without_surface_of c surface ss)) ≡ without_client c (s ∷ ss)
    at true is later =
        later ∙ sym (ap (λ b. cond (not b) (s ∷ without_client c ss) (without_client c ss)) (equal-numbers s.client c (of-client c surface s is)))
    at false other later = ap (λ (ts : List Standing). cond (not (s.client == c)) (s ∷ ts) ts) later

-- what is left of the desktop where its client ends next
pub record LeavesOthers (c : ℕ) (d on : Desktop) : Type 0 where
  pub clients : on.clients ≡ d.clients
  pub standing : without_client c on.standing ≡ without_client c d.standing
  pub output : on.output ≡ d.output

-- the stack changes so that the toplevels of the others are as they were
leaves-all : (c : ℕ) (d : Desktop) → LeavesOthers c d d
leaves-all c d = record { clients = refl; standing = refl; output = refl }

commit-leaves : (effect : Effect) (b : Bool) (c surface : ℕ) (d : Desktop) → LeavesOthers c d (stacked_by effect b c surface d)
commit-leaves Maps true c surface d = record { clients = refl; standing = without-mapped d.mappings c surface d.standing; output = refl }
commit-leaves Unmaps true c surface d = record { clients = refl; standing = without-its c surface d.standing; output = refl }
commit-leaves effect b c surface d = leaves-all c d

pub stacked-leaves : (c : ℕ) (demand : Demand) (r : Resident) (windows : List Window) (d : Desktop) → LeavesOthers c d (stacked_for c demand r windows d)
stacked-leaves c (CommitTree surface) r windows d = commit-leaves (effect_of_commit r surface) (is_toplevel (xdg_of surface r.owned.shell)) c surface d
stacked-leaves c (EndToplevel id xdg surface) r windows d = record { clients = refl; standing = without-its c surface d.standing; output = refl }
stacked-leaves c (Move surface serial) r windows d = record { clients = refl; standing = refl; output = refl }
stacked-leaves c demand r windows d = leaves-all c d

pub gone-after : (c : ℕ) (d on e : Desktop) → LeavesOthers c d on → IsGone c on e → IsGone c d e
gone-after c d on e leaves gone = record {
  nothing = gone.nothing;
  others = λ other another. gone.others other another ∙ ap (λ (clients : List (Option Resident)). owned_of (client_in clients other)) leaves.clients;
  standing = gone.standing ∙ leaves.standing;
  output = gone.output ∙ leaves.output;
}

-- and where the client was another one before
pub gone-since : (c : ℕ) (x : Option Resident) (d e : Desktop) → IsGone c d e → IsGone c (with_client c x d) e
gone-since c x d e gone = record {
  nothing = gone.nothing;
  others = λ other another. gone.others other another ∙ sym (ap owned_of (number-other d.clients c other x (λ same. another (sym same))));
  standing = gone.standing;
  output = gone.output;
}

-- ---- a message

module _ (c : ℕ) (r : Resident) (d e : Desktop) (still : d.pointer ≡ first_pointer) (is : client_at c d ≡ Some r) (alive : r.peer.status ≡ None)
    (over : is_some (status_in c e) ≡ true) where
  became-gone : (Q : Peer → Type 0) (now : Resident) (on : Desktop) → client_at c on ≡ Some r → Becomes Q c now on e → IsGone c on e
  became-gone Q now on found h =
      subst (IsGone c on) (sym h.2)
      (become-gone c now r h.0 on found
      (sym (ap (λ (s : Option Cause). is_some s) (status-become c now h.0 on r found)) ∙ sym (ap (λ (x : Desktop). is_some (status_in c x)) h.2) ∙ over))

  becomes-gone : (Q : Peer → Type 0) (now : Resident) → StepBecomes Q c now d e → IsGone c d e
  becomes-gone Q now h = became-gone Q now d is (becomes-back Q c now d e still h)

  module _ (demand : Demand) (p : Peer) (steady : p.status ≡ None) where
    abbrev Now : Resident
    Now = with_peer p r

    abbrev Made : Resident
    Made = changed_for c demand (with_peer p r) d

    abbrev On : Desktop
    On = stacked_for c demand (with_peer p r) (all_windows d) d

    abbrev Events : List Said
    Events = replies c demand (with_peer p r) (changed_for c demand (with_peer p r) d) (all_windows d) d

    does-gone : Does c demand (with_peer p r) d e → IsGone c d e
    does-gone h =
        let leaves : LeavesOthers c d On = stacked-leaves c demand Now (all_windows d) d in
        let found : client_at c On ≡ Some r = ap (λ (clients : List (Option Resident)). client_in clients c) leaves.clients ∙ is in
        let told : IsTold Events c Made On e = subst (λ (x : Desktop). IsTold Events c Made x e) (done-still c demand Now d still) h in
        gone-after c d On e leaves
        (became-gone (Queues Events Made.peer) Made On found
        (done-back Events c Made r On e found (stacked-still c demand Now (all_windows d) d still) ((changed-steady c demand d Now).0 ∙ steady) told))

    wants-gone : (b : Bool) → WantsOr b (Does c demand (with_peer p r) d e) c (with_peer p r) d e → IsGone c d e
    wants-gone false h = does-gone h
    wants-gone true (inl h) = becomes-gone (LacksMemory p) Now h
    wants-gone true (inr h) = does-gone h

  answers-gone : (judged : Result Demand Refusal) (p : Peer) → p.status ≡ None → Answers judged c (with_peer p r) d e → IsGone c d e
  answers-gone (Ok demand) p steady h = wants-gone demand (counted p) steady (wants_memory demand) h
  answers-gone (Err refusal) p steady h = becomes-gone (Errs refusal p) (with_peer p r) h

  takes-gone : (split : Split) → Takes split c r d e → IsGone c d e
  takes-gone (Whole object opcode size) h =
      answers-gone (judge_all r object opcode (take (size - 8) (drop 8 r.peer.rest))) (with_rest (drop size r.peer.rest) r.peer) alive h
  takes-gone Bad h = becomes-gone (Errs (display_error InvalidMethod) r.peer) r h
  takes-gone More h = absurd h

pub ended_is_gone : EndedIsGone
ended_is_gone c r d e order is serves over =
    let h : ServesAt c (Some r) d e = subst (λ (o : Option Resident). ServesAt c o d e) is serves in
    takes-gone c r d e order.pointer is h.0 over (split_of r.peer.rest) h.1

-- ---- it ends by itself

pub end_is_gone : EndIsGone
end_is_gone c r why d e order is h =
    let same = becomes-same c r (ended why r.peer) d order.pointer in
    let last : e ≡ become c r (ended why r.peer) d =
    settled-back (becomes c r (ended why r.peer) d) e (ap (λ (x : Desktop). x.pointer) same ∙ order.pointer) h ∙ same in
    subst (IsGone c d) (sym last) (become-gone c r r (ended why r.peer) d is refl)

-- ---- one that isn't there, or ended before, is gone already

others-all : (c : ℕ) (ss : List Standing) → filter (λ s. s.client == c) ss ≡ [] → ss ≡ without_client c ss
others-all c [] none = refl
others-all c (s ∷ ss) none = at (s.client == c) none (others-all c ss)
  where
    at : (b : Bool) → cond b (s ∷ filter (λ t. t.client == c) ss) (filter (λ t. t.client == c) ss) ≡ []
        → (filter (λ t. t.client == c) ss ≡ [] → ss ≡ without_client c ss) → s ∷ ss ≡ cond (not b) (s ∷ without_client c ss) (without_client c ss)
    at true none later = absurd (cc)
    at false none later = ap (λ (ts : List Standing). s ∷ ts) (later none)

idle-gone : (c : ℕ) (o : Option Resident) (d : Desktop) → client_at c d ≡ o → owned_of o ≡ owned_of None → toplevels_of c d ≡ [] → IsGone c d d
idle-gone c o d is nothing none = record {
  nothing = ap owned_of is ∙ nothing;
  others = λ other another. refl;
  standing = others-all c d.standing none;
  output = refl;
}

none-gone : (c : ℕ) (d : Desktop) → client_at c d ≡ None → InOrder d → IsGone c d d
none-gone c d is order = idle-gone c None d is refl (subst (λ o. InOrderAt o (toplevels_of c d)) is (order.each c))

over-gone : (c : ℕ) (r : Resident) (why : Cause) (d : Desktop) → client_at c d ≡ Some r → r.peer.status ≡ Some why → InOrder d → IsGone c d d
over-gone c r why d is over order =
    let owns : InOrderBy (Some why) r (toplevels_of c d) =
    subst (λ s. InOrderBy s r (toplevels_of c d)) over (subst (λ o. InOrderAt o (toplevels_of c d)) is (order.each c)) in
    idle-gone c (Some r) d is (ap (λ (q : Resident). q.owned) owns.0) owns.1

-- ---- a frame

untold-by : (s : Option Cause) (time c : ℕ) (r : Resident) (d e : Desktop) → r.peer.status ≡ s → client_at c d ≡ Some r → InOrder d → FramesToldBy s time c r d e
    → is_some (status_in c e) ≡ true → IsGone c d e
untold-by (Some why) time c r d e status is order h over = subst (IsGone c d) (sym h) (over-gone c r why d is status order)
untold-by None time c r d e status is order h over =
    subst (IsGone c d) (sym h.2)
    (become-gone c (done_due r) r h.0 d is
    (sym (ap (λ (s : Option Cause). is_some s) (status-become c (done_due r) h.0 d r is)) ∙ sym (ap (λ (x : Desktop). is_some (status_in c x)) h.2) ∙ over))

untold-at : (o : Option Resident) (time c : ℕ) (d e : Desktop) → client_at c d ≡ o → InOrder d → FramesToldAt time c o d e → is_some (status_in c e) ≡ true → IsGone c d e
untold-at None time c d e is order h over = subst (IsGone c d) (sym h) (none-gone c d is order)
untold-at (Some r) time c d e is order h over = untold-by r.peer.status time c r d e refl is order h over

pub untold_is_gone : UntoldIsGone
untold_is_gone time c d e order h over = untold-at (client_at c d) time c d e refl order h over

-- ---- it leaves

left-by : (s : Option Cause) (c : ℕ) (r : Resident) (done : Done) (d e : Desktop) → r.peer.status ≡ s → client_at c d ≡ Some r → InOrder d
    → LeavesAt c (Some r) d done e → IsGone c d e
left-by (Some why) c r done d e status is order h =
    let last : e ≡ d = rw status at h.1 in
    subst (IsGone c d) (sym last) (over-gone c r why d is status order)
left-by None c r done d e status is order h =
    let k : EndsAndSettles (unstruck (becomes c r (ended cause.Gone r.peer) d)) e = rw status at h.1 in
    end_is_gone c r cause.Gone d e order is k

left-at : (o : Option Resident) (c : ℕ) (done : Done) (d e : Desktop) → client_at c d ≡ o → InOrder d → LeavesAt c o d done e → IsGone c d e
left-at None c done d e is order h = subst (IsGone c d) (sym h.1) (none-gone c d is order)
left-at (Some r) c done d e is order h = left-by r.peer.status c r done d e refl is order h

pub left_is_gone : LeftIsGone
left_is_gone c done d e order h = left-at (client_at c d) c done d e refl order h

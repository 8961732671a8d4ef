-- One message of a client whose surfaces use some of its buffers.
use Rattle.std.proofs.Common.{◌≡◌, ◌≢◌, ℕ, ◌-◌, List, [], ◌∷◌, length, take, drop, Bool, true, false, Option, Some, None, Result, refl, ap, subst, sym, ◌∙◌}
use Rattle.std.specs.Option.{option_map}
use Rattle.std.specs.Prelude.{Ok, Err}
use Rattle.wl_wire.specs.Wire.{split_of}
use Rattle.wl_wire.specs.declared.header.Split.{Split}
use Rattle.wl_wire.specs.declared.header.Split.TheVariants.{Message as Whole, More, Bad}
use Rattle.wl_proto.specs.Messages.{Message, request_message}
use Rattle.wl_table.specs.declared.entry.Entry.{Entry}
use Rattle.wl_table.specs.Objects.{Held}
use Rattle.wl_surface.specs.Slots.{IsAny, Numbered, Slots, StandForAll, has_at}
use Rattle.wl_surface.specs.Surface.{Surface}
use Rattle.spec_desktop.specs.declared.actions.Action.{Action}
use Rattle.spec_desktop.specs.declared.actions.Action.TheVariants.{DestroyBuffer}
use Rattle.spec_desktop.specs.declared.cause.Cause.TheVariants.{Protocol}
use Rattle.spec_desktop.specs.declared.refusals.ErrorCode.TheVariants.{InvalidMethod}
use Rattle.spec_desktop.specs.declared.refusals.Refusal.{Refusal}
use Rattle.wl_client.specs.Agreement.{IsPeer, known_in}
use Rattle.wl_client.specs.First.{IsRefused, passing}
use Rattle.spec_desktop.specs.Judgement.{Known, action_of, judge, judged_at}
use Rattle.spec_desktop.specs.Requests.{request_of}
use Rattle.spec_desktop.specs.Objects.{Object, object_of, objects_in, with_id}
use Rattle.wl_client.specs.View.{ClientView}
use Rattle.spec_desktop.specs.Peer.{Acts, Errs, Peer, Queues, QueuesOr, changed, ended, has_room, known_of, queued, removed, with_rest}
use Rattle.wl_client.specs.Serving.{ActsWith, AnswersWith, AreUsed, ChangesTable, IsOwnMessage, KeepsSurfaces, ServesWith, TakesWith}
use Rattle.spec_desktop.specs.Used.{has_used, keeps_store}
use Rattle.spec_desktop.specs.Told.{code_number, display_error, error_told, id_deleted}
use Rattle.wl_client.proofs.Passing.{judged-passing, judged-refused}
use Rattle.wl_client.proofs.Peers.{known-is}
use Rattle.wl_client.proofs.Tables.{keeps-surfaces}

-- ---- the buffers that surfaces use

any-same : (property : Option Surface → Bool) (all : Numbered) (a b : Bool) → IsAny property all a → IsAny property all b → a ≡ b
any-same property all true true one other = refl
any-same property all false false one other = refl
any-same property all true false one other = let e : true ≡ false = sym one.1 ∙ other one.0 in absurd (cc)
any-same property all false true one other = let e : true ≡ false = sym other.1 ∙ one other.0 in absurd (cc)

pub used-same : (slots : Slots) (used : ℕ → Bool) (number : ℕ) (b : Bool) → AreUsed slots used → ((all : Numbered) → StandForAll slots all → IsAny (has_at number) all b) → b ≡ used number
used-same slots used number b are is = any-same (has_at number) are.0 b (used number) (is are.0 are.1) (are.2 number)

-- ---- a wl_buffer goes

-- a surface uses its buffer
pub ActsWith-used : (used : ℕ → Bool) (id store : ℕ) (p q : Peer) → has_used used (p.buffers id) ≡ true → Queues (id_deleted id ∷ []) (removed id (record p { buffers = with_id id None p.buffers })) q
    → ActsWith used (DestroyBuffer id store) p q
ActsWith-used used id store p q is queues = subst (λ (b : Bool). Queues (id_deleted id ∷ []) (keeps_store b p.stores (changed (DestroyBuffer id store) p)) q) (sym is) queues

-- none does
pub ActsWith-unused : (used : ℕ → Bool) (id store : ℕ) (p q : Peer) → has_used used (p.buffers id) ≡ false → Acts (DestroyBuffer id store) p q → ActsWith used (DestroyBuffer id store) p q
ActsWith-unused used id store p q is acts = subst (λ (b : Bool). Queues (id_deleted id ∷ []) (keeps_store b p.stores (changed (DestroyBuffer id store) p)) q) (sym is) acts

-- what else is asked is done as without surfaces
pub ActsWith-other : (used : ℕ → Bool) (action : Action) (p q : Peer) → ((id store : ℕ) → action ≢ DestroyBuffer id store) → Acts action p q → ActsWith used action p q
ActsWith-other used (DestroyBuffer id store) p q other acts = absurd (other id store refl)
ActsWith-other used action p q other acts = acts

-- ---- the first message is taken

judged-is : (v : ClientView) (p : Peer) (object opcode size : ℕ) → IsPeer v p → judge (known_in v) object opcode (take (size - 8) (drop 8 v.rest)) ≡ judge (known_of p) object opcode
    (take (size - 8) (drop 8 p.rest))
judged-is v p object opcode size is =
    ap (λ (r : List ℕ). judge (known_in v) object opcode (take (size - 8) (drop 8 r))) is.rest
    ∙ ap (λ (known : Known). judge known object opcode (take (size - 8) (drop 8 p.rest))) (known-is v p is)

-- by what it is judged
serves-judged : (used : ℕ → Bool) (v : ClientView) (p q : Peer) (object opcode size : ℕ) (judged : Result Action Refusal) → IsPeer v p → v.ended ≡ None → split_of v.rest ≡ Whole object opcode size
    → judge (known_in v) object opcode (take (size - 8) (drop 8 v.rest)) ≡ judged → AnswersWith used judged (with_rest (drop size v.rest) p) q → ServesWith used p q
serves-judged used v p q object opcode size judged is alive whole asked answers =
    let at : split_of p.rest ≡ Whole object opcode size = sym (ap split_of is.rest) ∙ whole in
    let left : AnswersWith used judged (with_rest (drop size p.rest) p) q = subst (λ (r : List ℕ). AnswersWith used judged (with_rest (drop size r) p) q) is.rest answers in
    let same : judged ≡ judge (known_of p) object opcode (take (size - 8) (drop 8 p.rest)) = sym asked ∙ judged-is v p object opcode size is in
    let taken : TakesWith used (Whole object opcode size) p q = subst (λ (j : Result Action Refusal). AnswersWith used j (with_rest (drop size p.rest) p) q) same left in
    (sym is.status ∙ alive, subst (λ (s : Split). TakesWith used s p q) (sym at) taken)

-- one of the client's own interfaces
pub serves-own : (used : ℕ → Bool) (v : ClientView) (p q : Peer) (size : ℕ) (judged : Result Action Refusal) → IsPeer v p → v.ended ≡ None → IsOwnMessage v size judged
    → AnswersWith used judged (with_rest (drop size v.rest) p) q → ServesWith used p q
serves-own used v p q size judged is alive own answers =
    let m = request_message own.request in
    let o : Object = record { interface = m.interface; version = own.version } in
    let body = take (size - 8) (drop 8 v.rest) in
    let there : objects_in v.objects own.object ≡ Some o = ap (λ (e : Option Entry). option_map object_of e) own.passes.entry in
    let passes : passing (objects_in v.objects) (length v.objects) m.opcode body (Some o) ≡ Ok m =
    subst (λ (e : Option Object). passing (objects_in v.objects) (length v.objects) m.opcode body e ≡ Ok m) there own.passes.passes in
    let asks : ℕ → Message → Result Action Refusal = λ version m. action_of (known_in v) own.object version (request_of m) in
    let asked : judge (known_in v) own.object m.opcode body ≡ judged =
    ap (λ (e : Option Object). judged_at (objects_in v.objects) (length v.objects) asks m.opcode body e) there
    ∙ judged-passing (objects_in v.objects) (length v.objects) asks m.opcode body o m passes
    ∙ sym own.is_judged
    in
    serves-judged used v p q own.object m.opcode size judged is alive own.passes.first asked answers

refuses-rest : (b : Bool) (Later : Type 0) (p q : Peer) (rest : List ℕ) → QueuesOr b Later p q → QueuesOr b Later (with_rest rest p) q
refuses-rest true Later p q rest h = h
refuses-rest false Later p q rest h = h

-- what else came is nothing to a client that ends
pub Errs-rest : (refusal : Refusal) (p q : Peer) (rest : List ℕ) → Errs refusal p q → Errs refusal (with_rest rest p) q
Errs-rest refusal p q rest errs =
    refuses-rest (has_room p.unsent (error_told refusal)) (q ≡ ended (Protocol refusal.object (code_number refusal.code)) (queued (error_told refusal) p)) p q rest errs

-- it is refused before its own errors are looked at
pub serves-refused : (used : ℕ → Bool) (v : ClientView) (p q : Peer) (refusal : Refusal) → IsPeer v p → v.ended ≡ None → IsRefused (split_of v.rest) v refusal → Errs refusal p q → ServesWith used p q
serves-refused used v p q refusal is alive refused errs = at (split_of v.rest) refl refused
  where
    at : (s : Split) → split_of v.rest ≡ s → IsRefused s v refusal → ServesWith used p q
    at (Whole object opcode size) whole h =
        serves-judged used v p q object opcode size (Err refusal) is alive whole
        (judged-refused (objects_in v.objects) (length v.objects) (λ version m. action_of (known_in v) object version (request_of m)) opcode (take (size - 8) (drop 8 v.rest))
        (objects_in v.objects object) refusal h) (Errs-rest refusal p q (drop size v.rest) errs)
    at Bad bad h =
        let here : split_of p.rest ≡ Bad = sym (ap split_of is.rest) ∙ bad in
        let told : Errs (display_error InvalidMethod) p q = subst (λ (r : Refusal). Errs r p q) h errs in
        (sym is.status ∙ alive, subst (λ (s : Split). TakesWith used s p q) (sym here) told)
    at More none h = absurd h

-- an own message leaves the objects that name surfaces
pub keeps-own : (v : ClientView) (size : ℕ) (action : Action) (judged : Result Action Refusal) (new : Held) → judged ≡ Ok action → IsOwnMessage v size judged → ChangesTable action v.objects new
    → KeepsSurfaces v.objects new
keeps-own v size action judged new is own changes =
    keeps-surfaces v.objects new (known_in v) own.object own.version own.target action own.request own.passes.entry own.passes.free own.own (sym is ∙ own.is_judged) changes

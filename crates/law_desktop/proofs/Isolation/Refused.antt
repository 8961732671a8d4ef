-- A message that is refused ends its client alone, where every request is served.
use Rattle.std.proofs.Common.{◌≡◌, ℕ, zero, suc, ◌-◌, take, drop, List, [], Bool, true, false, Option, Some, None, Result, ap, subst, ◌∙◌, inl, inr}
use Rattle.std.proofs.lemmas.Option.{same_Some}
use Rattle.std.specs.Prelude.{Ok, Err}
use Rattle.wl_wire.specs.Wire.{split_of}
use Rattle.wl_wire.specs.declared.header.Split.{Split}
use Rattle.wl_wire.specs.declared.header.Split.TheVariants.{Message, More, Bad}
use Rattle.spec_desktop.specs.declared.cause.Cause.{Cause}
use Rattle.spec_desktop.specs.declared.cause.Cause.TheVariants.{Memory, Protocol, Slow}
use Rattle.spec_desktop.specs.declared.refusals.ErrorCode.TheVariants.{InvalidMethod}
use Rattle.spec_desktop.specs.declared.refusals.Refusal.{Refusal}
use Rattle.spec_desktop.specs.Peer.{Errs, Peer, QueuesOr, ended, has_room, queued, with_rest}
use Rattle.spec_desktop.specs.Told.{code_number, display_error, error_told}
use Rattle.spec_desktop.specs.Demand.{Demand}
use Rattle.spec_desktop.specs.Demanding.{judge_all}
use Rattle.spec_desktop.specs.Desktop.{Desktop, Resident, become_by, client_at, resident_of, toplevels_of}
use Rattle.spec_desktop.specs.Settling.{after_status, becomes}
use Rattle.spec_desktop.specs.Step.{with_peer}
use Rattle.spec_desktop.specs.Happens.{Reaches, StopsAt}
use Rattle.law_desktop.proofs.Runs.Forms.{Answers, Becomes, ServesAt, Takes}
use Rattle.law_desktop.specs.Others.{HasErred, IsTheLast, RefusedAlone, refusal_of, refused_for}
use Rattle.law_desktop.proofs.Runs.Places.{number-same}
use Rattle.law_desktop.proofs.Isolation.LeftAlone.{Is, Never, gone-stays, left_alone}
use Rattle.law_desktop.proofs.Isolation.Messages.{serves-in}
use Rattle.law_desktop.proofs.Isolation.Settling.{none_of, settled-in}
use Rattle.law_desktop.proofs.Isolation.Told.{ToldSo, told-focus}

-- it has ended
over : (refusal : Refusal) (p q : Peer) → Errs refusal p q → (cause : Cause) × (q.status ≡ Some cause)
over refusal p q h = at (has_room p.unsent (error_told refusal)) h
  where
    at : (b : Bool) → QueuesOr b (q ≡ ended (Protocol refusal.object (code_number refusal.code)) (queued (error_told refusal) p)) p q → (cause : Cause) × (q.status ≡ Some cause)
    at false e = (Slow, ap (λ (x : Peer). x.status) e)
    at true (inl e) = (Memory, ap (λ (x : Peer). x.status) e)
    at true (inr e) = (Protocol refusal.object (code_number refusal.code), ap (λ (x : Peer). x.status) e)

-- what had come of its messages is of no account
rest-apart : (refusal : Refusal) (rest : List ℕ) (p q : Peer) → Errs refusal (with_rest rest p) q → Errs refusal p q
rest-apart refusal rest p q h = at (has_room p.unsent (error_told refusal)) h
  where
    at : (b : Bool) → QueuesOr b (q ≡ ended (Protocol refusal.object (code_number refusal.code)) (queued (error_told refusal) (with_rest rest p))) (with_rest rest p) q
        → QueuesOr b (q ≡ ended (Protocol refusal.object (code_number refusal.code)) (queued (error_told refusal) p)) p q
    at false e = e
    at true (inl e) = inl e
    at true (inr e) = inr e

-- a client that has ended is there, and none of its toplevels stands
ended-there : (c : ℕ) (r there : Resident) (q : Peer) (cause : Cause) (d : Desktop) → client_at c d ≡ Some there → q.status ≡ Some cause → (client_at c (becomes c r q d) ≡ Some (resident_of q))
    × (toplevels_of c (becomes c r q d) ≡ [])
ended-there c r there q cause d found e = at q.status e
  where
    at : (s : Option Cause) → s ≡ Some cause → (client_at c (after_status s c (become_by s c r q d)) ≡ Some (resident_of q)) × (toplevels_of c (after_status s c (become_by s c r q d)) ≡ [])
    at None none = absurd (cc)
    at (Some why) is = (number-same d.clients c (Some (resident_of q)) there found, none_of c d.standing)

erred : (refusal : Refusal) (c : ℕ) (r there : Resident) (p : Peer) (d new : Desktop) → client_at c d ≡ Some there → Becomes (Errs refusal p) c r d new → (q : Peer) × Errs refusal p q
    × (client_at c new ≡ Some (resident_of q)) × (toplevels_of c new ≡ [])
erred refusal c r there p d new found h =
    let end = over refusal p h.0 h.1 in
    let mid = ended-there c r there h.0 end.0 d found end.1 in
    let known = settled-in c ToldSo told-focus (Is (Some (resident_of h.0)) []) Never (gone-stays (resident_of h.0) end.0 [] end.1) (becomes c r h.0 d) new (mid.0, mid.1) h.2 in
    (h.0, h.1, known.0, known.1)

answered-so : (judged : Result Demand Refusal) (refusal : Refusal) (c : ℕ) (r there : Resident) (d new : Desktop) → refusal_of judged ≡ Some refusal → client_at c d ≡ Some there
    → Answers judged c r d new → (q : Peer) × Errs refusal r.peer q × (client_at c new ≡ Some (resident_of q)) × (toplevels_of c new ≡ [])
answered-so (Ok demand) refusal c r there d new is found h = absurd (cc)
answered-so (Err other) refusal c r there d new is found h =
    let same : other ≡ refusal = same_Some other refusal is in
    let k = erred other c r there r.peer d new found h in
    (k.0, subst (λ (x : Refusal). Errs x r.peer k.0) same k.1, k.2, k.3)

taken-so : (s : Split) (refusal : Refusal) (c : ℕ) (r : Resident) (d new : Desktop) → refused_for s r ≡ Some refusal → client_at c d ≡ Some r → Takes s c r d new
    → HasErred refusal c r new
taken-so (Message object opcode size) refusal c r d new is found h =
    let k = answered-so (judge_all r object opcode (take (size - 8) (drop 8 r.peer.rest))) refusal c (with_peer (with_rest (drop size r.peer.rest) r.peer) r) r d new is found h in
    (k.0, rest-apart refusal (drop size r.peer.rest) r.peer k.0 k.1, k.2, k.3)
taken-so Bad refusal c r d new is found h =
    let same : display_error InvalidMethod ≡ refusal = same_Some (display_error InvalidMethod) refusal is in
    let k = erred (display_error InvalidMethod) c r r r.peer d new found h in
    (k.0, subst (λ (x : Refusal). Errs x r.peer k.0) same k.1, k.2, k.3)
taken-so More refusal c r d new is found h = absurd h

-- ---- no more is taken of a client that has ended

not_served : (c : ℕ) (o : Option Resident) (r : Resident) (cause : Cause) (d new : Desktop) → o ≡ Some r → r.peer.status ≡ Some cause → ServesAt c o d new → ⊥
not_served c None r cause d new there e h = h
not_served c (Some p) r cause d new there e h =
    let same : p.peer.status ≡ Some cause = ap (λ (x : Resident). x.peer.status) (same_Some p r there) ∙ e in
    let alive : p.peer.status ≡ None = h.0 in
    absurd (cc)

reaches-none : (c n : ℕ) (r : Resident) (cause : Cause) (d mid : Desktop) → client_at c d ≡ Some r → r.peer.status ≡ Some cause → Reaches c n d mid → mid ≡ d
reaches-none c zero r cause d mid there e h = h
reaches-none c (suc n) r cause d mid there e h =
    let same : h.0 ≡ d = reaches-none c n r cause d h.0 there e h.1 in
    absurd (not_served c (client_at c h.0) r cause h.0 mid (ap (λ (x : Desktop). client_at c x) same ∙ there) e h.2)

stops-none : (c : ℕ) (o : Option Resident) (r : Resident) (cause : Cause) (mid end : Desktop) → o ≡ Some r → r.peer.status ≡ Some cause → StopsAt c o mid end → end ≡ mid
stops-none c None r cause mid end there e h = absurd h
stops-none c (Some p) r cause mid end there e (inl h) = h.0
stops-none c (Some p) r cause mid end there e (inr h) =
    let same : p.peer.status ≡ Some cause = ap (λ (x : Resident). x.peer.status) (same_Some p r there) ∙ e in
    let alive : p.peer.status ≡ None = h.0 in
    absurd (cc)

the-last : (refusal : Refusal) (c : ℕ) (r : Resident) (new : Desktop) → HasErred refusal c r new → IsTheLast c new
the-last refusal c r new h n mid end reaches stops =
    let ended = over refusal r.peer h.0 h.1 in
    let same : mid ≡ new = reaches-none c n (resident_of h.0) ended.0 new mid h.2 ended.1 reaches in
    stops-none c (client_at c mid) (resident_of h.0) ended.0 mid end (ap (λ (x : Desktop). client_at c x) same ∙ h.2) ended.1 stops ∙ same

pub refused_alone : RefusedAlone
refused_alone c r refusal old new found is h =
    let k : ServesAt c (Some r) old new = rw found at h in
    let erred : HasErred refusal c r new = taken-so (split_of r.peer.rest) refusal c r old new is found k.1 in (
      erred,
      the-last refusal c r new erred,
      λ other differ. left_alone other old new (λ A P stays known. serves-in c other differ A P stays (client_at c old) old new known h),
    )

-- Events of wl_pointers that are queued in turn, until one isn't.
use Rattle.std.proofs.Common.{◌≡◌, ◌∙◌, ℕ, suc, ◌+◌, ◌<◌, ◌≤◌, List, [], ◌∷◌, Bool, true, false, Some, None, Option, refl, ap, subst, sym, inl, inr, length, drop, get_or, drop-cons, arith}
use Rattle.std.specs.Prelude.{IsTrue, MatchBool, flat_map}
use Rattle.std.proofs.lemmas.List.{drop_all}
use Rattle.spec_desktop.specs.declared.cause.Cause.{Cause}
use Rattle.spec_desktop.specs.declared.cause.Cause.TheVariants.{Memory, Slow}
use Rattle.spec_desktop.specs.Peer.{Peer, IsUnqueuedFor, QueuesFirst, QueuesTo, has_room, queued}
use Rattle.spec_desktop.specs.Told.{Said}
use Rattle.wl_client.specs.Agreement.{IsPeer}
use Rattle.wl_client.specs.Pointers.{serial_after}
use Rattle.wl_client.specs.View.{ClientView, opened}
use Rattle.wl_client.specs.declared.pointers.PointerEvent.{PointerEvent}
use Rattle.wl_client.proofs.Peers.{unqueued-now}

-- the client is the same, whether it is to end or not
pub IsPeer-opened : (v : ClientView) (p : Peer) → IsPeer v p → IsPeer (opened v) p
IsPeer-opened v p is = record {
  status = is.status;
  «open» = refl;
  requests = is.requests;
  objects = is.objects;
  held = is.held;
  regions = is.regions;
  pools = is.pools;
  buffers = is.buffers;
  positioners = is.positioners;
  stores = is.stores;
  serial = is.serial;
  unsent = is.unsent;
  rest = is.rest;
  output = is.output;
}

-- an event wasn't queued, and the client stays as it was but for that
pub IsPeer-to_end : (v w : ClientView) (p : Peer) (cause : Cause) → w ≡ record v { refused = Some cause } → IsPeer v p → IsPeer (opened w) p
IsPeer-to_end v w p cause only is = subst (λ (x : ClientView). IsPeer (opened x) p) (sym only) (IsPeer-opened v p is)

pub to_end-for : (v w : ClientView) (cause : Cause) → w ≡ record v { refused = Some cause } → w.refused ≡ Some cause
to_end-for v w cause only = ap (λ (x : ClientView). x.refused) only

-- a serial is drawn for an event of these wl_pointers, or isn't
pub IsPeer-drawn : (v : ClientView) (p : Peer) (event : PointerEvent) (pointers : List ℕ) → IsPeer v p
    → IsPeer (record v { serial = serial_after event pointers v.serial }) (record p { serial = serial_after event pointers p.serial })
IsPeer-drawn v p event pointers is = record {
  status = is.status;
  «open» = is.open;
  requests = is.requests;
  objects = is.objects;
  held = is.held;
  regions = is.regions;
  pools = is.pools;
  buffers = is.buffers;
  positioners = is.positioners;
  stores = is.stores;
  serial = ap (λ s. serial_after event pointers s) is.serial;
  unsent = is.unsent;
  rest = is.rest;
  output = is.output;
}

first-queued : (b : Bool) (Later : Type 0) (p q : Peer) (why : Option Cause) → IsTrue b → Later → QueuesFirst b Later p q why
first-queued true Later p q why room later = inr later
first-queued false Later p q why room later = absurd (cc)

first-refused : (b : Bool) (Later : Type 0) (p : Peer) (cause : Cause) → MatchBool b (cause ≡ Memory) (cause ≡ Slow) → QueuesFirst b Later p p (Some cause)
first-refused true Later p cause reason = inl (refl, ap (λ c. Some c) reason)
first-refused false Later p cause reason = (refl, ap (λ c. Some c) reason)

-- one event of each
abbrev pub of_each : (ℕ → Said) → List ℕ → List Said
of_each f ids = flat_map (λ id. f id ∷ []) ids

-- the event at a place is queued, and then those that are left
pub then-told : (f : ℕ → Said) (ids : List ℕ) (i : ℕ) (v : ClientView) (p q : Peer) (why : Option Cause) (event : Said) → i < length ids → event ≡ f (get_or ids i 0) → IsPeer v p
    → IsTrue (has_room v.unsent event) → QueuesTo (of_each f (drop (i + 1) ids)) (queued event p) q why → QueuesTo (of_each f (drop i ids)) p q why
then-told f ids i v p q why event lt same is room later =
    let e : i + 1 ≡ suc i = omega arith in
    let rest = subst (λ (k : ℕ). QueuesTo (of_each f (drop k ids)) (queued event p) q why) e later in
    let all : QueuesTo (event ∷ of_each f (drop (suc i) ids)) p q why =
    first-queued (has_room p.unsent event) (QueuesTo (of_each f (drop (suc i) ids)) (queued event p) q why) p q why
    (subst (λ (u : List ℕ). IsTrue (has_room u event)) is.unsent room) rest in
    let named : QueuesTo (f (get_or ids i 0) ∷ of_each f (drop (suc i) ids)) p q why =
    subst (λ (x : Said). QueuesTo (x ∷ of_each f (drop (suc i) ids)) p q why) same all in
    subst (λ (es : List ℕ). QueuesTo (of_each f es) p q why) (sym (drop-cons ids i 0 lt)) named

-- the event at a place isn't queued
pub then-untold : (f : ℕ → Said) (ids : List ℕ) (i : ℕ) (v : ClientView) (p : Peer) (cause : Cause) (event : Said) → i < length ids → event ≡ f (get_or ids i 0) → IsPeer v p
    → IsUnqueuedFor v.refused (has_room v.unsent event) cause → QueuesTo (of_each f (drop i ids)) p p (Some cause)
then-untold f ids i v p cause event lt same is why =
    let reason = subst (λ (u : List ℕ). MatchBool (has_room u event) (cause ≡ Memory) (cause ≡ Slow)) is.unsent (unqueued-now v p event cause is why) in
    let refused : QueuesTo (event ∷ of_each f (drop (suc i) ids)) p p (Some cause) =
    first-refused (has_room p.unsent event) (QueuesTo (of_each f (drop (suc i) ids)) (queued event p) p (Some cause)) p cause reason in
    let named : QueuesTo (f (get_or ids i 0) ∷ of_each f (drop (suc i) ids)) p p (Some cause) =
    subst (λ (x : Said). QueuesTo (x ∷ of_each f (drop (suc i) ids)) p p (Some cause)) same refused in
    subst (λ (es : List ℕ). QueuesTo (of_each f es) p p (Some cause)) (sym (drop-cons ids i 0 lt)) named

-- none is left
pub all-told : (f : ℕ → Said) (ids : List ℕ) (i : ℕ) (p : Peer) → length ids ≤ i → QueuesTo (of_each f (drop i ids)) p p None
all-told f ids i p past = subst (λ (es : List ℕ). QueuesTo (of_each f es) p p None) (sym (drop_all i ids past)) (refl, refl)

-- ---- what stays

pub only-queued : (v m w : ClientView) (unsent : List ℕ) → m ≡ record v { unsent = m.unsent } → w ≡ record m { unsent = unsent } → w ≡ record v { unsent = w.unsent }
only-queued v m w unsent before now =
    subst (λ (x : ClientView). x ≡ record v { unsent = x.unsent }) (sym now) (ap (λ (x : ClientView). record x { unsent = unsent }) before)

pub only-refused : (v m w : ClientView) (refused : Option Cause) → m ≡ record v { unsent = m.unsent } → w ≡ record m { refused = refused } → w ≡ record v { unsent = w.unsent; refused = w.refused }
only-refused v m w refused before now =
    subst (λ (x : ClientView). x ≡ record v { unsent = x.unsent; refused = x.refused }) (sym now) (ap (λ (x : ClientView). record x { refused = refused }) before)

pub only-drawn : (v m w : ClientView) (serial : ℕ) → m ≡ record v { serial = serial } → w ≡ record m { unsent = w.unsent; refused = w.refused }
    → w ≡ record v { unsent = w.unsent; refused = w.refused; serial = w.serial }
only-drawn v m w serial before now =
    let all : w ≡ record v { unsent = w.unsent; refused = w.refused; serial = serial } = now ∙ ap (λ (x : ClientView). record x { unsent = w.unsent; refused = w.refused }) before in
    let drawn : w.serial ≡ serial = ap (λ (x : ClientView). x.serial) all in
    all ∙ ap (λ (n : ℕ). record v { unsent = w.unsent; refused = w.refused; serial = n }) (sym drawn)

-- What each change of a client does to what is kept of it.
use Rattle.std.proofs.Common.{◌≡◌, ◌≢◌, ℕ, suc, ◌+◌, ◌-◌, ◌<◌, List, [], ◌∷◌, ◌++◌, Bool, true, false, Some, None, Option, Result, refl, ap, subst, sym, ◌∙◌, inl, inr, length, map, drop, ◌≤◌, get_or}
use Rattle.std.proofs.Common.{drop-cons, arith}
use Rattle.std.specs.Prelude.{is_some, IfErr, IfNone, IfSome, IsOk, IsTrue, MatchBool, OnOk, Ok, Err, ◌==◌, if◌then◌else◌, ℤ}
use Rattle.std.specs.Option.{option_map, option_map_or, unwrap_or}
use Rattle.std.proofs.lemmas.List.{drop_all}
use Rattle.std.proofs.Math.Path.{fun_ext}
use Rattle.std.proofs.lemmas.Bool.{eqb-true}
use Rattle.std.proofs.lemmas.Bool.Decides.{nat_tests}
use Rattle.wl_proto.specs.declared.interface.Interface.{Interface}
use Rattle.wl_proto.specs.declared.interface.Interface.TheVariants.{WlDisplay, WlShm}
use Rattle.wl_proto.specs.declared.interface.Interface.TheVariants.{WlOutput, WlSeat}
use Rattle.wl_table.specs.declared.entry.Entry.{Entry}
use Rattle.wl_table.specs.Objects.{Held, HoldsAt, entry_of}
use Rattle.std.specs.BTreeMap.{BTreeMap, UpdatesBy}
use Rattle.std.specs.Ordering.{nat_cmp, is_eq}
use Rattle.wl_geom.specs.Region.{Area, Change, Stands}
use Rattle.wl_store.specs.Layout.{layout_refusal}
use Rattle.wl_store.specs.Stores.{Held as Stored, Stock, can_hold, size_of, store_at}
use Rattle.wl_store.specs.declared.place.Layout.{Layout}
use Rattle.wl_store.specs.declared.place.LayoutError.{LayoutError}
use Rattle.wl_client.specs.View.{ClientView, cleared}
use Rattle.spec_desktop.specs.declared.cause.Cause.{Cause}
use Rattle.spec_desktop.specs.declared.cause.Cause.TheVariants.{Protocol, Memory, Slow}
use Rattle.spec_desktop.specs.declared.refusals.ErrorCode.TheVariants.{NoMemory}
use Rattle.spec_desktop.specs.declared.refusals.Refusal.{Refusal}
use Rattle.spec_desktop.specs.Buffers.{Buffer}
use Rattle.spec_desktop.specs.Objects.{ById, Object, Objects, held_at, nothing, objects_in, object_of, with_id}
use Rattle.spec_desktop.specs.Told.{Output, Said, bind_told, code_number, display_error, error_told, said_bytes}
use Rattle.spec_desktop.specs.Judgement.{Known, buffer_created, layout_refused}
use Rattle.spec_desktop.specs.Peer.{Peer, changed_region, ended, has_room, known_of, made, newcomer, no_stores, queued, removed, set_positioner, with_rest, IsUnqueuedFor, QueuesOr, Queues, Errs}
use Rattle.spec_desktop.specs.Peer.{LacksMemory, WantsOr}
use Rattle.wl_shell.specs.Positioner.{Positioner}
use Rattle.wl_shell.specs.Settings.{with_setting}
use Rattle.wl_shell.specs.declared.settings.Setting.{Setting}
use Rattle.wl_client.specs.Agreement.{IsCount, IsPeer, IsRegion, known_in, most_counted, output_of}

pub IsPeer-queued : (v : ClientView) (p : Peer) (e : Said) → IsPeer v p → IsPeer (record v { unsent = v.unsent ++ said_bytes e }) (queued e p)
IsPeer-queued v p e is = record {
  status = is.status;
  «open» = is.open;
  requests = is.requests;
  objects = is.objects;
  held = is.held;
  regions = is.regions;
  pools = is.pools;
  buffers = is.buffers;
  positioners = is.positioners;
  stores = is.stores;
  serial = is.serial;
  unsent = ap (λ u. u ++ said_bytes e) is.unsent;
  rest = is.rest;
  output = is.output;
}

pub IsPeer-ended : (v : ClientView) (p : Peer) (cause : Cause) → IsPeer v p → IsPeer (cleared cause v) (ended cause p)
IsPeer-ended v p cause is = record {
  status = refl;
  «open» = refl;
  requests = is.requests;
  objects = refl;
  held = refl;
  regions = λ id. tt;
  pools = refl;
  buffers = refl;
  positioners = refl;
  stores = refl;
  serial = is.serial;
  unsent = is.unsent;
  rest = refl;
  output = is.output;
}

-- the client ends, as an event wasn't queued
pub IsPeer-unqueued : (v w : ClientView) (p : Peer) (why cause : Cause) → w ≡ record v { refused = Some why } → IsPeer v p → IsPeer (cleared cause w) (ended cause p)
IsPeer-unqueued v w p why cause only is = subst (λ (x : ClientView). IsPeer (cleared cause x) (ended cause p)) (sym only) (IsPeer-ended v p cause is)

-- why an event isn't queued now, where each refusal before was acted upon
pub unqueued-now : (v : ClientView) (p : Peer) (event : Said) (cause : Cause) → IsPeer v p → IsUnqueuedFor v.refused (has_room v.unsent event) cause
    → MatchBool (has_room v.unsent event) (cause ≡ Memory) (cause ≡ Slow)
unqueued-now v p event cause is why = subst (λ (was : Option Cause). IsUnqueuedFor was (has_room v.unsent event) cause) is.open why

slow-of : (room : Bool) (cause : Cause) → MatchBool room (cause ≡ Memory) (cause ≡ Slow) → cause ≢ Memory → Slow ≡ cause
slow-of true cause why another = absurd (another why)
slow-of false cause why another = sym why

-- an event that isn't queued, and not as out of memory, has no room
pub unqueued-slow : (v : ClientView) (p : Peer) (event : Said) (cause : Cause) → IsPeer v p → IsUnqueuedFor v.refused (has_room v.unsent event) cause → cause ≢ Memory → Slow ≡ cause
unqueued-slow v p event cause is why another = slow-of (has_room v.unsent event) cause (unqueued-now v p event cause is why) another

pub IsPeer-with_rest : (v : ClientView) (p : Peer) (rest : List ℕ) → IsPeer v p → IsPeer (record v { rest = rest }) (with_rest rest p)
IsPeer-with_rest v p rest is = record {
  status = is.status;
  «open» = is.open;
  requests = is.requests;
  objects = is.objects;
  held = is.held;
  regions = is.regions;
  pools = is.pools;
  buffers = is.buffers;
  positioners = is.positioners;
  stores = is.stores;
  serial = is.serial;
  unsent = is.unsent;
  rest = refl;
  output = is.output;
}

pub differ : (a b : ℕ) → (a == b) ≡ false → a ≢ b
differ a b e = λ same. grind (arith, nat_tests)

-- what is held at an id, or no longer, is an object, or none
pub objects_in-with : (old new : Held) (id : ℕ) (entry : Option Entry) → HoldsAt old new id entry → objects_in new ≡ with_id id (option_map object_of entry) (objects_in old)
objects_in-with old new id entry holds = fun_ext (λ other. at other (other == id) refl)
  where
    at : (other : ℕ) (b : Bool) → (other == id) ≡ b → objects_in new other ≡ (if b then option_map object_of entry else objects_in old other)
    at other true e = ap (λ o. option_map object_of o) (ap (λ k. entry_of new k) (eqb-true other id e) ∙ holds.here)
    at other false e = ap (λ o. option_map object_of o) (holds.others other (differ other id e))

pub IsPeer-made : (v : ClientView) (p : Peer) (id : ℕ) (entry : Entry) (new : Held) → HoldsAt v.objects new id (Some entry) → length new ≡ length v.objects + 1 → IsPeer v p
    → IsPeer (record v { objects = new }) (made id (object_of entry) p)
IsPeer-made v p id entry new holds longer is = record {
  status = is.status;
  «open» = is.open;
  requests = is.requests;
  objects = objects_in-with v.objects new id (Some entry) holds ∙ ap (λ os. with_id id (Some (object_of entry)) os) is.objects;
  held = longer ∙ ap (λ n. n + 1) is.held;
  regions = is.regions;
  pools = is.pools;
  buffers = is.buffers;
  positioners = is.positioners;
  stores = is.stores;
  serial = is.serial;
  unsent = is.unsent;
  rest = is.rest;
  output = is.output;
}

object-there : (o : Option Entry) → is_some (option_map object_of o) ≡ is_some o
object-there None = refl
object-there (Some e) = refl

less : (b : Bool) (n m : ℕ) → m + (if b then 1 else 0) ≡ n → m ≡ n - (if b then 1 else 0)
less true n m h = omega arith
less false n m h = omega arith

pub IsPeer-removed : (v : ClientView) (p : Peer) (id : ℕ) (was : Option Entry) (new : Held) → was ≡ entry_of v.objects id → HoldsAt v.objects new id None
    → length new + (if is_some was then 1 else 0) ≡ length v.objects → IsPeer v p → IsPeer (record v { objects = new }) (removed id p)
IsPeer-removed v p id was new found holds shorter is =
    let there : is_some was ≡ is_some (p.objects id) = ap is_some found ∙ sym (object-there (entry_of v.objects id)) ∙ ap (λ (os : Objects). is_some (os id)) is.objects in record {
      status = is.status;
      «open» = is.open;
      requests = is.requests;
      objects = objects_in-with v.objects new id None holds ∙ ap (λ os. with_id id None os) is.objects;
      held = less (is_some was) (length v.objects) (length new) shorter ∙ ap (λ (n : ℕ). n - (if is_some was then 1 else 0)) is.held ∙ ap (λ (b : Bool). p.held - (if b then 1 else 0)) there;
      regions = is.regions;
      pools = is.pools;
      buffers = is.buffers;
      positioners = is.positioners;
      stores = is.stores;
      serial = is.serial;
      unsent = is.unsent;
      rest = is.rest;
      output = is.output;
    }

another : (id other : ℕ) → (other == id) ≡ false → is_eq (nat_cmp id other) ≡ false
another id other apart = grind (arith, nat_tests)

-- what a map that is updated at an id holds
pub held_at-updates : {X : Type 0} (old new : BTreeMap ℕ X) (held : List (ℕ × X)) (id : ℕ) (x : Option X) → old.entries ≡ held → UpdatesBy nat_cmp (nat_cmp id) old new x
    → held_at new.entries ≡ with_id id x (held_at held)
held_at-updates {X} old new held id x same updates = fun_ext (λ other. at other (other == id) refl)
  where
    at : (other : ℕ) (b : Bool) → (other == id) ≡ b → held_at new.entries other ≡ (if b then x else held_at held other)
    at other true e = ap (λ k. held_at new.entries k) (eqb-true other id e) ∙ updates.1
    at other false e = updates.2 other (another id other e) ∙ ap (λ (h : List (ℕ × X)). held_at h other) same

pub IsPeer-regions : (v : ClientView) (p : Peer) (old new : BTreeMap ℕ Area) (id : ℕ) (area : Option Area) (changes : Option (List Change)) → old.entries ≡ v.regions
    → UpdatesBy nat_cmp (nat_cmp id) old new area → IsRegion area changes → IsPeer v p → IsPeer (record v { regions = new.entries }) (record p { regions = with_id id changes p.regions })
IsPeer-regions v p old new id area changes same updates region is =
    let now = held_at-updates old new v.regions id area same updates in record {
      status = is.status;
      «open» = is.open;
      requests = is.requests;
      objects = is.objects;
      held = is.held;
      regions = λ other. subst (λ (held : ById Area). IsRegion (held other) (with_id id changes p.regions other)) (sym now) (at other (other == id));
      pools = is.pools;
      buffers = is.buffers;
      positioners = is.positioners;
      stores = is.stores;
      serial = is.serial;
      unsent = is.unsent;
      rest = is.rest;
      output = is.output;
    }
  where
    at : (other : ℕ) (b : Bool) → IsRegion (if b then area else held_at v.regions other) (if b then changes else p.regions other)
    at other true = region
    at other false = is.regions other

pub IsPeer-pools : (v : ClientView) (p : Peer) (old new : BTreeMap ℕ ℕ) (id : ℕ) (store : Option ℕ) → old.entries ≡ v.pools → UpdatesBy nat_cmp (nat_cmp id) old new store → IsPeer v p
    → IsPeer (record v { pools = new.entries }) (record p { pools = with_id id store p.pools })
IsPeer-pools v p old new id store same updates is = record {
  status = is.status;
  «open» = is.open;
  requests = is.requests;
  objects = is.objects;
  held = is.held;
  regions = is.regions;
  pools = held_at-updates old new v.pools id store same updates ∙ ap (λ (held : ById ℕ). with_id id store held) is.pools;
  buffers = is.buffers;
  positioners = is.positioners;
  stores = is.stores;
  serial = is.serial;
  unsent = is.unsent;
  rest = is.rest;
  output = is.output;
}

pub IsPeer-buffers : (v : ClientView) (p : Peer) (old new : BTreeMap ℕ Buffer) (id : ℕ) (buffer : Option Buffer) → old.entries ≡ v.buffers → UpdatesBy nat_cmp (nat_cmp id) old new buffer → IsPeer v p
    → IsPeer (record v { buffers = new.entries }) (record p { buffers = with_id id buffer p.buffers })
IsPeer-buffers v p old new id buffer same updates is = record {
  status = is.status;
  «open» = is.open;
  requests = is.requests;
  objects = is.objects;
  held = is.held;
  regions = is.regions;
  pools = is.pools;
  buffers = held_at-updates old new v.buffers id buffer same updates ∙ ap (λ (held : ById Buffer). with_id id buffer held) is.buffers;
  positioners = is.positioners;
  stores = is.stores;
  serial = is.serial;
  unsent = is.unsent;
  rest = is.rest;
  output = is.output;
}

pub IsPeer-positioners : (v : ClientView) (p : Peer) (old new : BTreeMap ℕ Positioner) (id : ℕ) (values : Option Positioner) → old.entries ≡ v.positioners
    → UpdatesBy nat_cmp (nat_cmp id) old new values → IsPeer v p → IsPeer (record v { positioners = new.entries }) (record p { positioners = with_id id values p.positioners })
IsPeer-positioners v p old new id values same updates is = record {
  status = is.status;
  «open» = is.open;
  requests = is.requests;
  objects = is.objects;
  held = is.held;
  regions = is.regions;
  pools = is.pools;
  buffers = is.buffers;
  positioners = held_at-updates old new v.positioners id values same updates ∙ ap (λ (held : ById Positioner). with_id id values held) is.positioners;
  stores = is.stores;
  serial = is.serial;
  unsent = is.unsent;
  rest = is.rest;
  output = is.output;
}

-- this is set of a positioner that is there
pub positioner-set : (v : ClientView) (p : Peer) (old new : BTreeMap ℕ Positioner) (id : ℕ) (was values : Positioner) (setting : Setting) → old.entries ≡ v.positioners
    → Some was ≡ held_at old.entries id → UpdatesBy nat_cmp (nat_cmp id) old new (Some values) → values ≡ with_setting setting was → IsPeer v p
    → IsPeer (record v { positioners = new.entries }) (set_positioner id setting p)
positioner-set v p old new id was values setting same found updates set is =
    let there : Some was ≡ p.positioners id =
    found ∙ ap (λ (m : List (ℕ × Positioner)). held_at m id) same ∙ ap (λ (held : ById Positioner). held id) is.positioners in
    let becomes : Some values ≡ option_map (λ values. with_setting setting values) (p.positioners id) =
    ap (λ (values : Positioner). Some values) set ∙ ap (λ (o : Option Positioner). option_map (λ values. with_setting setting values) o) there in
    IsPeer-positioners v p old new id (option_map (λ values. with_setting setting values) (p.positioners id)) same
    (subst (λ (o : Option Positioner). UpdatesBy nat_cmp (nat_cmp id) old new o) becomes updates) is

-- nothing is set of one that isn't there
pub positioner-absent : (v : ClientView) (p : Peer) (id : ℕ) (setting : Setting) → held_at v.positioners id ≡ None → IsPeer v p → IsPeer v (set_positioner id setting p)
positioner-absent v p id setting none is = record {
  status = is.status;
  «open» = is.open;
  requests = is.requests;
  objects = is.objects;
  held = is.held;
  regions = is.regions;
  pools = is.pools;
  buffers = is.buffers;
  positioners = fun_ext (λ other. at other (other == id) refl);
  stores = is.stores;
  serial = is.serial;
  unsent = is.unsent;
  rest = is.rest;
  output = is.output;
}
  where
    gone : p.positioners id ≡ None
    gone = sym (ap (λ (held : ById Positioner). held id) is.positioners) ∙ none

    at : (other : ℕ) (b : Bool) → (other == id) ≡ b
        → held_at v.positioners other ≡ (if b then option_map (λ values. with_setting setting values) (p.positioners id) else p.positioners other)
    at other true e =
        ap (λ k. held_at v.positioners k) (eqb-true other id e) ∙ none
        ∙ sym (ap (λ (o : Option Positioner). option_map (λ values. with_setting setting values) o) gone)
    at other false e = ap (λ (held : ById Positioner). held other) is.positioners

pub IsPeer-stores : (v : ClientView) (p : Peer) (change : Stock → Stock) (new : Stock) → new ≡ change v.stores → IsPeer v p → IsPeer (record v { stores = new }) (record p { stores = change p.stores })
IsPeer-stores v p change new same is = record {
  status = is.status;
  «open» = is.open;
  requests = is.requests;
  objects = is.objects;
  held = is.held;
  regions = is.regions;
  pools = is.pools;
  buffers = is.buffers;
  positioners = is.positioners;
  stores = same ∙ ap change is.stores;
  serial = is.serial;
  unsent = is.unsent;
  rest = is.rest;
  output = is.output;
}

changes-of : (area : Option Area) (changes : Option (List Change)) → IsRegion area changes → option_map (λ a. a.changes) area ≡ option_map length changes
changes-of None None h = refl
changes-of (Some area) (Some changes) h = ap Some h.counted
changes-of None (Some changes) h = absurd h
changes-of (Some area) None h = absurd h

-- a judgement looks at the same
pub known-is : (v : ClientView) (p : Peer) → IsPeer v p → known_in v ≡ known_of p
known-is v p is =
    let known : Objects → ℕ → ById ℕ → ById ℕ → ById Buffer → Stock → Known = λ objects held changes pools buffers stores. record {
      objects = objects;
      held = held;
      changes = changes;
      pools = pools;
      buffers = buffers;
      stores = stores;
    } in
    let counts : ById ℕ = λ id. option_map (λ area. area.changes) (held_at v.regions id) in
    let lengths : ById ℕ = λ id. option_map length (p.regions id) in
    let same : counts ≡ lengths = fun_ext (λ id. changes-of (held_at v.regions id) (p.regions id) (is.regions id)) in
    ap (λ (os : Objects). known os (length v.objects) counts (held_at v.pools) (held_at v.buffers) v.stores) is.objects
    ∙ ap (λ (n : ℕ). known p.objects n counts (held_at v.pools) (held_at v.buffers) v.stores) is.held
    ∙ ap (λ (m : ById ℕ). known p.objects p.held m (held_at v.pools) (held_at v.buffers) v.stores) same
    ∙ ap (λ (m : ById ℕ). known p.objects p.held lengths m (held_at v.buffers) v.stores) is.pools
    ∙ ap (λ (m : ById Buffer). known p.objects p.held lengths p.pools m v.stores) is.buffers
    ∙ ap (λ (s : Stock). known p.objects p.held lengths p.pools p.buffers s) is.stores

-- an event was queued
pub QueuesOr-queued : (b : Bool) (Later : Type 0) (p q : Peer) → IsTrue b → Later → QueuesOr b Later p q
QueuesOr-queued true Later p q room later = inr later
QueuesOr-queued false Later p q room later = absurd (cc)

-- an event wasn't queued
pub QueuesOr-refused : (b : Bool) (Later : Type 0) (p : Peer) (cause : Cause) → MatchBool b (cause ≡ Memory) (cause ≡ Slow) → QueuesOr b Later p (ended cause p)
QueuesOr-refused true Later p cause why = inl (ap (λ c. ended c p) why)
QueuesOr-refused false Later p cause why = ap (λ c. ended c p) why

-- the event at a place isn't queued
pub Queues-refused : {X : Type 0} (f : X → Said) (events : List X) (i : ℕ) (d : X) (v : ClientView) (p : Peer) (cause : Cause) → i < length events → IsPeer v p
    → IsUnqueuedFor v.refused (has_room v.unsent (f (get_or events i d))) cause → Queues (map f (drop i events)) p (ended cause p)
Queues-refused {X} f events i d v p cause lt is why =
    let refused = QueuesOr-refused (has_room p.unsent (f (get_or events i d))) (Queues (map f (drop (suc i) events)) (queued (f (get_or events i d)) p) (ended cause p)) p cause
    (rw is.unsent at (unqueued-now v p (f (get_or events i d)) cause is why)) in
    subst (λ (es : List X). Queues (map f es) p (ended cause p)) (sym (drop-cons events i d lt)) refused

-- the event at a place is queued
pub Queues-queued : {X : Type 0} (f : X → Said) (events : List X) (i : ℕ) (d : X) (v : ClientView) (p q : Peer) → i < length events → IsPeer v p → IsTrue (has_room v.unsent (f (get_or events i d)))
    → Queues (map f (drop (i + 1) events)) (queued (f (get_or events i d)) p) q → Queues (map f (drop i events)) p q
Queues-queued {X} f events i d v p q lt is room later =
    let e : i + 1 ≡ suc i = omega arith in
    let rest = subst (λ (k : ℕ). Queues (map f (drop k events)) (queued (f (get_or events i d)) p) q) e later in
    let queues = QueuesOr-queued (has_room p.unsent (f (get_or events i d))) (Queues (map f (drop (suc i) events)) (queued (f (get_or events i d)) p) q) p q (rw is.unsent at room) rest in
    subst (λ (es : List X). Queues (map f es) p q) (sym (drop-cons events i d lt)) queues

-- no event is left
pub Queues-none : {X : Type 0} (f : X → Said) (events : List X) (i : ℕ) (p : Peer) → length events ≤ i → Queues (map f (drop i events)) p p
Queues-none {X} f events i p past = subst (λ (es : List X). Queues (map f es) p p) (sym (drop_all i events past)) refl

-- an error was told
pub Errs-told : (v w : ClientView) (p : Peer) (refusal : Refusal) (event : Said) → event ≡ error_told refusal → IsPeer v p → (v.refused ≡ None) × IsTrue (has_room v.unsent event)
    × (w ≡ record v { unsent = v.unsent ++ said_bytes event }) → (q : Peer) × Errs refusal p q × IsPeer (cleared (Protocol refusal.object (code_number refusal.code)) w) q
Errs-told v w p refusal event same is ok =
    let cause = Protocol refusal.object (code_number refusal.code) in
    let here : IsTrue (has_room v.unsent (error_told refusal)) = subst (λ (e : Said). IsTrue (has_room v.unsent e)) same ok.1 in
    let room : IsTrue (has_room p.unsent (error_told refusal)) = subst (λ (u : List ℕ). IsTrue (has_room u (error_told refusal))) is.unsent here in
    let told : IsPeer w (queued (error_told refusal) p) =
    subst (λ (e : Said). IsPeer w (queued e p)) same (subst (λ (x : ClientView). IsPeer x (queued event p)) (sym ok.2) (IsPeer-queued v p event is)) in (
      ended cause (queued (error_told refusal) p),
      QueuesOr-queued (has_room p.unsent (error_told refusal)) _ p _ room refl,
      IsPeer-ended w _ cause told,
    )

-- an error couldn't be told
pub Errs-untold : (v w : ClientView) (p : Peer) (refusal : Refusal) (event : Said) (cause : Cause) → event ≡ error_told refusal → IsPeer v p → IsUnqueuedFor v.refused (has_room v.unsent event) cause
    → w ≡ record v { refused = Some cause } → (q : Peer) × Errs refusal p q × IsPeer (cleared cause w) q
Errs-untold v w p refusal event cause same is why only =
    let here = subst (λ (e : Said). MatchBool (has_room v.unsent e) (cause ≡ Memory) (cause ≡ Slow)) same (unqueued-now v p event cause is why) in
    let reason = subst (λ (u : List ℕ). MatchBool (has_room u (error_told refusal)) (cause ≡ Memory) (cause ≡ Slow)) is.unsent here in (
      ended cause p,
      QueuesOr-refused (has_room p.unsent (error_told refusal)) _ p cause reason,
      IsPeer-unqueued v w p cause cause only is,
    )

-- no_memory was told, or couldn't be
pub LacksMemory-told : {X : Type 0} (result : Result X Cause) (v w : ClientView) (p : Peer) (event : Said) → event ≡ error_told (display_error NoMemory) → IsPeer v p
    → OnOk result ((v.refused ≡ None) × IsTrue (has_room v.unsent event) × (w ≡ record v { unsent = v.unsent ++ said_bytes event })) → IfErr result (λ e. w ≡ record v { refused = Some e })
    → (q : Peer) × LacksMemory p q × IsPeer (cleared Memory w) q
LacksMemory-told (Ok x) v w p event same is ok err =
    let told = error_told (display_error NoMemory) in
    let here = subst (λ (e : Said). IsTrue (has_room v.unsent e)) same ok.1 in
    let room = subst (λ (u : List ℕ). IsTrue (has_room u told)) is.unsent here in
    let next : IsPeer w (queued told p) = subst (λ (e : Said). IsPeer w (queued e p)) same (subst (λ (x : ClientView). IsPeer x (queued event p)) (sym ok.2) (IsPeer-queued v p event is)) in
    (ended Memory (queued told p), inr (room, refl), IsPeer-ended w _ Memory next)
LacksMemory-told (Err cause) v w p event same is ok err = (ended Memory p, inl refl, IsPeer-unqueued v w p cause Memory err is)

pub told_both : (a b x y : Said) → a ≡ x → b ≡ y → a ∷ b ∷ [] ≡ x ∷ y ∷ []
told_both a b x y one two = ap (λ e. e ∷ b ∷ []) one ∙ ap (λ e. x ∷ e ∷ []) two

-- the events are told by another name
pub Queues-told : (events others : List Said) (p q : Peer) → events ≡ others → Queues events p q → Queues others p q
Queues-told events others p q same queues = subst (λ (es : List Said). Queues es p q) same queues

pub WantsOr-told : (events others : List Said) (old p q : Peer) → events ≡ others → WantsOr true (Queues events p q) old q → WantsOr true (Queues others p q) old q
WantsOr-told events others old p q same (inl h) = inl h
WantsOr-told events others old p q same (inr h) = inr (Queues-told events others p q same h)

-- only these three tell something when they are bound
pub bind_told-nothing : (output : Output) (id : ℕ) (interface : Interface) → interface ≢ WlShm → interface ≢ WlSeat → interface ≢ WlOutput → bind_told output id interface ≡ []
bind_told-nothing output id WlShm a b c = absurd (a refl)
bind_told-nothing output id WlSeat a b c = absurd (b refl)
bind_told-nothing output id WlOutput a b c = absurd (c refl)
bind_told-nothing output id interface a b c = refl

-- what tests as absent is
pub absent : (o : Option Cause) → false ≡ is_some o → o ≡ None
absent None h = refl
absent (Some cause) h = absurd (cc)

-- what is counted is exact below the greatest number
pub counted-below : (kept requests : ℕ) → IsCount kept requests → kept ≢ most_counted → kept ≡ requests
counted-below kept requests is below = omega arith

-- a client that has just connected
pub IsPeer-new : (v : ClientView) (output : Output) (entry : Entry) → object_of entry ≡ record { interface = WlDisplay; version = 1 } → v.ended ≡ None → v.refused ≡ None → v.requests ≡ 0
    → v.serial ≡ 1 → v.rest ≡ [] → v.unsent ≡ [] → HoldsAt [] v.objects 1 (Some entry) → length v.objects ≡ 1 → v.regions ≡ [] → v.pools ≡ [] → v.buffers ≡ [] → v.positioners ≡ []
    → v.stores ≡ no_stores → output_of v.output ≡ output → IsPeer v (newcomer output)
IsPeer-new v output entry display alive unrefused none first rest unsent holds held regions pools buffers positioners stores shown = record {
  status = alive;
  «open» = unrefused;
  requests = none;
  objects = objects_in-with [] v.objects 1 (Some entry) holds ∙ ap (λ (o : Object). with_id 1 (Some o) nothing) display;
  held = held;
  regions = λ id. rw regions tt;
  pools = ap (λ (m : List (ℕ × ℕ)). held_at m) pools;
  buffers = ap (λ (m : List (ℕ × Buffer)). held_at m) buffers;
  positioners = ap (λ (m : List (ℕ × Positioner)). held_at m) positioners;
  stores = stores;
  serial = first;
  unsent = unsent;
  rest = rest;
  output = shown;
}

grown : (r s : Area) (changes : Option (List Change)) (change : Change) → ((cs : List Change) → Stands r cs → Stands s (cs ++ change ∷ [])) → IsRegion (Some r) changes
    → IsRegion (Some s) (option_map (λ cs. cs ++ change ∷ []) changes)
grown r s None change grows h = absurd h
grown r s (Some cs) change grows h = grows cs h

-- a region that is there takes a change more
pub region-grown : (v : ClientView) (p : Peer) (old new : BTreeMap ℕ Area) (id : ℕ) (r s : Area) (change : Change) → old.entries ≡ v.regions → Some r ≡ held_at old.entries id
    → UpdatesBy nat_cmp (nat_cmp id) old new (Some s) → ((cs : List Change) → Stands r cs → Stands s (cs ++ change ∷ [])) → IsPeer v p
    → IsPeer (record v { regions = new.entries }) (changed_region id change p)
region-grown v p old new id r s change same found updates grows is =
    let there : IsRegion (Some r) (p.regions id) = subst (λ (area : Option Area). IsRegion area (p.regions id)) (ap (λ (m : List (ℕ × Area)). held_at m id) (sym same) ∙ sym found) (is.regions id) in
    IsPeer-regions v p old new id (Some s) _ same updates (grown r s (p.regions id) change grows there) is

-- a region that is there stays as it was
pub region-kept : (v : ClientView) (p : Peer) (old new : BTreeMap ℕ Area) (id : ℕ) (r s : Area) → old.entries ≡ v.regions → Some r ≡ held_at old.entries id
    → UpdatesBy nat_cmp (nat_cmp id) old new (Some s) → s ≡ r → IsPeer v p → IsPeer (record v { regions = new.entries }) (record p { regions = with_id id (p.regions id) p.regions })
region-kept v p old new id r s same found updates stays is =
    let there : IsRegion (Some r) (p.regions id) = subst (λ (area : Option Area). IsRegion area (p.regions id)) (ap (λ (m : List (ℕ × Area)). held_at m id) (sym same) ∙ sym found) (is.regions id) in
    IsPeer-regions v p old new id (Some s) (p.regions id) same updates (subst (λ (area : Area). IsRegion (Some area) (p.regions id)) (sym stays) there) is

nobody : (changes : Option (List Change)) (change : Change) → IsRegion None changes → IsRegion None (option_map (λ cs. cs ++ change ∷ []) changes)
nobody None change h = tt
nobody (Some cs) change h = absurd h

-- a region that isn't there takes none
pub region-absent : (v : ClientView) (p : Peer) (id : ℕ) (change : Change) → held_at v.regions id ≡ None → IsPeer v p → IsPeer v (changed_region id change p)
region-absent v p id change none is = record {
  status = is.status;
  «open» = is.open;
  requests = is.requests;
  objects = is.objects;
  held = is.held;
  regions = λ other. at other (other == id) refl;
  pools = is.pools;
  buffers = is.buffers;
  positioners = is.positioners;
  stores = is.stores;
  serial = is.serial;
  unsent = is.unsent;
  rest = is.rest;
  output = is.output;
}
  where
    at : (other : ℕ) (b : Bool) → (other == id) ≡ b → IsRegion (held_at v.regions other) (if b then option_map (λ cs. cs ++ change ∷ []) (p.regions id) else p.regions other)
    at other true e =
        let here : held_at v.regions other ≡ None = ap (λ k. held_at v.regions k) (eqb-true other id e) ∙ none in
        let gone : IsRegion None (p.regions id) = subst (λ (area : Option Area). IsRegion area (p.regions id)) none (is.regions id) in
        subst (λ (area : Option Area). IsRegion area (option_map (λ cs. cs ++ change ∷ []) (p.regions id))) (sym here) (nobody (p.regions id) change gone)
    at other false e = is.regions other

-- the refusal that an answer is of
pub refused-by : (o : Option LayoutError) (result : Result Layout LayoutError) (error : LayoutError) → result ≡ Err error → IfSome o (λ e. result ≡ Err e) → IfNone o (IsOk result) → o ≡ Some error
refused-by None result error is some none = absurd (let h = rw is at none in cc)
refused-by (Some e) result error is some none = let same : Err e ≡ Err error = sym some ∙ is in cc

-- a buffer that doesn't lie in its store is refused
pub buffer-refused : (object version store : ℕ) (stores : Stock) (id : ℕ) (offset width height stride : ℤ) (format size : ℕ) (error : LayoutError) → can_hold store stores ≡ true
    → size_of store stores ≡ size → layout_refusal size offset width height stride format ≡ Some error
    → Err (layout_refused object error) ≡ buffer_created object version store stores id offset width height stride format
buffer-refused object version store stores id offset width height stride format size error held sized refused = rw (held, sized, refused) refl

-- how many bytes a store has, or none where it isn't live
pub size-read : (store : ℕ) (stores : Stock) (found : Option ℕ) (size : ℕ) → found ≡ option_map (λ s. length s.bytes) (store_at store stores) → size ≡ unwrap_or found 0 → size_of store stores ≡ size
size-read store stores found size at is = either (store_at store stores) ∙ sym (is ∙ ap (λ o. unwrap_or o 0) at)
  where
    either : (o : Option Stored) → option_map_or (λ s. length s.bytes) o 0 ≡ unwrap_or (option_map (λ s. length s.bytes) o) 0
    either None = refl
    either (Some s) = refl

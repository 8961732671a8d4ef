-- Events that are queued in turn, and objects that go before them or between them.
use Rattle.std.proofs.Common.{◌≡◌, ◌∙◌, ℕ, suc, ◌+◌, ◌<◌, ◌≤◌, List, [], ◌∷◌, ◌++◌, Bool, true, false, Some, None, Option, refl, ap, subst, sym, inl, inr, length, map, drop, get_or, drop-cons, arith}
use Rattle.std.specs.Prelude.{is_some, IsTrue, MatchBool, ◌==◌, ◌||◌, if◌then◌else◌}
use Rattle.std.specs.List.{list_any}
use Rattle.std.proofs.lemmas.List.{drop_all}
use Rattle.std.proofs.lemmas.Bool.{eqb-true}
use Rattle.wl_table.specs.declared.entry.Entry.{Entry}
use Rattle.wl_table.specs.Objects.{Held, HoldsAt, entry_of}
use Rattle.spec_desktop.specs.declared.cause.Cause.{Cause}
use Rattle.spec_desktop.specs.declared.cause.Cause.TheVariants.{Memory, Slow}
use Rattle.wl_client.specs.Agreement.{IsPeer}
use Rattle.wl_client.specs.Serving.{HoldsWithout}
use Rattle.spec_desktop.specs.Told.{Said}
use Rattle.wl_client.specs.View.{ClientView}
use Rattle.spec_desktop.specs.Peer.{Peer, IsUnqueuedFor, Queues, QueuesOr, all_removed, ended, has_room, queued, removed}
use Rattle.wl_client.proofs.Peers.{QueuesOr-queued, QueuesOr-refused, differ, unqueued-now}

over-and-alive : (cause : Cause) (p m : Peer) → m ≡ ended cause p → m.status ≡ None → ⊥
over-and-alive cause p m is lives = let both : Some cause ≡ None = ap (λ (x : Peer). x.status) (sym is) ∙ lives in absurd (cc)

alive-and-over : (p m : Peer) → m ≡ p → p.status ≡ None → is_some m.status ≡ true → ⊥
alive-and-over p m is lives over = let both : false ≡ true = ap is_some (sym lives) ∙ ap (λ (x : Peer). is_some x.status) (sym is) ∙ over in absurd (cc)

-- where all events were queued, those after them follow
pub queues-then : (events more : List Said) (p m q : Peer) → Queues events p m → m.status ≡ None → Queues more m q → Queues (events ++ more) p q
queues-then [] more p m q first lives later = subst (λ (x : Peer). Queues more x q) first later
queues-then (e ∷ es) more p m q first lives later = at (λ h. queues-then es more (queued e p) m q h lives later) (has_room p.unsent e) first
  where
    at : (Queues es (queued e p) m → Queues (es ++ more) (queued e p) q) → (room : Bool) → QueuesOr room (Queues es (queued e p) m) p m → QueuesOr room (Queues (es ++ more) (queued e p) q) p q
    at next false h = absurd (over-and-alive Slow p m h lives)
    at next true (inl h) = absurd (over-and-alive Memory p m h lives)
    at next true (inr h) = inr (next h)

-- where one event wasn't queued, those after it don't matter
pub queues-over : (events more : List Said) (p m : Peer) → p.status ≡ None → Queues events p m → is_some m.status ≡ true → Queues (events ++ more) p m
queues-over [] more p m lives h over = absurd (alive-and-over p m h lives over)
queues-over (e ∷ es) more p m lives h over = at (λ h. queues-over es more (queued e p) m lives h over) (has_room p.unsent e) h
  where
    at : (Queues es (queued e p) m → Queues (es ++ more) (queued e p) m) → (room : Bool) → QueuesOr room (Queues es (queued e p) m) p m → QueuesOr room (Queues (es ++ more) (queued e p) m) p m
    at next false h = h
    at next true (inl h) = inl h
    at next true (inr h) = inr (next h)

past-one : (id : ℕ) (events : List Said) (p m : Peer) → Queues events p m → m.status ≡ None → Queues events (removed id p) (removed id m)
past-one id [] p m h lives = ap (λ (x : Peer). removed id x) h
past-one id (e ∷ es) p m h lives = at (λ h. past-one id es (queued e p) m h lives) (has_room p.unsent e) h
  where
    at : (Queues es (queued e p) m → Queues es (queued e (removed id p)) (removed id m)) → (room : Bool) → QueuesOr room (Queues es (queued e p) m) p m
        → QueuesOr room (Queues es (queued e (removed id p)) (removed id m)) (removed id p) (removed id m)
    at next false h = absurd (over-and-alive Slow p m h lives)
    at next true (inl h) = absurd (over-and-alive Memory p m h lives)
    at next true (inr h) = inr (next h)

-- where all events are queued, objects may go before them or after them
pub removed-past : (ids : List ℕ) (events : List Said) (p m : Peer) → Queues events p m → m.status ≡ None → Queues events (all_removed ids p) (all_removed ids m)
removed-past [] events p m h lives = h
removed-past (id ∷ ids) events p m h lives = removed-past ids events (removed id p) (removed id m) (past-one id events p m h lives) lives

over-one : (id : ℕ) (events : List Said) (p m : Peer) → p.status ≡ None → Queues events p m → is_some m.status ≡ true → Queues events (removed id p) m
over-one id [] p m lives h over = absurd (alive-and-over p m h lives over)
over-one id (e ∷ es) p m lives h over = at (λ h. over-one id es (queued e p) m lives h over) (has_room p.unsent e) h
  where
    at : (Queues es (queued e p) m → Queues es (queued e (removed id p)) m) → (room : Bool) → QueuesOr room (Queues es (queued e p) m) p m
        → QueuesOr room (Queues es (queued e (removed id p)) m) (removed id p) m
    at next false h = h
    at next true (inl h) = inl h
    at next true (inr h) = inr (next h)

-- where one event isn't queued, all objects go by that, those too that would have gone before it
pub removed-over : (ids : List ℕ) (events more : List Said) (p m : Peer) → p.status ≡ None → Queues events p m → is_some m.status ≡ true → Queues (events ++ more) (all_removed ids p) m
removed-over [] events more p m lives h over = queues-over events more p m lives h over
removed-over (id ∷ ids) events more p m lives h over = removed-over ids events more (removed id p) m lives (over-one id events p m lives h over) over

-- the event at a place is queued, and others follow those that are left
pub then-queued : (f : ℕ → Said) (ids : List ℕ) (i : ℕ) (more : List Said) (v : ClientView) (p q : Peer) (event : Said) → i < length ids → event ≡ f (get_or ids i 0) → IsPeer v p
    → IsTrue (has_room v.unsent event) → Queues (map f (drop (i + 1) ids) ++ more) (queued event p) q → Queues (map f (drop i ids) ++ more) p q
then-queued f ids i more v p q event lt same is room later =
    let e : i + 1 ≡ suc i = omega arith in
    let rest = subst (λ (k : ℕ). Queues (map f (drop k ids) ++ more) (queued event p) q) e later in
    let queues = QueuesOr-queued (has_room p.unsent event) (Queues (map f (drop (suc i) ids) ++ more) (queued event p) q) p q (subst (λ (u : List ℕ). IsTrue (has_room u event)) is.unsent room) rest in
    let all : Queues (event ∷ map f (drop (suc i) ids) ++ more) p q = queues in
    let named : Queues (f (get_or ids i 0) ∷ map f (drop (suc i) ids) ++ more) p q = subst (λ (x : Said). Queues (x ∷ map f (drop (suc i) ids) ++ more) p q) same all in
    subst (λ (es : List ℕ). Queues (map f es ++ more) p q) (sym (drop-cons ids i 0 lt)) named

-- the event at a place isn't queued, whatever were to follow
pub then-refused : (f : ℕ → Said) (ids : List ℕ) (i : ℕ) (more : List Said) (v : ClientView) (p : Peer) (cause : Cause) (event : Said) → i < length ids → event ≡ f (get_or ids i 0) → IsPeer v p
    → IsUnqueuedFor v.refused (has_room v.unsent event) cause → Queues (map f (drop i ids) ++ more) p (ended cause p)
then-refused f ids i more v p cause event lt same is why =
    let reason = subst (λ (u : List ℕ). MatchBool (has_room u event) (cause ≡ Memory) (cause ≡ Slow)) is.unsent (unqueued-now v p event cause is why) in
    let refused : Queues (event ∷ map f (drop (suc i) ids) ++ more) p (ended cause p) =
    QueuesOr-refused (has_room p.unsent event) (Queues (map f (drop (suc i) ids) ++ more) (queued event p) (ended cause p)) p cause reason in
    let named : Queues (f (get_or ids i 0) ∷ map f (drop (suc i) ids) ++ more) p (ended cause p) = subst (λ (x : Said). Queues (x ∷ map f (drop (suc i) ids) ++ more) p (ended cause p)) same refused in
    subst (λ (es : List ℕ). Queues (map f es ++ more) p (ended cause p)) (sym (drop-cons ids i 0 lt)) named

pub then-none : (f : ℕ → Said) (ids : List ℕ) (i : ℕ) (more : List Said) (p q : Peer) → length ids ≤ i → Queues more p q → Queues (map f (drop i ids) ++ more) p q
then-none f ids i more p q past later = subst (λ (es : List ℕ). Queues (map f es ++ more) p q) (sym (drop_all i ids past)) later

-- one object more has gone
pub all_removed-next : (ids : List ℕ) (i : ℕ) (p q : Peer) → i < length ids → all_removed (drop i ids) p ≡ q → all_removed (drop (i + 1) ids) (removed (get_or ids i 0) p) ≡ q
all_removed-next ids i p q lt h =
    let e : i + 1 ≡ suc i = omega arith in
    ap (λ (k : ℕ). all_removed (drop k ids) (removed (get_or ids i 0) p)) e ∙ ap (λ (es : List ℕ). all_removed es p) (sym (drop-cons ids i 0 lt)) ∙ h

-- what a table holds where these ids go from it
abbrev pub held_without : Held → List ℕ → ℕ → Option Entry
held_without held ids other = if list_any (λ id. other == id) ids then None else entry_of held other

-- the first of them has gone
pub held_without-cons : (old new : Held) (id : ℕ) (ids : List ℕ) (other : ℕ) → HoldsAt old new id None → held_without new ids other ≡ held_without old (id ∷ ids) other
held_without-cons old new id ids other holds = at (other == id) refl
  where
    gone : (b : Bool) → (other == id) ≡ true → (if b then None else entry_of new other) ≡ None
    gone true e = refl
    gone false e = ap (λ k. entry_of new k) (eqb-true other id e) ∙ holds.here

    at : (b : Bool) → (other == id) ≡ b → held_without new ids other ≡ (if b || list_any (λ i. other == i) ids then None else entry_of old other)
    at true e = gone (list_any (λ i. other == i) ids) e
    at false e = ap (λ (o : Option Entry). if list_any (λ i. other == i) ids then None else o) (holds.others other (differ other id e))

pub held_without-next : (old new : Held) (ids : List ℕ) (i other : ℕ) (was : Option Entry) → i < length ids → HoldsAt old new (get_or ids i 0) None → held_without old (drop i ids) other ≡ was
    → held_without new (drop (i + 1) ids) other ≡ was
held_without-next old new ids i other was lt holds h =
    let e : i + 1 ≡ suc i = omega arith in
    ap (λ (k : ℕ). held_without new (drop k ids) other) e
    ∙ held_without-cons old new (get_or ids i 0) (drop (suc i) ids) other holds
    ∙ ap (λ (es : List ℕ). held_without old es other) (sym (drop-cons ids i 0 lt))
    ∙ h

-- the ids went, and then one more
pub held_without-then : (old mid new : Held) (id : ℕ) (ids : List ℕ) → HoldsWithout old mid ids → HoldsAt mid new id None → HoldsWithout old new (id ∷ ids)
held_without-then old mid new id ids without holds other = at (other == id) refl
  where
    at : (b : Bool) → (other == id) ≡ b → entry_of new other ≡ (if b || list_any (λ i. other == i) ids then None else entry_of old other)
    at true e = ap (λ k. entry_of new k) (eqb-true other id e) ∙ holds.here
    at false e = holds.others other (differ other id e) ∙ without other

-- the table stays as it was then
pub without-kept : (old mid new : Held) (ids : List ℕ) → HoldsWithout old mid ids → new ≡ mid → HoldsWithout old new ids
without-kept old mid new ids without same = subst (λ (held : Held). HoldsWithout old held ids) (sym same) without

pub over-now : {X : Type 0} (status : Option Cause) → status ≡ None → is_some status ≡ true → X
over-now None lives over = absurd (cc)
over-now (Some cause) lives over = absurd (cc)

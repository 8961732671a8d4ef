-- What a call makes of a client that changes several of its surfaces: which stores of buffers go, which buffers are released, and what is told.
use Rattle.std.proofs.Common.{◌≡◌, ℕ, ◌<◌, zero, suc, List, [], ◌∷◌, ◌++◌, Bool, true, false, Option, Some, None, cond, length, map, refl, ap, sym, subst, ◌∙◌, arith, inl, inr, eq-eqb}
use Rattle.std.specs.Prelude.{◌==◌, ◌||◌, ◌⊎◌, filter, find, fold, is_some, not, slice_index_or}
use Rattle.std.proofs.lemmas.Bool.{eqb-true, true≢false}
use Rattle.std.proofs.lemmas.List.Elements.{filter-append}
use Rattle.std.specs.List.{Contains, list_any}
use Rattle.std.proofs.lemmas.List.{append-nil}
use Rattle.std.proofs.lemmas.Option.{none-some, same_Some}
use Rattle.wl_client.specs.Agreement.{IsPeer}
use Rattle.wl_client.specs.View.{ClientView}
use Rattle.wl_client.proofs.Queueing.{queues-over, queues-then}
use Rattle.spec_desktop.specs.declared.cause.Cause.{Cause}
use Rattle.spec_desktop.specs.Peer.{Peer, Queues, released}
use Rattle.spec_desktop.specs.Told.{Said}
use Rattle.wl_surface.specs.Request.{Buffer}
use Rattle.wl_surface.specs.State.{applied, held, pending}
use Rattle.wl_surface.specs.Surface.{Surface, buffers_of, has, listed, names, shows}
use Rattle.std.specs.Option.{option_map}
use Rattle.wl_surface.specs.declared.content.Attached.{Attached}
use Rattle.wl_surface.specs.Kept.{buffer_of}
use Rattle.wl_surface.specs.Slots.{had_at}
use Rattle.wl_surface.specs.Surfaces.{Surfaces, is_used, surface_at, without_surface}
use Rattle.wl_store.specs.Stores.{Stock}
use Rattle.spec_desktop.specs.Changing.{after_all}
use Rattle.spec_desktop.specs.Desktop.{Resident}
use Rattle.spec_desktop.specs.Releases.{let_if}
use Rattle.spec_desktop.specs.Step.{each_once, is_over, letting_go, without_buffer}
use Rattle.law_desktop.specs.Apart.{AreApartBy}
use Rattle.law_desktop.proofs.Lists.Surfaces.{has_id}
use Rattle.law_desktop.specs.OneBuffer.{HasOneBuffer, IsAmong, IsAttachedBy, IsAttachedTo}
use Rattle.law_desktop.proofs.OneBuffer.Attached.{had-by}
use Rattle.law_desktop.specs.TreeBuffersLaws.{AreOne, had_in, has_number}
use Rattle.law_desktop.proofs.TreeBuffers.Lists.{any-in, each-in, first-in, in-any, later-in}
use Rattle.law_desktop.specs.Freed.{AreFreedOf, freed_of}
use Rattle.law_desktop.proofs.Keeping.Freeing.{flat-in, found-in, freed-has, freed-in, in-flat, left-in, lets-go-freed}
use Rattle.law_desktop.proofs.Keeping.Ids.{KeepsWaiting, waiting}
use Rattle.law_desktop.proofs.Keeping.Letting.{had-each, letting-none, used-stays}
use Rattle.law_desktop.proofs.Truth.{truth}
use Rattle.law_desktop.proofs.Lists.Each.{Each}
use Rattle.wl_requests.proofs.Letting.{going-last}

-- ---- what is told

-- What came before was told; if that didn't end the client, the releases are told.
pub told-all : (mid new : ClientView) (events releases : List Said) (p m : Peer) → p.status ≡ None → Queues events p m → IsPeer mid m
    → ((x : Peer) → IsPeer mid x → x.status ≡ None → (q : Peer) × Queues releases x q × IsPeer new q) → (is_some mid.ended ≡ true → new ≡ mid)
    → (q : Peer) × Queues (events ++ releases) p q × IsPeer new q
told-all mid new events releases p m lives first peer later over = at mid.ended peer.status over
  where
    at : (o : Option Cause) → o ≡ m.status → (is_some o ≡ true → new ≡ mid) → (q : Peer) × Queues (events ++ releases) p q × IsPeer new q
    at None same over =
        let next = later m peer (sym same) in
        (next.0, queues-then events releases p m next.0 first (sym same) next.1, next.2)
    at (Some cause) same over =
        (m, queues-over events releases p m lives first (ap (λ (o : Option Cause). is_some o) (sym same)), subst (λ (v : ClientView). IsPeer v m) (sym (over refl)) peer)

-- ---- one buffer by its number

among-of : (b : Buffer) (xs : List Buffer) → Contains xs b → IsAmong b xs
among-of b [] c = let none : c.0 < 0 = c.1 in absurd (omega arith)
among-of b (x ∷ xs) c = at c.0 c.1 c.2 (λ inner. among-of b xs inner)
  where
    at : (k : ℕ) → k < suc (length xs) → slice_index_or (x ∷ xs) k b ≡ b → (Contains xs b → IsAmong b xs) → IsAmong b (x ∷ xs)
    at zero less here rest = inl (sym here)
    at (suc k) less here rest = inr (rest (k, omega (arith, less), here))

attached-to : (b : Buffer) (ss : List Surface) (s : Surface) → Contains ss s → IsAttachedBy b s.history.requests → IsAttachedTo b ss
attached-to b [] s c by = let none : c.0 < 0 = c.1 in absurd (omega arith)
attached-to b (t ∷ ss) s c by = at c.0 c.1 c.2 (λ inner. attached-to b ss s inner by)
  where
    at : (k : ℕ) → k < suc (length ss) → slice_index_or (t ∷ ss) k s ≡ s → (Contains ss s → IsAttachedTo b ss) → IsAttachedTo b (t ∷ ss)
    at zero less here rest = inl (subst (λ (x : Surface). IsAttachedBy b x.history.requests) (sym here) by)
    at (suc k) less here rest = inr (rest (k, omega (arith, less), here))

-- what its surfaces have was attached to them
pub are-one : (r : Resident) → HasOneBuffer r → AreOne (had_in r.owned.surfaces)
are-one r one b c in_b in_c same =
    let it = one.attached_once b c (attached b in_b) (attached c in_c) same in
    (ap (λ (x : Buffer). x.store) it, ap (λ (x : Buffer). x.object) it)
  where
    attached : (x : Buffer) → Contains (had_in r.owned.surfaces) x → IsAttachedTo x r.owned.surfaces.surfaces
    attached x c =
        let it = flat-in (λ (s : Surface). buffers_of s.history) r.owned.surfaces.surfaces x c in
        attached-to x r.owned.surfaces.surfaces it.0 it.1 (had-by it.0.history x (among-of x (buffers_of it.0.history) it.2))

-- ---- pending buffers stay

in-map : {X Y : Type 0} (f : X → Y) (xs : List X) (x : X) → Contains xs x → Contains (map f xs) (f x)
in-map f [] x c = let none : c.0 < 0 = c.1 in absurd (omega arith)
in-map {X} {Y} f (z ∷ xs) x c = at c.0 c.1 c.2 (λ inner. in-map f xs x inner)
  where
    at : (k : ℕ) → k < suc (length xs) → slice_index_or (z ∷ xs) k x ≡ x → (Contains xs x → Contains (map f xs) (f x)) → Contains (f z ∷ map f xs) (f x)
    at zero less here rest = subst (λ (y : X). Contains (f z ∷ map f xs) (f y)) here (first-in (f z) (map f xs))
    at (suc k) less here rest = later-in (f z) (map f xs) (f x) (rest (k, omega (arith, less), here))

map-in : {X Y : Type 0} (f : X → Y) (xs : List X) (y : Y) → Contains (map f xs) y → (x : X) × Contains xs x × (f x ≡ y)
map-in f [] y c = let none : c.0 < 0 = c.1 in absurd (omega arith)
map-in {X} {Y} f (z ∷ xs) y c = at c.0 c.1 c.2 (λ inner. map-in f xs y inner)
  where
    at : (k : ℕ) → k < suc (length (map f xs)) → slice_index_or (f z ∷ map f xs) k y ≡ y → (Contains (map f xs) y → (x : X) × Contains xs x × (f x ≡ y))
        → (x : X) × Contains (z ∷ xs) x × (f x ≡ y)
    at zero less here rest = (z, first-in z xs, here)
    at (suc k) less here rest = let it = rest (k, omega (arith, less), here) in (it.0, later-in z xs it.0 it.1, it.2)

pub waits-used : (old new : Surfaces) → KeepsWaiting old new → (s : Surface) (b : Buffer) → Contains old.surfaces s → (pending s.history).buffer ≡ Some b → is_used b.number new ≡ true
waits-used old new keeps s b there has_it =
    let it = map-in waiting new.surfaces (waiting s) (subst (λ (ws : List (ℕ × Option Buffer)). Contains ws (waiting s)) (sym keeps) (in-map waiting old.surfaces s there)) in
    in-any (λ (x : Surface). has b.number x.history) new.surfaces it.0 it.1 (has-pending it.0 (ap (λ (w : ℕ × Option Buffer). w.1) it.2 ∙ has_it))
  where
    has-pending : (t : Surface) → (pending t.history).buffer ≡ Some b → has b.number t.history ≡ true
    has-pending t e = ap (λ o. names b.number o || shows b.number t.history) e ∙ ap (λ c. c || shows b.number t.history) (eq-eqb b.number b.number refl)

-- ---- stores that go

pub tree-lets-go : (r then : Resident) (freed : List ℕ) (shown : List Buffer) → HasOneBuffer r → AreFreedOf freed shown r.owned.surfaces then.owned.surfaces
    → KeepsWaiting r.owned.surfaces then.owned.surfaces → letting_go (freed_of freed shown) then ≡ after_all r then
tree-lets-go r then freed shown one are keeps =
    ap (λ bs. letting_go bs then) (sym (append-nil (freed_of freed shown)))
    ∙ sym (lets-go-freed r then freed shown (are-one r one) are None (λ b e. absurd (cc)) (λ s b there has_it. inl (waits-used r.owned.surfaces then.owned.surfaces keeps s b there has_it)))

-- a client that lives after the releases lived before them
pub lived : (mid new : ClientView) → (is_some mid.ended ≡ true → new ≡ mid) → new.ended ≡ None → mid.ended ≡ None
lived mid new over alive = at mid.ended refl
  where
    at : (o : Option Cause) → mid.ended ≡ o → mid.ended ≡ None
    at None e = e
    at (Some cause) e = sym (ap (λ (w : ClientView). w.ended) (over (ap (λ (o : Option Cause). is_some o) e))) ∙ alive

-- ---- a surface goes

in-left : {X : Type 0} (p : X → Bool) (xs : List X) (x : X) → Contains xs x → p x ≡ true → Contains (filter p xs) x
in-left p [] x c passes = let none : c.0 < 0 = c.1 in absurd (omega arith)
in-left {X} p (z ∷ xs) x c passes = at c.0 c.1 c.2 (λ inner. in-left p xs x inner passes)
  where
    kept : (b : Bool) → b ≡ true → Contains (cond b (z ∷ filter p xs) (filter p xs)) z
    kept true e = first-in z (filter p xs)
    kept false e = absurd (true≢false (sym e))

    more : (b : Bool) → Contains (filter p xs) x → Contains (cond b (z ∷ filter p xs) (filter p xs)) x
    more true c = later-in z (filter p xs) x c
    more false c = c

    at : (k : ℕ) → k < suc (length xs) → slice_index_or (z ∷ xs) k x ≡ x → (Contains xs x → Contains (filter p xs) x) → Contains (cond (p z) (z ∷ filter p xs) (filter p xs)) x
    at zero less here rest = subst (λ (y : X). Contains (cond (p z) (z ∷ filter p xs) (filter p xs)) y) here (kept (p z) (ap p here ∙ passes))
    at (suc k) less here rest = more (p z) (rest (k, omega (arith, less), here))

-- of those that are apart the one of an id is found
one-found : (id : ℕ) (ss : List Surface) (s : Surface) → AreApartBy has_id ss → Contains ss s → (s.id == id) ≡ true → find (has_id id) ss ≡ Some s
one-found id [] s apart c is = let none : c.0 < 0 = c.1 in absurd (omega arith)
one-found id (z ∷ ss) s apart c is = at c.0 c.1 c.2 (λ inner. one-found id ss s apart.1 inner is)
  where
    at : (k : ℕ) → k < suc (length ss) → slice_index_or (z ∷ ss) k s ≡ s → (Contains ss s → find (has_id id) ss ≡ Some s) → cond (z.id == id) (Some z) (find (has_id id) ss) ≡ Some s
    at zero less here rest = ap (λ (b : Bool). cond b (Some z) (find (has_id id) ss)) (ap (λ (y : Surface). y.id == id) here ∙ is) ∙ ap Some here
    at (suc k) less here rest = by (z.id == id) refl (rest (k, omega (arith, less), here))
      where
        by : (b : Bool) → (z.id == id) ≡ b → find (has_id id) ss ≡ Some s → cond b (Some z) (find (has_id id) ss) ≡ Some s
        by true first found = absurd (none-some s (sym (apart.0 id first) ∙ found))
        by false first found = found

pub destroy-lets-go : (r then : Resident) (left : Surfaces) (id : ℕ) (s : Surface) (freed : List ℕ) (shown : List Buffer) → HasOneBuffer r → AreApartBy has_id r.owned.surfaces.surfaces
    → surface_at id r.owned.surfaces ≡ Some s → AreFreedOf freed shown r.owned.surfaces then.owned.surfaces → KeepsWaiting r.owned.surfaces left → then.owned.surfaces ≡ without_surface id left
    → letting_go (freed_of freed shown ++ listed (pending s.history).buffer) then ≡ after_all r then
destroy-lets-go r then left id s freed shown one apart found are keeps is =
    sym (lets-go-freed r then freed shown (are-one r one) are (pending s.history).buffer had waits)
  where
    had : (b : Buffer) → (pending s.history).buffer ≡ Some b → Contains (had_in r.owned.surfaces) b
    had b e =
        in-flat (λ (t : Surface). buffers_of t.history) r.owned.surfaces.surfaces s b (found-in (has_id id) r.owned.surfaces.surfaces s found)
        (left-in (listed (pending s.history).buffer ++ listed (held s.history).buffer) (listed (applied s.history).buffer) b
        (left-in (listed (pending s.history).buffer) (listed (held s.history).buffer) b
        (subst (λ (o : Option Buffer). Contains (listed o) b) (sym e) (first-in b []))))

    waits : (t : Surface) (b : Buffer) → Contains r.owned.surfaces.surfaces t → (pending t.history).buffer ≡ Some b
        → (is_used b.number then.owned.surfaces ≡ true) ⊎ (has_number b.number (listed (pending s.history).buffer) ≡ true)
    waits t b there e = at (t.id == id) refl
      where
        at : (c : Bool) → (t.id == id) ≡ c → (is_used b.number then.owned.surfaces ≡ true) ⊎ (has_number b.number (listed (pending s.history).buffer) ≡ true)
        at true same =
            let it : s ≡ t = same_Some s t (sym found ∙ one-found id r.owned.surfaces.surfaces t apart there same) in
            inr (ap (λ (o : Option Buffer). has_number b.number (listed o)) (ap (λ (x : Surface). (pending x.history).buffer) it ∙ e)
            ∙ ap (λ c. c || false) (eq-eqb b.number b.number refl))
        at false other =
            let it = map-in waiting left.surfaces (waiting t) (subst (λ (ws : List (ℕ × Option Buffer)). Contains ws (waiting t)) (sym keeps) (in-map waiting r.owned.surfaces.surfaces t there)) in
            let away = ap (λ (w : ℕ × Option Buffer). not (w.0 == id)) it.2 ∙ ap not other in
            inl (ap (λ (x : Surfaces). is_used b.number x) is
            ∙ in-any (λ (x : Surface). has b.number x.history) (filter (λ x. not (x.id == id)) left.surfaces) it.0
            (in-left (λ (x : Surface). not (x.id == id)) left.surfaces it.0 it.1 away)
            (ap (λ o. names b.number o || shows b.number it.0.history) (ap (λ (w : ℕ × Option Buffer). w.1) it.2 ∙ e)
            ∙ ap (λ c. c || shows b.number it.0.history) (eq-eqb b.number b.number refl)))

-- ---- a buffer more is looked at, whose store goes with the others

pub turned : (m n : ℕ) → (m == n) ≡ (n == m)
turned m n = truth (m == n) (n == m) (λ e. eq-eqb n m (sym (eqb-true m n e))) (λ e. eq-eqb m n (sym (eqb-true n m e)))

without-last : (x b : Buffer) (h : Bool) → without_buffer x.number (cond h [] (b ∷ [])) ≡ cond ((x.number == b.number) || h) [] (b ∷ [])
without-last x b true = at (x.number == b.number)
  where
    at : (c : Bool) → [] ≡ cond (c || true) [] (b ∷ [])
    at true = refl
    at false = refl
without-last x b false = ap (λ c. cond (not c) (b ∷ []) []) (turned b.number x.number) ∙ at (x.number == b.number)
  where
    at : (c : Bool) → cond (not c) (b ∷ []) [] ≡ cond (c || false) [] (b ∷ [])
    at true = refl
    at false = refl

each-last : (bs : List Buffer) (b : Buffer) → each_once (bs ++ b ∷ []) ≡ each_once bs ++ cond (has_number b.number bs) [] (b ∷ [])
each-last [] b = refl
each-last (x ∷ xs) b =
    ap (λ ys. x ∷ without_buffer x.number ys) (each-last xs b)
    ∙ ap (λ ys. x ∷ ys)
    (filter-append (λ (y : Buffer). not (y.number == x.number)) (each_once xs) (cond (has_number b.number xs) [] (b ∷ []))
    ∙ ap (λ ys. without_buffer x.number (each_once xs) ++ ys) (without-last x b (has_number b.number xs)))

pub goes-too : (r : Resident) (bs : List Buffer) (extra : Option Buffer) (went : Bool) → ((b : Buffer) → extra ≡ Some b → went ≡ has_number b.number bs)
    → let_if (is_over r) went extra (letting_go bs r).peer.stores ≡ (letting_go (bs ++ listed extra) r).peer.stores
goes-too r bs None went same = ap (λ (ys : List Buffer). (letting_go ys r).peer.stores) (sym (append-nil bs))
goes-too r bs (Some b) went same =
    ap (λ w. let_if (is_over r) w (Some b) (letting_go bs r).peer.stores) (same b refl)
    ∙ at (has_number b.number bs)
    ∙ ap (λ (ys : List Buffer). fold (λ (stores : Stock) (x : Buffer). released x.store stores) r.peer.stores (filter (is_over r) ys)) (sym (each-last bs b))
  where
    at : (h : Bool) → let_if (is_over r) h (Some b) (letting_go bs r).peer.stores
        ≡ fold (λ (stores : Stock) (x : Buffer). released x.store stores) r.peer.stores (filter (is_over r) (each_once bs ++ cond h [] (b ∷ [])))
    at true = ap (λ (ys : List Buffer). fold (λ (stores : Stock) (x : Buffer). released x.store stores) r.peer.stores (filter (is_over r) ys)) (sym (append-nil (each_once bs)))
    at false = going-last (is_over r) (each_once bs) (Some b) r.peer.stores

-- whether it is one of those that are freed
pub is-freed : (freed : List ℕ) (shown : List Buffer) (old new : Surfaces) (b : Buffer) → AreFreedOf freed shown old new
    → list_any (λ n. n == b.number) freed ≡ has_number b.number (freed_of freed shown)
is-freed freed shown old new b are =
    truth _ _ (λ any. freed-has freed shown b.number any (are.among b.number any))
    (λ any.
    let it = any-in (λ (x : Buffer). x.number == b.number) (freed_of freed shown) any in
    ap (λ m. list_any (λ n. n == m) freed) (sym (eqb-true it.item.number b.number it.passes)) ∙ (freed-in freed shown it.item it.within).1)

-- the pending buffer is the first of those that a surface has
pub pending-had : (had : List (Option Attached)) (x : Option Attached) (s : Surface) → x ≡ slice_index_or had 0 x → map (option_map buffer_of) had ≡ had_at (Some s)
    → option_map buffer_of x ≡ (pending s.history).buffer
pending-had [] x s is same = absurd (cc)
pending-had (y ∷ ys) x s is same = ap (option_map buffer_of) is ∙ (let first : option_map buffer_of y ≡ (pending s.history).buffer = cc in first)

-- ---- where no surface changes

each-at : {X : Type 0} (P : X → Type 0) (xs : List X) (x : X) → Each P xs → Contains xs x → P x
each-at P [] x each c = let none : c.0 < 0 = c.1 in absurd (omega arith)
each-at {X} P (z ∷ xs) x each c = at c.0 c.1 c.2 (λ inner. each-at P xs x each.1 inner)
  where
    at : (k : ℕ) → k < suc (length xs) → slice_index_or (z ∷ xs) k x ≡ x → (Contains xs x → P x) → P x
    at zero less here rest = subst P here each.0
    at (suc k) less here rest = rest (k, omega (arith, less), here)

-- no store goes
pub nothing-goes : (r then : Resident) → then.owned.surfaces ≡ r.owned.surfaces → after_all r then ≡ then
nothing-goes r then same = letting-none (had_in r.owned.surfaces) then (each-in (λ b. is_over then b ≡ false) (had_in r.owned.surfaces) stays)
  where
    stays : (b : Buffer) → Contains (had_in r.owned.surfaces) b → is_over then b ≡ false
    stays b c =
        let it = flat-in (λ (s : Surface). buffers_of s.history) r.owned.surfaces.surfaces b c in
        used-stays then b
        (ap (λ (x : Surfaces). is_used b.number x) same
        ∙ in-any (λ (s : Surface). has b.number s.history) r.owned.surfaces.surfaces it.0 it.1
        (each-at (λ (x : Buffer). has x.number it.0.history ≡ true) (buffers_of it.0.history) b (had-each it.0.history) it.2))

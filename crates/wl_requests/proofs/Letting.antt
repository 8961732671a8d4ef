-- Buffers that are freed, one after another: they are found, their stores go, and they are released.
use Rattle.std.proofs.Common.{◌≡◌, ◌<◌, ◌≤◌, ℕ, ◌+◌, zero, suc, map, take, drop, get_or, length, List, [], ◌∷◌, ◌++◌, Bool, true, false, Option, Some, None, cond, refl, ap}
use Rattle.std.proofs.Common.{subst, sym, ◌∙◌, arith, slice_index_or}
use Rattle.std.specs.Prelude.{◌==◌, ◌||◌, not, filter, find, fold, is_some}
use Rattle.std.specs.List.{list_any}
use Rattle.std.proofs.lemmas.Bool.{eqb-true, or_parts, true≢false}
use Rattle.std.proofs.lemmas.List.{drop_all}
use Rattle.std.proofs.lemmas.List.Folds.{list_any-append}
use Rattle.wl_client.proofs.Queueing.{over-now, queues-over, queues-then}
use Rattle.std.proofs.Math.Seq.{drop-cons, take-suc}
use Rattle.wl_surface.specs.Tree.{AreOnce, is_among as among}
use Rattle.law_desktop.specs.Freed.{freed_of}
use Rattle.spec_desktop.specs.Peer.{Peer, Queues, released}
use Rattle.spec_desktop.specs.Told.{Said}
use Rattle.spec_desktop.specs.declared.cause.Cause.{Cause}
use Rattle.spec_desktop.specs.Desktop.{Resident}
use Rattle.spec_desktop.specs.Releases.{let_if}
use Rattle.spec_desktop.specs.Step.{each_once, is_over, letting_go, with_peer, without_buffer}
use Rattle.wl_surface.specs.Kept.{buffer_of}
use Rattle.wl_surface.specs.Request.{Buffer}
use Rattle.wl_surface.specs.Surface.{listed}
use Rattle.wl_surface.specs.declared.content.Attached.{Attached}
use Rattle.wl_store.specs.Stores.{Stock}

-- ---- a buffer is found

abbrev pub has : ℕ → Buffer → Bool
has number b = b.number == number

find-next : (shown : List Attached) (number i : ℕ) (a : Attached) → i < length shown → a ≡ slice_index_or shown i a → (a.number == number) ≡ false
    → find (has number) (take i (map buffer_of shown)) ≡ None → find (has number) (take (suc i) (map buffer_of shown)) ≡ None
find-next [] number i a less is other none = refl
find-next (x ∷ xs) number zero a less is other none =
    ap (λ (b : Bool). cond b (Some (buffer_of x)) None) (ap (λ (y : Attached). y.number == number) (sym is) ∙ other)
find-next (x ∷ xs) number (suc i) a less is other none = at (x.number == number) none (find-next xs number i a (omega (arith, less)) is other)
  where
    at : (b : Bool) → cond b (Some (buffer_of x)) (find (has number) (take i (map buffer_of xs))) ≡ None
        → (find (has number) (take i (map buffer_of xs)) ≡ None → find (has number) (take (suc i) (map buffer_of xs)) ≡ None)
        → cond b (Some (buffer_of x)) (find (has number) (take (suc i) (map buffer_of xs))) ≡ None
    at true none rest = absurd (cc)
    at false none rest = rest none

-- the one at this place is another
pub find-past : (shown : List Attached) (number i : ℕ) (a : Attached) → i < length shown → a ≡ slice_index_or shown i a → (a.number == number) ≡ false
    → find (has number) (take i (map buffer_of shown)) ≡ None → find (has number) (take (i + 1) (map buffer_of shown)) ≡ None
find-past shown number i a less is other none =
    let e : i + 1 ≡ suc i = omega arith in
    ap (λ k. find (has number) (take k (map buffer_of shown))) e ∙ find-next shown number i a less is other none

-- or it is the first that has the number
pub find-here : (shown : List Attached) (number i : ℕ) (a : Attached) → i < length shown → a ≡ slice_index_or shown i a → (a.number == number) ≡ true
    → find (has number) (take i (map buffer_of shown)) ≡ None → find (has number) (map buffer_of shown) ≡ Some (buffer_of a)
find-here [] number i a less is here none = absurd (omega (arith, less))
find-here (x ∷ xs) number zero a less is here none =
    ap (λ (b : Bool). cond b (Some (buffer_of x)) (find (has number) (map buffer_of xs))) (ap (λ (y : Attached). y.number == number) (sym is) ∙ here)
    ∙ ap (λ (y : Attached). Some (buffer_of y)) (sym is)
find-here (x ∷ xs) number (suc i) a less is here none = at (x.number == number) none (find-here xs number i a (omega (arith, less)) is here)
  where
    at : (b : Bool) → cond b (Some (buffer_of x)) (find (has number) (take i (map buffer_of xs))) ≡ None
        → (find (has number) (take i (map buffer_of xs)) ≡ None → find (has number) (map buffer_of xs) ≡ Some (buffer_of a))
        → cond b (Some (buffer_of x)) (find (has number) (map buffer_of xs)) ≡ Some (buffer_of a)
    at true none rest = absurd (cc)
    at false none rest = rest none

-- ---- those that are freed

freed-last : (numbers : List ℕ) (number : ℕ) (shown : List Buffer) → freed_of (numbers ++ number ∷ []) shown ≡ freed_of numbers shown ++ listed (find (has number) shown)
freed-last [] number shown = all (listed (find (has number) shown))
  where
    all : (bs : List Buffer) → bs ++ [] ≡ bs
    all [] = refl
    all (b ∷ bs) = ap (λ cs. b ∷ cs) (all bs)
freed-last (n ∷ ns) number shown =
    ap (λ bs. listed (find (has n) shown) ++ bs) (freed-last ns number shown) ∙ apart (listed (find (has n) shown)) (freed_of ns shown) (listed (find (has number) shown))
  where
    apart : (xs ys zs : List Buffer) → xs ++ (ys ++ zs) ≡ (xs ++ ys) ++ zs
    apart [] ys zs = refl
    apart (x ∷ xs) ys zs = ap (λ bs. x ∷ bs) (apart xs ys zs)

-- one number more
pub freed-more : (numbers : List ℕ) (i d : ℕ) (shown : List Buffer) → i < length numbers
    → freed_of (take (i + 1) numbers) shown ≡ freed_of (take i numbers) shown ++ listed (find (has (slice_index_or numbers i d)) shown)
freed-more numbers i d shown less =
    let e : i + 1 ≡ suc i = omega arith in
    ap (λ k. freed_of (take k numbers) shown) e ∙ ap (λ ns. freed_of ns shown) (take-suc numbers i d less) ∙ freed-last (take i numbers) (slice_index_or numbers i d) shown

-- ---- each of them once

found-number : (number : ℕ) (shown : List Buffer) (b : Buffer) → find (has number) shown ≡ Some b → b.number ≡ number
found-number number [] b e = absurd (cc)
found-number number (x ∷ xs) b e = at (x.number == number) refl e (found-number number xs b)
  where
    at : (same : Bool) → (x.number == number) ≡ same → cond same (Some x) (find (has number) xs) ≡ Some b → (find (has number) xs ≡ Some b → b.number ≡ number) → b.number ≡ number
    at true here e rest = let same : x ≡ b = cc in ap (λ (c : Buffer). c.number) (sym same) ∙ eqb-true x.number number here
    at false here e rest = rest e

without-apart : (number : ℕ) (xs ys : List Buffer) → without_buffer number xs ≡ xs → without_buffer number ys ≡ ys → without_buffer number (xs ++ ys) ≡ xs ++ ys
without-apart number [] ys first second = second
without-apart number (x ∷ xs) ys first second = at (x.number == number) first (without-apart number xs ys)
  where
    shorter : (zs : List Buffer) → length (without_buffer number zs) < suc (length zs)
    shorter [] = omega arith
    shorter (z ∷ zs) = by (z.number == number) (shorter zs)
      where
        by : (b : Bool) → length (without_buffer number zs) < suc (length zs) → length (cond (not b) (z ∷ without_buffer number zs) (without_buffer number zs)) < suc (suc (length zs))
        by true less = omega (arith, less)
        by false less = omega (arith, less)

    at : (b : Bool) → cond (not b) (x ∷ without_buffer number xs) (without_buffer number xs) ≡ x ∷ xs
        → (without_buffer number xs ≡ xs → without_buffer number ys ≡ ys → without_buffer number (xs ++ ys) ≡ xs ++ ys)
        → cond (not b) (x ∷ without_buffer number (xs ++ ys)) (without_buffer number (xs ++ ys)) ≡ x ∷ (xs ++ ys)
    at true first rest =
        let few = shorter xs in
        let same : length (without_buffer number xs) ≡ suc (length xs) = ap length first in absurd (omega (arith, few, same))
    at false first rest = ap (λ bs. x ∷ bs) (rest (let same : without_buffer number xs ≡ xs = cc in same) second)

freed-without : (number : ℕ) (numbers : List ℕ) (shown : List Buffer) → among numbers number ≡ false → without_buffer number (freed_of numbers shown) ≡ freed_of numbers shown
freed-without number [] shown none = refl
freed-without number (n ∷ ns) shown none =
    let apart = or_parts (n == number) (among ns number) none in
    without-apart number (listed (find (has n) shown)) (freed_of ns shown) (at (find (has n) shown) refl apart.0) (freed-without number ns shown apart.1)
  where
    at : (o : Option Buffer) → find (has n) shown ≡ o → (n == number) ≡ false → without_buffer number (listed o) ≡ listed o
    at None is away = refl
    at (Some b) is away = ap (λ (c : Bool). cond (not c) (b ∷ []) []) (ap (λ m. m == number) (found-number n shown b is) ∙ away)

freed-once : (numbers : List ℕ) (shown : List Buffer) → AreOnce numbers → each_once (freed_of numbers shown) ≡ freed_of numbers shown
freed-once [] shown once = refl
freed-once (n ∷ ns) shown once = at (find (has n) shown) refl (freed-once ns shown once.1)
  where
    at : (o : Option Buffer) → find (has n) shown ≡ o → each_once (freed_of ns shown) ≡ freed_of ns shown → each_once (listed o ++ freed_of ns shown) ≡ listed o ++ freed_of ns shown
    at None is rest = rest
    at (Some b) is rest =
        ap (λ bs. b ∷ without_buffer b.number bs) rest
        ∙ ap (λ m. b ∷ without_buffer m (freed_of ns shown)) (found-number n shown b is)
        ∙ ap (λ bs. b ∷ bs) (freed-without n ns shown once.0)

-- ---- their stores go

abbrev go : Stock → List Buffer → Stock
go s bs = fold (λ (stores : Stock) (b : Buffer). released b.store stores) s bs

abbrev going : (Buffer → Bool) → List Buffer → Stock → Stock
going over bs s = go s (filter over bs)

pub going-last : (over : Buffer → Bool) (bs : List Buffer) (o : Option Buffer) (s : Stock) → let_if over false o (going over bs s) ≡ going over (bs ++ listed o) s
going-last over [] None s = refl
going-last over [] (Some b) s = at (over b)
  where
    at : (c : Bool) → cond c (released b.store s) s ≡ fold (λ (stores : Stock) (x : Buffer). released x.store stores) s (cond c (b ∷ []) [])
    at true = refl
    at false = refl
going-last over (x ∷ xs) o s = at (over x) (λ stores. going-last over xs o stores)
  where
    at : (c : Bool) → ((stores : Stock) → let_if over false o (go stores (filter over xs)) ≡ go stores (filter over (xs ++ listed o)))
        → let_if over false o (go s (cond c (x ∷ filter over xs) (filter over xs))) ≡ go s (cond c (x ∷ filter over (xs ++ listed o)) (filter over (xs ++ listed o)))
    at true rest = rest (released x.store s)
    at false rest = rest s

-- the client once the stores of these have gone that are over
abbrev pub gone_of : List Buffer → Resident → Resident
gone_of bs r = with_peer (record r.peer { stores = fold (λ (stores : Stock) (b : Buffer). released b.store stores) r.peer.stores (filter (is_over r) bs) }) r

-- one more
pub gone-more : (numbers : List ℕ) (i d : ℕ) (shown : List Buffer) (found : Option Buffer) (r : Resident) → i < length numbers → found ≡ find (has (slice_index_or numbers i d)) shown
    → let_if (is_over r) false found (gone_of (freed_of (take i numbers) shown) r).peer.stores ≡ (gone_of (freed_of (take (i + 1) numbers) shown) r).peer.stores
gone-more numbers i d shown found r less is =
    ap (λ (o : Option Buffer). let_if (is_over r) false o (going (is_over r) (freed_of (take i numbers) shown) r.peer.stores)) is
    ∙ going-last (is_over r) (freed_of (take i numbers) shown) (find (has (slice_index_or numbers i d)) shown) r.peer.stores
    ∙ ap (λ (bs : List Buffer). going (is_over r) bs r.peer.stores) (sym (freed-more numbers i d shown less))

-- all of them
pub gone-all : (numbers : List ℕ) (shown : List Buffer) (r : Resident) → AreOnce numbers → gone_of (freed_of numbers shown) r ≡ letting_go (freed_of numbers shown) r
gone-all numbers shown r once = ap (λ (bs : List Buffer). gone_of bs r) (sym (freed-once numbers shown once))

-- ---- they are released

pub any-more : (p : Buffer → Bool) (numbers : List ℕ) (i d : ℕ) (shown : List Buffer) (found : Option Buffer) → i < length numbers → found ≡ find (has (slice_index_or numbers i d)) shown
    → (list_any p (listed found) || list_any p (freed_of (take i numbers) shown)) ≡ list_any p (freed_of (take (i + 1) numbers) shown)
any-more p numbers i d shown found less is =
    ap (λ (o : Option Buffer). list_any p (listed o) || list_any p (freed_of (take i numbers) shown)) is
    ∙ turned (list_any p (listed (find (has (slice_index_or numbers i d)) shown))) (list_any p (freed_of (take i numbers) shown))
    ∙ sym (list_any-append p (freed_of (take i numbers) shown) (listed (find (has (slice_index_or numbers i d)) shown)))
    ∙ ap (list_any p) (sym (freed-more numbers i d shown less))
  where
    turned : (a b : Bool) → (a || b) ≡ (b || a)
    turned true true = refl
    turned true false = refl
    turned false true = refl
    turned false false = refl

-- ---- and they are told

-- A client was told of all but these: if it lives, what is told of these follows, and if it ended, none of these matters.
pub record IsToldSo (all left : List Said) (p mid : Peer) : Type 0 where
  pub alive : mid.status ≡ None → (q : Peer) → Queues left mid q → Queues all p q
  pub over : is_some mid.status ≡ true → Queues all p mid

pub none-told : (all : List Said) (p : Peer) → p.status ≡ None → IsToldSo all all p p
none-told all p lives = record { alive = λ alive q h. h; over = λ over. over-now p.status lives over }

-- one more
pub next-told : (f : ℕ → Said) (ids : List ℕ) (i : ℕ) (all : List Said) (p mid q : Peer) (event : Said) → i < length ids → event ≡ f (get_or ids i 0) → mid.status ≡ None
    → Queues (event ∷ []) mid q → IsToldSo all (map f (drop i ids)) p mid → IsToldSo all (map f (drop (i + 1) ids)) p q
next-told f ids i all p mid q event less is lives told so =
    let e : i + 1 ≡ suc i = omega arith in
    let rest : event ∷ map f (drop (i + 1) ids) ≡ map f (drop i ids) =
    ap (λ x. x ∷ map f (drop (i + 1) ids)) is ∙ ap (λ k. f (get_or ids i 0) ∷ map f (drop k ids)) e ∙ sym (ap (map f) (drop-cons ids i 0 less)) in
    record {
      alive = λ alive last h.
          so.alive lives last (subst (λ (es : List Said). Queues es mid last) rest (queues-then (event ∷ []) (map f (drop (i + 1) ids)) mid q last told alive h));
      over = λ over. so.alive lives q (subst (λ (es : List Said). Queues es mid q) rest (queues-over (event ∷ []) (map f (drop (i + 1) ids)) mid q lives told over));
    }

-- all of them
pub all-told : (f : ℕ → Said) (ids : List ℕ) (i : ℕ) (all : List Said) (p mid : Peer) → length ids ≤ i → IsToldSo all (map f (drop i ids)) p mid → Queues all p mid
all-told f ids i all p mid past so = at mid.status refl
  where
    at : (status : Option Cause) → mid.status ≡ status → Queues all p mid
    at None is = so.alive is mid (subst (λ (es : List ℕ). Queues (map f es) mid mid) (sym (drop_all i ids past)) refl)
    at (Some cause) is = so.over (ap is_some is)

pub lives-of : (o : Option Cause) → is_some o ≡ false → o ≡ None
lives-of None e = refl
lives-of (Some cause) e = absurd (true≢false e)

-- Stores as they are kept, against what is seen of them.
use Rattle.std.proofs.Common.{◌≡◌, ℕ, zero, suc, ◌+◌, ◌-◌, ◌<◌, ◌≤◌, Bool, true, false, cond, eqb, not, List, [], ◌∷◌, ◌++◌, Option, Some, None, length, get_or, set, map, take, drop, replicate, inl, inr, arith}
use Rattle.std.proofs.Common.{refl, ap, subst, sym, ◌∙◌}
use Rattle.std.specs.List.{find, position, position_or_len, remove}
use Rattle.std.specs.Option.{option_map}
use Rattle.std.proofs.lemmas.Bool.{cases_eq}
use Rattle.std.proofs.lemmas.List.{drop-map, get_or-map, get_or_default, get_or-set_other, get_or-set_same, length-map, length-set, map-append, map-set, map_push, set-get_or, take-map, take_at}
use Rattle.std.proofs.lemmas.List.Elements.{All-append, All-drop, All-head, All-push, All-set, All-tail, All-take, All-weaker}
use Rattle.wl_store.specs.Kept.{IsKept, IsNoneBlankBeside, Kept, Lends, grown, seen, zeros_lent}
use Rattle.wl_store.specs.Stores.{Held, IsSound}

pub within-seen : (stores : List Kept) (place : ℕ) → place < length (seen stores) → place < length stores
within-seen stores place h = omega (arith, length-map stores (λ (k : Kept). k.held))

-- what is seen of a store that was read
pub seen-read : (stores : List Kept) (place : ℕ) (s : Kept) → place < length (seen stores) → s ≡ get_or stores place s → s.held ≡ get_or (seen stores) place s.held
seen-read stores place s h e = ap (λ (k : Kept). k.held) e ∙ sym (get_or-map (λ (k : Kept). k.held) stores place s s.held (within-seen stores place h))

pub seen-set : (stores : List Kept) (place : ℕ) (s : Kept) → seen (set stores place s) ≡ set (seen stores) place s.held
seen-set stores place s = map-set (λ (k : Kept). k.held) stores place s

pub seen-remove : (stores : List Kept) (place : ℕ) → seen (remove stores place) ≡ remove (seen stores) place
seen-remove stores place = simp (map-append, take-map, drop-map)

pub seen_push : (stores : List Kept) (s : Kept) → seen (stores ++ s ∷ []) ≡ seen stores ++ s.held ∷ []
seen_push stores s = map_push (λ (k : Kept). k.held) stores s

-- a store is put in the place of one of which the same is seen
pub seen-same : (stores : List Kept) (place : ℕ) (d new : Kept) → new.held ≡ (get_or stores place d).held → seen (set stores place new) ≡ seen stores
seen-same stores place d new h =
    seen-set stores place new ∙ ap (set (seen stores) place) h ∙ sym (seen-set stores place (get_or stores place d)) ∙ ap seen (set-get_or stores place d)

-- The first store that passes a test is found by what is seen of it.
pub find-seen : (test : Held → Bool) (stores : List Kept) → find test (seen stores) ≡ option_map (λ k. k.held) (find (λ k. test k.held) stores)
find-seen test [] = refl
find-seen test (s ∷ ss) =
    elim (test s.held)
    as (λ b. cond b (Some s.held) (find test (seen ss)) ≡ option_map (λ k. k.held) (cond b (Some s) (find (λ k. test k.held) ss)))
    [ true ↦ refl | false ↦ find-seen test ss ]

-- so is its place
position_or_len-seen : (number : ℕ) (stores : List Kept) → position_or_len (λ s. eqb s.number number) (seen stores) ≡ position_or_len (λ k. eqb k.held.number number) stores
position_or_len-seen number [] = refl
position_or_len-seen number (s ∷ ss) = rw (position_or_len-seen number ss)

pub position-seen : (number : ℕ) (stores : List Kept) → position (λ k. eqb k.held.number number) stores ≡ position (λ s. eqb s.number number) (seen stores)
position-seen number stores = rw (position_or_len-seen number stores, length-map stores (λ (k : Kept). k.held))

-- A store that is found lends no more zeros than there are.
lends-test : (b : Bool) (many : ℕ) (s t : Kept) (rest : Option Kept) → zeros_lent s ≤ many → (rest ≡ Some t → zeros_lent t ≤ many) → cond b (Some s) rest ≡ Some t → zeros_lent t ≤ many
lends-test true many s t rest h k e = let same : s ≡ t = cc in subst (λ (u : Kept). zeros_lent u ≤ many) same h
lends-test false many s t rest h k e = k e

pub lends-found : (many : ℕ) (test : Kept → Bool) (stores : List Kept) (s : Kept) → Lends many stores → find test stores ≡ Some s → zeros_lent s ≤ many
lends-found many test [] s h e = cc
lends-found many test (t ∷ ts) s h e =
    lends-test (test t) many t s (find test ts) (All-head (λ k. zeros_lent k ≤ many) t ts h) (lends-found many test ts s (All-tail (λ k. zeros_lent k ≤ many) t ts h)) e

lends-read : (many place : ℕ) (stores : List Kept) (s : Kept) → Lends many stores → place < length stores → s ≡ get_or stores place s → zeros_lent s ≤ many
lends-read many place stores s h w e = subst (λ (k : Kept). zeros_lent k ≤ many) (sym e) (h place s w)

-- More zeros do no harm.
pub lends-more : (many more : ℕ) (stores : List Kept) → many ≤ more → Lends many stores → Lends more stores
lends-more many more stores h k = All-weaker (λ u. zeros_lent u ≤ many) (λ u. zeros_lent u ≤ more) (λ u l. omega arith) stores k

pub lends-remove : (many place : ℕ) (stores : List Kept) → Lends many stores → Lends many (remove stores place)
lends-remove many place stores h =
    let P : Kept → Type 0 = λ u. zeros_lent u ≤ many in
    All-append P (take place stores) (drop (suc place) stores) (All-take P place stores h) (All-drop P (suc place) stores h)

-- what a store lends, by what is known of it
lent-none : (s : Kept) (many : ℕ) → s.blank ≡ false → zeros_lent s ≤ many
lent-none s many e = rw e (omega arith)

lent-within : (b : Bool) (n many : ℕ) → n ≤ many → cond b n 0 ≤ many
lent-within true n many h = h
lent-within false n many h = omega arith

pub lends-whole : (many place : ℕ) (stores : List Kept) (s : Kept) → Lends many stores → length s.held.bytes ≤ many → Lends many (set stores place s)
lends-whole many place stores s h k = All-set (λ u. zeros_lent u ≤ many) stores place s (lent-within s.blank (length s.held.bytes) many k) h

pub lends_push : (many : ℕ) (stores : List Kept) (s : Kept) → Lends many stores → length s.held.bytes ≤ many → Lends many (stores ++ s ∷ [])
lends_push many stores s h k = All-push (λ u. zeros_lent u ≤ many) stores s h (lent-within s.blank (length s.held.bytes) many k)

pub lends-none : (many place : ℕ) (stores : List Kept) (s : Kept) → Lends many stores → s.blank ≡ false → Lends many (set stores place s)
lends-none many place stores s h e = All-set (λ u. zeros_lent u ≤ many) stores place s (lent-none s many e) h

pub lends-same : (many place : ℕ) (stores : List Kept) (old new : Kept) → Lends many stores → place < length stores → old ≡ get_or stores place old → new.blank ≡ old.blank
    → length new.held.bytes ≡ length old.held.bytes
    → Lends many (set stores place new)
lends-same many place stores old new h w e b l =
    let lent : zeros_lent new ≡ zeros_lent old = rw (b, l) in
    All-set (λ u. zeros_lent u ≤ many) stores place new (omega (arith, lent, lends-read many place stores old h w e)) h

-- Any zeros do if only the store at the place was blank, and it is filled.
pub lends-alone : (many place : ℕ) (stores : List Kept) (s : Kept) → IsNoneBlankBeside place stores → s.blank ≡ false → Lends many (set stores place s)
lends-alone many place stores s h e = λ k d w.
    let within : k < length stores = omega (arith, length-set stores place s) in
    elim (cases_eq k place) [
      | inl q ↦ rw (q, get_or-set_same stores place s d (omega (arith, q))) (lent-none s many e)
      | inr q ↦ rw (get_or-set_other stores place k s d q) (lent-none (get_or stores k d) many (h k d within q))
    ]

-- a store is put at a place
pub kept-set : (stores : List Kept) (made total many place : ℕ) (s : Kept) → IsSound (set (seen stores) place s.held) made total → Lends many (set stores place s)
    → IsKept (set stores place s) made total many
kept-set stores made total many place s u l = record { sound = subst (λ (h : List Held). IsSound h made total) (sym (seen-set stores place s)) u; lends = l }

-- a store grows at its place
pub grown-set : (size : ℕ) (stores : List Kept) (place : ℕ) (e new d : Kept) → place < length stores → new.held ≡ grown size (get_or stores place e).held
    → seen (set stores place new) ≡ set (seen stores) place (grown size (get_or stores place d).held)
grown-set size stores place e new d h g =
    let grown_of : Kept → Held = λ k. grown size k.held in
    seen-set stores place new ∙ ap (set (seen stores) place) (g ∙ ap grown_of (get_or_default stores place e d h))

-- the stores that a call left in a Vec of so many
pub left-is : (stores now : List Kept) (held : List Held) (len : ℕ) → len ≡ length stores → seen now ≡ held → length held ≡ length stores → take len (now ++ drop (length now) stores) ≡ now
left-is stores now held len l e h = take_at now (drop (length now) stores) len (omega (arith, length-map now (λ (k : Kept). k.held), ap length e))

pub kept-left : (stores now : List Kept) (held : List Held) (made total many len : ℕ) → len ≡ length stores → seen now ≡ held → length held ≡ length stores → IsSound held made total → Lends many now
    → IsKept (take len (now ++ drop (length now) stores)) made total many
kept-left stores now held made total many len l e h u k =
    let kept : IsKept now made total many = record { sound = subst (λ (hs : List Held). IsSound hs made total) (sym e) u; lends = k } in
    subst (λ (ks : List Kept). IsKept ks made total many) (sym (left-is stores now held len l e h)) kept

pub seen-left : (stores now : List Kept) (held : List Held) (len : ℕ) → len ≡ length stores → seen now ≡ held → length held ≡ length stores → seen (take len (now ++ drop (length now) stores)) ≡ held
seen-left stores now held len l e h = ap seen (left-is stores now held len l e h) ∙ e

-- what is read there; the same is seen of both lists
pub left-read : (stores now : List Kept) (len place : ℕ) (s : Kept) → len ≡ length stores → seen now ≡ seen stores → s ≡ get_or (take len (now ++ drop (length now) stores)) place s → s ≡ get_or now place s
left-read stores now len place s l e r = r ∙ ap (λ (ks : List Kept). get_or ks place s) (left-is stores now (seen stores) len l e (length-map stores (λ (k : Kept). k.held)))

pub seen-left_read : (stores now : List Kept) (place : ℕ) (s : Kept) → seen now ≡ seen stores → place < length (seen stores) → s ≡ get_or now place s → s.held ≡ get_or (seen stores) place s.held
seen-left_read stores now place s e h r = seen-read now place s (omega (arith, ap length e)) r ∙ ap (λ (hs : List Held). get_or hs place s.held) e

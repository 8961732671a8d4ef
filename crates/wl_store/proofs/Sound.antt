-- Calls keep the stores numbered and within the limits.
use Rattle.std.proofs.Common.{◌≡◌, ℕ, zero, suc, ◌+◌, ◌<◌, ◌≤◌, List, [], ◌∷◌, ◌++◌, length, get_or, set, map, cond, not, ◌-◌, eqb, ap, subst, false, None, ◌∙◌, arith}
use Rattle.std.specs.Prelude.{◌||◌}
use Rattle.std.proofs.lemmas.Bool.Decides.{nat_tests}
use Rattle.std.specs.List.{filter, remove}
use Rattle.std.proofs.lemmas.List.{length-replicate, length-set, set-get_or}
use Rattle.std.proofs.Common.{length-append, length-drop, length-take, replicate, take, drop}
use Rattle.std.proofs.lemmas.List.Edits.{length-remove}
use Rattle.std.proofs.lemmas.List.Sums.{sum_by-set, sum_by-remove, sum_by_push}
use Rattle.wl_store.specs.Stores.{Held, IsNumbered, IsPlace, IsSound, Stock, is_full, store_at, total_size}
use Rattle.wl_store.proofs.Places.{fresh, no-store, remove-filter, set-map}

numbered-lower : (low low' made : ℕ) (held : List Held) → low' ≤ low → IsNumbered low made held → IsNumbered low' made held
numbered-lower low low' made [] h n = omega (arith, n)
numbered-lower low low' made (s ∷ ss) h n = (omega (arith, n.0), n.1)

numbered-set : (low made : ℕ) (held : List Held) (place : ℕ) (x d : Held) → IsNumbered low made held → x.number ≡ (get_or held place d).number → IsNumbered low made (set held place x)
numbered-set low made [] place x d n e = n
numbered-set low made (s ∷ ss) zero x d n e = rw e n
numbered-set low made (s ∷ ss) (suc place) x d n e = (n.0, numbered-set s.number made ss place x d n.1 e)

numbered-remove : (low made : ℕ) (held : List Held) (place : ℕ) → IsNumbered low made held → place < length held → IsNumbered low made (remove held place)
numbered-remove low made [] place n h = absurd (omega arith)
numbered-remove low made (s ∷ ss) zero n h = numbered-lower s.number low made ss (omega (arith, n.0)) n.1
numbered-remove low made (s ∷ ss) (suc place) n h = (n.0, numbered-remove s.number made ss place n.1 (omega arith))

numbered_push : (low made : ℕ) (held : List Held) (x : Held) → IsNumbered low made held → x.number ≡ made + 1 → IsNumbered low (made + 1) (held ++ x ∷ [])
numbered_push low made [] x n e = (omega (arith, n, e), omega (arith, e))
numbered_push low made (s ∷ ss) x n e = (n.0, numbered_push s.number made ss x n.1 e)

pub sound-set : (held : List Held) (made total total' place : ℕ) (x d : Held) → IsSound held made total → place < length held → x.number ≡ (get_or held place d).number
    → total' + length (get_or held place d).bytes ≡ total + length x.bytes → total' ≤ 268435456 → IsSound (set held place x) made total'
sound-set held made total total' place x d s h e t small = record {
  numbered = numbered-set 0 made held place x d s.numbered e;
  few = omega (arith, s.few, length-set held place x);
  summed = omega (arith, t, s.summed, sum_by-set (λ u. length u.bytes) held place x d h);
  small = small;
}

pub sound-remove : (held : List Held) (made total total' place : ℕ) (d : Held) → IsSound held made total → place < length held
    → total' + length (get_or held place d).bytes ≡ total → IsSound (remove held place) made total'
sound-remove held made total total' place d s h t = record {
  numbered = numbered-remove 0 made held place s.numbered h;
  few = omega (arith, s.few, length-remove held place h);
  summed = omega (arith, t, s.summed, sum_by-remove (λ u. length u.bytes) held place d h);
  small = omega (arith, s.small, t);
}

pub sound_push : (held : List Held) (made total : ℕ) (x : Held) → IsSound held made total → length held < 64 → x.number ≡ made + 1 → total + length x.bytes ≤ 268435456
    → IsSound (held ++ x ∷ []) (made + 1) (total + length x.bytes)
sound_push held made total x s h e small = record {
  numbered = numbered_push 0 made held x s.numbered e;
  few = omega (arith, h, length-append held (x ∷ []));
  summed = omega (arith, s.summed, sum_by_push (λ u. length u.bytes) held x);
  small = small;
}

-- a store is no larger than all together
pub size-in_total : (held : List Held) (made total place : ℕ) (d : Held) → IsSound held made total → place < length held → length (get_or held place d).bytes ≤ total
size-in_total held made total place d s h = omega (arith, s.summed, sum_by-remove (λ u. length u.bytes) held place d h)

-- a write within a store keeps its size
pub length-written : (bytes more : List ℕ) (at : ℕ) → at + length more ≤ length bytes → length (take at bytes ++ more ++ drop (at + length more) bytes) ≡ length bytes
length-written bytes more at h = simp (length-append, length-take, length-drop) (omega arith)

-- a change of the store at a place, with the total that follows
pub sound-changed : (held : List Held) (made total total' number place : ℕ) (old new : Held) → IsSound held made total → IsPlace held number place → old ≡ get_or held place old
    → new.number ≡ old.number → total' + length old.bytes ≡ total + length new.bytes → total' ≤ 268435456 → IsSound (set held place new) made total'
sound-changed held made total total' number place old new s p o e t small =
    sound-set held made total total' place new old s p.within (e ∙ ap (λ u. u.number) o) (omega (arith, t, ap (λ u. length u.bytes) o)) small

-- a change that keeps the size
pub sound-same : (held : List Held) (made total number place : ℕ) (old new : Held) → IsSound held made total → IsPlace held number place → old ≡ get_or held place old
    → new.number ≡ old.number → length new.bytes ≡ length old.bytes → IsSound (set held place new) made total
sound-same held made total number place old new s p o e l = sound-changed held made total total number place old new s p o e (omega (arith, l)) s.small

-- it changes the store of that number
pub changed-is : (held : List Held) (made total number place : ℕ) (f : Held → Held) (old new : Held) → IsSound held made total → IsPlace held number place → old ≡ get_or held place old
    → new ≡ f old → set held place new ≡ map (λ s. cond (eqb s.number number) (f s) s) held
changed-is held made total number place f old new s p o e = set-map number 0 made f held place new old s.numbered p.within (p.numbered old) (e ∙ ap f o)

-- what was read is written back
pub unchanged : (held : List Held) (place : ℕ) (old new : Held) → old ≡ get_or held place old → new ≡ old → set held place new ≡ held
unchanged held place old new o e = ap (set held place) (e ∙ o) ∙ set-get_or held place old

-- The stores stay sound as one is taken out.
pub sound-removed : (held : List Held) (made total size number place : ℕ) (s : Held) → IsSound held made total → IsPlace held number place → s ≡ get_or held place s
    → size ≡ length s.bytes → IsSound (remove held place) made (total - size)
sound-removed held made total size number place s u p e l =
    let small = size-in_total held made total place s u p.within in
    sound-remove held made total (total - size) place s u p.within (omega (arith, l, ap (λ t. length t.bytes) e, small))

pub removed-is : (held : List Held) (made total number place : ℕ) → IsSound held made total → IsPlace held number place → remove held place ≡ filter (λ s. not (eqb s.number number)) held
removed-is held made total number place s p = remove-filter number 0 made held place no-store s.numbered p.within (p.numbered no-store)

-- a store grows to a size with which the total is within its limit
pub sound-grown : (held : List Held) (made total present size number place : ℕ) (old new : Held) → IsSound held made total → IsPlace held number place → old ≡ get_or held place old
    → present ≡ length old.bytes → present ≤ size → total + size ≤ 268435456 + present → new ≡ record old { bytes = old.bytes ++ replicate (size - length old.bytes) 0 }
    → IsSound (set held place new) made (total - present + size)
sound-grown held made total present size number place old new s p o q h r e =
    let small = size-in_total held made total place old s p.within in
    let had = ap (λ (u : Held). length u.bytes) o in
    let grown : length new.bytes ≡ size = ap (λ (u : Held). length u.bytes) e ∙ simp (length-append, length-replicate) (omega arith) in
    sound-changed held made total (total - present + size) number place old new s p o (ap (λ (u : Held). u.number) e) (omega (arith, grown)) (omega arith)

not-full : (n made : ℕ) → n ≤ 64 → (eqb n 64 || eqb made 4294967295) ≡ false → n < 64
not-full n made h e = grind (arith, nat_tests)

-- one more store, for which there is room
pub sound-made : (held : List Held) (made total size : ℕ) (stock : Stock) (x : Held) → record { held = held; made = made } ≡ stock → IsSound held made total → is_full stock ≡ false
    → total_size stock + size ≤ 268435456
    → x ≡ record { number = made + 1; bytes = replicate size 0; uses = 1 } → IsSound (held ++ x ∷ []) (made + 1) (total + size)
sound-made held made total size stock x v s few room e =
    let sized : length x.bytes ≡ size = ap (λ (u : Held). length u.bytes) e ∙ length-replicate size 0 in
    let all = ap total_size v in
    let fewer = not-full (length held) made s.few (ap is_full v ∙ few) in
    let sound = sound_push held made total x s fewer (ap (λ (u : Held). u.number) e) (omega (arith, sized, s.summed, all, room)) in
    subst (λ n. IsSound (held ++ x ∷ []) (made + 1) (total + n)) sized sound

-- the next number has no store
pub next-fresh : (held : List Held) (made total : ℕ) (stock : Stock) → record { held = held; made = made } ≡ stock → IsSound held made total → store_at (stock.made + 1) stock ≡ None
next-fresh held made total stock v s =
    let P : Stock → Type 0 = λ st. store_at (st.made + 1) st ≡ None in
    subst P v (fresh (made + 1) 0 made held (omega arith) s.numbered)

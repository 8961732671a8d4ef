-- The buffers of a list that aren't busy, each once.
use Rattle.std.proofs.Common.{◌≡◌, ℕ, zero, suc, ◌+◌, ◌<◌, ◌≤◌, ◌==◌, ◌||◌, ◌&&◌, not, cond, Bool, true, false, Option, List, [], ◌∷◌, ◌++◌, map, take, length, refl, ap, sym, subst, ◌∙◌, arith}
use Rattle.std.specs.Prelude.{count_by, slice_index_or}
use Rattle.std.proofs.lemmas.Bool.{eqb-true}
use Rattle.std.proofs.lemmas.List.{length-map}
use Rattle.std.proofs.lemmas.List.Folds.{list_any-append, list_any_more}
use Rattle.std.proofs.lemmas.List.Sums.{sum_by-append}
use Rattle.wl_surface.specs.declared.content.Attached.{Attached}
use Rattle.wl_surface.specs.Kept.{buffer_of}
use Rattle.wl_surface.specs.Request.{Buffer}
use Rattle.wl_surface.specs.Surface.{Surface}
use Rattle.wl_surface.specs.Slots.{IsAny, Numbered, shows_at}
use Rattle.wl_surface.specs.Tree.{is_among, numbers_of}

abbrev one_if : Bool → ℕ
one_if b = cond b 1 0

abbrev count_of : ℕ → List ℕ → ℕ
count_of buffer numbers = count_by (λ n. n == buffer) numbers

-- Whether some surface has the property has one answer.
only-answer : (q : Option Surface → Bool) (all : Numbered) (a b : Bool) → IsAny q all a → IsAny q all b → a ≡ b
only-answer q all true true s t = refl
only-answer q all false false s t = refl
only-answer q all true false s t = absurd (differ (sym s.1 ∙ t s.0)) where
  differ : true ≡ false → ⊥
  differ e = absurd (cc)
only-answer q all false true s t = absurd (differ (sym (s t.0) ∙ t.1)) where
  differ : false ≡ true → ⊥
  differ e = absurd (cc)

-- One more number is counted, behind the others or before them.
counted-more : (xs : List ℕ) (n b : ℕ) → count_of b (xs ++ n ∷ []) ≡ count_of b xs + one_if (n == b)
counted-more xs n b =
    let e : count_of b (xs ++ n ∷ []) ≡ count_of b xs + (0 + one_if (n == b)) = sum_by-append (λ m. one_if (m == b)) xs (n ∷ []) in
    omega (arith, e)

counted-first : (x : ℕ) (xs : List ℕ) (b : ℕ) → count_of b (x ∷ xs) ≡ one_if (x == b) + count_of b xs
counted-first x xs b =
    let e : count_of b (x ∷ xs) ≡ (0 + one_if (x == b)) + count_of b xs = sum_by-append (λ m. one_if (m == b)) (x ∷ []) xs in
    omega (arith, e)

-- A number that is counted is among them.
among-counted : (xs : List ℕ) (b : ℕ) (is : Bool) → count_of b xs ≡ one_if is → is_among xs b ≡ is
among-counted [] b true e = absurd (cc)
among-counted [] b false e = refl
among-counted (x ∷ xs) b is e = at (x == b) (sym (counted-first x xs b) ∙ e) (among-counted xs b is)
  where
    at : (same : Bool) → one_if same + count_of b xs ≡ one_if is → (count_of b xs ≡ one_if is → is_among xs b ≡ is) → (same || is_among xs b) ≡ is
    at false f rest = rest (omega (arith, f))
    at true f rest = positive is f
      where
        positive : (b2 : Bool) → 1 + count_of b xs ≡ one_if b2 → true ≡ b2
        positive true g = refl
        positive false g = absurd (omega (arith, g))

-- how tests go with known answers
or-false : (b : Bool) → (b || false) ≡ b
or-false true = refl
or-false false = refl

or-true : (b : Bool) → (b || true) ≡ true
or-true true = refl
or-true false = refl

and-false : (b : Bool) → (b && false) ≡ false
and-false true = refl
and-false false = refl

-- A busy buffer frees nothing.
pub passed-busy : (among busy is same : Bool) → (same ≡ true → busy ≡ is) → busy ≡ true → (among && not is) ≡ ((among || same) && not is)
passed-busy among busy is false answer e = ap (λ b. b && not is) (sym (or-false among))
passed-busy among busy is true answer e =
    let on : is ≡ true = sym (answer refl) ∙ e in
    ap (λ b. among && not b) on ∙ (and-false among ∙ sym (ap (λ b. (among || true) && not b) on ∙ and-false (among || true)))

-- Nor does one that was freed before.
freed-before : (among is same : Bool) → (same ≡ true → (among && not is) ≡ true) → (among && not is) ≡ ((among || same) && not is)
freed-before true is same before = refl
freed-before false is false before = refl
freed-before false is true before = absurd (let e = before refl in cc)

-- Any other one is freed.
freed-now : (among is same : Bool) → (same ≡ true → (is ≡ false) × ((among && not is) ≡ false)) → one_if (among && not is) + one_if same ≡ one_if ((among || same) && not is)
freed-now among is false now = omega (arith, ap (λ b. one_if (b && not is)) (sym (or-false among)))
freed-now among is true now =
    let before : one_if (among && not is) ≡ 0 = ap one_if (now refl).1 in
    let after : one_if ((among || true) && not is) ≡ 1 = ap (λ b. one_if (b && not is)) (or-true among) ∙ ap (λ b. one_if (not b)) (now refl).0 in
    omega (arith, before, after)

-- the number of a buffer at its place
pub number-at : (shown : List Attached) (i : ℕ) (a : Attached) → i < length shown → a ≡ slice_index_or shown i a → slice_index_or (numbers_of (map buffer_of shown)) i 0 ≡ a.number
number-at [] i a less e = absurd (omega (arith, less))
number-at (x ∷ xs) zero a less e = ap (λ (b : Attached). b.number) (sym e)
number-at (x ∷ xs) (suc i) a less e = number-at xs i a (omega (arith, less)) e

pub number-less : (shown : List Attached) (i : ℕ) → i < length shown → i < length (numbers_of (map buffer_of shown))
number-less shown i less =
    let e = length-map (map buffer_of shown) (λ (b : Buffer). b.number) ∙ length-map shown buffer_of in
    omega (arith, e, less)

pub number-all : (shown : List Attached) (i : ℕ) → length shown ≤ i → length (numbers_of (map buffer_of shown)) ≤ i
number-all shown i most =
    let e = length-map (map buffer_of shown) (λ (b : Buffer). b.number) ∙ length-map shown buffer_of in
    omega (arith, e, most)

-- ---- what is freed is among what was shown

module _ (shown freed : List ℕ) (i d : ℕ) (less : i < length shown) (here : ℕ) (is_here : slice_index_or shown i d ≡ here)
    (so_far : (number : ℕ) → is_among freed number ≡ true → is_among (take i shown) number ≡ true) where
  one-more : (number : ℕ) → is_among (take (i + 1) shown) number ≡ (is_among (take i shown) number || (here == number))
  one-more number = list_any_more (λ n. n == number) shown i d less ∙ ap (λ n. is_among (take i shown) number || (n == number)) is_here

  pub among-more : (number : ℕ) → is_among freed number ≡ true → is_among (take (i + 1) shown) number ≡ true
  among-more number e = one-more number ∙ ap (λ b. b || (here == number)) (so_far number e)

  pub among-added : (new : List ℕ) → new ≡ freed ++ here ∷ [] → (number : ℕ) → is_among new number ≡ true → is_among (take (i + 1) shown) number ≡ true
  among-added new added number e =
      one-more number
      ∙ at (is_among freed number) (here == number) refl refl
      (sym (ap (λ (ns : List ℕ). is_among ns number) added ∙ list_any-append (λ n. n == number) freed (here ∷ [])) ∙ e)
    where
      at : (x y : Bool) → is_among freed number ≡ x → (here == number) ≡ y → (x || (y || false)) ≡ true → (is_among (take i shown) number || (here == number)) ≡ true
      at true y f h is = ap (λ b. b || (here == number)) (so_far number f)
      at false true f h is = ap (λ b. is_among (take i shown) number || b) h ∙ or-true (is_among (take i shown) number)
      at false false f h is = absurd (cc)

-- ---- and is counted once

module _ (all : Numbered) (shown freed : List ℕ) (i d : ℕ) (less : i < length shown) (here : ℕ) (is_here : slice_index_or shown i d ≡ here)
    (busy : Bool) (answer : IsAny (shows_at here) all busy)
    (so_far : (buffer : ℕ) (is : Bool) → IsAny (shows_at buffer) all is → count_of buffer freed ≡ one_if (is_among (take i shown) buffer && not is)) where
  -- what is counted, with one more shown buffer
  more : (buffer : ℕ) (is : Bool) → one_if (is_among (take (i + 1) shown) buffer && not is) ≡ one_if ((is_among (take i shown) buffer || (here == buffer)) && not is)
  more buffer is =
      ap (λ b. one_if (b && not is)) (list_any_more (λ n. n == buffer) shown i d less ∙ ap (λ n. is_among (take i shown) buffer || (n == buffer)) is_here)

  -- If that is the buffer asked for, both answers are the same.
  same-answer : (buffer : ℕ) (is : Bool) → IsAny (shows_at buffer) all is → (here == buffer) ≡ true → busy ≡ is
  same-answer buffer is any e =
      only-answer (shows_at buffer) all busy is (subst (λ n. IsAny (shows_at n) all busy) (eqb-true here buffer e) answer) any

  -- the next one is busy
  pub next-busy : busy ≡ true → (buffer : ℕ) (is : Bool) → IsAny (shows_at buffer) all is
      → count_by (λ n. n == buffer) freed ≡ cond (is_among (take (i + 1) shown) buffer && not is) 1 0
  next-busy e buffer is any =
      so_far buffer is any
      ∙ (ap one_if (passed-busy (is_among (take i shown) buffer) busy is (here == buffer) (same-answer buffer is any) e) ∙ sym (more buffer is))

  -- the next one isn't busy, but was freed before
  pub next-freed : (lent : List ℕ) → lent ≡ freed → (among : Bool) → among ≡ is_among lent here → among ≡ true → (buffer : ℕ) (is : Bool) → IsAny (shows_at buffer) all is
      → count_by (λ n. n == buffer) freed ≡ cond (is_among (take (i + 1) shown) buffer && not is) 1 0
  next-freed lent same among told e buffer is any =
      so_far buffer is any ∙ (ap one_if (freed-before (is_among (take i shown) buffer) is (here == buffer) before) ∙ sym (more buffer is))
    where
      before : (here == buffer) ≡ true → (is_among (take i shown) buffer && not is) ≡ true
      before f =
          sym (among-counted freed buffer (is_among (take i shown) buffer && not is) (so_far buffer is any))
          ∙ (ap (λ n. is_among freed n) (sym (eqb-true here buffer f)) ∙ (ap (λ (ns : List ℕ). is_among ns here) (sym same) ∙ (sym told ∙ e)))

  -- the next one is freed now
  pub next-added : busy ≡ false → (lent : List ℕ) → lent ≡ freed → (among : Bool) → among ≡ is_among lent here → among ≡ false → (new : List ℕ) → new ≡ freed ++ here ∷ []
      → (buffer : ℕ) (is : Bool) → IsAny (shows_at buffer) all is
      → count_by (λ n. n == buffer) new ≡ cond (is_among (take (i + 1) shown) buffer && not is) 1 0
  next-added e lent same among told f new added buffer is any =
      ap (λ (ns : List ℕ). count_of buffer ns) added
      ∙ (counted-more freed here buffer
      ∙ (ap (λ k. k + one_if (here == buffer)) (so_far buffer is any)
      ∙ (freed-now (is_among (take i shown) buffer) is (here == buffer) now ∙ sym (more buffer is))))
    where
      now : (here == buffer) ≡ true → (is ≡ false) × ((is_among (take i shown) buffer && not is) ≡ false)
      now h = (
        sym (same-answer buffer is any h) ∙ e,
        sym (among-counted freed buffer (is_among (take i shown) buffer && not is) (so_far buffer is any))
            ∙ (ap (λ n. is_among freed n) (sym (eqb-true here buffer h)) ∙ (ap (λ (ns : List ℕ). is_among ns here) (sym same) ∙ (sym told ∙ f))),
      )

-- The lines of a text, and the ranges that they name, one by one.
use Rattle.std.proofs.Common.{◌≡◌, ℕ, ◌+◌, ◌<◌, Bool, true, false, not, List, [], ◌∷◌, length, take, drop, map, Option, Some, None, refl, ap, sym, ◌∙◌, arith}
use Rattle.std.specs.Prelude.{◌==◌, if◌then◌else◌, suc, zero}
use Rattle.std.specs.List.{prefix_len, slice_get}
use Rattle.std.specs.Option.{option_map_or, some_prefix}
use Rattle.wl_recording.specs.Line.{number_of}
use Rattle.wl_recording.specs.Ranges.{before_space, behind_space, first_range, lines_of, range_by, range_in, ranges_in, rises, rising, with_byte}
use Rattle.wl_recording.specs.declared.range.StoreRange.{StoreRange}

-- a byte of a line
abbrev in_line : ℕ → Bool
in_line b = not (b == 10)

-- the first line ends at the first line feed
pub lines-first : (text : List ℕ) → prefix_len in_line text < length text
    → lines_of text ≡ take (prefix_len in_line text) text ∷ lines_of (drop (prefix_len in_line text + 1) text)
lines-first [] some = absurd (omega arith)
lines-first (b ∷ text) some = by (b == 10) (lines-first text) some
  where
    by : (is : Bool) → (prefix_len in_line text < length text → lines_of text ≡ take (prefix_len in_line text) text ∷ lines_of (drop (prefix_len in_line text + 1) text))
        → (if not is then 1 + prefix_len in_line text else 0) < length (b ∷ text)
        → (if is then [] ∷ lines_of text else with_byte b (lines_of text))
        ≡ take (if not is then 1 + prefix_len in_line text else 0) (b ∷ text) ∷ lines_of (drop ((if not is then 1 + prefix_len in_line text else 0) + 1) (b ∷ text))
    by true rest some = refl
    by false rest some =
        let n = prefix_len in_line text in
        let one : 1 + n ≡ suc n = omega arith in
        let two : (1 + n) + 1 ≡ suc (n + 1) = omega arith in
        ap (with_byte b) (rest (omega (arith, some)))
        ∙ (ap (λ k. take k (b ∷ text) ∷ lines_of (drop (n + 1) text)) (sym one)
        ∙ ap (λ k. take (1 + n) (b ∷ text) ∷ lines_of (drop k (b ∷ text))) (sym two))

-- without a line feed there is no line
pub lines-none : (text : List ℕ) → prefix_len in_line text ≡ length text → lines_of text ≡ []
lines-none [] whole = refl
lines-none (b ∷ text) whole = by (b == 10) (lines-none text) whole
  where
    by : (is : Bool) → (prefix_len in_line text ≡ length text → lines_of text ≡ [])
        → (if not is then 1 + prefix_len in_line text else 0) ≡ length (b ∷ text) → (if is then [] ∷ lines_of text else with_byte b (lines_of text)) ≡ []
    by true rest whole = absurd (omega (arith, whole))
    by false rest whole = ap (with_byte b) (rest (omega (arith, whole)))

-- ---- a line's numbers

pub range-words : (line first behind second further third last : List ℕ) (r : Option StoreRange) → first ≡ before_space line → behind ≡ behind_space line
    → second ≡ before_space behind → further ≡ behind_space behind → third ≡ before_space further → last ≡ behind_space further
    → r ≡ range_by (number_of first) (number_of second) (number_of third) (number_of last) → r ≡ range_in line
range-words line first behind second further third last r one rest two more three end is =
    let two-of = two ∙ ap before_space rest in
    let more-of = more ∙ ap behind_space rest in
    let three-of = three ∙ ap before_space more-of in
    let end-of = end ∙ ap behind_space more-of in
    is ∙ (ap (λ (w : List ℕ). range_by (number_of w) (number_of second) (number_of third) (number_of last)) one
    ∙ (ap (λ (w : List ℕ). range_by (number_of (before_space line)) (number_of w) (number_of third) (number_of last)) two-of
    ∙ (ap (λ (w : List ℕ). range_by (number_of (before_space line)) (number_of (before_space (behind_space line))) (number_of w) (number_of last)) three-of
    ∙ ap (λ (w : List ℕ). range_by (number_of (before_space line)) (number_of (before_space (behind_space line)))
    (number_of (before_space (behind_space (behind_space line)))) (number_of w)) end-of)))

-- ---- the first range

-- A first line that names no range gives none.
pub first-unnamed : (before : Option StoreRange) (line : List ℕ) (lines : List (List ℕ)) → range_in line ≡ None → first_range before (line ∷ lines) ≡ None
first-unnamed before line lines none = ap (λ (r : Option StoreRange). slice_get (rising before (some_prefix (r ∷ map range_in lines))) 0) none

first-by : (rises : Bool) → Option StoreRange → StoreRange → List (List ℕ) → List StoreRange
first-by is before range lines = if is then range ∷ rising (Some range) (some_prefix (map range_in lines)) else []

pub first-named : (before : Option StoreRange) (line : List ℕ) (lines : List (List ℕ)) (range : StoreRange) → range_in line ≡ Some range → rises before range ≡ true
    → first_range before (line ∷ lines) ≡ Some range
unfolding first-by
first-named before line lines range named up =
    ap (λ (r : Option StoreRange). slice_get (rising before (some_prefix (r ∷ map range_in lines))) 0) named
    ∙ ap (λ (is : Bool). slice_get (first-by is before range lines) 0) up

pub first-falling : (before : Option StoreRange) (line : List ℕ) (lines : List (List ℕ)) (range : StoreRange) → range_in line ≡ Some range → rises before range ≡ false
    → first_range before (line ∷ lines) ≡ None
unfolding first-by
first-falling before line lines range named up =
    ap (λ (r : Option StoreRange). slice_get (rising before (some_prefix (r ∷ map range_in lines))) 0) named
    ∙ ap (λ (is : Bool). slice_get (first-by is before range lines) 0) up

-- ---- the first range of a text, of which the first line ends at n

-- there is no line
pub none-left : (before : Option StoreRange) (text : List ℕ) (n : ℕ) → n ≡ prefix_len in_line text → n ≡ length text → None ≡ first_range before (lines_of text)
none-left before text n ends whole = ap (first_range before) (sym (lines-none text (sym ends ∙ whole)))

line-at : (text : List ℕ) (n : ℕ) → n ≡ prefix_len in_line text → n < length text → lines_of text ≡ take n text ∷ lines_of (drop (n + 1) text)
line-at text n ends some =
    lines-first text (omega (arith, ends, some)) ∙ ap (λ (k : ℕ). take k text ∷ lines_of (drop (k + 1) text)) (sym ends)

pub none-named : (before : Option StoreRange) (text : List ℕ) (n : ℕ) → n ≡ prefix_len in_line text → n < length text → None ≡ range_in (take n text)
    → None ≡ first_range before (lines_of text)
none-named before text n ends some none =
    sym (ap (first_range before) (line-at text n ends some) ∙ first-unnamed before (take n text) (lines_of (drop (n + 1) text)) (sym none))

pub one-named : (before : Option StoreRange) (text : List ℕ) (n : ℕ) (range : StoreRange) → n ≡ prefix_len in_line text → n < length text → Some range ≡ range_in (take n text)
    → true ≡ rises before range → Some range ≡ first_range before (lines_of text)
one-named before text n range ends some named up =
    sym (ap (first_range before) (line-at text n ends some) ∙ first-named before (take n text) (lines_of (drop (n + 1) text)) range (sym named) (sym up))

pub none-rises : (before : Option StoreRange) (text : List ℕ) (n : ℕ) (range : StoreRange) → n ≡ prefix_len in_line text → n < length text → Some range ≡ range_in (take n text)
    → false ≡ rises before range → None ≡ first_range before (lines_of text)
none-rises before text n range ends some named up =
    sym (ap (first_range before) (line-at text n ends some) ∙ first-falling before (take n text) (lines_of (drop (n + 1) text)) range (sym named) (sym up))

-- the lines behind the first one
pub lines-behind : (text rest : List ℕ) (n : ℕ) → n ≡ prefix_len in_line text → n < length text → rest ≡ drop (n + 1) text → lines_of rest ≡ drop 1 (lines_of text)
lines-behind text rest n ends some is = ap lines_of is ∙ sym (ap (λ (ls : List (List ℕ)). drop 1 ls) (line-at text n ends some))

-- ---- range after range

-- Behind the first range come those of the lines behind, of one line less.
pub ranges-next : (before : Option StoreRange) (n : ℕ) (lines : List (List ℕ)) (range : StoreRange) → first_range before lines ≡ Some range
    → ranges_in before (take (suc n) lines) ≡ range ∷ ranges_in (Some range) (take n (drop 1 lines))
ranges-next before n [] range first = absurd (cc)
ranges-next before n (line ∷ lines) range first = named (range_in line) first
  where
    risen : (is : Bool) (r : StoreRange) (xs ys : List StoreRange) → slice_get (if is then r ∷ rising (Some r) xs else []) 0 ≡ Some range
        → (if is then r ∷ rising (Some r) ys else []) ≡ range ∷ rising (Some range) ys
    risen true r xs ys first = ap (λ (o : Option StoreRange). option_map_or (λ x. x ∷ rising (Some x) ys) o []) first
    risen false r xs ys first = absurd (cc)

    named : (r : Option StoreRange) → slice_get (rising before (some_prefix (r ∷ map range_in lines))) 0 ≡ Some range
        → rising before (some_prefix (r ∷ map range_in (take n lines))) ≡ range ∷ rising (Some range) (some_prefix (map range_in (take n lines)))
    named None first = absurd (cc)
    named (Some r) first = risen (rises before r) r (some_prefix (map range_in lines)) (some_prefix (map range_in (take n lines))) first

-- where there is no first range, there is none
pub ranges-end : (before : Option StoreRange) (n : ℕ) (lines : List (List ℕ)) → first_range before lines ≡ None → ranges_in before (take n lines) ≡ []
ranges-end before zero lines none = refl
ranges-end before (suc n) [] none = refl
ranges-end before (suc n) (line ∷ lines) none = named (range_in line) none
  where
    fallen : (is : Bool) (r : StoreRange) (xs ys : List StoreRange) → slice_get (if is then r ∷ xs else []) 0 ≡ None → (if is then r ∷ ys else []) ≡ []
    fallen true r xs ys none = absurd (cc)
    fallen false r xs ys none = refl

    named : (r : Option StoreRange) → slice_get (rising before (some_prefix (r ∷ map range_in lines))) 0 ≡ None
        → rising before (some_prefix (r ∷ map range_in (take n lines))) ≡ []
    named None none = refl
    named (Some r) none =
        fallen (rises before r) r (rising (Some r) (some_prefix (map range_in lines))) (rising (Some r) (some_prefix (map range_in (take n lines)))) none

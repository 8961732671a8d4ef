-- How many bytes of one kind a text begins with, and the value of digits.
use Rattle.std.proofs.Common.{◌≡◌, ℕ, ◌+◌, ◌*◌, ◌-◌, ◌<◌, ◌≤◌, ◌^◌, not, List, [], ◌∷◌, ◌++◌, length, take, drop, get_or, fold, refl, ap, sym, ◌∙◌, arith, eq-eqb, take-append-drop}
use Rattle.std.specs.Prelude.{◌==◌, ◌&&◌, nat_lt, None}
use Rattle.std.specs.List.{prefix_len, list_all}
use Rattle.std.proofs.lemmas.Bool.{ne_eqb, le-ltb, and_right}
use Rattle.std.proofs.lemmas.List.{take_more}
use Rattle.std.proofs.lemmas.List.Sums.{prefix_len_is}
use Rattle.wl_recording.specs.Line.{is_digit, value_of, number_of}

-- the spaces end at n
pub spaces_end : (text : List ℕ) (n : ℕ) → n ≤ length text → ((k : ℕ) → k < n → get_or text k 0 ≡ 32) → (n < length text → get_or text n 0 ≡ 32 → ⊥)
    → n ≡ prefix_len (λ b. b == 32) text
spaces_end text n within are isnt =
    sym (prefix_len_is (λ b. b == 32) text n 0 within (λ k h. eq-eqb (get_or text k 0) 32 (are k h)) (λ h. ne_eqb (get_or text n 0) 32 (isnt h)))

-- the word ends at n
pub word_ends : (text : List ℕ) (n : ℕ) → n ≤ length text → ((k : ℕ) → k < n → get_or text k 0 ≡ 32 → ⊥) → (n < length text → get_or text n 0 ≡ 32)
    → n ≡ prefix_len (λ b. not (b == 32)) text
word_ends text n within arent is =
    sym (prefix_len_is (λ b. not (b == 32)) text n 0 within (λ k h. ap not (ne_eqb (get_or text k 0) 32 (arent k h))) (λ h. ap not (eq-eqb (get_or text n 0) 32 (is h))))

-- the line ends at n
pub line_ends : (text : List ℕ) (n : ℕ) → n ≤ length text → ((k : ℕ) → k < n → get_or text k 0 ≡ 10 → ⊥) → (n < length text → get_or text n 0 ≡ 10)
    → n ≡ prefix_len (λ b. not (b == 10)) text
line_ends text n within arent is =
    sym (prefix_len_is (λ b. not (b == 10)) text n 0 within (λ k h. ap not (ne_eqb (get_or text k 0) 10 (arent k h))) (λ h. ap not (eq-eqb (get_or text n 0) 10 (is h))))

value_of-from : (value : ℕ) (digits : List ℕ) → value ≤ fold (λ v b. 10 * v + (b - 48)) value digits
value_of-from value [] = omega arith
value_of-from value (b ∷ digits) = omega (arith, value_of-from (10 * value + (b - 48)) digits)

pub value_of-rest : (value : ℕ) (front rest : List ℕ)
    → fold (λ v b. 10 * v + (b - 48)) value (front ++ rest) ≡ fold (λ v b. 10 * v + (b - 48)) (fold (λ v b. 10 * v + (b - 48)) value front) rest
value_of-rest value [] rest = refl
value_of-rest value (b ∷ front) rest = value_of-rest (10 * value + (b - 48)) front rest

-- a number is at least what its first digits spell
value_of-take : (word : List ℕ) (i : ℕ) → value_of (take i word) ≤ value_of word
value_of-take word i =
    let parts : value_of word ≡ fold (λ v b. 10 * v + (b - 48)) (value_of (take i word)) (drop i word) =
    ap value_of (sym (take-append-drop i word)) ∙ value_of-rest 0 (take i word) (drop i word) in
    omega (arith, parts, value_of-from (value_of (take i word)) (drop i word))

-- the value with one more digit
value_of-more : (word : List ℕ) (i : ℕ) → i < length word → value_of (take (i + 1) word) ≡ 10 * value_of (take i word) + (get_or word i 0 - 48)
value_of-more word i h = ap value_of (take_more word i 0 h) ∙ value_of-rest 0 (take i word) (get_or word i 0 ∷ [])

-- once the digits spell too great a number, the word does
pub too_great : (word : List ℕ) (i value : ℕ) → i < length word → value ≡ value_of (take i word) → 2 ^ 32 ≤ 10 * value + (get_or word i 0 - 48)
    → None ≡ number_of word
too_great word i value h is great =
    let whole : 2 ^ 32 ≤ value_of word = omega (arith, value_of-more word i h, value_of-take word (i + 1), is) in
    let tests = and_right (nat_lt 0 (length word)) (list_all is_digit word && nat_lt (value_of word) (2 ^ 32)) (and_right (list_all is_digit word) (nat_lt (value_of word) (2 ^ 32))
    (le-ltb (value_of word) (2 ^ 32) whole)) in
    rw tests refl

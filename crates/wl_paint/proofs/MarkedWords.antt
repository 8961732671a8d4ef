-- Words of marks, of which one changes.
use Rattle.std.proofs.Common.{◌≡◌, ◌≢◌, ℕ, zero, suc, ◌<◌, ◌≤◌, ◌+◌, ◌-◌, ◌*◌, ◌/◌, ◌%◌, Bool, false, List, length, Option, Some, None, refl, ap, sym, ◌∙◌, arith, inl, inr, ◌||◌}
use Rattle.std.specs.Prelude.{slice_index}
use Rattle.std.proofs.lemmas.Bool.{cases_lt}
use Rattle.wl_paint.specs.Damage.{GivesRun, count_below, is_between, marked}
use Rattle.wl_paint.specs.Words.{is_marked, is_set, marks_from, IsRow}
use Rattle.wl_paint.proofs.Marks.{count_below-add, count_below-empty, count_below-le, count_below-same, none_below}
use Rattle.wl_paint.proofs.Clips.{between_none}

is_marked-at : (words : List ℕ) (n i : ℕ) → i < 64 → is_marked words (64 * n + i) ≡ is_set (slice_index words n) i
is_marked-at words n i h =
    let q : (64 * n + i) / 64 ≡ n = omega arith in
    let r : (64 * n + i) % 64 ≡ i = omega arith in
    rw (q, r) refl

-- one word more
count_below-word : (words : List ℕ) (n : ℕ)
    → count_below (64 * suc n) (is_marked words) ≡ count_below 64 (is_set (slice_index words n)) + count_below (64 * n) (is_marked words)
count_below-word words n =
    let more : 64 * suc n ≡ 64 * n + 64 = omega arith in
    rw (more, count_below-add (64 * n) 64 (is_marked words), count_below-same 64 (is_set (slice_index words n)) (λ i. is_marked words (64 * n + i)) (is_marked-at words n)) refl

-- the words before the one that changes
same_below : (words next : List ℕ) (k n : ℕ) → n ≤ k → ((j : ℕ) → j ≢ k → slice_index next j ≡ slice_index words j)
    → count_below (64 * n) (is_marked next) ≡ count_below (64 * n) (is_marked words)
same_below words next k n h others =
    count_below-same (64 * n) (is_marked words) (is_marked next) (λ x l.
    ap (λ (w : ℕ). is_set w (x % 64)) (others (x / 64) (λ e. absurd (omega arith))))

joined : (more a b c d v w : ℕ) → a ≡ v + c → b ≡ w + d → more + (v + c) ≡ w + d → more + a ≡ b
joined more a b c d v w p q h = omega arith

earlier : (more c d v w : ℕ) → w ≡ v → more + c ≡ d → more + (v + c) ≡ w + d
earlier more c d v w e h = omega arith

latest : (more c d v w : ℕ) → more + v ≡ w → d ≡ c → more + (v + c) ≡ w + d
latest more c d v w h e = omega arith

none-before : (k : ℕ) → k < 0 → ⊥
none-before k h = omega arith

before-apart : (k n : ℕ) → k < n → n ≢ k
before-apart k n l e = omega arith

last-is : (k n : ℕ) → k < suc n → n ≤ k → n ≡ k
last-is k n h g = omega arith

-- as many points more are marked as bits of the word that changes
pub count_below-marked : (words next : List ℕ) (k n more : ℕ) → k < n → ((j : ℕ) → j ≢ k → slice_index next j ≡ slice_index words j)
    → more + count_below 64 (is_set (slice_index words k)) ≡ count_below 64 (is_set (slice_index next k))
    → more + count_below (64 * n) (is_marked words) ≡ count_below (64 * n) (is_marked next)
count_below-marked words next k zero more h others counted = absurd (none-before k h)
count_below-marked words next k (suc n) more h others counted =
    joined more _ _ _ _ _ _ (count_below-word words n) (count_below-word next n)
    (elim (cases_lt k n) [
      | inl l ↦ earlier more _ _ _ _ (ap (λ (w : ℕ). count_below 64 (is_set w)) (others n (before-apart k n l))) (count_below-marked words next k n more l others counted)
      | inr g ↦ (
          let last : n ≡ k = last-is k n h g in
          let here : more + count_below 64 (is_set (slice_index words n)) ≡ count_below 64 (is_set (slice_index next n)) = rw last counted in
          latest more _ _ _ _ here (same_below words next k n g others))
    ])

-- the marks of the words, as those of a row
pub marked-marks_from : (words : List ℕ) (from n x : ℕ) → x < n → marked (marks_from words from n) x ≡ is_marked words (from + x)
marked-marks_from words from zero x h = absurd (omega arith)
marked-marks_from words from (suc n) zero h =
    let e : from + 0 ≡ from = omega arith in
    rw e refl
marked-marks_from words from (suc n) (suc x) h =
    let e : from + 1 + x ≡ from + suc x = omega arith in
    marked-marks_from words (from + 1) n x (omega arith) ∙ ap (is_marked words) e

pub marked-past : (words : List ℕ) (from n x : ℕ) → n ≤ x → marked (marks_from words from n) x ≡ false
marked-past words from zero x h = refl
marked-past words from (suc n) zero h = absurd (omega arith)
marked-past words from (suc n) (suc x) h = marked-past words (from + 1) n x (omega arith)

pub length-marks_from : (words : List ℕ) (from n : ℕ) → length (marks_from words from n) ≡ n
length-marks_from words from zero = refl
length-marks_from words from (suc n) = ap suc (length-marks_from words (from + 1) n)

-- a row's points are marked where its words mark them
pub marked-row_words : (words : List ℕ) (width x : ℕ) → ((k : ℕ) → width ≤ k → is_marked words k ≡ false)
    → marked (marks_from words 0 width) x ≡ is_marked words x
marked-row_words words width x clear =
    elim (cases_lt x width) [
      | inl l ↦ (
          let e : 0 + x ≡ x = omega arith in
          marked-marks_from words 0 width x l ∙ ap (is_marked words) e)
      | inr g ↦ (marked-past words 0 width x g ∙ sym (clear x g))
    ]

none_more : (n m : ℕ) (p : ℕ → Bool) → ((k : ℕ) → n ≤ k → p k ≡ false) → count_below (n + m) p ≡ count_below n p
none_more n zero p h =
    let e : n + 0 ≡ n = omega arith in
    rw e refl
none_more n (suc m) p h =
    let e : n + suc m ≡ suc (n + m) = omega arith in
    rw (e, h (n + m) (omega arith), none_more n m p h) (omega arith)

-- the count of a row's points is that of its words
pub count_below-row_words : (words : List ℕ) (width count : ℕ) → IsRow width words count
    → count_below (length (marks_from words 0 width)) (marked (marks_from words 0 width)) ≡ count
count_below-row_words words width count is =
    let long : width + (64 * length words - width) ≡ 64 * length words = omega (arith, is.sized) in
    let all = none_more width (64 * length words - width) (is_marked words) is.clear in
    let same = count_below-same width (is_marked words) (marked (marks_from words 0 width)) (λ x h. marked-row_words words width x is.clear) in
    rw (length-marks_from words 0 width) (same ∙ (sym (rw long at all) ∙ sym is.counted))

-- the first run by the one test is that by the other
pub GivesRun-same : (p q : ℕ → Bool) (n from : ℕ) (run : Option (ℕ × ℕ)) → ((k : ℕ) → q k ≡ p k) → GivesRun p n from run → GivesRun q n from run
GivesRun-same p q n from None same is = λ k l h. same k ∙ is k l h
GivesRun-same p q n from (Some run) same is = record {
  starts = is.starts;
  some = is.some;
  within = is.within;
  before = λ k l h. same k ∙ is.before k l h;
  inside = λ k l h. same k ∙ is.inside k l h;
  after = λ h. same (run.0 + run.1) ∙ is.after h;
}

-- a row of which none was counted has no marked point
pub none_marked : (words : List ℕ) (width count : ℕ) → IsRow width words count → count ≡ 0 → (x : ℕ) → marked (marks_from words 0 width) x ≡ false
none_marked words width count is none x =
    marked-row_words words width x is.clear
    ∙ elim (cases_lt x (64 * length words)) [
      | inl l ↦ none_below (64 * length words) (is_marked words) (sym is.counted ∙ none) x l
      | inr g ↦ is.clear x (omega (arith, is.sized))
    ]

-- a row without marks
pub IsRow-empty : (words : List ℕ) (width : ℕ) → width ≤ 64 * length words → 64 * length words < width + 64 → ((x : ℕ) → is_marked words x ≡ false) → IsRow width words 0
IsRow-empty words width sized tight empty =
    record { sized = sized; tight = tight; clear = λ x h. empty x; counted = sym (count_below-empty _ _ empty) }

clear_or : (a b : Bool) → a ≡ false → b ≡ false → (a || b) ≡ false
clear_or a b e f = rw (e, f) refl

-- a row with more marks
pub IsRow-add : (words next : List ℕ) (width count more first end : ℕ) → IsRow width words count → length next ≡ length words → end ≤ width
    → ((x : ℕ) → is_marked next x ≡ (is_marked words x || is_between first end x))
    → more + count_below (64 * length words) (is_marked words) ≡ count_below (64 * length words) (is_marked next)
    → IsRow width next (count + more)
IsRow-add words next width count more first end is long within points counted = record {
  sized = omega (arith, long, is.sized);
  tight = omega (arith, long, is.tight);
  clear = λ x h. points x ∙ clear_or (is_marked words x) (is_between first end x) (is.clear x h) (between_none first end x (inr (omega arith)));
  counted = rw long (omega (arith, is.counted, counted));
}

-- a count of a row's points is small
pub count-le : (words next : List ℕ) (count more : ℕ) → length words ≤ 64 → count ≡ count_below (64 * length words) (is_marked words)
    → more + count_below (64 * length words) (is_marked words) ≡ count_below (64 * length words) (is_marked next) → count + more ≤ 4096
count-le words next count more narrow is counted = omega (arith, is, counted, count_below-le (64 * length words) (is_marked next))

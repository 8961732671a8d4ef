-- The buffers that surfaces have applied and held, as one walks through the surfaces.
use Rattle.std.proofs.Common.{◌≡◌, ℕ, ◌+◌, ◌<◌, ◌==◌, ◌||◌, Bool, true, false, Option, Some, None, List, [], ◌∷◌, ◌++◌, inl, inr, map, take, length}
use Rattle.std.proofs.Common.{refl, ap, sym, ◌∙◌, append_assoc, append-nil, arith}
use Rattle.std.specs.Prelude.{slice_index_or}
use Rattle.std.specs.List.{Contains}
use Rattle.std.specs.Option.{option_map}
use Rattle.std.proofs.lemmas.List.{map-append, take_more}
use Rattle.std.proofs.lemmas.List.Elements.{Contains-append_cases}
use Rattle.std.proofs.lemmas.List.Folds.{list_any-append}
use Rattle.wl_surface.specs.declared.content.Attached.{Attached}
use Rattle.wl_surface.specs.Kept.{buffer_of}
use Rattle.wl_surface.specs.Request.{Buffer}
use Rattle.wl_surface.specs.State.{applied as applied_of, held as held_of, pending}
use Rattle.wl_surface.specs.Surface.{Surface, names}
use Rattle.wl_surface.specs.Slots.{Numbered, had_at, shows_at}
use Rattle.wl_surface.specs.Tree.{is_among, listed, numbers_of, shown_among, shown_at, shown_by}

-- ---- the walk

-- the second and the third of three
three : (buffers : List (Option Attached)) (first second third : Option Buffer) (h a : Option Attached) → map (option_map buffer_of) buffers ≡ first ∷ second ∷ third ∷ []
    → (option_map buffer_of (slice_index_or buffers 1 h) ≡ second) × (option_map buffer_of (slice_index_or buffers 2 a) ≡ third)
three [] first second third h a e = absurd (cc)
three (x ∷ []) first second third h a e = absurd (cc)
three (x ∷ y ∷ []) first second third h a e = absurd (cc)
three (x ∷ y ∷ z ∷ rest) first second third h a e = (cc, cc)

-- what one surface has applied and held
shown-here : (buffers : List (Option Attached)) (at : Option Surface) (h a : Option Attached) → map (option_map buffer_of) buffers ≡ had_at at
    → listed (option_map buffer_of (slice_index_or buffers 2 a)) ++ listed (option_map buffer_of (slice_index_or buffers 1 h)) ≡ shown_at at
shown-here buffers None h a e =
    let both = three buffers None None None h a e in
    ap (λ (b : Option Buffer). listed b ++ listed (option_map buffer_of (slice_index_or buffers 1 h))) both.1
    ∙ ap (λ (b : Option Buffer). listed b) both.0
shown-here buffers (Some s) h a e =
    let both = three buffers (pending s.history).buffer (held_of s.history).buffer (applied_of s.history).buffer h a e in
    ap (λ (b : Option Buffer). listed b ++ listed (option_map buffer_of (slice_index_or buffers 1 h))) both.1
    ∙ ap (λ (b : Option Buffer). listed (applied_of s.history).buffer ++ listed b) both.0

-- one buffer, as it was attached
listed-of : (o : Option Attached) → map buffer_of (listed o) ≡ listed (option_map buffer_of o)
listed-of None = refl
listed-of (Some a) = refl

-- Those of one more surface are the last.
shown-last : (ns : List ℕ) (n : ℕ) (all : Numbered) → shown_by (ns ++ n ∷ []) all ≡ shown_by ns all ++ shown_at (all n)
shown-last [] n all = append-nil (shown_at (all n))
shown-last (m ∷ ms) n all = ap (λ (bs : List Buffer). shown_at (all m) ++ bs) (shown-last ms n all) ∙ sym (append_assoc (shown_at (all m)) (shown_by ms all) (shown_at (all n)))

-- one more surface
pub shown-more : (numbers : List ℕ) (i d : ℕ) (all : Numbered) (was mid now : List Attached) (buffers : List (Option Attached)) (h a : Option Attached) → i < length numbers
    → map buffer_of was ≡ shown_by (take i numbers) all → map (option_map buffer_of) buffers ≡ had_at (all (slice_index_or numbers i d))
    → mid ≡ was ++ listed (slice_index_or buffers 2 a) → now ≡ mid ++ listed (slice_index_or buffers 1 h)
    → map buffer_of now ≡ shown_by (take (i + 1) numbers) all
shown-more numbers i d all was mid now buffers h a less so_far had first second =
    let current = slice_index_or buffers 2 a in
    let held = slice_index_or buffers 1 h in
    ap (λ (bs : List Attached). map buffer_of bs) (second ∙ (ap (λ (bs : List Attached). bs ++ listed held) first ∙ append_assoc was (listed current) (listed held)))
    ∙ (map-append buffer_of was (listed current ++ listed held)
    ∙ (ap (λ (bs : List Buffer). bs ++ map buffer_of (listed current ++ listed held)) so_far
    ∙ (ap (λ (bs : List Buffer). shown_by (take i numbers) all ++ bs) here
    ∙ (sym (shown-last (take i numbers) (slice_index_or numbers i d) all)
    ∙ ap (λ (ns : List ℕ). shown_by ns all) (sym (take_more numbers i d less))))))
  where
    both : (x y : Option Attached) → map buffer_of (listed x ++ listed y) ≡ listed (option_map buffer_of x) ++ listed (option_map buffer_of y)
    both x y =
        map-append buffer_of (listed x) (listed y)
        ∙ (ap (λ (bs : List Buffer). bs ++ map buffer_of (listed y)) (listed-of x) ∙ ap (λ (bs : List Buffer). listed (option_map buffer_of x) ++ bs) (listed-of y))

    here : map buffer_of (listed (slice_index_or buffers 2 a) ++ listed (slice_index_or buffers 1 h)) ≡ shown_at (all (slice_index_or numbers i d))
    here = both (slice_index_or buffers 2 a) (slice_index_or buffers 1 h) ∙ shown-here buffers (all (slice_index_or numbers i d)) h a had

-- ---- which buffers they are

-- nothing else is tested
or-false : (b : Bool) → (b || false) ≡ b
or-false true = refl
or-false false = refl

-- the number of one buffer
among-one : (b : Option Buffer) (buffer : ℕ) → is_among (numbers_of (listed b)) buffer ≡ names buffer b
among-one None buffer = refl
among-one (Some b) buffer = or-false (b.number == buffer)

-- the numbers of two lists
among-both : (xs ys : List Buffer) (buffer : ℕ) → is_among (numbers_of (xs ++ ys)) buffer ≡ (is_among (numbers_of xs) buffer || is_among (numbers_of ys) buffer)
among-both xs ys buffer =
    ap (λ (ns : List ℕ). is_among ns buffer) (map-append (λ (b : Buffer). b.number) xs ys) ∙ list_any-append (λ n. n == buffer) (numbers_of xs) (numbers_of ys)

-- the numbers of one surface's buffers
among-at : (at : Option Surface) (buffer : ℕ) → is_among (numbers_of (shown_at at)) buffer ≡ shows_at buffer at
among-at None buffer = refl
among-at (Some s) buffer =
    among-both (listed (applied_of s.history).buffer) (listed (held_of s.history).buffer) buffer
    ∙ (ap (λ b. b || is_among (numbers_of (listed (held_of s.history).buffer)) buffer) (among-one (applied_of s.history).buffer buffer)
    ∙ ap (λ b. names buffer (applied_of s.history).buffer || b) (among-one (held_of s.history).buffer buffer))

among-by : (ns : List ℕ) (all : Numbered) (buffer : ℕ) → is_among (numbers_of (shown_by ns all)) buffer ≡ shown_among ns all buffer
among-by [] all buffer = refl
among-by (n ∷ ns) all buffer =
    among-both (shown_at (all n)) (shown_by ns all) buffer
    ∙ (ap (λ b. b || is_among (numbers_of (shown_by ns all)) buffer) (among-at (all n) buffer)
    ∙ ap (λ b. shows_at buffer (all n) || b) (among-by ns all buffer))

-- A buffer is among them exactly if one of the surfaces shows it.
pub among-shown : (ns : List ℕ) (all : Numbered) (shown : List Attached) → map buffer_of shown ≡ shown_by ns all
    → (buffer : ℕ) → is_among (numbers_of (map buffer_of shown)) buffer ≡ shown_among ns all buffer
among-shown ns all shown e buffer = ap (λ (bs : List Buffer). is_among (numbers_of bs) buffer) e ∙ among-by ns all buffer

-- Each is as one of the surfaces shows it.
pub shown-as : (ns : List ℕ) (all : Numbered) (b : Buffer) → Contains (shown_by ns all) b → (n : ℕ) × (is_among ns n ≡ true) × Contains (shown_at (all n)) b
shown-as [] all b is = absurd (let less = is.1 in omega (arith, less))
shown-as (m ∷ ms) all b is = elim (Contains-append_cases (shown_at (all m)) (shown_by ms all) b is) [
  | inl here ↦ (m, first (m == m) (grind (arith)), here)
  | inr later ↦ let next = shown-as ms all b later in (next.0, other (m == next.0) (is_among ms next.0) next.1, next.2)
]
  where
    first : (x : Bool) → x ≡ true → (x || is_among ms m) ≡ true
    first true e = refl
    first false e = absurd (cc)

    other : (x y : Bool) → y ≡ true → (x || y) ≡ true
    other true y e = refl
    other false y e = e

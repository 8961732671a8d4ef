-- An image that is painted part by part.
use Rattle.std.proofs.Common.{◌≡◌, ℕ, ◌<◌, ◌≤◌, ◌+◌, ◌*◌, ◌/◌, ◌%◌, List, Bool, true, false, ◌&&◌, ◌||◌, get_or, arith, ◌∙◌, ap, sym, subst, inl, inr, refl}
use Rattle.std.specs.Prelude.{nat_le, nat_lt}
use Rattle.std.proofs.lemmas.Bool.{and_cases, and_from, and_left, and_parts, both_ways, cases_Bool, cases_lt, cases_order, le-leb, leb-true, lt-ltb, ltb-true, or_cases, or_parts}
use Rattle.std.proofs.lemmas.Bool.Decides.{nat_tests}
use Rattle.wl_blend.specs.declared.color.Rgb.{Rgb}
use Rattle.wl_paint.specs.declared.span.Span.{Span}
use Rattle.wl_paint.specs.Damage.{is_between}
use Rattle.wl_paint.specs.Painting.{IsPaintedIn, Shows, is_in, pixel_of}
use Rattle.wl_paint.proofs.PaintedRuns.{IsPaintedTo}
use Rattle.wl_paint.proofs.Shown.{Shows-same}

before_row : (x y z width : ℕ) → x < width → y < z → y * width + x < z * width
before_row x y z width h l = grind arith

after_row : (x y z width : ℕ) → z < y → z * width + width ≤ y * width + x
after_row x y z width l = grind arith

-- ---- places in columns and rows

pub between-parts : (first end at : ℕ) → is_between first end at ≡ true → (first ≤ at) × (at < end)
between-parts first end at e = let both = and_parts (nat_le first at) (nat_lt at end) e in (leb-true first at both.0, ltb-true at end both.1)

pub between-from : (first end at : ℕ) → first ≤ at → at < end → is_between first end at ≡ true
between-from first end at l h = and_from (nat_le first at) (nat_lt at end) (le-leb first at l) (lt-ltb at end h)

between-one : (y : ℕ) → is_between y (y + 1) y ≡ true
between-one y = between-from y (y + 1) y (omega arith) (omega arith)

between-only : (y z : ℕ) → is_between y (y + 1) z ≡ true → z ≡ y
between-only y z e = let both = between-parts y (y + 1) z e in omega arith

between-none : (first at : ℕ) → is_between first first at ≡ false
between-none first at = grind (arith, nat_tests)

between-joined : (first mid end at : ℕ) → first ≤ mid → mid ≤ end → is_between first end at ≡ (is_between first mid at || is_between mid end at)
between-joined first mid end at l h = grind (arith, nat_tests)

and-either : (a b c : Bool) → (a && (b || c)) ≡ ((a && b) || (a && c))
and-either true b c = refl
and-either false b c = refl

either-and : (a b c : Bool) → ((a || b) && c) ≡ ((a && c) || (b && c))
either-and true true true = refl
either-and true true false = refl
either-and true false true = refl
either-and true false false = refl
either-and false b c = refl

none-and : (a b : Bool) → b ≡ false → (a && b) ≡ false
none-and true b e = e
none-and false b e = refl

-- ---- parts

module _ (promised : ℕ → ℕ → Type 0) (paint : ℕ → ℕ → Rgb) (damaged : ℕ → ℕ → Bool) (width : ℕ) where
  -- nothing is chosen yet
  pub painted-none : (was now : ℕ → Rgb × ℕ) (chosen : ℕ → ℕ → Bool) → ((x y : ℕ) → chosen x y ≡ false) → ((k : ℕ) → now k ≡ was k)
      → IsPaintedIn was now promised paint damaged width chosen
  painted-none was now chosen none same = record {
    painted = λ x y w e. absurd (both_ways (chosen x y) (none x y) (and_parts (chosen x y) (damaged x y) e).0);
    kept = λ x y w e. same (y * width + x);
  }

  -- nothing of what is chosen is damaged
  pub painted-clear : (was : ℕ → Rgb × ℕ) (chosen : ℕ → ℕ → Bool) → ((x y : ℕ) → x < width → chosen x y ≡ true → damaged x y ≡ false)
      → IsPaintedIn was was promised paint damaged width chosen
  painted-clear was chosen clear = record {
    painted = λ x y w e. (let both = and_parts (chosen x y) (damaged x y) e in absurd (both_ways (damaged x y) (clear x y w both.0) both.1));
    kept = λ x y w e. refl;
  }

  -- one part after the other
  pub painted-both : (was mid now : ℕ → Rgb × ℕ) (all one other : ℕ → ℕ → Bool) → ((x y : ℕ) → all x y ≡ (one x y || other x y))
      → IsPaintedIn was mid promised paint damaged width one → IsPaintedIn mid now promised paint damaged width other
      → IsPaintedIn was now promised paint damaged width all
  painted-both was mid now all one other both p q = record {
    painted = λ x y w e.
        (let d = (and_parts (all x y) (damaged x y) e).1 in
        let either = or_cases (one x y) (other x y) (sym (both x y) ∙ (and_parts (all x y) (damaged x y) e).0) in
        elim (cases_Bool (other x y && damaged x y)) [
          | inl there ↦ q.painted x y w there
          | inr not_there ↦ elim either [
            | inl first ↦ Shows-same (promised x y) (paint x y) _ _ (q.kept x y w not_there) (p.painted x y w (and_from (one x y) (damaged x y) first d))
            | inr second ↦ absurd (both_ways (other x y && damaged x y) not_there (and_from (other x y) (damaged x y) second d))
          ]
        ]);
    kept = λ x y w e.
        (let neither : ((one x y || other x y) && damaged x y) ≡ false = rw (← both x y) e in
        let parts = or_parts (one x y && damaged x y) (other x y && damaged x y) (sym (either-and (one x y) (other x y) (damaged x y)) ∙ neither) in
        q.kept x y w parts.1 ∙ p.kept x y w parts.0);
  }

  -- a row that is painted to its last run
  pub painted-row : (was now : ℕ → Rgb × ℕ) (columns : Span) (y from : ℕ) → columns.end ≤ width
      → IsPaintedTo was now (λ x. promised x y) (λ x. paint x y) (λ x. damaged x y) (y * width) columns.first columns.end from
      → ((x : ℕ) → from ≤ x → x < columns.end → damaged x y ≡ false)
      → IsPaintedIn was now promised paint damaged width (is_in columns (record { first = y; end = y + 1 }))
  painted-row was now columns y from within p rest = record {
    painted = λ x z w e.
        (let chosen = and_parts (is_in columns (record { first = y; end = y + 1 }) x z) (damaged x z) e in
        let parts = and_parts (is_between columns.first columns.end x) (is_between y (y + 1) z) chosen.0 in
        let column = between-parts columns.first columns.end x parts.0 in
        let row = between-only y z parts.1 in
        let here : Shows (promised x y) (paint x y) (now (y * width + x)) = shown x column.0 column.1 (subst (λ (v : ℕ). damaged x v ≡ true) row chosen.1) in
        subst (λ (v : ℕ). Shows (promised x v) (paint x v) (now (v * width + x))) (sym row) here);
    kept = λ x z w e. elim (cases_order z y) [
      | inl same ↦
          let here : now (y * width + x) ≡ was (y * width + x) = stays x w (subst (λ (v : ℕ). (is_in columns (record { first = y; end = y + 1 }) x v && damaged x v) ≡ false) same e) in
          subst (λ (v : ℕ). now (v * width + x) ≡ was (v * width + x)) (sym same) here
      | inr (inl l) ↦ p.outside (z * width + x) (inl (omega (arith, before_row x z y width w l)))
      | inr (inr g) ↦ p.outside (z * width + x) (inr (omega (arith, after_row x z y width g, p.bound)))
    ];
  }
    where
      shown : (x : ℕ) → columns.first ≤ x → x < columns.end → damaged x y ≡ true → Shows (promised x y) (paint x y) (now (y * width + x))
      shown x l h d = elim (cases_lt x from) [ inl before ↦ p.painted x l before d | inr after ↦ absurd (both_ways (damaged x y) (rest x after h) d) ]

      stays : (x : ℕ) → x < width → (is_in columns (record { first = y; end = y + 1 }) x y && damaged x y) ≡ false → now (y * width + x) ≡ was (y * width + x)
      stays x w e = elim (cases_lt x columns.first) [
        | inl left ↦ p.outside (y * width + x) (inl (omega arith))
        | inr l ↦ elim (cases_lt x from) [
          | inr after ↦ p.outside (y * width + x) (inr (omega arith))
          | inl before ↦ elim (and_cases (is_in columns (record { first = y; end = y + 1 }) x y) (damaged x y) e) [
            | inr d ↦ p.kept x l before d
            | inl out ↦ absurd (both_ways _ out (and_from _ _ (between-from columns.first columns.end x l (omega (arith, p.bound))) (between-one y)))
          ]
        ]
      ]

  -- rows that aren't damaged
  pub clear-band : (was : ℕ → Rgb × ℕ) (columns rows : Span) → ((x y : ℕ) → x < width → rows.first ≤ y → y < rows.end → damaged x y ≡ false)
      → IsPaintedIn was was promised paint damaged width (is_in columns rows)
  clear-band was columns rows clear =
      painted-clear was _ (λ x y w e.
      (let row = between-parts rows.first rows.end y (and_parts (is_between columns.first columns.end x) (is_between rows.first rows.end y) e).1 in
      clear x y w row.0 row.1))

  -- rows that are painted in the same columns
  pub painted-rows : (was mid now : ℕ → Rgb × ℕ) (columns : Span) (first row end : ℕ) → first ≤ row → row ≤ end
      → IsPaintedIn was mid promised paint damaged width (is_in columns (record { first = first; end = row }))
      → IsPaintedIn mid now promised paint damaged width (is_in columns (record { first = row; end = end }))
      → IsPaintedIn was now promised paint damaged width (is_in columns (record { first = first; end = end }))
  painted-rows was mid now columns first row end l h p q =
      painted-both was mid now _ _ _
      (λ x y. ap (λ (b : Bool). is_between columns.first columns.end x && b) (between-joined first row end y l h)
      ∙ and-either (is_between columns.first columns.end x) (is_between first row y) (is_between row end y)) p q

  -- and columns of the same rows
  pub painted-columns : (was mid now : ℕ → Rgb × ℕ) (rows : Span) (first column end : ℕ) → first ≤ column → column ≤ end
      → IsPaintedIn was mid promised paint damaged width (is_in (record { first = first; end = column }) rows)
      → IsPaintedIn mid now promised paint damaged width (is_in (record { first = column; end = end }) rows)
      → IsPaintedIn was now promised paint damaged width (is_in (record { first = first; end = end }) rows)
  painted-columns was mid now rows first column end l h p q =
      painted-both was mid now _ _ _
      (λ x y. ap (λ (b : Bool). b && is_between rows.first rows.end y) (between-joined first column end x l h)
      ∙ either-and (is_between first column x) (is_between column end x) (is_between rows.first rows.end y)) p q

  -- none of them yet
  pub painted-no_rows : (was : ℕ → Rgb × ℕ) (columns : Span) (first : ℕ) → IsPaintedIn was was promised paint damaged width (is_in columns (record { first = first; end = first }))
  painted-no_rows was columns first = painted-none was was _ (λ x y. none-and (is_between columns.first columns.end x) _ (between-none first y)) (λ k. refl)

  pub painted-no_columns : (was : ℕ → Rgb × ℕ) (rows : Span) (first : ℕ) → IsPaintedIn was was promised paint damaged width (is_in (record { first = first; end = first }) rows)
  painted-no_columns was rows first = painted-none was was _ (λ x y. and_left _ (is_between rows.first rows.end y) (between-none first x)) (λ k. refl)

place_is : (k width : ℕ) → 1 ≤ width → k / width * width + k % width ≡ k
place_is k width some = omega arith

-- each fourth byte is 255 afterwards, where each was before
pub fourths-painted : (was now : List ℕ) (promised : ℕ → ℕ → Type 0) (paint : ℕ → ℕ → Rgb) (damaged chosen : ℕ → ℕ → Bool) (width height : ℕ) → 1 ≤ width
    → IsPaintedIn (pixel_of was) (pixel_of now) promised paint damaged width chosen
    → ((k : ℕ) → k < width * height → get_or was (4 * k + 3) 0 ≡ 255)
    → (k : ℕ) → k < width * height → get_or now (4 * k + 3) 0 ≡ 255
fourths-painted was now promised paint damaged chosen width height some p before k h =
    let y = k / width in
    let x = k % width in
    let column : x < width = omega arith in
    let at : y * width + x ≡ k = place_is k width some in
    let fourth : ℕ → ℕ = λ i. (pixel_of now i).1 in
    ap fourth (sym at)
    ∙ elim (cases_Bool (chosen x y && damaged x y)) [
      | inl d ↦ (p.painted x y column d).fourth
      | inr d ↦ (ap (λ (q : Rgb × ℕ). q.1) (p.kept x y column d) ∙ (ap (λ (i : ℕ). (pixel_of was i).1) at ∙ before k h))
    ]

-- all points of the image are chosen
pub all-chosen : (width height x y : ℕ) → x < width → y < height → is_in (record { first = 0; end = width }) (record { first = 0; end = height }) x y ≡ true
all-chosen width height x y w h = and_from _ _ (between-from 0 width x (omega arith) w) (between-from 0 height y (omega arith) h)

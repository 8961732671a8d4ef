-- The points of one set are added to another: run by run, row by row.
use Rattle.std.proofs.Common.{◌≡◌, ◌<◌, ◌≤◌, ◌+◌, ℕ, Bool, true, false, refl, ap, ap₂, sym, ◌∙◌, subst, inl, inr, arith, pos}
use Rattle.std.specs.Prelude.{◌==◌, ◌&&◌, ◌||◌, nat_le, nat_lt}
use Rattle.std.proofs.Math.Bool.{and-false, or-false}
use Rattle.std.proofs.lemmas.Bool.{cases_lt, eq-eqb, le-leb, le-ltb, lt-leb, lt-ltb}
use Rattle.wl_geom.specs.Rect.{in_rect}
use Rattle.wl_geom.specs.declared.rect.Rect.{Rect}
use Rattle.wl_paint.specs.Damage.{Damaged, IsFirstRun, has}
use Rattle.wl_viewer.specs.Telling.{Joins}

-- ---- rows

-- those above this one were joined
pub record JoinedTo (y : ℕ) (damage first now : Damaged) : Type 0 where
  pub points : (x z : ℕ) → x < first.width → z < first.height → has now x z ≡ (has first x z || (nat_lt z y && has damage x z))
  pub width : now.width ≡ first.width
  pub height : now.height ≡ first.height

pub joined-none : (damage first : Damaged) → JoinedTo 0 damage first first
joined-none damage first = record {
  points = λ x z w h. sym (ap (λ (b : Bool). has first x z || (b && has damage x z)) (le-ltb z 0 (omega arith)) ∙ or-false (has first x z));
  width = refl;
  height = refl;
}

-- a point of a row that is joined after those above it
row-of : (first damage : Bool) (y z : ℕ) → ((first || (nat_lt z y && damage)) || ((z == y) && damage)) ≡ (first || (nat_lt z (y + 1) && damage))
row-of true damage y z = refl
row-of false damage y z = elim (cases_lt z y) [
  | inl l ↦
      rw (lt-ltb z y l, lt-ltb z (y + 1) (omega (arith, l)), before z y l) (or-false damage)
  | inr g ↦ elim (cases_lt y z) [
    | inl l ↦ rw (le-ltb z y g, le-ltb z (y + 1) (omega (arith, l)), after z y l) refl
    | inr e ↦
        let same : z ≡ y = omega (arith, g, e) in
        rw (le-ltb z y g, lt-ltb z (y + 1) (omega (arith, e)), eq-eqb z y same) refl
  ]
]
  where
    before : (a b : ℕ) → a < b → (a == b) ≡ false
    before a b h = grind (arith)

    after : (a b : ℕ) → b < a → (a == b) ≡ false
    after a b h = grind (arith)

pub joined-more : (y : ℕ) (damage first now next : Damaged)
    → ((x z : ℕ) → x < now.width → z < now.height → has next x z ≡ (has now x z || ((z == y) && has damage x z)))
    → next.width ≡ now.width → next.height ≡ now.height → JoinedTo y damage first now → JoinedTo (y + 1) damage first next
joined-more y damage first now next points width height to = record {
  points = λ x z w h.
      points x z (subst (λ (k : ℕ). x < k) (sym to.width) w) (subst (λ (k : ℕ). z < k) (sym to.height) h)
      ∙ (ap (λ (b : Bool). b || ((z == y) && has damage x z)) (to.points x z w h) ∙ row-of (has first x z) (has damage x z) y z);
  width = width ∙ to.width;
  height = height ∙ to.height;
}

pub joined-all : (y : ℕ) (damage first now : Damaged) → y ≡ first.height → JoinedTo y damage first now → Joins first damage now
joined-all y damage first now all to = record {
  points = λ x z w h.
      to.points x z w h ∙ ap (λ (b : Bool). has first x z || (b && has damage x z)) (lt-ltb z y (subst (λ (k : ℕ). z < k) (sym all) h));
  width = to.width;
  height = to.height;
}

-- ---- the points of one row

-- those before this column were joined
pub record RowTo (y from : ℕ) (damage first now : Damaged) : Type 0 where
  pub points : (x z : ℕ) → x < first.width → z < first.height → has now x z ≡ (has first x z || ((z == y) && (nat_lt x from && has damage x z)))
  pub width : now.width ≡ first.width
  pub height : now.height ≡ first.height

pub row-none : (y : ℕ) (damage first : Damaged) → RowTo y 0 damage first first
row-none y damage first = record {
  points = λ x z w h.
      sym (ap (λ (b : Bool). has first x z || ((z == y) && (b && has damage x z))) (le-ltb x 0 (omega arith))
      ∙ (ap (λ (b : Bool). has first x z || b) (and-false (z == y)) ∙ or-false (has first x z)));
  width = refl;
  height = refl;
}

-- a rectangle one row high
in-run : (x y w k z : ℕ) → in_rect (pos k) (pos z) (record { x = pos x; y = pos y; w = pos w; h = pos 1 }) ≡ ((nat_le x k && nat_lt k (x + w)) && (nat_le y z && nat_lt z (y + 1)))
in-run x y w k z = refl

-- a point of the run's row
point-of : (damage : Damaged) (width y from x w k : ℕ) → IsFirstRun (λ j. has damage j y) width from (x, w) → k < width
    → ((nat_lt k from && has damage k y) || (nat_le x k && nat_lt k (x + w))) ≡ (nat_lt k (x + w) && has damage k y)
point-of damage width y from x w k first wide = elim (cases_lt k from) [
  | inl l ↦
      let far : k < x + w = omega (arith, l, first.starts) in
      rw (lt-ltb k from l, lt-leb x k (omega (arith, l, first.starts)), lt-ltb k (x + w) far) (or-false (has damage k y))
  | inr g ↦ elim (cases_lt k x) [
    | inl l ↦
        let none = first.before k g l in
        rw (le-ltb k from g, lt-leb x k l, none) (sym (and-false (nat_lt k (x + w))))
    | inr at ↦ elim (cases_lt k (x + w)) [
      | inl here ↦
          let some = first.inside k at here in
          rw (le-ltb k from g, le-leb x k at, lt-ltb k (x + w) here, some) refl
      | inr past ↦ rw (le-ltb k from g, le-leb x k at, le-ltb k (x + w) past) refl
    ]
  ]
]

-- a point of any row
run-of : (damage : Damaged) (width y from x w k z : ℕ) (first : Bool) → IsFirstRun (λ j. has damage j y) width from (x, w) → k < width
    → ((first || ((z == y) && (nat_lt k from && has damage k z))) || ((nat_le x k && nat_lt k (x + w)) && (nat_le y z && nat_lt z (y + 1))))
    ≡ (first || ((z == y) && (nat_lt k (x + w) && has damage k z)))
run-of damage width y from x w k z true run wide = refl
run-of damage width y from x w k z false run wide = elim (cases_lt z y) [
  | inl l ↦ rw (before z y l, lt-leb y z l, and-false (nat_le x k && nat_lt k (x + w))) refl
  | inr g ↦ elim (cases_lt y z) [
    | inl l ↦ rw (after z y l, le-leb y z g, le-ltb z (y + 1) (omega (arith, l)), and-false (nat_le x k && nat_lt k (x + w))) refl
    | inr e ↦
        let same : y ≡ z = omega (arith, g, e) in
        subst
        (λ (j : ℕ). ((false || ((j == y) && (nat_lt k from && has damage k j))) || ((nat_le x k && nat_lt k (x + w)) && (nat_le y j && nat_lt j (y + 1))))
        ≡ (false || ((j == y) && (nat_lt k (x + w) && has damage k j))))
        same here
  ]
]
  where
    before : (a b : ℕ) → a < b → (a == b) ≡ false
    before a b h = grind (arith)

    after : (a b : ℕ) → b < a → (a == b) ≡ false
    after a b h = grind (arith)

    and-true : (b : Bool) → (b && true) ≡ b
    and-true true = refl
    and-true false = refl

    here : ((false || ((y == y) && (nat_lt k from && has damage k y))) || ((nat_le x k && nat_lt k (x + w)) && (nat_le y y && nat_lt y (y + 1))))
        ≡ (false || ((y == y) && (nat_lt k (x + w) && has damage k y)))
    here =
        rw (eq-eqb y y refl, le-leb y y (omega arith), lt-ltb y (y + 1) (omega arith), and-true (nat_le x k && nat_lt k (x + w)))
        (point-of damage width y from x w k run wide)

pub row-more : (y from x w : ℕ) (rect : Rect) (damage first now next : Damaged) → rect ≡ record { x = pos x; y = pos y; w = pos w; h = pos 1 }
    → IsFirstRun (λ j. has damage j y) damage.width from (x, w)
    → ((k z : ℕ) → k < now.width → z < now.height → has next k z ≡ (has now k z || in_rect (pos k) (pos z) rect))
    → next.width ≡ now.width → next.height ≡ now.height → damage.width ≡ first.width → RowTo y from damage first now → RowTo y (x + w) damage first next
row-more y from x w rect damage first now next is run points width height wide to = record {
  points = λ k z in_width in_height.
      points k z (subst (λ (n : ℕ). k < n) (sym to.width) in_width) (subst (λ (n : ℕ). z < n) (sym to.height) in_height)
      ∙ (ap₂ (λ (a b : Bool). a || b) (to.points k z in_width in_height) (ap (λ (r : Rect). in_rect (pos k) (pos z) r) is ∙ in-run x y w k z)
      ∙ run-of damage damage.width y from x w k z (has first k z) run (subst (λ (n : ℕ). k < n) (sym wide) in_width));
  width = width ∙ to.width;
  height = height ∙ to.height;
}

-- no more follow
pub row-all : (y from : ℕ) (damage first now : Damaged) → damage.width ≡ first.width → ((k : ℕ) → from ≤ k → k < damage.width → has damage k y ≡ false)
    → RowTo y from damage first now
    → (x z : ℕ) → x < first.width → z < first.height → has now x z ≡ (has first x z || ((z == y) && has damage x z))
row-all y from damage first now wide none to x z w h = to.points x z w h ∙ ap (λ (b : Bool). has first x z || b) (at (z == y) refl)
  where
    equal : (a b : ℕ) → (a == b) ≡ true → a ≡ b
    equal a b e = grind (arith, e)

    rest : z ≡ y → (nat_lt x from && has damage x z) ≡ has damage x z
    rest same = elim (cases_lt x from) [
      | inl l ↦ rw (lt-ltb x from l) refl
      | inr g ↦
          let clear : has damage x z ≡ false = ap (λ (j : ℕ). has damage x j) same ∙ none x g (subst (λ (n : ℕ). x < n) (sym wide) w) in
          rw (clear) (and-false (nat_lt x from))
    ]

    at : (b : Bool) → (z == y) ≡ b → (b && (nat_lt x from && has damage x z)) ≡ (b && has damage x z)
    at true e = rest (equal z y e)
    at false e = refl

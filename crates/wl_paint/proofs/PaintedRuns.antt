-- A row that is painted run by run.
use Rattle.std.proofs.Common.{◌≡◌, ℕ, ◌<◌, ◌≤◌, ◌+◌, ◌-◌, Bool, true, false, arith, ◌∙◌, ap, sym, subst, inl, inr, refl}
use Rattle.std.specs.Prelude.{◌⊎◌}
use Rattle.std.proofs.lemmas.Bool.{cases_lt, both_ways}
use Rattle.wl_blend.specs.declared.color.Rgb.{Rgb}
use Rattle.wl_paint.specs.Damage.{IsFirstPart}
use Rattle.wl_paint.specs.Painting.{IsCopiedTo, Shows}
use Rattle.wl_paint.proofs.Shown.{Shows-same}

-- the row from base on is painted from column `first` up to `from`, where it is damaged, and the rest is as it was
pub record IsPaintedTo (was now : ℕ → Rgb × ℕ) (promised : ℕ → Type 0) (paint : ℕ → Rgb) (damaged : ℕ → Bool) (base first end from : ℕ) : Type 0 where
  pub starts : first ≤ from
  pub bound : from ≤ end
  pub painted : (x : ℕ) → first ≤ x → x < from → damaged x ≡ true → Shows (promised x) (paint x) (now (base + x))
  pub kept : (x : ℕ) → first ≤ x → x < from → damaged x ≡ false → now (base + x) ≡ was (base + x)
  pub outside : (k : ℕ) → (k < base + first) ⊎ (base + from ≤ k) → now k ≡ was k

-- a part of one run more
pub IsPaintedTo-part : (was now next : ℕ → Rgb × ℕ) (promised : ℕ → Type 0) (paint : ℕ → Rgb) (damaged : ℕ → Bool) (base first end from start count : ℕ)
    → IsFirstPart damaged from end (start, count) → IsPaintedTo was now promised paint damaged base first end from
    → ((i : ℕ) → i < count → Shows (promised (start + i)) (paint (start + i)) (next (base + start + i)))
    → ((k : ℕ) → (k < base + start) ⊎ (base + start + count ≤ k) → next k ≡ now k)
    → IsPaintedTo was next promised paint damaged base first end (start + count)
IsPaintedTo-part was now next promised paint damaged base first end from start count part p inside outside = record {
  starts = omega (arith, part.starts, p.starts);
  bound = part.within;
  painted = λ x f h d. elim (cases_lt x from) [
    | inl l ↦ Shows-same (promised x) (paint x) _ _ (outside (base + x) (inl (omega (arith, part.starts)))) (p.painted x f l d)
    | inr g ↦ elim (cases_lt x start) [
      | inl l ↦ absurd (both_ways (damaged x) (part.before x g l) d)
      | inr s ↦
          let there : start + (x - start) ≡ x = omega arith in
          let here : base + start + (x - start) ≡ base + x = omega arith in
          Shows-same (promised x) (paint x) _ _ (ap next (sym here)) (rw there at (inside (x - start) (omega arith)))
    ]
  ];
  kept = λ x f h d. elim (cases_lt x from) [
    | inl l ↦ outside (base + x) (inl (omega (arith, part.starts))) ∙ p.kept x f l d
    | inr g ↦ elim (cases_lt x start) [
      | inl l ↦ outside (base + x) (inl (omega arith)) ∙ p.outside (base + x) (inr (omega arith))
      | inr s ↦ absurd (both_ways (damaged x) d (part.inside x s h))
    ]
  ];
  outside = λ k h. outside k (elim h [ inl l ↦ inl (omega (arith, part.starts, p.starts)) | inr g ↦ inr (omega arith) ])
      ∙ p.outside k (elim h [ inl l ↦ inl l | inr g ↦ inr (omega (arith, part.starts, part.some)) ]);
}

-- the same, the place of its first pixel being given
pub IsPaintedTo-at : (was now next : ℕ → Rgb × ℕ) (promised : ℕ → Type 0) (paint : ℕ → Rgb) (damaged : ℕ → Bool) (base first end from start count at : ℕ)
    → at ≡ base + start → IsFirstPart damaged from end (start, count) → IsPaintedTo was now promised paint damaged base first end from
    → ((i : ℕ) → i < count → Shows (promised (start + i)) (paint (start + i)) (next (at + i)))
    → ((k : ℕ) → (k < at) ⊎ (at + count ≤ k) → next k ≡ now k)
    → IsPaintedTo was next promised paint damaged base first end (start + count)
IsPaintedTo-at was now next promised paint damaged base first end from start count at e part p inside outside =
    IsPaintedTo-part was now next promised paint damaged base first end from start count part p
    (subst (λ (a : ℕ). (i : ℕ) → i < count → Shows (promised (start + i)) (paint (start + i)) (next (a + i))) e inside)
    (subst (λ (a : ℕ). (k : ℕ) → (k < a) ⊎ (a + count ≤ k) → next k ≡ now k) e outside)

-- nothing of the row is painted yet
pub IsPaintedTo-none : (was : ℕ → Rgb × ℕ) (promised : ℕ → Type 0) (paint : ℕ → Rgb) (damaged : ℕ → Bool) (base first end : ℕ) → first ≤ end
    → IsPaintedTo was was promised paint damaged base first end first
IsPaintedTo-none was promised paint damaged base first end h = record {
  starts = omega arith;
  bound = h;
  painted = λ x l b d. absurd (omega arith);
  kept = λ x l b d. absurd (omega arith);
  outside = λ k o. refl;
}

-- ---- the same of pixels that are put in

pub IsCopiedTo-none : (was stretch : ℕ → Rgb × ℕ) (damaged : ℕ → Bool) (base first : ℕ) → IsCopiedTo was was stretch damaged base first first
IsCopiedTo-none was stretch damaged base first = record {
  order = omega arith;
  copied = λ x l b d. absurd (omega arith);
  kept = λ x l b d. absurd (omega arith);
  outside = λ k o. refl;
}

pub IsCopiedTo-at : (was now next stretch : ℕ → Rgb × ℕ) (damaged : ℕ → Bool) (base first end from start count at place : ℕ)
    → at ≡ base + start → place ≡ start - first → IsFirstPart damaged from end (start, count) → IsCopiedTo was now stretch damaged base first from
    → ((i : ℕ) → i < count → next (at + i) ≡ stretch (place + i))
    → ((k : ℕ) → (k < at) ⊎ (at + count ≤ k) → next k ≡ now k)
    → IsCopiedTo was next stretch damaged base first (start + count)
IsCopiedTo-at was now next stretch damaged base first end from start count at place e f part p inside outside = record {
  order = omega (arith, part.starts, p.order);
  copied = λ x l h d. elim (cases_lt x from) [
    | inl b ↦ outside (base + x) (inl (omega (arith, e, part.starts))) ∙ p.copied x l b d
    | inr g ↦ elim (cases_lt x start) [
      | inl b ↦ absurd (both_ways (damaged x) (part.before x g b) d)
      | inr s ↦
          let here : base + x ≡ at + (x - start) = omega arith in
          let there : place + (x - start) ≡ x - first = omega (arith, f, part.starts, p.order) in
          ap next here ∙ inside (x - start) (omega arith) ∙ ap stretch there
    ]
  ];
  kept = λ x l h d. elim (cases_lt x from) [
    | inl b ↦ outside (base + x) (inl (omega (arith, e, part.starts))) ∙ p.kept x l b d
    | inr g ↦ elim (cases_lt x start) [
      | inl b ↦ outside (base + x) (inl (omega (arith, e))) ∙ p.outside (base + x) (inr (omega arith))
      | inr s ↦ absurd (both_ways (damaged x) d (part.inside x s h))
    ]
  ];
  outside = λ k h. outside k (elim h [ inl l ↦ inl (omega (arith, e, part.starts, p.order)) | inr g ↦ inr (omega (arith, e)) ])
      ∙ p.outside k (elim h [ inl l ↦ inl l | inr g ↦ inr (omega (arith, part.starts, part.some)) ]);
}

-- behind the last run
pub IsCopiedTo-rest : (was now stretch : ℕ → Rgb × ℕ) (damaged : ℕ → Bool) (base first end from : ℕ) → from ≤ end → IsCopiedTo was now stretch damaged base first from
    → ((x : ℕ) → from ≤ x → x < end → damaged x ≡ false) → IsCopiedTo was now stretch damaged base first end
IsCopiedTo-rest was now stretch damaged base first end from b p rest = record {
  order = omega (arith, p.order);
  copied = λ x l h d. elim (cases_lt x from) [ inl s ↦ p.copied x l s d | inr g ↦ absurd (both_ways (damaged x) (rest x g h) d) ];
  kept = λ x l h d. elim (cases_lt x from) [ inl s ↦ p.kept x l s d | inr g ↦ p.outside (base + x) (inr (omega arith)) ];
  outside = λ k h. p.outside k (elim h [ inl l ↦ inl l | inr g ↦ inr (omega arith) ]);
}

-- where the stretch was painted, so is the row
pub IsPaintedTo-copied : (was now stretch : ℕ → Rgb × ℕ) (promised : ℕ → Type 0) (paint : ℕ → Rgb) (damaged : ℕ → Bool) (base first end : ℕ)
    → ((i : ℕ) → i < end - first → Shows (promised (first + i)) (paint (first + i)) (stretch i))
    → IsCopiedTo was now stretch damaged base first end → IsPaintedTo was now promised paint damaged base first end end
IsPaintedTo-copied was now stretch promised paint damaged base first end shown p = record {
  starts = p.order;
  bound = omega arith;
  painted = λ x l h d.
      (let place : first + (x - first) ≡ x = omega arith in
      Shows-same (promised x) (paint x) _ _ (p.copied x l h d) (rw place at (shown (x - first) (omega arith))));
  kept = p.kept;
  outside = p.outside;
}

-- Runs of damaged pixels as they are reported.
use Rattle.std.proofs.Common.{◌≡◌, ℕ, subst, ◌+◌, ◌<◌, ◌≤◌, List, [], ◌∷◌, ◌++◌, Bool, true, false, refl, ap, sym, ◌∙◌, arith, inl, inr}
use Rattle.std.specs.Prelude.{◌==◌, ◌&&◌, ◌||◌, ◌⊎◌, nat_le, nat_lt}
use Rattle.std.proofs.Math.Bool.{and-false, or-false}
use Rattle.std.proofs.lemmas.Bool.{cases_lt, eq-eqb, le-leb, le-ltb, lt-leb, lt-ltb}
use Rattle.wl_paint.specs.Damage.{IsFirstRun}
use Rattle.law_desktop.proofs.Lists.Standings.{any-last}
use Rattle.law_desktop.proofs.Truth.{differ}
use Rattle.wl_session.specs.Run.{AllLieIn, AreInOrder, AreRuns, IsBefore, IsBeforeAll, LiesIn, in_runs}
use Rattle.wl_session.specs.declared.shots.Run.{Run}

before : (a b : ℕ) → a < b → (a == b) ≡ false
before a b h = grind (arith)

after : (a b : ℕ) → b < a → (a == b) ≡ false
after a b h = grind (arith)

-- the point is one of the run's
abbrev is_in : ℕ → ℕ → Run → Bool
is_in x z run = (run.y == z) && (nat_le run.x x && nat_lt x (run.x + run.w))

row-else : (x z : ℕ) (run : Run) → (run.y == z) ≡ false → is_in x z run ≡ false
row-else x z run e = rw e refl

past-end : (x z : ℕ) (run : Run) → run.x + run.w ≤ x → is_in x z run ≡ false
past-end x z run h = rw (le-ltb x (run.x + run.w) h, and-false (nat_le run.x x), and-false (run.y == z)) refl

past-start : (x z : ℕ) (run : Run) → x < run.x → is_in x z run ≡ false
past-start x z run h = rw (lt-leb run.x x h, and-false (run.y == z)) refl

within : (x : ℕ) (run : Run) → run.x ≤ x → x < run.x + run.w → is_in x run.y run ≡ true
within x run h l = rw (le-leb run.x x h, lt-ltb x (run.x + run.w) l, eq-eqb run.y run.y refl) refl

-- each run is in a row above this one, or ends before this column
abbrev EndsBy : ℕ → ℕ → List Run → Type 0
EndsBy y from [] = Unit {0}
EndsBy y from (r ∷ rs) = ((r.y < y) ⊎ ((r.y ≡ y) × (r.x + r.w ≤ from))) × EndsBy y from rs

ends-above : (width y : ℕ) (runs : List Run) → AllLieIn width y runs → EndsBy y 0 runs
ends-above width y [] all = tt
ends-above width y (r ∷ rs) all = (inl all.0.high, ends-above width y rs all.1)

ends-more : (y from to : ℕ) (runs : List Run) → from ≤ to → EndsBy y from runs → EndsBy y to runs
ends-more y from to [] h ends = tt
ends-more y from to (r ∷ rs) h ends = (by ends.0, ends-more y from to rs h ends.1)
  where
    by : (r.y < y) ⊎ ((r.y ≡ y) × (r.x + r.w ≤ from)) → (r.y < y) ⊎ ((r.y ≡ y) × (r.x + r.w ≤ to))
    by (inl above) = inl above
    by (inr here) = inr (here.0, omega (arith, here.1, h))

ends-last : (y from : ℕ) (runs : List Run) (run : Run) → EndsBy y from runs → run.y ≡ y → run.x + run.w ≤ from → EndsBy y from (runs ++ run ∷ [])
ends-last y from [] run ends is h = (inr (is, h), tt)
ends-last y from (r ∷ rs) run ends is h = (ends.0, ends-last y from rs run ends.1 is h)

-- none of them holds a point beyond
none-beyond : (y from x : ℕ) (runs : List Run) → EndsBy y from runs → from ≤ x → in_runs runs x y ≡ false
none-beyond y from x [] ends h = refl
none-beyond y from x (r ∷ rs) ends h = rw (by ends.0, none-beyond y from x rs ends.1 h) refl
  where
    by : (r.y < y) ⊎ ((r.y ≡ y) × (r.x + r.w ≤ from)) → is_in x y r ≡ false
    by (inl above) = row-else x y r (before r.y y above)
    by (inr here) = past-end x y r (omega (arith, here.1, h))

-- each is before a run that begins beyond
before-last : (width height y from : ℕ) (runs : List Run) (run : Run) → run.y ≡ y → AllLieIn width height runs → (0 < from → from < run.x) → EndsBy y from runs → AreInOrder runs
    → AreInOrder (runs ++ run ∷ [])
before-last width height y from [] run is all begins ends order = (tt, tt)
before-last width height y from (r ∷ rs) run is all begins ends order =
    (at rs order.0, before-last width height y from rs run is all.1 begins ends.1 order.1)
  where
    here : (r.y < y) ⊎ ((r.y ≡ y) × (r.x + r.w ≤ from)) → IsBefore r run
    here (inl above) = inl (omega (arith, above, is))
    here (inr h) =
        let some : 0 < from = omega (arith, all.0.some, h.1) in
        let far = begins some in
        inr (h.0 ∙ sym is, omega (arith, h.1, far))

    at : (ss : List Run) → IsBeforeAll r ss → IsBeforeAll r (ss ++ run ∷ [])
    at [] b = (here ends.0, tt)
    at (s ∷ ss) b = (b.0, at ss b.1)

lie-more : (width y to : ℕ) (runs : List Run) → y ≤ to → AllLieIn width y runs → AllLieIn width to runs
lie-more width y to [] h all = tt
lie-more width y to (r ∷ rs) h all = (record { some = all.0.some; wide = all.0.wide; high = omega (arith, all.0.high, h) }, lie-more width y to rs h all.1)

lie-last : (width height : ℕ) (runs : List Run) (run : Run) → AllLieIn width height runs → LiesIn width height run → AllLieIn width height (runs ++ run ∷ [])
lie-last width height [] run all is = (is, tt)
lie-last width height (r ∷ rs) run all is = (all.0, lie-last width height rs run all.1 is)

-- ---- the runs of a row, up to this column

pub record RowTo (now : List Run) (p : ℕ → ℕ → Bool) (width y from : ℕ) : Type 0 where
  pub above : (x z : ℕ) → x < width → z < y → in_runs now x z ≡ p x z
  pub here : (x : ℕ) → x < width → x < from → in_runs now x y ≡ p x y
  pub ends : EndsBy y from now
  pub order : AreInOrder now
  pub inside : AllLieIn width (y + 1) now
  pub gap : 0 < from → from < width → p from y ≡ false

-- none yet
pub row-none : (runs : List Run) (p : ℕ → ℕ → Bool) (width y : ℕ) → AreRuns width y p runs → RowTo runs p width y 0
row-none runs p width y are = record {
  above = λ x z w h. are.points x z w h;
  here = λ x w h. absurd (omega (arith, h));
  ends = ends-above width y runs are.within;
  order = are.order;
  inside = lie-more width y (y + 1) runs (omega arith) are.within;
  gap = λ some wide. absurd (omega (arith, some));
}

-- one more
pub row-more : (now : List Run) (p : ℕ → ℕ → Bool) (width y from x w : ℕ) → IsFirstRun (λ k. p k y) width from (x, w) → RowTo now p width y from
    → RowTo (now ++ record { x = x; y = y; w = w } ∷ []) p width y (x + w)
row-more now p width y from x w first to = record {
  above = λ k z wide h.
      any-last (is_in k z) now run ∙ (ap (λ b. in_runs now k z || b) (row-else k z run (after y z h)) ∙ (or-false (in_runs now k z) ∙ to.above k z wide h));
  here = λ k wide h. any-last (is_in k y) now run ∙ point k wide h;
  ends = ends-last y (x + w) now run (ends-more y from (x + w) now (omega (arith, first.starts)) to.ends) refl (omega arith);
  order = before-last width (y + 1) y from now run refl to.inside begins to.ends to.order;
  inside = lie-last width (y + 1) now run to.inside (record { some = omega (arith, first.some); wide = first.within; high = omega arith });
  gap = λ some wide. first.after wide;
}
  where
    run : Run
    run = record { x = x; y = y; w = w }

    begins : 0 < from → from < x
    begins some = elim (cases_lt from x) [
      | inl l ↦ l
      | inr g ↦
          let same : from ≡ x = omega (arith, g, first.starts) in
          let wide : from < width = omega (arith, first.within, first.some, g) in
          absurd (differ (sym (to.gap some wide) ∙ first.inside from (omega (arith, g)) (omega (arith, first.some, first.starts, g))))
    ]

    point : (k : ℕ) → k < width → k < x + w → (in_runs now k y || is_in k y run) ≡ p k y
    point k wide h = elim (cases_lt k from) [
      | inl l ↦
          ap (λ b. in_runs now k y || b) (past-start k y run (omega (arith, l, first.starts))) ∙ (or-false (in_runs now k y) ∙ to.here k wide l)
      | inr g ↦ elim (cases_lt k x) [
        | inl l ↦
            ap (λ b. b || is_in k y run) (none-beyond y from k now to.ends g) ∙ (past-start k y run l ∙ sym (first.before k g l))
        | inr at ↦
            ap (λ b. b || is_in k y run) (none-beyond y from k now to.ends g) ∙ (within k run at h ∙ sym (first.inside k at h))
      ]
    ]

-- where no other follows, they are those of the whole row
pub row-all : (now : List Run) (p : ℕ → ℕ → Bool) (width y from : ℕ) → ((k : ℕ) → from ≤ k → k < width → p k y ≡ false) → RowTo now p width y from → AreRuns width (y + 1) p now
row-all now p width y from none to = record {
  points = λ x z wide high. elim (cases_lt z y) [
    | inl l ↦ to.above x z wide l
    | inr g ↦ let same : y ≡ z = omega (arith, g, high) in subst (λ j. in_runs now x j ≡ p x j) same (whole x wide)
  ];
  order = to.order;
  within = to.inside;
}
  where
    whole : (x : ℕ) → x < width → in_runs now x y ≡ p x y
    whole x wide = elim (cases_lt x from) [
      | inl l ↦ to.here x wide l
      | inr g ↦ none-beyond y from x now to.ends g ∙ sym (none x g wide)
    ]

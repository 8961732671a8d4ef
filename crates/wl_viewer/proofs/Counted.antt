-- Where no point is counted none passes the test.
use Rattle.std.proofs.Common.{◌≡◌, ◌<◌, ◌+◌, ℕ, zero, suc, Bool, true, false, refl, subst, inl, inr, arith, Option}
use Rattle.std.specs.Prelude.{if◌then◌else◌}
use Rattle.std.proofs.lemmas.Bool.{cases_lt}
use Rattle.wl_paint.specs.Damage.{count_below, count_points}
use Rattle.wl_session.specs.Frame.{Image}
use Rattle.wl_viewer.specs.Telling.{IsTold, Update}
use Rattle.wl_viewer.specs.View.{ViewerView}

-- by whether the last one passes
below : (n k : ℕ) (p : ℕ → Bool) (b : Bool) → p n ≡ b → (if b then 1 else 0) + count_below n p ≡ 0 → k < suc n → (count_below n p ≡ 0 → k < n → p k ≡ false) → p k ≡ false
below n k p true is none h rest = absurd (omega (arith, none))
below n k p false is none h rest = elim (cases_lt k n) [
  | inl l ↦ rest (omega (arith, none)) l
  | inr g ↦ let same : n ≡ k = omega (arith, g, h) in subst (λ (j : ℕ). p j ≡ false) same is
]

none-below : (n : ℕ) (p : ℕ → Bool) (k : ℕ) → count_below n p ≡ 0 → k < n → p k ≡ false
none-below zero p k none h = absurd (omega (arith, h))
none-below (suc n) p k none h = below n k p (p n) refl none h (λ fewer l. none-below n p k fewer l)

pub none-counted : (width height : ℕ) (p : ℕ → ℕ → Bool) (x y : ℕ) → count_points width height p ≡ 0 → x < width → y < height → p x y ≡ false
none-counted width zero p x y none w h = absurd (omega (arith, h))
none-counted width (suc height) p x y none w h = elim (cases_lt y height) [
  | inl l ↦ none-counted width height p x y (omega (arith, none)) w l
  | inr g ↦
      let row : count_below width (λ k. p k height) ≡ 0 = omega (arith, none) in
      let same : height ≡ y = omega (arith, g, h) in
      subst (λ (j : ℕ). p x j ≡ false) same (none-below width (λ k. p k height) x row w)
]

-- what is told of a value is told of the one that equals it
pub told-from : (frame : Image) (time : ℕ) (old now new : ViewerView) → old ≡ now → (update : Option Update) × IsTold frame time update old new
    → (update : Option Update) × IsTold frame time update now new
told-from frame time old now new same told = subst (λ (v : ViewerView). (update : Option Update) × IsTold frame time update v new) same told

use Rattle.std.proofs.Common.{◌≡◌, ℕ, false, subst, arith, inl, inr}
use Rattle.std.proofs.lemmas.Bool.{cases_lt}
use Rattle.wl_paint.specs.Damage.{has}
use Rattle.wl_paint.proofs.damage.is_clear.Goals as goal

pub loop-y-init : goal.loop-y-init
loop-y-init g c x z w l b = absurd (omega arith)

pub loop-y-preserved : goal.loop-y-preserved
loop-y-preserved g c x z w l b =
    elim (cases_lt z c.loop-y.y) [
      | inl before ↦ c.loop-y.invariant x z w l before
      | inr after ↦ (
          let here : c.loop-y.y ≡ z = omega arith in
          subst (λ (v : ℕ). has c.args.damage.now x v ≡ false) here (c.is_clear_row.ensures c.if-not-is_clear_row.false x w))
    ]

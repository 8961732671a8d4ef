use Rattle.std.proofs.Common.{◌≡◌, ◌+◌, ◌*◌, ◌∙◌, arith, inl, inr}
use Rattle.std.proofs.lemmas.Bool.{cases_lt}
use Rattle.wl_store.proofs.reading.copy_falling.Goals as goal

pub loop-k-preserved : goal.loop-k-preserved
loop-k-preserved c m b h small =
    elim (cases_lt m c.loop-k.k) [
      | inl l ↦ c.copy_pixel.ensures.others (4 * m + b) (inl (omega arith)) ∙ c.loop-k.invariant m b l small
      | inr g ↦ (
          let here : m ≡ c.loop-k.k = omega arith in
          rw here (c.copy_pixel.ensures.copied b small))
    ]

pub returns : goal.returns
returns c k b h small = c.loop-k.invariant k b (omega arith) small

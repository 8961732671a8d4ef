use Rattle.std.proofs.Common.{sym, ◌∙◌, arith}
use Rattle.wl_paint.proofs.MarkedWords.{IsRow-empty, length-marks_from, marked-row_words, none_marked}
use Rattle.wl_paint.proofs.row.Row.clear.Goals as goal

pub invariant_of-self : goal.invariant_of-self
invariant_of-self g c = (
  IsRow-empty c.unmark.new.words.items c.self.inside.width (omega (arith, c.unmark.ensures.len, c.self.invariant.0.sized)) (omega (arith, c.unmark.ensures.len, c.self.invariant.0.tight))
      c.unmark.ensures.empty,
  λ x l h. absurd (omega arith),
)

pub returns-then-self-gt0-clause-empty : goal.returns-then-self-gt0-clause-empty
returns-then-self-gt0-clause-empty g c x =
    marked-row_words c.unmark.new.words.items c.self.inside.width x (λ k h. c.unmark.ensures.empty k) ∙ c.unmark.ensures.empty x

pub returns-then-self-gt0-clause-width : goal.returns-then-self-gt0-clause-width
returns-then-self-gt0-clause-width g c =
    rw (← c.self.view_is) (length-marks_from c.unmark.new.words.items 0 c.self.inside.width ∙ sym (length-marks_from c.self.inside.words.items 0 c.self.inside.width))

pub returns-else-self-gt0-clause-empty : goal.returns-else-self-gt0-clause-empty
returns-else-self-gt0-clause-empty g c =
    rw (← c.self.view_is) (none_marked c.self.inside.words.items c.self.inside.width c.self.inside.count c.self.invariant.0 (omega arith))

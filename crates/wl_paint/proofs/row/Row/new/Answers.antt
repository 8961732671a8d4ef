use Rattle.std.proofs.Common.{◌∙◌, arith}
use Rattle.wl_paint.proofs.MarkedWords.{IsRow-empty, length-marks_from, marked-row_words}
use Rattle.wl_paint.proofs.row.Row.new.Goals as goal

pub invariant_of-result : goal.invariant_of-result
invariant_of-result g c =
    (IsRow-empty c.in_ok-words.words.items c.args.width c.in_ok-words.ensures.sized c.in_ok-words.ensures.tight c.in_ok-words.ensures.empty, λ x l h. absurd (omega arith))

pub returns-clause-width : goal.returns-clause-width
returns-clause-width g c = length-marks_from c.in_ok-words.words.items 0 c.args.width

pub returns-clause-empty : goal.returns-clause-empty
returns-clause-empty g c x =
    marked-row_words c.in_ok-words.words.items c.args.width x (λ k h. c.in_ok-words.ensures.empty k) ∙ c.in_ok-words.ensures.empty x

use Rattle.std.proofs.Common.{◌∙◌, sym}
use Rattle.wl_program.proofs.Sides.{side-none, side-some, side-within}
use Rattle.wl_program.proofs.size.side.Goals as goal

pub returns-then-side-lt1-clause-value : goal.returns-then-side-lt1-clause-value
returns-then-side-lt1-clause-value c =
    side-none c.args.word.now c.in_ok-side.side (sym c.number.ensures ∙ c.in_ok-side.was) c.then-side-lt1.either

pub returns-clause-value : goal.returns-clause-value
returns-clause-value c =
    side-some c.args.word.now c.in_ok-side.side (sym c.number.ensures ∙ c.in_ok-side.was) c.if-side-lt1.false c.if-side-gt-MAX_SIDE.false

pub returns-clause-within : goal.returns-clause-within
returns-clause-within c =
    side-within c.in_ok-side.side c.if-side-lt1.false c.if-side-gt-MAX_SIDE.false

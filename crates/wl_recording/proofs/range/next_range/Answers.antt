use Rattle.std.proofs.Common.{◌<◌, ◌+◌, length, arith}
use Rattle.std.proofs.lemmas.List.{take_rest}
use Rattle.wl_recording.proofs.Ranged.{lines-behind, none-left, none-named, none-rises, one-named}
use Rattle.wl_recording.proofs.range.next_range.Goals as goal

pub returns-then-end-text-clause-range : goal.returns-then-end-text-clause-range
returns-then-end-text-clause-range c = none-left c.args.before c.args.text.now c.line_len-end.result c.line_len-end.ensures.value c.if-end-text.true

pub returns-in_err-range-clause-range : goal.returns-in_err-range-clause-range
returns-in_err-range-clause-range c =
    let some : c.line_len-end.result < length c.args.text.now = omega (arith, c.if-end-text.false, c.line_len-end.ensures.within) in
    rw c.from_residual.ensures (none-named c.args.before c.args.text.now c.line_len-end.result c.line_len-end.ensures.value some c.in_err-range.ensures)

pub returns-then-rises-clause-range : goal.returns-then-rises-clause-range
returns-then-rises-clause-range c =
    let some : c.line_len-end.result < length c.args.text.now = omega (arith, c.if-end-text.false, c.line_len-end.ensures.within) in
    one-named c.args.before c.args.text.now c.line_len-end.result c.in_ok-range.range c.line_len-end.ensures.value some c.in_ok-range.ensures c.if-rises.ensures

pub returns-then-rises-clause-rest : goal.returns-then-rises-clause-rest
returns-then-rises-clause-rest c =
    let some : c.line_len-end.result < length c.args.text.now = omega (arith, c.if-end-text.false, c.line_len-end.ensures.within) in
    lines-behind c.args.text.now _ c.line_len-end.result c.line_len-end.ensures.value some (take_rest c.args.text.now (c.line_len-end.result + 1))

pub returns-else-rises-clause-range : goal.returns-else-rises-clause-range
returns-else-rises-clause-range c =
    let some : c.line_len-end.result < length c.args.text.now = omega (arith, c.if-end-text.false, c.line_len-end.ensures.within) in
    none-rises c.args.before c.args.text.now c.line_len-end.result c.in_ok-range.range c.line_len-end.ensures.value some c.in_ok-range.ensures c.if-rises.ensures

use Rattle.std.proofs.Common.{◌≡◌, ◌<◌, ◌≤◌, arith, length}
use Rattle.wl_paint.proofs.Zeros.{zeros-more, zeros-unmarked}
use Rattle.wl_paint.proofs.words.unmark.Goals as goal

pub loop-word-preserved : goal.loop-word-preserved
loop-word-preserved g c =
    let within : c.loop-word.word-index < length c.loop-word.word-items = omega arith in
    zeros-more c.loop-word.word-items c.loop-word.word-index within c.loop-word.invariant

pub returns-clause-empty : goal.returns-clause-empty
returns-clause-empty g c =
    let words = c.loop-word.word-items in
    let all : length words ≤ c.loop-word.word-index = omega arith in
    let long : length words ≡ c.args.words.now.len = omega (arith, c.deref_mut-word-items.ensures.len) in
    zeros-unmarked words c.args.words.now.items c.loop-word.word-index c.args.words.now.len all long c.loop-word.invariant

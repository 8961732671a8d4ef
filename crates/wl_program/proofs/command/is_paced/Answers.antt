use Rattle.std.proofs.Common.{arith, string_bytes}
use Rattle.wl_program.proofs.Paced.{paced-at, unpaced-all, unpaced-more, unpaced-none}
use Rattle.wl_program.proofs.command.is_paced.Goals as goal

pub loop-word-init : goal.loop-word-init
loop-word-init c = unpaced-none string_bytes c.args.words.now

pub returns-then-is_rate_word : goal.returns-then-is_rate_word
returns-then-is_rate_word c =
    paced-at string_bytes c.args.words.now c.loop-word.word-index c.word-item.result _ _ (omega arith) c.word-item.is c.as_str.ensures.value c.is_rate_word.ensures c.if-is_rate_word.true

pub loop-word-preserved : goal.loop-word-preserved
loop-word-preserved c =
    unpaced-more string_bytes c.args.words.now c.loop-word.word-index c.word-item.result _ _ (omega arith) c.word-item.is c.as_str.ensures.value c.is_rate_word.ensures c.if-is_rate_word.false
    c.loop-word.invariant

pub returns : goal.returns
returns c = unpaced-all string_bytes c.args.words.now c.loop-word.word-index (omega arith) c.loop-word.invariant

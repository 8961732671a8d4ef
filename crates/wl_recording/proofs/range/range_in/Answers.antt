use Rattle.wl_recording.proofs.Ranged.{range-words}
use Rattle.wl_recording.proofs.range.range_in.Goals as goal

pub returns : goal.returns
returns c =
    range-words c.args.line.now _ _ _ _ _ _ _ c.cut_word.ensures.word c.cut_word.ensures.rest c.cut_word-2.ensures.word c.cut_word-2.ensures.rest
    c.cut_word-3.ensures.word c.cut_word-3.ensures.rest c.range_by.ensures

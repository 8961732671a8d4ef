use Rattle.std.proofs.Common.{string_bytes}
use Rattle.wl_program.proofs.Paced.{AreUnpaced}
use Rattle.wl_program.proofs.command.is_paced.Given as goal

-- none of the words so far says it
abbrev pub invariant-loop-word : goal.invariant-loop-word
invariant-loop-word l = AreUnpaced string_bytes l.words l.word-index

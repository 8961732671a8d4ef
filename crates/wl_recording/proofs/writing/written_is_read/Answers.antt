use Rattle.wl_recording.proofs.WrittenLines.{written_lines}
use Rattle.wl_recording.proofs.writing.written_is_read.Goals as goal

pub returns : goal.returns
returns c = written_lines

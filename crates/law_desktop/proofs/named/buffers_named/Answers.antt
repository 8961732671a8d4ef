use Rattle.law_desktop.proofs.ByNames.Reading.{buffers-named}
use Rattle.law_desktop.proofs.named.buffers_named.Goals as goal

pub returns : goal.returns
returns c = buffers-named

use Rattle.law_desktop.proofs.ByNames.Reading.{reads-named}
use Rattle.law_desktop.proofs.named.reads_named.Goals as goal

pub returns : goal.returns
returns c = reads-named

use Rattle.law_desktop.proofs.ByNames.Reading.{numbers-named}
use Rattle.law_desktop.proofs.named.numbers_named.Goals as goal

pub returns : goal.returns
returns c = numbers-named

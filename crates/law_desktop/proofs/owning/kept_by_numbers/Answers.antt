use Rattle.law_desktop.proofs.Twins.{kept-by-numbers}
use Rattle.law_desktop.proofs.owning.kept_by_numbers.Goals as goal

pub returns : goal.returns
returns c = kept-by-numbers

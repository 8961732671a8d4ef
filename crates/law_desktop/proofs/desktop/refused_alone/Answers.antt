use Rattle.law_desktop.proofs.Isolation.Refused.{refused_alone}
use Rattle.law_desktop.proofs.desktop.refused_alone.Goals as goal

pub returns : goal.returns
returns c = refused_alone

use Rattle.law_desktop.proofs.PointerAside.Rounds.{settles-idly}
use Rattle.wl_desk.proofs.desks.Desk.settle.Goals as goal

pub returns-clause-settles : goal.returns-clause-settles
returns-clause-settles g c = λ m amid. c.settle_now.ensures.settles m amid.midway

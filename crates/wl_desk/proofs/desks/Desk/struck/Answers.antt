use Rattle.wl_desk.specs.Midway.{unpointed_mid}
use Rattle.wl_desk.proofs.desks.Desk.struck.Goals as goal

pub returns-clause-first : goal.returns-clause-first
returns-clause-first g c = λ m telling. c.first_refused.ensures.first (unpointed_mid m) (rw (← c.self.view_is) at telling).kept

pub returns-clause-count : goal.returns-clause-count
returns-clause-count g c = rw (← c.self.view_is) c.first_refused.ensures.count

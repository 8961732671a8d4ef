use Rattle.std.proofs.Common.{rules}
use Rattle.wl_requests.proofs.residents.Resident.xdg_wm_base.Goals as goal

pub returns-in-Pong-clause-answers : goal.returns-in-Pong-clause-answers
returns-in-Pong-clause-answers g c = search rules

pub returns-in-CreatePositioner-clause-answers : goal.returns-in-CreatePositioner-clause-answers
returns-in-CreatePositioner-clause-answers g c = λ base free fit.
    rw c.in-CreatePositioner.is (c.create_positioner.ensures.answers (rw c.in-CreatePositioner.is at free))

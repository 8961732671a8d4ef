use Rattle.std.proofs.Common.{map, take}
use Rattle.wl_session.specs.Course.{TakesSteps}
use Rattle.wl_session.specs.Run.{film_of}
use Rattle.wl_session.specs.Step.{act_of}
use Rattle.wl_session.proofs.sessions.Session.run.Given as goal

-- the steps so far were taken
abbrev pub invariant-loop-n : goal.invariant-loop-n
invariant-loop-n g l = TakesSteps (map act_of (take l.n l.steps)) (map film_of l.shots.items) l.fn.self l.self

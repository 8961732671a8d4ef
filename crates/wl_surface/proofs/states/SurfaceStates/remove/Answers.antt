use Rattle.std.proofs.Common.{arith, rules}
use Rattle.std.proofs.lemmas.Fn.{filter_same}
use Rattle.std.proofs.lemmas.Grind.{common_steps}
use Rattle.std.specs.Prelude.{not}
use Rattle.wl_surface.specs.Waiting.{is_of}
use Rattle.wl_surface.proofs.states.SurfaceStates.remove.Goals as goal

pub returns-clause-stand : goal.returns-clause-stand
returns-clause-stand g c = grind (arith, common_steps)

pub returns-clause-count : goal.returns-clause-count
returns-clause-count g c = search rules

pub returns-clause-frames : goal.returns-clause-frames
returns-clause-frames g c =
    rw (← c.self.view_is) (filter_same _ (λ w. not (is_of c.args.surface w)) _ (λ x b f' k. search rules) _ _ c.retain.ensures.filtered)

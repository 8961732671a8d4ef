use Rattle.std.proofs.Common.{sym, ◌∙◌}
use Rattle.wl_surface.proofs.Slots.{none-new}
use Rattle.wl_surface.proofs.states.SurfaceStates.has_new_input.Goals as goal

pub returns-clause-applied : goal.returns-clause-applied
returns-clause-applied g c = λ none all stand.
    none-new c.self.inside.slots.slots all (rw (← c.self.view_is) at stand) (sym c.any_has_new_input.ensures ∙ none)

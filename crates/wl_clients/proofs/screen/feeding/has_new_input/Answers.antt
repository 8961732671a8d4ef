use Rattle.wl_clients.proofs.screen.feeding.has_new_input.Goals as goal

pub returns : goal.returns
returns g c = λ none all stand. c.has_new_input.ensures.applied none all (rw (← c.states.ensures) at stand)

use Rattle.std.proofs.Common.{[], ◌∷◌}
use Rattle.wl_session.proofs.sessions.Session.take_tick.Goals as goal

pub returns-in-Ok-clause-taken : goal.returns-in-Ok-clause-taken
returns-in-Ok-clause-taken g c = λ _. let film = c.in-Ok.ensures.ok in (film.0 ∷ [], film.1, film.2)

use Rattle.std.specs.Prelude.{nat_lt}
use Rattle.wl_desk.proofs.Rising.{place-last}
use Rattle.wl_desk.proofs.seats.place_for.Goals as goal

pub returns-in-None-clause-place : goal.returns-in-None-clause-place
returns-in-None-clause-place c = place-last (λ x. nat_lt c.args.id x) c.args.pointers.now c.in-None.ensures

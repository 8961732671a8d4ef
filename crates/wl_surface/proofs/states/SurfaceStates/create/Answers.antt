use Rattle.wl_surface.proofs.Slots.{with-new}
use Rattle.wl_surface.specs.Surface.{new_surface}
use Rattle.wl_surface.proofs.states.SurfaceStates.create.Goals as goal

pub returns-clause-ok : goal.returns-clause-ok
returns-clause-ok g c = λ all id stand.
    let e = c.in_ok-number.ensures in
    with-new c.self.inside.slots.slots c.insert.new.self.slots c.in_ok-number.number c.new.result (new_surface id) e.was_vacant e.updates.changed e.updates.others (c.new.ensures id) all
    (rw (← c.self.view_is) at stand)

use Rattle.std.proofs.Common.{sym}
use Rattle.wl_surface.proofs.Slots.{Changes-at, Changes-none}
use Rattle.wl_surface.proofs.states.SurfaceStates.show_scaled.Goals as goal
use Rattle.wl_surface.proofs.states.SurfaceStates.show_scaled.Goals.{in-Some, in_default}

pub returns-clause-changes : goal.returns-clause-changes
returns-clause-changes g c =
    let at = c.get_mut.ensures.value in
    elim c.match-get_mut.branch [
      | in-Some w ↦ rw (← c.self.view_is, w.self-inside-is) (Changes-at c.self.inside.slots.slots _ _ c.args.surface _ _ _ (sym (rw w.in-Some.is at at)) w.set_scale.ensures)
      | in_default w ↦ rw (← c.self.view_is, w.self-inside-is) (Changes-none c.self.inside.slots.slots _ _ c.args.surface _ (sym (rw w.in_default.is at at)))
    ]

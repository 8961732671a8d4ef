use Rattle.std.proofs.Common.{sym, w32}
use Rattle.std.proofs.lemmas.Int.{to_z-of_z}
use Rattle.wl_surface.proofs.Slots.{Changes-at, Changes-none}
use Rattle.wl_surface.proofs.states.SurfaceStates.attach.Goals as goal
use Rattle.wl_surface.proofs.states.SurfaceStates.attach.Goals.{in-Some, in_default}

pub returns-clause-changes : goal.returns-clause-changes
returns-clause-changes g c =
    let at = c.get_mut.ensures.value in
    elim c.match-get_mut.branch [
      | in-Some w ↦ rw (← c.self.view_is, w.self-inside-is)
          (Changes-at c.self.inside.slots.slots _ _ c.args.surface _ _ _ (sym (rw w.in-Some.is at at)) (rw (to_z-of_z w32 c.args.x c.ranges.x, to_z-of_z w32 c.args.y c.ranges.y) at w.attach.ensures))
      | in_default w ↦ rw (← c.self.view_is, w.self-inside-is) (Changes-none c.self.inside.slots.slots _ _ c.args.surface _ (sym (rw w.in_default.is at at)))
    ]

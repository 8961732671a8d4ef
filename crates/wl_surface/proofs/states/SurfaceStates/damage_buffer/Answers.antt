use Rattle.std.proofs.Common.{sym}
use Rattle.wl_surface.proofs.Slots.{Changes-at, Changes-none}
use Rattle.wl_surface.proofs.states.SurfaceStates.damage_buffer.Goals as goal
use Rattle.wl_surface.proofs.states.SurfaceStates.damage_buffer.Goals.{in-Some+in_ok-damage_buffer, in_default}

pub returns-clause-ok : goal.returns-clause-ok
returns-clause-ok g c =
    let at = c.get_mut.ensures.value in
    elim c.match-get_mut.branch [
      | in-Some+in_ok-damage_buffer w ↦ rw (← c.self.view_is, w.self-inside-is)
          (Changes-at c.self.inside.slots.slots _ _ c.args.surface _ _ _ (sym (rw w.in-Some.is at at)) w.in_ok-damage_buffer.ensures.ok)
      | in_default w ↦ rw (← c.self.view_is, w.self-inside-is) (Changes-none c.self.inside.slots.slots _ _ c.args.surface _ (sym (rw w.in_default.is at at)))
    ]

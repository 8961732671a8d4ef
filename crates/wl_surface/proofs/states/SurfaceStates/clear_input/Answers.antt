use Rattle.std.proofs.Common.{refl, sym}
use Rattle.wl_surface.proofs.Slots.{Changes-at, Changes-none}
use Rattle.wl_surface.proofs.states.SurfaceStates.clear_input.Goals as goal
use Rattle.wl_surface.proofs.states.SurfaceStates.clear_input.Goals.{in-Some, in_default}

pub returns-clause-changes : goal.returns-clause-changes
returns-clause-changes g c =
    let at = c.get_mut.ensures.value in
    elim c.match-get_mut.branch [
      | in-Some w ↦ rw (← c.self.view_is, w.self-inside-is) (Changes-at c.self.inside.slots.slots _ _ c.args.surface _ _ _ (sym (rw w.in-Some.is at at)) w.clear_input.ensures)
      | in_default w ↦ rw (← c.self.view_is, w.self-inside-is) (Changes-none c.self.inside.slots.slots _ _ c.args.surface _ (sym (rw w.in_default.is at at)))
    ]

pub returns-clause-frames : goal.returns-clause-frames
returns-clause-frames g c = elim c.match-get_mut.branch [
  | in-Some w ↦ rw (← c.self.view_is, w.self-inside-is) refl
  | in_default w ↦ rw (← c.self.view_is, w.self-inside-is) refl
]

use Rattle.std.proofs.Common.{sym}
use Rattle.wl_surface.proofs.Records.{For-role}
use Rattle.wl_surface.proofs.Slots.{Changes-at, Changes-none}
use Rattle.wl_surface.proofs.states.SurfaceStates.give_role.Goals as goal
use Rattle.wl_surface.proofs.states.SurfaceStates.give_role.Goals.{in-Some+else-not-give_role, in_default}

pub returns-clause-ok : goal.returns-clause-ok
returns-clause-ok g c =
    let at = c.get_mut.ensures.value in
    elim c.match-get_mut.branch [
      | in-Some+else-not-give_role w ↦
          rw (← c.self.view_is, w.self-inside-is, w.if-not-give_role.ensures.given)
          (Changes-at c.self.inside.slots.slots _ _ c.args.surface w.in-Some.kept.now _ _ (sym (rw w.in-Some.is at at)) (λ s t. For-role w.in-Some.kept.now s c.args.role t))
      | in_default w ↦ rw (← c.self.view_is, w.self-inside-is) (Changes-none c.self.inside.slots.slots _ _ c.args.surface _ (sym (rw w.in_default.is at at)))
    ]

use Rattle.std.proofs.Common.{Option, subst, sym}
use Rattle.wl_surface.specs.Kept.{Kept}
use Rattle.wl_surface.specs.Slots.{StandsAt}
use Rattle.wl_surface.specs.Waiting.{applied_by}
use Rattle.wl_surface.proofs.Changed.{applied-none, applied-some}
use Rattle.wl_surface.proofs.Counting.{waiting-applied}
use Rattle.wl_surface.proofs.Slots.{Changes-at, Changes-none}
use Rattle.wl_surface.proofs.Waiting.{changed-all}
use Rattle.wl_surface.proofs.states.SurfaceStates.apply.Goals as goal
use Rattle.wl_surface.proofs.states.SurfaceStates.apply.Goals.{in-Some, in-None}

pub returns-clause-frames : goal.returns-clause-frames
returns-clause-frames g c =
    let applied = changed-all (applied_by c.args.surface) c.deref_mut.result.now c.apply_all.new.frames c.self.inside.frames.items _
    c.apply_all.ensures c.deref_mut.ensures.value c.deref_mut.ensures.len in
    elim c.match-get_mut.branch [
      | in-Some w ↦ rw (← c.self.view_is, w.self-inside-is) applied
      | in-None w ↦ rw (← c.self.view_is, w.self-inside-is) applied
    ]

pub returns-clause-waits : goal.returns-clause-waits
returns-clause-waits g c = λ all cs are. rw (returns-clause-frames g c) (waiting-applied c.args.surface all c.args.self.now.frames cs are)

pub returns-clause-change : goal.returns-clause-change
returns-clause-change g c = λ all stand.
    let at = c.get_mut.ensures.value in
    let here = rw (← c.self.view_is) at stand c.args.surface in
    elim c.match-get_mut.branch [
      | in-Some w ↦
          rw w.result-is
          (applied-some c.args.surface w.in-Some.kept.now (all c.args.surface) _ (subst (λ (slot : Option Kept). StandsAt slot (all c.args.surface)) (sym (rw w.in-Some.is at at)) here)
          w.apply_change.ensures.change)
      | in-None w ↦ rw w.result-is
          (applied-none _ c.args.surface (all c.args.surface) (subst (λ (slot : Option Kept). StandsAt slot (all c.args.surface)) (sym (rw w.in-None.is at at)) here))
    ]

pub returns-clause-stand : goal.returns-clause-stand
returns-clause-stand g c =
    let at = c.get_mut.ensures.value in
    elim c.match-get_mut.branch [
      | in-Some w ↦
          rw (← c.self.view_is, w.self-inside-is) (Changes-at c.self.inside.slots.slots _ _ c.args.surface _ _ _ (sym (rw w.in-Some.is at at)) w.apply_change.ensures.stands)
      | in-None w ↦ rw (← c.self.view_is, w.self-inside-is) (Changes-none c.self.inside.slots.slots _ _ c.args.surface _ (sym (rw w.in-None.is at at)))
    ]

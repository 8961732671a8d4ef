use Rattle.std.proofs.Common.{◌≡◌, ap, map, refl, sym, ◌∙◌}
use Rattle.wl_surface.specs.Slots.{kept_at}
use Rattle.wl_surface.specs.Waiting.{held_by}
use Rattle.wl_surface.proofs.Counting.{waiting-held}
use Rattle.wl_surface.proofs.Slots.{Changes-at, Changes-none}
use Rattle.wl_surface.proofs.Waiting.{changed-all}
use Rattle.wl_surface.proofs.states.SurfaceStates.hold.Goals as goal
use Rattle.wl_surface.proofs.states.SurfaceStates.hold.Goals.{in-Some+in_ok-hold, in_default}

pub returns-clause-ok : goal.returns-clause-ok
returns-clause-ok g c =
    let at = c.get_mut.ensures.value in
    elim c.match-get_mut.branch [
      | in-Some+in_ok-hold w ↦ rw (← c.self.view_is, w.self-inside-is) (Changes-at c.self.inside.slots.slots _ _ c.args.surface _ _ _ (sym (rw w.in-Some.is at at)) w.in_ok-hold.ensures.ok)
      | in_default w ↦ rw (← c.self.view_is, w.self-inside-is) (Changes-none c.self.inside.slots.slots _ _ c.args.surface _ (sym (rw w.in_default.is at at)))
    ]

pub returns-clause-frames : goal.returns-clause-frames
returns-clause-frames g c =
    let same : c.match-get_mut.self-inside.frames.items ≡ c.args.self.now.frames = elim c.match-get_mut.branch [
      | in-Some+in_ok-hold w ↦ rw (← c.self.view_is, w.self-inside-is) refl
      | in_default w ↦ rw (← c.self.view_is, w.self-inside-is) refl
    ] in
    changed-all (held_by c.args.surface) c.deref_mut.result.now c.hold_all.new.frames c.match-get_mut.self-inside.frames.items _ c.hold_all.ensures c.deref_mut.ensures.value c.deref_mut.ensures.len
    ∙ ap (λ ws. map (held_by c.args.surface) ws) same

pub returns-clause-waits : goal.returns-clause-waits
returns-clause-waits g c = λ all cs stand are.
    rw (returns-clause-frames g c) (waiting-held c.args.surface all (λ number. (kept_at c.args.self.now number, stand number)) c.args.self.now.frames cs are)

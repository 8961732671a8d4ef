use Rattle.std.proofs.Common.{ap, refl, sym, ◌∙◌}
use Rattle.std.specs.Prelude.{position}
use Rattle.wl_surface.proofs.Counting.{waiting-next, waiting-none}
use Rattle.wl_surface.proofs.Waiting.{is_next, next-nowhere, next-taken}
use Rattle.wl_surface.proofs.states.SurfaceStates.next_frame.Goals as goal

pub returns-in_default-clause-next : goal.returns-in_default-clause-next
returns-in_default-clause-next g c =
    let e = ap (λ ws. position is_next ws) (sym c.deref.ensures.value) ∙ sym c.in_default.ensures in
    rw (← c.self.view_is) (sym (next-nowhere c.self.inside.frames.items e).0)

pub returns-in_default-clause-frames : goal.returns-in_default-clause-frames
returns-in_default-clause-frames g c =
    let e = ap (λ ws. position is_next ws) (sym c.deref.ensures.value) ∙ sym c.in_default.ensures in
    rw (← c.self.view_is) (sym (next-nowhere c.self.inside.frames.items e).1)

pub returns-clause-next : goal.returns-clause-next
returns-clause-next g c =
    let e = ap (λ ws. position is_next ws) (sym c.deref.ensures.value) ∙ sym c.in-Some.ensures in
    rw (← c.self.view_is) (sym (next-taken c.self.inside.frames.items c.in-Some.place c.remove.result e c.remove.ensures.value).0)

pub returns-clause-frames : goal.returns-clause-frames
returns-clause-frames g c =
    let e = ap (λ ws. position is_next ws) (sym c.deref.ensures.value) ∙ sym c.in-Some.ensures in
    rw (← c.self.view_is) (c.remove.ensures.items ∙ sym (next-taken c.self.inside.frames.items c.in-Some.place c.remove.result e c.remove.ensures.value).1)

pub returns-in_default-clause-none : goal.returns-in_default-clause-none
returns-in_default-clause-none g c = (refl, λ all cs are. waiting-none all c.args.self.now.frames cs are (sym (returns-in_default-clause-next g c)))

pub returns-clause-due : goal.returns-clause-due
returns-clause-due g c = λ all cs are. rw (returns-clause-frames g c) (waiting-next all c.args.self.now.frames cs _ are (sym (returns-clause-next g c)))

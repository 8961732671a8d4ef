use Rattle.std.proofs.Common.{false}
use Rattle.wl_surface.proofs.Callbacks.{callbacks-passed, callbacks-taken}
use Rattle.wl_surface.specs.declared.frames.Waiting.{Waiting}
use Rattle.wl_surface.proofs.frames.callbacks_of.Goals as goal
use Rattle.wl_surface.proofs.frames.callbacks_of.Goals.{then-waiting-surface+in_ok-push, else-waiting-surface}

pub loop-waiting-preserved : goal.loop-waiting-preserved
loop-waiting-preserved g c =
    let none : Waiting = record { surface = 0; callback = 0; is_held = false; is_applied = false } in
    let frames = c.args.frames.now in
    let i = c.loop-waiting.waiting-index in
    let was = c.loop-waiting.callbacks.items in
    let less = c.loop-waiting-test.true in
    let so_far = c.loop-waiting.invariant in
    elim c.if-waiting-surface.branch [
      | then-waiting-surface+in_ok-push w ↦
          rw w.callbacks-is (callbacks-taken c.args.surface frames i none was w.push.new.self.items less so_far w.if-waiting-surface.true w.in_ok-push.ensures.items)
      | else-waiting-surface w ↦ rw w.callbacks-is (callbacks-passed c.args.surface frames i none was less so_far w.if-waiting-surface.false)
    ]

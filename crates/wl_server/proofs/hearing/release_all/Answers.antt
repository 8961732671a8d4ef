use Rattle.std.proofs.Common.{arith}
use Rattle.std.proofs.lemmas.List.{drop_all, drop_more}
use Rattle.wl_server.proofs.Watched.{released-all, released-more, released-none}
use Rattle.wl_server.proofs.hearing.release_all.Goals as goal

pub loop-code-init : goal.loop-code-init
loop-code-init g c = released-none c.args.time c.args.buttons.now c.args.recorded.now

pub loop-code-preserved : goal.loop-code-preserved
loop-code-preserved g c =
    released-more c.args.time c.args.buttons.now _ _ _ c.args.recorded.now c.loop-code.recorded c.button.new.self
    (drop_more c.args.buttons.now c.loop-code.code-index 0 (omega arith)) (c.button.ensures.course, c.button.ensures.noted) c.loop-code.invariant

pub returns : goal.returns
returns g c =
    released-all c.args.time c.args.buttons.now _ c.args.recorded.now c.loop-code.recorded (drop_all c.loop-code.code-index c.args.buttons.now (omega arith)) c.loop-code.invariant

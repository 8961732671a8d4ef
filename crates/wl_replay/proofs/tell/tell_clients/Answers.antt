use Rattle.std.proofs.Common.{◌++◌, []}
use Rattle.std.proofs.KnownBytes.{Appends-trans, Appends-nil}
use Rattle.wl_replay.proofs.Telling.{TellsFirst-none, TellsFirst-more}
use Rattle.wl_replay.proofs.tell.tell_clients.Goals as goal

pub loop-before-init : goal.loop-before-init
loop-before-init g c = λ d agrees. (d, [], TellsFirst-none d, agrees, Appends-nil _)

pub loop-before-preserved : goal.loop-before-preserved
loop-before-preserved g c = λ d agrees.
    let before = c.loop-before.invariant d agrees in
    let next = c.in_ok-tell_client.ensures before.0 before.3 in
    (next.0, before.1 ++ next.1, TellsFirst-more c.loop-before.before d before.0 next.0 before.1 next.1 before.2 next.2, next.3, Appends-trans _ _ _ before.1 next.1 before.4 next.4)

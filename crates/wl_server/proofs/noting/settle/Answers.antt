use Rattle.wl_server.specs.Recorded.{Looks}
use Rattle.wl_server.proofs.NotedActs.{on-none, on-some}
use Rattle.wl_server.proofs.noting.settle.Goals as goal

pub returns-in-Some : goal.returns-in-Some
returns-in-Some g c =
    on-some (Looks g.R.Write.contents c.args.session.now) c.args.recording.now c.in-Some.recording c.look_at_all.new.recording c.in-Some.is c.look_at_all.ensures

pub returns-in_default : goal.returns-in_default
returns-in_default g c = on-none (Looks g.R.Write.contents c.args.session.now) c.args.recording.now c.in_default.is

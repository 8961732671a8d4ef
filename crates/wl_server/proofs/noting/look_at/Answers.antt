use Rattle.wl_server.proofs.Histories.{left-behind}
use Rattle.wl_server.proofs.noting.look_at.Goals as goal

pub returns-in-Alive : goal.returns-in-Alive
returns-in-Alive g c = rw c.in-Alive.is (λ first notes holds. holds)

pub returns-in-Ended : goal.returns-in-Ended
returns-in-Ended g c = rw c.in-Ended.is c.end_there.ensures

pub returns-in-NoClient : goal.returns-in-NoClient
returns-in-NoClient g c =
    rw c.in-NoClient.is (left-behind g.R.Write.contents c.args.client c.args.recording.now c.leave.new.self c.leave.ensures.written c.leave.ensures.has_failed c.leave.ensures.clients)

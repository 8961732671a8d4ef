use Rattle.std.proofs.Common.{ap, ◌∙◌}
use Rattle.spec_desktop.specs.Told.{error_told}
use Rattle.wl_client.proofs.Peers.{LacksMemory-told}
use Rattle.wl_client.proofs.clients.Client.lack_memory.Goals as goal

pub returns-clause-lacks : goal.returns-clause-lacks
returns-clause-lacks g c = λ p is.
    let event = c.error_event.ensures ∙ ap error_told c.of_display.ensures in
    let lacks = LacksMemory-told c.queue.result c.args.self.now c.queue.new.self p _ event is c.queue.ensures.ok c.queue.ensures.err in
    (lacks.0, lacks.1, rw c.end.ensures.cleared lacks.2)

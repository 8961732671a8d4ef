use Rattle.std.proofs.Common.{sym, ◌∙◌}
use Rattle.wl_server.proofs.Histories.{gone-and-left, left-silently}
use Rattle.wl_server.proofs.noting.end_there.Goals as goal

pub returns-then-outlasts : goal.returns-then-outlasts
returns-then-outlasts g c =
    rw (sym c.outlasts.ensures ∙ c.if-outlasts.true)
    (gone-and-left g.R.Write.contents c.args.client c.args.recording.now c.gone.new.self c.leave.new.self c.gone.ensures.asked c.gone.ensures.clients
    c.leave.ensures.written c.leave.ensures.has_failed c.leave.ensures.clients)

pub returns-else-outlasts : goal.returns-else-outlasts
returns-else-outlasts g c =
    rw (sym c.outlasts.ensures ∙ c.if-outlasts.false)
    (left-silently g.R.Write.contents c.args.client c.args.recording.now c.leave-else-outlasts.new.self c.leave-else-outlasts.ensures.written c.leave-else-outlasts.ensures.has_failed c.leave-else-outlasts.ensures.clients)

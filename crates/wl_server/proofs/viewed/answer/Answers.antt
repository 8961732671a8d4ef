use Rattle.std.proofs.Common.{◌∙◌, ap, sym}
use Rattle.wl_server.specs.Watching.{Watching, lines_of}
use Rattle.wl_server.proofs.Watched.{answers-none}
use Rattle.wl_server.proofs.viewed.answer.Goals as goal

pub returns-then-watcher : goal.returns-then-watcher
returns-then-watcher g c d agrees =
    answers-none (lines_of d) c.args.time c.args.watcher.now (ap (λ (v : Watching _). v.has_failed) (sym c.watcher.view_is) ∙ c.if-watcher.true)

use Rattle.spec_desktop.specs.Act.{Leave}
use Rattle.wl_server.specs.Recorded.{NotesOf}
use Rattle.wl_server.proofs.NotedActs.{noted-gone, on-none, on-some}
use Rattle.wl_server.proofs.noting.note_gone.Goals as goal

pub returns-in-Some : goal.returns-in-Some
returns-in-Some g c = λ done. on-some (NotesOf g.R.Write.contents (Leave c.args.client) done) c.args.recording.now c.in-Some.recording c.gone.new.self c.in-Some.is
    (noted-gone g.R.Write.contents c.args.client done c.in-Some.recording c.gone.new.self c.gone.ensures.asked c.gone.ensures.clients)

pub returns-in_default : goal.returns-in_default
returns-in_default g c = λ done. on-none (NotesOf g.R.Write.contents (Leave c.args.client) done) c.args.recording.now c.in_default.is

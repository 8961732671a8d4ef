use Rattle.spec_desktop.specs.Act.{Feed}
use Rattle.wl_server.specs.Recorded.{NotesOf}
use Rattle.wl_server.proofs.NotedActs.{noted-fed, on-none, on-some}
use Rattle.wl_server.proofs.noting.note_fed.Goals as goal

pub returns-in-Some : goal.returns-in-Some
returns-in-Some g c = λ done. on-some (NotesOf g.R.Write.contents (Feed c.args.client c.args.piece.now) done) c.args.recording.now c.in-Some.recording c.feed.new.self c.in-Some.is
    (noted-fed g.R.Write.contents c.args.client c.args.piece.now done c.in-Some.recording c.feed.new.self c.feed.ensures.asked c.feed.ensures.clients)

pub returns-in_default : goal.returns-in_default
returns-in_default g c = λ done. on-none (NotesOf g.R.Write.contents (Feed c.args.client c.args.piece.now) done) c.args.recording.now c.in_default.is

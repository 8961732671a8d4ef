use Rattle.spec_desktop.specs.Act.{Store}
use Rattle.wl_server.specs.Recorded.{NotesIn}
use Rattle.wl_server.proofs.NotedActs.{on-none, on-some}
use Rattle.wl_server.proofs.noting.note_store.Goals as goal

pub returns-in-Some : goal.returns-in-Some
returns-in-Some g c = λ done. on-some (NotesIn g.R.Write.contents c.args.session.now (Store c.args.place.now.client c.args.place.now.store c.args.place.now.at c.args.bytes.now) done) c.args.recording.now c.in-Some.recording c.note_put.new.recording c.in-Some.is
    (c.note_put.ensures done)

pub returns-in_default : goal.returns-in_default
returns-in_default g c = λ done. on-none (NotesIn g.R.Write.contents c.args.session.now (Store c.args.place.now.client c.args.place.now.store c.args.place.now.at c.args.bytes.now) done) c.args.recording.now c.in_default.is

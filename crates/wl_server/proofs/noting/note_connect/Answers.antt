use Rattle.spec_desktop.specs.Act.{Connect}
use Rattle.spec_desktop.specs.declared.answers.Done.TheVariants as gave
use Rattle.wl_server.specs.Recorded.{NotesOf}
use Rattle.wl_server.proofs.NotedActs.{on-none, on-some}
use Rattle.wl_server.proofs.noting.note_connect.Goals as goal

pub returns-in-Some : goal.returns-in-Some
returns-in-Some g c = on-some (NotesOf g.R.Write.contents (Connect) (gave.Connect c.args.connected)) c.args.recording.now c.in-Some.recording c.note_connected.new.recording c.in-Some.is
    (c.note_connected.ensures)

pub returns-in_default : goal.returns-in_default
returns-in_default g c = on-none (NotesOf g.R.Write.contents (Connect) (gave.Connect c.args.connected)) c.args.recording.now c.in_default.is

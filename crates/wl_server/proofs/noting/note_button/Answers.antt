use Rattle.std.proofs.Common.{refl}
use Rattle.spec_desktop.specs.Act.{Button}
use Rattle.spec_desktop.specs.declared.answers.Done.TheVariants as gave
use Rattle.wl_recording.specs.Line as line
use Rattle.wl_server.specs.Recorded.{NotesOf}
use Rattle.wl_server.proofs.NotedActs.{noted-one, on-none, on-some}
use Rattle.wl_server.proofs.noting.note_button.Goals as goal

pub returns-in-Some : goal.returns-in-Some
returns-in-Some g c = on-some (NotesOf g.R.Write.contents (Button c.args.time c.args.code c.args.pressed) gave.Button) c.args.recording.now c.in-Some.recording c.record.new.self c.in-Some.is
    (noted-one g.R.Write.contents (Button c.args.time c.args.code c.args.pressed) gave.Button (line.Button c.args.time c.args.code c.args.pressed) c.in-Some.recording c.record.new.self (λ d notes. refl) c.record.ensures.asked c.record.ensures.clients)

pub returns-in_default : goal.returns-in_default
returns-in_default g c = on-none (NotesOf g.R.Write.contents (Button c.args.time c.args.code c.args.pressed) gave.Button) c.args.recording.now c.in_default.is

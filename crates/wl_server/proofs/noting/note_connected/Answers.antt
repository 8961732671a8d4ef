use Rattle.std.proofs.Common.{Err, refl}
use Rattle.spec_desktop.specs.Act.{Connect}
use Rattle.spec_desktop.specs.declared.answers.Done.TheVariants as gave
use Rattle.wl_server.proofs.NotedActs.{noted-connect, noted-nothing}
use Rattle.wl_server.proofs.noting.note_connected.Goals as goal

pub returns-in-Ok : goal.returns-in-Ok
returns-in-Ok g c = rw c.in-Ok.is (noted-connect g.R.Write.contents c.in-Ok.client c.args.recording.now c.connect.new.self c.connect.ensures.asked c.connect.ensures.clients)

pub returns-in-Err : goal.returns-in-Err
returns-in-Err g c = rw c.in-Err.is (noted-nothing g.R.Write.contents Connect (gave.Connect (Err c.in-Err.field-0)) c.args.recording.now (λ d notes. refl))

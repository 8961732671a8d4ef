use Rattle.std.proofs.Common.{rules, w32}
use Rattle.std.proofs.lemmas.Int.{to_z-of_z}
use Rattle.std.specs.Prelude.{FitsSigned}
use Rattle.spec_desktop.specs.Act.{Motion}
use Rattle.spec_desktop.specs.declared.answers.Done.TheVariants as gave
use Rattle.wl_server.specs.Recorded.{NotesOf}
use Rattle.wl_server.proofs.NotedActs.{noted-motion, on-none, on-some}
use Rattle.wl_server.proofs.noting.note_motion.Goals as goal

pub returns-in-Some : goal.returns-in-Some
returns-in-Some g c =
    let x : FitsSigned w32 c.args.x = search rules in
    let y : FitsSigned w32 c.args.y = search rules in
    on-some (NotesOf g.R.Write.contents (Motion c.args.time c.args.x c.args.y) gave.Motion) c.args.recording.now c.in-Some.recording c.record.new.self c.in-Some.is
    (noted-motion g.R.Write.contents c.args.time c.args.x c.args.y _ _ c.in-Some.recording c.record.new.self (to_z-of_z w32 c.args.x x) (to_z-of_z w32 c.args.y y) c.record.ensures.asked c.record.ensures.clients)

pub returns-in_default : goal.returns-in_default
returns-in_default g c = on-none (NotesOf g.R.Write.contents (Motion c.args.time c.args.x c.args.y) gave.Motion) c.args.recording.now c.in_default.is

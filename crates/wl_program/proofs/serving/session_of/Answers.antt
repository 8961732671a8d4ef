-- A new session is one as it begins.
use Rattle.wl_replay.proofs.Stages.{is-first}
use Rattle.wl_program.specs.Serving.{output_of}
use Rattle.wl_program.proofs.serving.session_of.Goals as goal

pub returns-in-Ok-clause-first : goal.returns-in-Ok-clause-first
returns-in-Ok-clause-first g c =
    is-first c.in-Ok.session (output_of c.args.size) c.in-Ok.ensures.desk c.in-Ok.ensures.right c.in-Ok.ensures.width c.in-Ok.ensures.height c.in-Ok.ensures.background c.in-Ok.ensures.pixels
    c.in-Ok.ensures.damage

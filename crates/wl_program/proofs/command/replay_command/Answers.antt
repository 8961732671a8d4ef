-- Each call adds its part to the command that clap's clauses read.
use Rattle.std.proofs.Common.{◌≡◌, ◌∙◌, ap, codes}
use Rattle.std.proofs.lemmas.Result.{IfOk-weaker}
use Rattle.clap.specs.Words.{app_of, new_app}
use Rattle.wl_program.specs.Command.{with_output}
use Rattle.wl_program.proofs.command.replay_command.Goals as goal

pub returns : goal.returns
returns c =
    let named : app_of c.after_help-replay.result ≡ new_app (codes "replay") = rw (c.after_help-replay.ensures, c.about.ensures) c.new.ensures.app in
    IfOk-weaker c.with_output.result _ _ (λ command is. is ∙ ap with_output named) c.with_output.ensures

-- Each call adds its part to the command that clap's clauses read.
use Rattle.std.proofs.Common.{◌≡◌, ◌∙◌, ap, ap₂, true}
use Rattle.std.proofs.lemmas.Result.{IfOk-weaker}
use Rattle.clap.specs.Words.{App, app_of, with_subcommand}
use Rattle.wl_program.specs.Command.{program}
use Rattle.wl_program.proofs.Locals.{back, front, isnt}
use Rattle.wl_program.proofs.command.command.Goals as goal

pub returns : goal.returns
unfolding program
returns c =
    let replay_plain : (app_of c.in_ok-replay.replay).top.is_plain ≡ true = ap (λ (a : App). a.top.is_plain) c.in_ok-replay.ensures in
    let serve_plain : (app_of c.in_ok-serve.serve).top.is_plain ≡ true = ap (λ (a : App). a.top.is_plain) c.in_ok-serve.ensures in
    let with_replay = c.in_ok-subcommand.ensures.shape (isnt _ (front _ _ (back _ _ (back _ _ replay_plain)))) ∙ ap₂ with_subcommand c.bare_command.ensures (ap (λ (a : App). a.top) c.in_ok-replay.ensures) in
    IfOk-weaker c.subcommand-2.result _ _
    (λ command adds. adds.shape (isnt _ (front _ _ (back _ _ (back _ _ serve_plain)))) ∙ ap₂ with_subcommand with_replay (ap (λ (a : App). a.top) c.in_ok-serve.ensures)) c.subcommand-2.ensures

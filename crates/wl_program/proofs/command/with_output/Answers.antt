-- Each call adds its part to the command that clap's clauses read.
use Rattle.std.proofs.Common.{◌∙◌, ap₂, refl}
use Rattle.std.proofs.lemmas.Result.{IfOk-weaker}
use Rattle.clap.specs.Words.{with_rule}
use Rattle.wl_program.proofs.command.with_output.Goals as goal

pub returns : goal.returns
returns c =
    let with_size = c.in_ok-arg.ensures.shape c.size_option.ensures.own ∙ ap₂ with_rule refl c.size_option.ensures.rule in
    let with_ppm = c.in_ok-arg-2.ensures.shape c.ppm_option.ensures.own ∙ ap₂ with_rule with_size c.ppm_option.ensures.rule in
    IfOk-weaker c.arg-3.result _ _ (λ command adds. adds.shape c.dir_option.ensures.own ∙ ap₂ with_rule with_ppm c.dir_option.ensures.rule) c.arg-3.ensures

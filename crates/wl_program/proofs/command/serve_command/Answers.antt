-- Each call adds its part to the command that clap's clauses read.
use Rattle.std.proofs.Common.{◌≡◌, ◌∙◌, ap, ap₂, codes}
use Rattle.std.proofs.lemmas.Result.{IfOk-weaker}
use Rattle.clap.specs.Words.{app_of, new_app, with_rule}
use Rattle.wl_program.specs.Command.{with_output}
use Rattle.wl_program.proofs.command.serve_command.Goals as goal

pub returns : goal.returns
returns c =
    let named : app_of c.after_help.result ≡ new_app (codes "serve") = rw (c.after_help.ensures, c.about.ensures) c.new.ensures.app in
    let with_socket = c.in_ok-arg.ensures.shape c.socket_option.ensures.own ∙ ap₂ with_rule named c.socket_option.ensures.rule in
    let with_turns = c.in_ok-arg-2.ensures.shape c.turns_option.ensures.own ∙ ap₂ with_rule with_socket c.turns_option.ensures.rule in
    let with_rate = c.in_ok-serve.ensures.shape c.rate_option.ensures.own ∙ ap₂ with_rule with_turns c.rate_option.ensures.rule in
    let with_rest = c.in_ok-with_output.ensures ∙ ap with_output with_rate in
    let with_pointer = c.in_ok-arg-3.ensures.shape c.pointer_option.ensures.own ∙ ap₂ with_rule with_rest c.pointer_option.ensures.rule in
    let with_viewer = c.in_ok-arg-4.ensures.shape c.viewer_option.ensures.own ∙ ap₂ with_rule with_pointer c.viewer_option.ensures.rule in
    IfOk-weaker c.arg-6.result _ _ (λ command adds. adds.shape c.record_option.ensures.own ∙ ap₂ with_rule with_viewer c.record_option.ensures.rule) c.arg-6.ensures

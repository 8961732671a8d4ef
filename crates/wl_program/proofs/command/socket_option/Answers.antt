use Rattle.std.proofs.Common.{◌∙◌, ap}
use Rattle.clap.specs.Words.{rule_of}
use Rattle.clap.specs.declared.builder.arg.Arg.{Arg}
use Rattle.wl_program.specs.Command.{required}
use Rattle.wl_program.proofs.command.socket_option.Goals as goal

pub returns-clause-rule : goal.returns-clause-rule
returns-clause-rule c = ap rule_of c.required.ensures ∙ ap required c.named_option.ensures.rule

pub returns-clause-own : goal.returns-clause-own
returns-clause-own c = ap (λ (a : Arg). a.global) c.required.ensures ∙ c.named_option.ensures.own

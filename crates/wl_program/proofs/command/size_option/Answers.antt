use Rattle.std.proofs.Common.{◌∙◌, ◌∷◌, [], ap, codes}
use Rattle.clap.specs.Words.{Rule, rule_of}
use Rattle.clap.specs.declared.builder.arg.Arg.{Arg}
use Rattle.wl_program.proofs.command.size_option.Goals as goal

pub returns-clause-rule : goal.returns-clause-rule
returns-clause-rule c = ap rule_of c.default_value.ensures ∙ ap (λ (r : Rule). record r { defaults = codes "640x480" ∷ [] }) c.named_option.ensures.rule

pub returns-clause-own : goal.returns-clause-own
returns-clause-own c = ap (λ (a : Arg). a.global) c.default_value.ensures ∙ c.named_option.ensures.own

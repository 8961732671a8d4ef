use Rattle.wl_program.proofs.Named.{named-own, named-rule}
use Rattle.wl_program.proofs.command.named_option.Goals as goal

pub returns-clause-rule : goal.returns-clause-rule
returns-clause-rule c =
    named-rule _ _ _ c.new.result c.long.result c.value_name.result c.help.result c.new.ensures.rule c.long.ensures c.value_name.ensures c.help.ensures

pub returns-clause-own : goal.returns-clause-own
returns-clause-own c =
    named-own _ _ _ c.new.result c.long.result c.value_name.result c.help.result c.new.ensures.optional.1 c.long.ensures c.value_name.ensures c.help.ensures

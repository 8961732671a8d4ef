use Rattle.std.proofs.Common.{rules}
use Rattle.wl_program.proofs.command.bare_command.Goals as goal

pub returns : goal.returns
returns c = search rules

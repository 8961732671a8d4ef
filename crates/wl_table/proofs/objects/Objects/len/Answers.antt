use Rattle.std.proofs.Common.{rules}
use Rattle.wl_table.proofs.objects.Objects.len.Goals as goal

pub returns : goal.returns
returns g c = search rules

use Rattle.std.proofs.Common.{rules}
use Rattle.wl_client.proofs.wl_shm_pool.layout_refusal.Goals as goal

pub returns : goal.returns
returns c = search rules

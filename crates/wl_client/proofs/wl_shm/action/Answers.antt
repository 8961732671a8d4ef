use Rattle.std.proofs.Common.{rules}
use Rattle.wl_client.proofs.wl_shm.action.Goals as goal

pub returns-in-None : goal.returns-in-None
returns-in-None g c = search rules

pub returns-in-Some-BadSize : goal.returns-in-Some-BadSize
returns-in-Some-BadSize g c = search rules

pub returns-in-Some : goal.returns-in-Some
returns-in-Some g c = search rules

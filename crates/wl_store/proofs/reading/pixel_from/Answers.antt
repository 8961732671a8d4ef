use Rattle.std.proofs.Common.{arith}
use Rattle.std.proofs.lemmas.Simd.{length-chunk, get_or-chunk}
use Rattle.wl_store.proofs.reading.pixel_from.Goals as goal

pub returns-clause-lanes : goal.returns-clause-lanes
returns-clause-lanes c b h = get_or-chunk c.args.at 4 c.args.bytes.now b 0 h

pub returns-clause-count : goal.returns-clause-count
returns-clause-count c = length-chunk c.args.at 4 c.args.bytes.now (omega arith)

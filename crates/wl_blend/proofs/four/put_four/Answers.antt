use Rattle.std.proofs.Common.{arith, ◌*◌}
use Rattle.std.proofs.lemmas.Simd.{get_or-put_chunk_at, get_or-put_chunk_below, get_or-put_chunk_above}
use Rattle.wl_blend.proofs.four.put_four.Goals as goal

pub returns-clause-lanes : goal.returns-clause-lanes
returns-clause-lanes c k h = get_or-put_chunk_at (4 * c.args.first) c.args.bytes.now c.args.four k 0 (omega arith) (omega arith)

pub returns-clause-before : goal.returns-clause-before
returns-clause-before c k h = get_or-put_chunk_below (4 * c.args.first) c.args.bytes.now c.args.four k 0 h

pub returns-clause-after : goal.returns-clause-after
returns-clause-after c k h = get_or-put_chunk_above (4 * c.args.first) c.args.bytes.now c.args.four k 0 (omega arith)

use Rattle.std.proofs.Common.{arith, w8, ◌*◌}
use Rattle.std.proofs.lemmas.Simd.{chunk-fits, below_from_Fits, length-chunk, get_or-chunk}
use Rattle.wl_blend.proofs.four.four_from.Goals as goal

pub returns-clause-lanes : goal.returns-clause-lanes
returns-clause-lanes c k h = get_or-chunk (4 * c.args.first) 16 c.args.bytes.now k 0 h

pub returns-clause-bytes : goal.returns-clause-bytes
returns-clause-bytes c = record {
  count = length-chunk (4 * c.args.first) 16 c.args.bytes.now (omega arith);
  each = below_from_Fits w8 _ (chunk-fits w8 (4 * c.args.first) 16 c.args.bytes.now c.type_inv.bytes);
}

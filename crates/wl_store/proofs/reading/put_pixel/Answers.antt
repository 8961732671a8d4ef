use Rattle.std.proofs.Common.{arith, ◌*◌, inl, inr}
use Rattle.std.proofs.lemmas.Simd.{get_or-put_chunk_at, get_or-put_chunk_below, get_or-put_chunk_above}
use Rattle.wl_store.proofs.reading.put_pixel.Goals as goal

pub returns-clause-lanes : goal.returns-clause-lanes
returns-clause-lanes c b h = get_or-put_chunk_at (4 * c.args.k) c.args.run.now c.args.pixel b 0 (omega arith) (omega arith)

pub returns-clause-others : goal.returns-clause-others
returns-clause-others c n out =
    elim out [
      | inl before ↦ get_or-put_chunk_below (4 * c.args.k) c.args.run.now c.args.pixel n 0 before
      | inr after ↦ get_or-put_chunk_above (4 * c.args.k) c.args.run.now c.args.pixel n 0 (omega arith)
    ]

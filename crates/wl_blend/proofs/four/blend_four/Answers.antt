use Rattle.std.proofs.Common.{◌≡◌, ℕ, ◌+◌, ◌*◌, ◌<◌, arith, refl, lit<}
use Rattle.std.specs.Prelude.{slice_index}
use Rattle.wl_store.specs.Layout.{alpha_of}
use Rattle.wl_blend.specs.Blend.{blended_channel}
use Rattle.wl_blend.proofs.Fours.{channel_in_four}
use Rattle.wl_blend.proofs.four.blend_four.Goals as goal

pub returns-clause-pixels : goal.returns-clause-pixels
returns-clause-pixels c k from to =
    let was = slice_index c.args.dst.now in
    let source = slice_index c.args.src.now in
    let now = slice_index c.put_four.new.bytes in
    let channel : (i : ℕ) → i < 3 → now (4 * k + i) ≡ blended_channel (was (4 * k + i)) (source (4 * k + i)) (alpha_of c.args.format (source (4 * k + 3)))
    = λ i h. channel_in_four was source (slice_index c.four_from.result) (slice_index c.four_from-2.result) (slice_index c.over_four-four.result) now
    c.args.format c.args.first k i from to h c.four_from.ensures.lanes c.four_from-2.ensures.lanes c.over_four-four.ensures.channels c.put_four.ensures.lanes in
    let at : 4 * k + 0 ≡ 4 * k = omega arith in
    let blue = (rw at at (channel 0 (lit< tt))) in
    rw (channel 2 (lit< tt), channel 1 (lit< tt), blue) refl

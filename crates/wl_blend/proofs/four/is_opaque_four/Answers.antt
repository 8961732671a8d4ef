use Rattle.std.specs.Prelude.{slice_index}
use Rattle.wl_blend.proofs.Fours.{opaque_in_four, four_opaque}
use Rattle.wl_blend.proofs.four.is_opaque_four.Goals as goal

pub returns : goal.returns
returns c =
    let source = slice_index c.args.src.now in
    let four = slice_index c.four_from.result in
    let alpha = slice_index c.alphas.result in (
      λ t. opaque_in_four source four alpha c.args.first c.four_from.ensures.lanes c.alphas.ensures.lanes (c.is_each.ensures.0 t),
      λ all. c.is_each.ensures.1 (four_opaque source four alpha c.args.first c.four_from.ensures.lanes c.alphas.ensures.lanes all),
    )

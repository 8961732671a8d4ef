use Rattle.std.proofs.Common.{◌+◌, ◌*◌, ◌∙◌, ap, arith}
use Rattle.std.specs.Prelude.{slice_index}
use Rattle.wl_store.specs.Layout.{argb_of}
use Rattle.wl_blend.specs.Blend.{blended, color_of}
use Rattle.wl_blend.proofs.Rest.{done-more, kept-before, left-less}
use Rattle.wl_blend.proofs.run.blend_rest.Goals as goal

pub loop-k-preserved : goal.loop-k-preserved
loop-k-preserved c =
    let first = c.args.first in
    let was = c.args.dst.now in
    let now = c.loop-k.dst in
    let new = c.write_rgb.new.bytes in
    let src = c.args.src.now in
    let k = c.loop-k.k in
    let is = c.loop-k.invariant in
    let wrote = c.write_rgb.ensures in
    let color = c.blend-color.ensures ∙ ap (λ d. blended d c.read_argb.result) (c.read_rgb.ensures ∙ is.others k (omega arith))
    ∙ ap (blended (color_of was k)) c.read_argb.ensures in
    record {
      pixels = done-more first k (color_of new) (color_of now) (λ i. blended (color_of was i) (argb_of c.args.format src i)) is.pixels (wrote.written ∙ color) wrote.others;
      fourths = done-more first k (λ i. slice_index new (4 * i + 3)) (λ i. slice_index now (4 * i + 3)) (λ i. 255) is.fourths wrote.fourth wrote.other_fourths;
      others = left-less k (color_of new) (color_of now) (color_of was) is.others wrote.others;
      before = kept-before first k (color_of new) (color_of now) (color_of was) c.loop-k.auto.k is.before wrote.others;
      before_fourths = kept-before first k (λ i. slice_index new (4 * i + 3)) (λ i. slice_index now (4 * i + 3)) (λ i. slice_index was (4 * i + 3))
          c.loop-k.auto.k is.before_fourths wrote.other_fourths;
    }

use Rattle.std.proofs.Common.{◌≡◌, ◌++◌, ◌∙◌, ap, arith}
use Rattle.wl_paint.specs.Frame.{filled}
use Rattle.wl_paint.proofs.Filled.{filled-more}
use Rattle.wl_paint.proofs.framebuffer.fill.Goals as goal

pub returns : goal.returns
returns g c =
    let all : c.loop.counter ≡ c.args.count = omega arith in
    c.loop.invariant ∙ ap (λ n. c.args.bytes.now.items ++ filled n c.args.color) all

pub loop-preserved : goal.loop-preserved
loop-preserved g c =
    filled-more c.args.bytes.now.items c.loop.bytes.items c.extend_from_slice.new.self.items c.loop.counter c.args.color c.loop.invariant c.in_ok-extend_from_slice.ensures.items

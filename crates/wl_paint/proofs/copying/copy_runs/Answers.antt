use Rattle.std.proofs.Common.{◌-◌, ◌*◌, refl}
use Rattle.wl_paint.specs.Painting.{pixel_of}
use Rattle.wl_paint.specs.Damage.{has}
use Rattle.wl_paint.proofs.PaintedRuns.{IsCopiedTo-at, IsCopiedTo-none, IsCopiedTo-rest}
use Rattle.wl_paint.proofs.copying.copy_runs.Goals as goal

pub loop-start-init : goal.loop-start-init
loop-start-init g c = record {
  bound = c.requires.order;
  done = IsCopiedTo-none (pixel_of c.args.pixels.now) (pixel_of c.args.stretch.now) (λ x. has c.args.damage.now x c.args.y)
      (c.args.y * c.args.damage.now.width) c.args.columns.first;
}

pub loop-start-preserved : goal.loop-start-preserved
loop-start-preserved g c = record {
  bound = c.in-Some.ensures.some.within;
  done = IsCopiedTo-at (pixel_of c.args.pixels.now) (pixel_of c.loop-start.pixels) (pixel_of c.copy_part.new.pixels) (pixel_of c.args.stretch.now)
      (λ x. has c.args.damage.now x c.args.y) (c.args.y * c.args.damage.now.width) c.args.columns.first c.args.columns.end c.loop-start.from
      c.in-Some.start c.in-Some.count c.number_of.result (c.in-Some.start - c.args.columns.first)
      c.number_of.ensures refl c.in-Some.ensures.some c.loop-start.invariant.done c.copy_part.ensures.inside c.copy_part.ensures.outside;
}

pub returns : goal.returns
returns g c =
    IsCopiedTo-rest (pixel_of c.args.pixels.now) (pixel_of c.loop-start.pixels) (pixel_of c.args.stretch.now) (λ x. has c.args.damage.now x c.args.y)
    (c.args.y * c.args.damage.now.width) c.args.columns.first c.args.columns.end c.loop-start.from c.loop-start.invariant.bound c.loop-start.invariant.done
    c.in_default.ensures.none

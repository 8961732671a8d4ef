use Rattle.std.proofs.Common.{◌+◌, ◌*◌, ◌/◌, ◌≤◌, arith, length, refl}
use Rattle.wl_paint.specs.Words.{is_marked}
use Rattle.wl_paint.proofs.Spans.{none-added, span-all, span-counted, span-init, span-more, span-rest}
use Rattle.wl_paint.proofs.Marks.{count_below-le}
use Rattle.wl_paint.proofs.words.mark_span.Goals as goal

pub overflow_add-more : goal.overflow_add-more
overflow_add-more c =
    let small = count_below-le (64 * length c.loop-k.words) (is_marked c.mark_in_word-more.new.words) in
    omega (arith, small, c.mark_in_word-more.ensures.counted, c.loop-k.invariant.counted)

pub loop-k-init : goal.loop-k-init
loop-k-init c = record { points = span-init c.args.words.now c.args.first c.args.end; rest = λ j h. refl; counted = none-added _ }

pub loop-k-preserved : goal.loop-k-preserved
loop-k-preserved c =
    let was = c.args.words.now in
    let words = c.loop-k.words in
    let next = c.mark_in_word-more.new.words in
    let so_far = c.loop-k.invariant in
    let here = c.mark_in_word-more.ensures in
    record {
      points = span-more was words next c.args.first c.args.end c.loop-k.k so_far.points so_far.rest here.points here.others;
      rest = span-rest was words next c.loop-k.k so_far.rest here.others;
      counted = span-counted was words next c.loop-k.more c.mark_in_word-more.result c.mark_in_word-more.auto.words so_far.counted here.counted;
    }

pub returns-clause-points : goal.returns-clause-points
returns-clause-points c =
    let last : (c.args.end + 63) / 64 ≤ c.loop-k.k = omega arith in
    span-all c.args.words.now c.loop-k.words c.args.first c.args.end c.loop-k.k last c.loop-k.invariant.points c.loop-k.invariant.rest

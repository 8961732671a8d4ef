use Rattle.std.proofs.Common.{◌≡◌, ◌≤◌, ◌*◌, ◌+ℤ◌, arith, ap}
use Rattle.std.proofs.lemmas.Int.{ints}
use Rattle.wl_surface.proofs.Blocks.{held-as, meets-blocks, meets-none}
use Rattle.wl_surface.proofs.damage.block_span.Goals as goal

pub returns-then-to-from-clause-blocks : goal.returns-then-to-from-clause-blocks
returns-then-to-from-clause-blocks c z less =
    let limit = c.from.result * c.from-scale.result in
    let start = c.held_to-from.ensures in
    let end = c.held_to-to.ensures in
    let from = held-as limit c.args.start c.held_to-from.result start.below start.within start.beyond (omega (arith, ints)) in
    let to = held-as limit (c.args.start +ℤ c.args.len) c.held_to-to.result end.below end.within end.beyond (omega (arith, ints)) in
    let one : 1 ≤ c.from-scale.result = omega arith in
    let same : c.from-scale.result ≡ c.args.scale = omega arith in
    let side : c.from.result ≡ c.args.side = omega arith in
    meets-none c.args.start (c.args.start +ℤ c.args.len) limit c.held_to-from.result c.held_to-to.result c.from-scale.result c.args.scale c.args.side z one same
    (ap (λ n. n * c.from-scale.result) side) from to c.if-to-from.true less

pub returns-clause-blocks : goal.returns-clause-blocks
returns-clause-blocks c z less =
    let limit = c.from.result * c.from-scale.result in
    let start = c.held_to-from.ensures in
    let end = c.held_to-to.ensures in
    let from = held-as limit c.args.start c.held_to-from.result start.below start.within start.beyond (omega (arith, ints)) in
    let to = held-as limit (c.args.start +ℤ c.args.len) c.held_to-to.result end.below end.within end.beyond (omega (arith, ints)) in
    let one : 1 ≤ c.from-scale.result = omega arith in
    let same : c.from-scale.result ≡ c.args.scale = omega arith in
    let side : c.from.result ≡ c.args.side = omega arith in
    meets-blocks c.args.start (c.args.start +ℤ c.args.len) limit c.held_to-from.result c.held_to-to.result c.from-scale.result c.args.scale c.args.side z one same
    (ap (λ n. n * c.from-scale.result) side) from to c.if-to-from.false less

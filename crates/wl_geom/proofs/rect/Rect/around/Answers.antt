use Rattle.std.proofs.Common.{◌≡◌, ◌+ℤ◌, w64, to_z, of_z, arith}
use Rattle.std.proofs.lemmas.Int.{ints}
use Rattle.wl_geom.specs.Rect.{in_rect}
use Rattle.wl_geom.proofs.Spans.{parts_of_hole}
use Rattle.wl_geom.proofs.rect.Rect.around.Goals as goal

pub returns-clause-points : goal.returns-clause-points
returns-clause-points c x y =
    let hole = c.args.hole.now in
    let top : to_z w64 (of_z w64 c.top.result) ≡ hole.y = omega (arith, ints) in
    let top' : to_z w64 (of_z w64 c.top-2.result) ≡ hole.y = omega (arith, ints) in
    let bottom : to_z w64 (of_z w64 c.bottom.result) ≡ hole.y +ℤ hole.h = omega (arith, ints) in
    let bottom' : to_z w64 (of_z w64 c.bottom-2.result) ≡ hole.y +ℤ hole.h = omega (arith, ints) in
    let left : to_z w64 (of_z w64 c.left.result) ≡ hole.x = omega (arith, ints) in
    let right : to_z w64 (of_z w64 c.right.result) ≡ hole.x +ℤ hole.w = omega (arith, ints) in
    parts_of_hole (in_rect x y c.args.self.now) (in_rect x y c.above.result) (in_rect x y c.left_of.result) (in_rect x y c.right_from.result) (in_rect x y c.below-2.result)
    (in_rect x y c.above-beside.result) (in_rect x y c.below.result) x y
    _ _ _ _ _ _ hole.x hole.w hole.y hole.h
    c.requires.wide c.requires.high top top' bottom bottom' left right
    (c.below.ensures.points x y) (c.above-beside.ensures.points x y) (c.above.ensures.points x y) (c.left_of.ensures.points x y) (c.right_from.ensures.points x y) (c.below-2.ensures.points x y)

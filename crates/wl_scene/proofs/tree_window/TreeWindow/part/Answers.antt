use Rattle.std.proofs.Common.{pos, ◌≡◌, ◌∙◌, w32, to_z, of_z, ap, rules, arith}
use Rattle.std.specs.Prelude.{◌-ℤ◌, ◌&&◌}
use Rattle.std.proofs.lemmas.Int.{ints}
use Rattle.wl_geom.specs.Rect.{in_span}
use Rattle.wl_scene.proofs.Spans.{part-of}
use Rattle.wl_scene.proofs.tree_window.TreeWindow.part.Goals as goal

pub returns : goal.returns
returns c = λ x y wide high.
    let left : to_z w32 (of_z w32 c.args.self.x) ≡ c.args.self.x = omega (arith, ints) in
    let top : to_z w32 (of_z w32 c.args.self.y) ≡ c.args.self.y = omega (arith, ints) in
    let from : to_z w32 (of_z w32 c.args.rect.x) ≡ c.args.rect.x = omega (arith, ints) in
    let long : to_z w32 (of_z w32 c.args.rect.w) ≡ c.args.rect.w = omega (arith, ints) in
    let down : to_z w32 (of_z w32 c.args.rect.y) ≡ c.args.rect.y = omega (arith, ints) in
    let tall : to_z w32 (of_z w32 c.args.rect.h) ≡ c.args.rect.h = omega (arith, ints) in
    let a : in_span c.span_on_output-x.result.0 c.span_on_output-x.result.1 (pos x) ≡ (in_span c.args.self.x (pos c.args.self.w) (pos x)
    && in_span c.args.rect.x c.args.rect.w (pos x -ℤ c.args.self.x)) =
    rw (left, from, long) at c.span_on_output-x.ensures x wide in
    let b : in_span c.span_on_output-y.result.0 c.span_on_output-y.result.1 (pos y) ≡ (in_span c.args.self.y (pos c.args.self.h) (pos y)
    && in_span c.args.rect.y c.args.rect.h (pos y -ℤ c.args.self.y)) =
    rw (top, down, tall) at c.span_on_output-y.ensures y high in
    let x0 : to_z w32 (of_z w32 c.span_on_output-x.result.0) ≡ c.span_on_output-x.result.0 = search rules in
    let x1 : to_z w32 (of_z w32 c.span_on_output-x.result.1) ≡ c.span_on_output-x.result.1 = search rules in
    let y0 : to_z w32 (of_z w32 c.span_on_output-y.result.0) ≡ c.span_on_output-y.result.0 = search rules in
    let y1 : to_z w32 (of_z w32 c.span_on_output-y.result.1) ≡ c.span_on_output-y.result.1 = search rules in
    part-of (to_z w32 (of_z w32 c.span_on_output-x.result.0)) (to_z w32 (of_z w32 c.span_on_output-x.result.1)) (to_z w32 (of_z w32 c.span_on_output-y.result.0))
    (to_z w32 (of_z w32 c.span_on_output-y.result.1)) c.args.self c.args.rect (pos x) (pos y)
    (ap (λ s. in_span s (to_z w32 (of_z w32 c.span_on_output-x.result.1)) (pos x)) x0 ∙ ap (λ l. in_span c.span_on_output-x.result.0 l (pos x)) x1 ∙ a)
    (ap (λ s. in_span s (to_z w32 (of_z w32 c.span_on_output-y.result.1)) (pos y)) y0 ∙ ap (λ l. in_span c.span_on_output-y.result.0 l (pos y)) y1 ∙ b)

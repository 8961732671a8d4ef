use Rattle.std.proofs.Common.{pos, ◌≡◌, ◌-ℤ◌, w32, w64, to_z, of_z, ap, ◌∙◌, arith, rules}
use Rattle.std.specs.Prelude.{int_le, int_lt}
use Rattle.std.proofs.lemmas.Int.{ints}
use Rattle.wl_geom.specs.Rect.{in_span}
use Rattle.wl_scene.proofs.Spans.{span-held}
use Rattle.wl_scene.proofs.span.span_between.Goals as goal

pub returns : goal.returns
returns c = λ z less.
    let first : to_z w32 (of_z w32 c.held-first.result) ≡ c.held-first.result = search rules in
    let long : to_z w32 (of_z w32 (to_z w32 (of_z w32 c.held.result) -ℤ to_z w32 (of_z w32 c.held-first.result))) ≡ c.held.result -ℤ c.held-first.result =
    grind (arith, ints, c.held.ensures.within, c.held-first.ensures.within) in
    let from : to_z w64 (of_z w64 c.args.first) ≡ c.args.first = omega (arith, ints) in
    let to : to_z w64 (of_z w64 c.args.end) ≡ c.args.end = omega (arith, ints) in
    let starts : int_le c.held-first.result (pos z) ≡ int_le c.args.first (pos z) = rw from at c.held-first.ensures.starts z less in
    let ends : int_lt (pos z) c.held.result ≡ int_lt (pos z) c.args.end = rw to at c.held.ensures.ends z less in
    ap (λ s. in_span s (to_z w32 (of_z w32 (to_z w32 (of_z w32 c.held.result) -ℤ to_z w32 (of_z w32 c.held-first.result)))) (pos z)) first
    ∙ ap (λ l. in_span c.held-first.result l (pos z)) long
    ∙ span-held c.args.first c.args.end c.held-first.result c.held.result (pos z) starts ends

use Rattle.std.proofs.Common.{ℤ, pos, ◌≡◌, ◌∙◌, ◌+ℤ◌, w32, to_z, of_z, subst, true, arith}
use Rattle.std.specs.Prelude.{◌&&◌, int_le, int_lt}
use Rattle.std.proofs.lemmas.Int.{ints}
use Rattle.wl_scene.proofs.Spans.{span-cut}
use Rattle.wl_scene.proofs.span.span_on_output.Goals as goal

pub returns : goal.returns
returns c = λ z less.
    let start : to_z w32 (of_z w32 c.args.start) ≡ c.args.start = omega (arith, ints) in
    let length : to_z w32 (of_z w32 c.args.length) ≡ c.args.length = omega (arith, ints) in
    c.span_between.ensures z less
    ∙ span-cut c.args.corner c.args.start c.args.length (pos z) c.args.side c.start_within.result c.end_within.result _ _ (omega (arith, ints)) (omega (arith, ints))
    (subst (λ (s : ℤ). (w : ℤ) → int_le (pos c.start_within.result) w ≡ (int_le (pos 0) w && int_le s w)) start c.start_within.ensures)
    (subst (λ (s : ℤ). (w : ℤ) → int_le (pos 0) w ≡ true → int_lt w (pos c.end_within.result) ≡ (int_lt w (pos c.args.side) && int_lt w (s +ℤ c.args.length))) start
    (subst (λ (l : ℤ). (w : ℤ) → int_le (pos 0) w ≡ true → int_lt w (pos c.end_within.result) ≡ (int_lt w (pos c.args.side) && int_lt w (to_z w32 (of_z w32 c.args.start) +ℤ l))) length
    c.end_within.ensures))

use Rattle.std.proofs.Common.{ℕ, ◌≡◌, ◌∙◌, ◌*◌, ◌++◌, ◌+◌, ◌<◌, length, take, drop, get_or, ap, arith}
use Rattle.std.proofs.lemmas.Bool.{and_from, and_right}
use Rattle.std.proofs.lemmas.List.{take_at}
use Rattle.wl_blend.specs.declared.color.Rgb.{Rgb}
use Rattle.wl_paint.proofs.PaintedRows.{all-chosen, fourths-painted}
use Rattle.wl_paint.proofs.framebuffer.Framebuffer.paint.Given as given
use Rattle.wl_paint.proofs.framebuffer.Framebuffer.paint.Goals as goal

-- the bytes that were painted are those that are kept
written_back : (g : given.Over) (c : goal.After-self-1 g)
    → take c.self.inside.bytes.len (c.paint_rows.new.pixels ++ drop (length c.paint_rows.new.pixels) c.self.inside.bytes.items) ≡ c.paint_rows.new.pixels
written_back g c =
    let long : length c.paint_rows.new.pixels ≡ c.self.inside.bytes.len = omega (arith, c.deref_mut.ensures.len, c.paint_rows.auto.pixels) in
    take_at c.paint_rows.new.pixels _ _ long

pub invariant_of-self : goal.invariant_of-self
invariant_of-self g c =
    let is = c.self.invariant in
    let now = c.deref_mut.result.now in
    let before : (k : ℕ) → k < c.self.inside.width * c.self.inside.height → get_or now (4 * k + 3) 0 ≡ 255 = rw c.deref_mut.ensures.value is.fourths in
    rw (written_back g c) (record {
      wide = is.wide;
      high = is.high;
      some_width = is.some_width;
      some_height = is.some_height;
      sized = c.paint_rows.auto.pixels ∙ (ap length c.deref_mut.ensures.value ∙ is.sized);
      fourths = fourths-painted now c.paint_rows.new.pixels _ _ _ _ c.self.inside.width c.self.inside.height is.some_width c.paint_rows.ensures before;
    })

pub returns-clause-damaged : goal.returns-clause-damaged
returns-clause-damaged g c =
    rw (← c.self.view_is, written_back g c) (λ x y w h d said. (c.paint_rows.ensures.painted x y w (and_from _ _ (all-chosen c.self.inside.width c.self.inside.height x y w h) d)).colored said)

pub returns-clause-kept : goal.returns-clause-kept
returns-clause-kept g c =
    rw (← c.self.view_is, written_back g c, ← c.deref_mut.ensures.value) (λ x y w h d. ap (λ (p : Rgb × ℕ). p.0) (c.paint_rows.ensures.kept x y w (and_right _ _ d)))

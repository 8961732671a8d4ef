use Rattle.std.proofs.Common.{◌≡◌, ◌∙◌, ◌<◌, ℕ, ◌&&◌, ap₂, rules, subst, sym, to_z, of_z, w32}
use Rattle.wl_store.specs.Transform.{buffer_point}
use Rattle.wl_surface.proofs.Blocks.{point-within}
use Rattle.wl_surface.proofs.damage.on_surface.Goals as goal

pub returns : goal.returns
returns c = λ x y column row.
    let left : to_z w32 (of_z w32 c.args.rect.x) ≡ c.args.rect.x = search rules in
    let top : to_z w32 (of_z w32 c.args.rect.y) ≡ c.args.rect.y = search rules in
    let wide : to_z w32 (of_z w32 c.args.rect.w) ≡ c.args.rect.w = search rules in
    let high : to_z w32 (of_z w32 c.args.rect.h) ≡ c.args.rect.h = search rules in
    let point = buffer_point c.args.transform c.args.w c.args.h x y in
    let within = point-within c.args.transform c.args.w c.args.h x y column row in
    let sides = sym c.turned-columns.ensures in
    c.shown_at.ensures x y column row
    ∙ ap₂ (λ a b. a && b)
    (simp (left, wide) at (c.block_span-across.ensures.blocks point.0 (subst (λ (s : ℕ × ℕ). point.0 < s.0) sides within.0)))
    (simp (top, high) at (c.block_span-down.ensures.blocks point.1 (subst (λ (s : ℕ × ℕ). point.1 < s.1) sides within.1)))

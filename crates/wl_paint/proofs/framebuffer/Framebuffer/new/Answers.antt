use Rattle.std.proofs.Common.{rules, ◌≡◌, true}
use Rattle.wl_paint.specs.Frame.{is_side}
use Rattle.wl_paint.proofs.Images.{IsImage-filled, color_at-filled}
use Rattle.wl_paint.proofs.framebuffer.Framebuffer.new.Goals as goal

pub invariant_of-result : goal.invariant_of-result
invariant_of-result g c =
    let wide : is_side c.args.width ≡ true = search rules in
    let high : is_side c.args.height ≡ true = search rules in
    IsImage-filled _ _ _ _ wide high c.in-Ok.ensures

pub returns-in-Ok-clause-colors : goal.returns-in-Ok-clause-colors
returns-in-Ok-clause-colors g c = color_at-filled c.args.width c.args.height _ _ c.in-Ok.ensures

use Rattle.std.proofs.Common.{ap₂, ◌∙◌}
use Rattle.wl_surface.specs.Whole.{is_same_look}
use Rattle.wl_surface.proofs.surfaces.Surfaces.has_same_look.Goals as goal

pub returns : goal.returns
returns g c = λ old new surfaces seen stand among.
    c.is_same_look.ensures ∙ ap₂ (λ was is. is_same_look was is) (c.seen_at-was.ensures old surfaces seen among) (c.look-is.ensures new stand)

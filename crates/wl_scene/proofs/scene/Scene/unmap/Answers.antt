use Rattle.std.proofs.Common.{rules, ap, ◌∙◌, map}
use Rattle.std.proofs.lemmas.Fn.{filter_same}
use Rattle.std.specs.Prelude.{not}
use Rattle.wl_scene.proofs.Stacks.{map-filter}
use Rattle.wl_scene.proofs.scene.Scene.unmap.Goals as goal
use Rattle.spec_desktop.specs.Stacking.{is_of}
use Rattle.wl_scene.specs.Kept.{standing_of}

pub returns-clause-standing : goal.returns-clause-standing
returns-clause-standing g c =
    ap (λ ts. map standing_of ts) (filter_same _ (λ t. not (is_of c.args.surface.client c.args.surface.surface (standing_of t))) _ (λ x b f' k. search rules) _ _ c.retain.ensures.filtered)
    ∙ map-filter standing_of (λ s. not (is_of c.args.surface.client c.args.surface.surface s)) c.self.inside.standing.items
    ∙ search rules

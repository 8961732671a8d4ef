use Rattle.std.proofs.Common.{ap, ◌∙◌}
use Rattle.std.specs.Option.{option_and_then}
use Rattle.wl_scene.specs.Stacked.{toplevel_with}
use Rattle.wl_clients.proofs.screen.touching.toplevel_by_parent.Goals as goal

pub returns-in_default : goal.returns-in_default
returns-in_default g c = λ o histories is.
    ap (option_and_then (λ surface. toplevel_with c.args.client surface c.args.stacked.now.windows)) (c.in_default.ensures o histories is)

pub returns : goal.returns
returns g c = λ o histories is.
    c.toplevel_with.ensures ∙ ap (option_and_then (λ surface. toplevel_with c.args.client surface c.args.stacked.now.windows)) (c.in-Some.ensures o histories is)

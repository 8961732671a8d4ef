use Rattle.std.proofs.Common.{ap, ◌∙◌}
use Rattle.std.specs.Option.{option_and_then}
use Rattle.wl_scene.proofs.Held.{surface-at}
use Rattle.wl_scene.proofs.roots.parent_surface.Goals as goal
use Rattle.spec_desktop.specs.Popups.{surface_at_xdg}
use Rattle.wl_shell.specs.Kept.{kept_of}

pub returns-in_default : goal.returns-in_default
returns-in_default g c = λ o histories is. ap (option_and_then (λ xdg. surface_at_xdg xdg o.shell)) c.in_default.ensures

pub returns : goal.returns
returns g c = λ o histories is.
    surface-at (kept_of c.args.shell.now) histories o.shell is c.in-Some.parent c.surface_at.result c.surface_at.ensures
    ∙ ap (option_and_then (λ xdg. surface_at_xdg xdg o.shell)) c.in-Some.ensures

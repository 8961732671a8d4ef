use Rattle.std.proofs.Common.{◌≡◌, Some, None, sym, ◌∙◌}
use Rattle.wl_shell.proofs.ShellsStanding.{kept-for}
use Rattle.wl_scene.proofs.roots.stacked_root.Goals as goal
use Rattle.wl_surface.specs.Surfaces.{history_in}
use Rattle.wl_shell.specs.Kept.{kept_of}

pub returns-in-None : goal.returns-in-None
returns-in-None g c = λ o p rs held only at same.
    let k = kept-for (kept_of c.args.owned.now.shell) (λ number. history_in number o.surfaces) o.shell held.shell c.args.surface p.xdg only.found in
    absurd (let clash : None ≡ Some k.0 = c.in-None.ensures ∙ k.2 in cc)

pub returns-in-Some : goal.returns-in-Some
returns-in-Some g c = λ o p rs held only at same. c.shown_root.ensures o p rs held only (sym c.in-Some.ensures) at same

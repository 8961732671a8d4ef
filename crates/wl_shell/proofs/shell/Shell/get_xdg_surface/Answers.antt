use Rattle.std.proofs.Common.{Some, ap, ◌∙◌}
use Rattle.wl_shell.specs.Kept.{kept_of, with_kept}
use Rattle.wl_shell.proofs.Books.{updated}
use Rattle.wl_shell.proofs.shell.Shell.get_xdg_surface.Goals as goal

pub returns-clause-ok : goal.returns-clause-ok
returns-clause-ok g c =
    updated c.self.inside.surfaces c.insert.new.self c.args.self.now c.args.surface (Some c.new.result) c.self.view_is c.in_ok-insert.ensures.updates
    ∙ ap (λ k. with_kept c.args.surface (Some k) (kept_of c.args.self.now)) c.new.ensures

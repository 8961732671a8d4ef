use Rattle.std.proofs.Common.{refl, sym, ◌∙◌}
use Rattle.wl_shell.proofs.Books.{made_by, made_by_none}
use Rattle.wl_shell.proofs.shell.Shell.check_base.Goals as goal

pub returns-then-has_base-clause-err : goal.returns-then-has_base-clause-err
returns-then-has_base-clause-err g c =
    let entries = c.self.inside.surfaces.entries in
    rw (← c.self.view_is) (refl, made_by c.args.base entries entries c.has_base.ensures.found (sym c.has_base.ensures.is ∙ c.if-has_base.true))

pub returns-clause-ok : goal.returns-clause-ok
returns-clause-ok g c =
    rw (← c.self.view_is) (λ surface. made_by_none c.args.base c.self.inside.surfaces.entries surface (sym c.has_base.ensures.is ∙ c.if-has_base.false))

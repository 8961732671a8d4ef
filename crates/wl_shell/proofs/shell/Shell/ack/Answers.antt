use Rattle.wl_shell.specs.Kept.{kept_acknowledging}
use Rattle.wl_shell.proofs.Books.{changed-ok, stayed-err}
use Rattle.wl_shell.proofs.shell.Shell.ack.Goals as goal

pub returns-clause-ok : goal.returns-clause-ok
returns-clause-ok g c =
    changed-ok c.self.inside.surfaces (c.get_mut.follows.lender c.acknowledge.new.self)
    c.args.self.now c.args.surface c.in-Some.xdg_surface.now c.acknowledge.new.self c.self.view_is c.in-Some.ensures.value (c.get_mut.follows.holds c.acknowledge.new.self) c.acknowledge.result
    (λ _. kept_acknowledging c.args.serial) c.acknowledge.ensures.ok

pub returns-clause-err : goal.returns-clause-err
returns-clause-err g c =
    stayed-err c.self.inside.surfaces (c.get_mut.follows.lender c.acknowledge.new.self)
    c.args.self.now c.args.surface c.in-Some.xdg_surface.now c.acknowledge.new.self c.self.view_is c.in-Some.ensures.value (c.get_mut.follows.holds c.acknowledge.new.self)
    c.acknowledge.result c.acknowledge.ensures.err

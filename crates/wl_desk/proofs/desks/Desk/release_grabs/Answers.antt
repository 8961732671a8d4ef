use Rattle.std.proofs.Common.{refl}
use Rattle.wl_desk.proofs.Releasing.{none-released, some-released}
use Rattle.wl_desk.proofs.Telling.{seen}
use Rattle.wl_desk.proofs.desks.Desk.release_grabs.Goals as goal

pub returns-in_default-clause-releases : goal.returns-in_default-clause-releases
returns-in_default-clause-releases g c = rw c.in_default.is (none-released c.args.self.now.desk c.args.self.now.damage)

pub returns-in-Some-clause-releases : goal.returns-in-Some-clause-releases
returns-in-Some-clause-releases g c = rw c.in-Some.is (λ m telling.
    let it = rw (← c.self.view_is) at telling in
    rw (← c.self.view_is) (some-released c.in-Some.client (seen c.self.inside.clients.desk _ _ c.self.inside.pointer) (seen c.release_grabs.new.self.desk _ _ c.self.inside.pointer)
    c.self.inside.clients.damage c.release_grabs.new.self.damage c.release_grabs.ensures.releases refl refl refl m it))

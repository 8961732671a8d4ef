use Rattle.wl_requests.proofs.Subsurfaces.{ended-subsurfaces, inert-subsurfaces}
use Rattle.wl_requests.proofs.residents.Resident.forget.Goals as goal

pub returns-in-Some-clause-subsurfaces : goal.returns-in-Some-clause-subsurfaces
returns-in-Some-clause-subsurfaces g c = λ numbers subsurfaces are once.
    ended-subsurfaces c.args.self.now.subsurfaces c.clear.new.self numbers subsurfaces c.args.object c.in-Some.surface c.in-Some.ensures.some once c.clear.ensures are

pub returns-in_default-clause-subsurfaces : goal.returns-in_default-clause-subsurfaces
returns-in_default-clause-subsurfaces g c = λ numbers subsurfaces are once.
    inert-subsurfaces c.args.self.now.subsurfaces numbers subsurfaces c.args.object c.in_default.ensures.none are

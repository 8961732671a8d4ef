use Rattle.std.proofs.Common.{ap, refl}
use Rattle.spec_desktop.specs.WlSubsurface.{demand_by_link}
use Rattle.wl_proto.specs.declared.wl_subsurface.WlSubsurfaceRequest.TheVariants.{SetSync}
use Rattle.wl_requests.proofs.Linking.{link-of-child, no-link-of}
use Rattle.wl_requests.proofs.Positions.{ignored-so, synchronised-so}
use Rattle.wl_requests.proofs.residents.Resident.set_sync.Goals as goal

pub returns-in-Some-clause-answers : goal.returns-in-Some-clause-answers
returns-in-Some-clause-answers g c = λ here client r d is orderly.
    let object = c.args.object in
    let its = link-of-child c.args.self.now r is orderly object c.in-Some.child c.in-Some.ensures in
    synchronised-so c.args.self.now _ client r d is orderly c.count.ensures.only (c.count.ensures.counts r.peer is.peer) refl refl c.set_sync.ensures.surfaces _ object c.in-Some.child its
    (ap (λ o. demand_by_link r object o SetSync) its.of_object) c.set_sync.ensures.stand

pub returns-in_default-clause-answers : goal.returns-in_default-clause-answers
returns-in_default-clause-answers g c = λ here client r d is orderly.
    let object = c.args.object in
    ignored-so c.args.self.now _ client r d _ is orderly (ap (λ o. demand_by_link r object o SetSync) (no-link-of c.args.self.now r is orderly object c.in_default.ensures))
    c.count.ensures.only refl refl
    (c.count.ensures.counts r.peer is.peer)

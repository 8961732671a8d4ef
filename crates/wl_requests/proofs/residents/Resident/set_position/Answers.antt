use Rattle.std.proofs.Common.{ap, refl, w32}
use Rattle.std.proofs.lemmas.Int.{to_z-of_z}
use Rattle.law_desktop.specs.RoleNames.{names_of}
use Rattle.law_desktop.proofs.Keeping.OwningLinks.{owned-moved}
use Rattle.spec_desktop.specs.Peer.{counted}
use Rattle.spec_desktop.specs.WlSubsurface.{demand_by_link}
use Rattle.wl_proto.specs.declared.wl_subsurface.WlSubsurfaceRequest.TheVariants as subsurface
use Rattle.wl_shell.specs.Kept.{kept_of}
use Rattle.wl_surface.specs.Request.{SetPosition}
use Rattle.wl_requests.proofs.Linking.{link-of-child, no-link-of}
use Rattle.wl_requests.proofs.Positions.{asked-so, ignored-so, lacked-so}
use Rattle.wl_requests.proofs.residents.Resident.set_position.Goals as goal

pub returns-in_default-clause-answers : goal.returns-in_default-clause-answers
returns-in_default-clause-answers g c = λ here client r d is orderly.
    let object = c.args.object in
    ignored-so c.args.self.now _ client r d _ is orderly
    (ap (λ o. demand_by_link r object o (subsurface.SetPosition c.args.x c.args.y)) (no-link-of c.args.self.now r is orderly object c.in_default.ensures))
    c.count.ensures.only refl refl (c.count.ensures.counts r.peer is.peer)

pub returns-in-Ok-clause-answers : goal.returns-in-Ok-clause-answers
returns-in-Ok-clause-answers g c = λ here client r d is orderly.
    let v = c.args.self.now in
    let object = c.args.object in
    let its = link-of-child v r is orderly object c.in-Some.child c.in-Some.ensures in
    asked-so v _ client r d is orderly c.count.ensures.only (c.count.ensures.counts r.peer is.peer) refl refl c.set_position.ensures.surfaces _ object c.in-Some.child its
    (SetPosition its.link.number c.args.x c.args.y) (ap (λ o. demand_by_link r object o (subsurface.SetPosition c.args.x c.args.y)) its.of_object) refl (λ v. refl) refl
    (owned-moved (names_of v.client.objects) v.owned.surfaces.states v.owned.surfaces.family (kept_of v.owned.shell) r.owned is.owns its.link.number c.in-Some.child its.link its.here its.lives
    its.named c.set_position.new.self.states c.set_position.new.self.family its.above c.args.x c.args.y its.parent
    (simp (to_z-of_z w32 c.args.x c.ranges.x, to_z-of_z w32 c.args.y c.ranges.y) at c.in-Ok.ensures.ok))

pub returns-in-Err-clause-answers : goal.returns-in-Err-clause-answers
returns-in-Err-clause-answers g c = λ here client r d is orderly.
    let v = c.args.self.now in
    let object = c.args.object in
    let its = link-of-child v r is orderly object c.in-Some.child c.in-Some.ensures in
    lacked-so v _ client r d _ its.link.parent (SetPosition its.link.number c.args.x c.args.y) orderly
    (ap (λ o. demand_by_link r object o (subsurface.SetPosition c.args.x c.args.y)) its.of_object) c.lack_memory.ensures.ended
    (c.lack_memory.ensures.lacks (counted r.peer) (c.count.ensures.counts r.peer is.peer))

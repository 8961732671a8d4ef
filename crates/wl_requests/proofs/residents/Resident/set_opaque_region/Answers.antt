use Rattle.std.proofs.Common.{refl, inl, inr, sym}
use Rattle.wl_surface.specs.Request.{SetOpaqueRegion}
use Rattle.wl_requests.proofs.Doing.{asked-so, copied-named, lacked}
use Rattle.wl_requests.proofs.residents.Resident.set_opaque_region.Goals as goal

pub returns-in-Ok-clause-does : goal.returns-in-Ok-clause-does
returns-in-Ok-clause-does g c = λ object named r is.
    let copied = copied-named _ r.peer c.args.region _ c.region-region.ensures is.peer in
    let done = asked-so _ _ r object c.args.surface (SetOpaqueRegion (r.peer.regions c.args.region)) is named refl refl (λ v. refl) (λ g. refl) refl c.set_opaque.ensures.frames
    (c.in-Ok.ensures.ok (r.peer.regions c.args.region) copied) c.set_opaque.ensures.family refl refl refl in
    (r.peer, inr (sym done.0), done.1)

pub returns-in-Err-clause-does : goal.returns-in-Err-clause-does
returns-in-Err-clause-does g c = λ object named r is.
    let lacks = lacked c.args.self.now _ _ r (c.lack_memory.ensures.lacks r.peer is.peer) c.lack_memory.ensures.ended in
    (lacks.0, inl lacks.1, lacks.2)

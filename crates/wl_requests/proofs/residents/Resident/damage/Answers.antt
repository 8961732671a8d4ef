use Rattle.std.proofs.Common.{refl, inl, inr, sym}
use Rattle.wl_surface.specs.Request.{Damage}
use Rattle.wl_requests.proofs.Doing.{asked-so, lacked}
use Rattle.wl_requests.proofs.residents.Resident.damage.Goals as goal

pub returns-in-Ok-clause-does : goal.returns-in-Ok-clause-does
returns-in-Ok-clause-does g c = λ object named r is.
    let done = asked-so _ _ r object c.args.surface (Damage c.args.rect) is named refl refl (λ v. refl) (λ g. refl) refl c.damage.ensures.frames c.in-Ok.ensures.ok c.damage.ensures.family refl refl refl in
    (r.peer, inr (sym done.0), done.1)

pub returns-in-Err-clause-does : goal.returns-in-Err-clause-does
returns-in-Err-clause-does g c = λ object named r is.
    let lacks = lacked c.args.self.now _ _ r (c.lack_memory.ensures.lacks r.peer is.peer) c.lack_memory.ensures.ended in
    (lacks.0, inl lacks.1, lacks.2)

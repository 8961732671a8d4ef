use Rattle.std.proofs.Common.{refl, inl, inr, sym, w32}
use Rattle.std.specs.Prelude.{unsigned_abs}
use Rattle.std.proofs.lemmas.Int.{to_z-of_z}
use Rattle.wl_surface.specs.Request.{SetBufferTransform}
use Rattle.wl_requests.proofs.Doing.{asked-so, lacked}
use Rattle.wl_requests.proofs.residents.Resident.set_buffer_transform.Goals as goal

pub returns-in-Ok-clause-does : goal.returns-in-Ok-clause-does
returns-in-Ok-clause-does g c = λ object valid named r is.
    let done = asked-so _ _ r object c.args.surface (SetBufferTransform (unsigned_abs c.args.transform)) is named refl refl (λ v. refl) (λ g. refl) refl c.set_transform.ensures.frames
    (simp (to_z-of_z w32 c.args.transform c.ranges.transform) at c.in-Ok.ensures.ok) c.set_transform.ensures.family refl refl refl in
    (r.peer, inr (sym done.0), done.1)

pub returns-in-Err-clause-does : goal.returns-in-Err-clause-does
returns-in-Err-clause-does g c = λ object valid named r is.
    let lacks = lacked c.args.self.now _ _ r (c.lack_memory.ensures.lacks r.peer is.peer) c.lack_memory.ensures.ended in
    (lacks.0, inl lacks.1, lacks.2)

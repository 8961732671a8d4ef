use Rattle.std.proofs.Common.{refl}
use Rattle.wl_desk.proofs.LatestStay.{keeps-noted}
use Rattle.wl_desk.proofs.Telling.{seen, tells-telling, told-own}
use Rattle.wl_desk.proofs.desks.Desk.tell.Goals as goal

pub returns-clause-tells : goal.returns-clause-tells
returns-clause-tells g c = λ change events m telling so keeps.
    let it = rw (← c.self.view_is) at telling in
    tells-telling c.args.event c.seat_of.result.now c.args.client (seen c.self.inside.clients.desk _ _ c.self.inside.pointer) (seen c.tell.new.self.desk _ _ c.self.inside.pointer)
    c.tell.ensures.tells refl refl change events m it
    (keeps-noted _ _ c.args.client change _ keeps refl)
    (told-own c.args.event c.seat_of.result.now c.args.client (seen c.self.inside.clients.desk _ _ c.self.inside.pointer) (rw (← c.deref.ensures.value) c.seat_of.ensures) change events m it so)

pub returns-clause-notes : goal.returns-clause-notes
returns-clause-notes g c = λ latest change events m telling so noted.
    let it = rw (← c.self.view_is) at telling in
    tells-telling c.args.event c.seat_of.result.now c.args.client (seen c.self.inside.clients.desk _ _ c.self.inside.pointer) (seen c.tell.new.self.desk _ latest c.self.inside.pointer)
    c.tell.ensures.tells refl refl change events m it (rw (← c.self.view_is) at noted)
    (told-own c.args.event c.seat_of.result.now c.args.client (seen c.self.inside.clients.desk _ _ c.self.inside.pointer) (rw (← c.deref.ensures.value) c.seat_of.ensures) change events m it so)

pub returns-clause-rests : goal.returns-clause-rests
returns-clause-rests g c = rw (← c.self.view_is) c.tell.ensures.rests

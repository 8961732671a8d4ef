use Rattle.wl_desk.specs.Midway.{unpointed_mid}
use Rattle.wl_desk.proofs.Noting.{button-noted}
use Rattle.wl_desk.proofs.desks.Desk.press_over.Goals as goal

pub returns-clause-tells : goal.returns-clause-tells
returns-clause-tells g c = λ m telling.
    let it = rw (← c.self.view_is) at telling in
    button-noted c.args.target.client c.args.pressed c.args.self.now.desk c.tell.new.self.desk c.note.new.self.desk c.serial-serial.result c.note.ensures.noted c.note.ensures.same c.note.ensures.others
    c.tell.ensures.seats c.tell.ensures.latest m telling (c.serial-serial.ensures (unpointed_mid m) it.kept) c.args.time c.args.button
    c.note.ensures.kept c.note.ensures.pointer c.note.ensures.seats c.tell.ensures.notes

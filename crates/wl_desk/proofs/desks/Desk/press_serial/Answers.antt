use Rattle.std.proofs.Common.{ap, sym, ◌∙◌}
use Rattle.std.specs.Option.{option_map}
use Rattle.wl_scene.specs.Focus.{target_of}
use Rattle.spec_desktop.specs.Desktop.{unpointed}
use Rattle.spec_desktop.specs.Settling.{unstruck}
use Rattle.wl_clients.proofs.Midway.{mid_begins_and_ends}
use Rattle.wl_desk.proofs.Holding.{not-empty, serial-none, serial-some}
use Rattle.wl_desk.proofs.Telling.{seen}
use Rattle.wl_desk.proofs.desks.Desk.press_serial.Goals as goal

pub returns-then-is_empty : goal.returns-then-is_empty
returns-then-is_empty g c = λ d a.
    let it = rw (← c.self.view_is) at a in
    serial-none (seen c.self.inside.clients.desk _ _ c.self.inside.pointer) d it (target_of c.in_ok-focus.focus) (sym (ap (option_map target_of) c.in_ok-focus.was) ∙ c.focus.ensures)
    c.seat_of.result.now (rw (← c.deref.ensures.value) c.seat_of.ensures) c.is_empty.result c.is_empty.ensures c.if-is_empty.true

pub returns : goal.returns
returns g c = λ d a.
    let it = rw (← c.self.view_is) at a in
    serial-some (seen c.self.inside.clients.desk _ _ c.self.inside.pointer) d it (target_of c.in_ok-focus.focus) (sym (ap (option_map target_of) c.in_ok-focus.was) ∙ c.focus.ensures)
    c.seat_of.result.now (rw (← c.deref.ensures.value) c.seat_of.ensures) (not-empty c.seat_of.result.now c.is_empty.result c.is_empty.ensures c.if-is_empty.false) c.serial.result
    (c.serial.ensures (unstruck (unpointed d)) ((mid_begins_and_ends c.self.inside.clients.desk (unpointed d)).0 it.kept))

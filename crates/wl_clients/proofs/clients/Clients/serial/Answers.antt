use Rattle.std.proofs.Common.{ap, sym, ◌∙◌}
use Rattle.std.specs.Prelude.{Some}
use Rattle.wl_clients.specs.View.{pile_of}
use Rattle.wl_clients.proofs.Looks.{no-serial, serial-read}
use Rattle.wl_clients.proofs.clients.Clients.serial.Goals as goal

pub returns-in_default : goal.returns-in_default
returns-in_default g c = λ m mid.
    no-serial c.self.inside.output c.self.inside.residents.items (pile_of c.self.inside.screen) c.self.inside.screen.damage _ _ c.args.client m c.deref.ensures.value
    (sym c.in_default.ensures) c.self.view_is mid

pub returns : goal.returns
returns g c = λ m mid.
    ap Some c.serial.ensures
    ∙ serial-read c.self.inside.output c.self.inside.residents.items (pile_of c.self.inside.screen) c.self.inside.screen.damage _ _ c.args.client c.in-Some.resident.now m c.deref.ensures.value
    c.in-Some.ensures c.self.view_is mid

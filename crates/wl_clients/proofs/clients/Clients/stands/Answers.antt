use Rattle.std.proofs.Common.{◌∙◌}
use Rattle.wl_clients.specs.View.{pile_of}
use Rattle.wl_clients.proofs.Looks.{mid-stands}
use Rattle.wl_clients.proofs.Seats.{view_of}
use Rattle.wl_clients.proofs.clients.Clients.stands.Goals as goal

pub returns : goal.returns
returns g c = λ m top mid named.
    let v = view_of c.self.inside.output c.self.inside.residents.items (pile_of c.self.inside.screen) in
    c.has_toplevel.ensures
    ∙ mid-stands v m (rw (← c.self.view_is) at mid) c.args.client c.toplevels.result.now c.toplevels.ensures c.args.toplevel top (rw (← c.self.view_is) at named)

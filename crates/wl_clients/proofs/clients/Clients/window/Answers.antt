use Rattle.wl_clients.specs.View.{pile_of}
use Rattle.wl_clients.proofs.Looks.{mid-numbered, mid-window}
use Rattle.wl_clients.proofs.Seats.{view_of}
use Rattle.wl_clients.proofs.clients.Clients.window.Goals as goal

pub returns-clause-window : goal.returns-clause-window
returns-clause-window g c = λ m id mid named.
    let v = view_of c.self.inside.output c.self.inside.residents.items (pile_of c.self.inside.screen) in
    rw (← c.self.view_is) (mid-window v m (rw (← c.self.view_is) at mid) c.args.client c.windows.result.now c.windows.ensures.windows c.window_in.result c.args.surface id c.window_in.ensures
    (rw (← c.self.view_is) at named))

pub returns-clause-numbered : goal.returns-clause-numbered
returns-clause-numbered g c = λ m mid.
    let v = view_of c.self.inside.output c.self.inside.residents.items (pile_of c.self.inside.screen) in
    rw (← c.self.view_is) (mid-numbered v m (rw (← c.self.view_is) at mid) c.args.client c.windows.result.now c.windows.ensures.windows c.window_in.result c.args.surface c.window_in.ensures)

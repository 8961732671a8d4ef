use Rattle.wl_clients.specs.View.{pile_of}
use Rattle.wl_clients.proofs.Holders.{mid-holds, mid-none-holds}
use Rattle.wl_clients.proofs.clients.Clients.grab_holder.Goals as goal

pub returns-in_default : goal.returns-in_default
returns-in_default g c = λ m mid.
    mid-none-holds c.self.inside.output c.self.inside.residents.items (pile_of c.self.inside.screen) m (rw (← c.self.view_is) at mid) _ c.deref.ensures.value c.in_default.ensures.none

pub returns : goal.returns
returns g c = λ m mid.
    mid-holds c.self.inside.output c.self.inside.residents.items (pile_of c.self.inside.screen) m (rw (← c.self.view_is) at mid) _ c.deref.ensures.value c.in-Some.k c.in-Some.ensures.some

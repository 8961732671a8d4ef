use Rattle.std.proofs.Common.{ap, sym, ◌∙◌}
use Rattle.wl_store.specs.Stores.{next_after}
use Rattle.spec_desktop.specs.Act.{peer_of}
use Rattle.wl_clients.specs.NextStore.{next_store_of}
use Rattle.wl_clients.specs.View.{pile_of}
use Rattle.wl_clients.proofs.Calls.{peer-read}
use Rattle.wl_clients.proofs.Seats.{missing}
use Rattle.wl_clients.proofs.clients.Clients.next_store.Goals as goal

pub returns-in_default-clause-next : goal.returns-in_default-clause-next
returns-in_default-clause-next g c =
    let pile = pile_of c.self.inside.screen in
    λ d a. sym (ap (λ o. next_store_of c.args.number o) (ap (λ o. peer_of o) (missing c.self.inside.output c.self.inside.residents.items pile c.self.inside.screen.damage _ _ _
    c.deref.ensures.value (sym c.in_default.ensures) c.self.view_is d a.matches)))

pub returns-clause-next : goal.returns-clause-next
returns-clause-next g c =
    let pile = pile_of c.self.inside.screen in
    λ d a.
    let p = peer-read c.self.inside.output c.self.inside.residents.items pile c.self.inside.screen.damage _ _ c.args.client c.in-Some.resident.now d c.deref.ensures.value
    c.in-Some.ensures c.self.view_is a.matches in
    rw p.1 (c.next_store.ensures.next ∙ ap (λ stores. next_after c.args.number stores) p.2.stores)

use Rattle.std.proofs.Common.{ap, sym, ◌∙◌}
use Rattle.wl_store.specs.Stores.{bytes_of}
use Rattle.spec_desktop.specs.Act.{peer_of}
use Rattle.wl_clients.specs.StoreBytes.{store_bytes_of}
use Rattle.wl_clients.specs.View.{pile_of}
use Rattle.wl_clients.proofs.Calls.{peer-read}
use Rattle.wl_clients.proofs.Seats.{missing}
use Rattle.wl_clients.proofs.clients.Clients.store_bytes.Goals as goal

pub returns-in_default : goal.returns-in_default
returns-in_default g c =
    let pile = pile_of c.self.inside.screen in
    λ d a. sym (ap (λ o. store_bytes_of c.args.store o) (ap (λ o. peer_of o) (missing c.self.inside.output c.self.inside.residents.items pile c.self.inside.screen.damage _ _ _
    c.deref.ensures.value (sym c.in_default.ensures) c.self.view_is d a.matches)))

pub returns : goal.returns
returns g c =
    let pile = pile_of c.self.inside.screen in
    λ d a.
    let p = peer-read c.self.inside.output c.self.inside.residents.items pile c.self.inside.screen.damage _ _ c.args.client c.in-Some.resident.now d c.deref.ensures.value
    c.in-Some.ensures c.self.view_is a.matches in
    rw p.1 (c.store_bytes.ensures ∙ ap (λ stores. bytes_of c.args.store stores) p.2.stores)

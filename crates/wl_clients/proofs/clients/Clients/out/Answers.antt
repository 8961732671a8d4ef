use Rattle.std.proofs.Common.{Some, ap, sym, ◌∙◌}
use Rattle.spec_desktop.specs.Act.{peer_of, unsent_of}
use Rattle.wl_clients.specs.View.{pile_of}
use Rattle.wl_clients.proofs.Calls.{peer-read}
use Rattle.wl_clients.proofs.Seats.{missing}
use Rattle.wl_clients.proofs.clients.Clients.out.Goals as goal

pub returns-in_default : goal.returns-in_default
returns-in_default g c =
    let pile = pile_of c.self.inside.screen in
    λ d a. sym (ap (λ o. unsent_of o) (ap (λ o. peer_of o) (missing c.self.inside.output c.self.inside.residents.items pile c.self.inside.screen.damage _ _ _
    c.deref.ensures.value (sym c.in_default.ensures) c.self.view_is d a.matches)))

pub returns : goal.returns
returns g c =
    let pile = pile_of c.self.inside.screen in
    λ d a.
    let p = peer-read c.self.inside.output c.self.inside.residents.items pile c.self.inside.screen.damage _ _ c.args.client c.in-Some.resident.now d c.deref.ensures.value
    c.in-Some.ensures c.self.view_is a.matches in
    rw p.1 (ap Some (c.unsent.ensures ∙ p.2.unsent))

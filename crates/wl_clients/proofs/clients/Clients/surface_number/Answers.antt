use Rattle.std.proofs.Common.{ℕ, ap, sym, ◌∙◌}
use Rattle.spec_desktop.specs.Objects.{ById}
use Rattle.wl_clients.specs.Residents.{resident_at}
use Rattle.wl_clients.proofs.Numbers.{nameless, numbers-here}
use Rattle.wl_clients.proofs.Seats.{here-of}
use Rattle.wl_clients.proofs.clients.Clients.surface_number.Goals as goal

pub returns-in_default : goal.returns-in_default
returns-in_default g c =
    rw (← c.self.view_is) (nameless c.self.inside.residents.items _ c.args.client c.args.id c.deref.ensures.value (sym c.in_default.ensures))

pub returns : goal.returns
returns g c =
    let rs = c.self.inside.residents.items in
    let here = here-of rs c.args.client c.in-Some.resident.now (c.in-Some.ensures ∙ ap (λ rs. resident_at rs c.args.client) c.deref.ensures.value) in
    rw (← c.self.view_is) (c.number_named.ensures ∙ sym (ap (λ (ns : ById ℕ). ns c.args.id) (numbers-here rs c.args.client here.0 _ here.1)))

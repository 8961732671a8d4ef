use Rattle.std.proofs.Common.{ap, sym, ◌∙◌}
use Rattle.std.proofs.lemmas.List.{length-map}
use Rattle.std.specs.Prelude.{position}
use Rattle.wl_clients.specs.View.{pile_of}
use Rattle.wl_clients.specs.Midway.{is_refused}
use Rattle.wl_clients.proofs.Looks.{mid-first, mid-no-first}
use Rattle.wl_clients.proofs.clients.Clients.first_refused.Goals as goal

pub returns-in_default-clause-first : goal.returns-in_default-clause-first
returns-in_default-clause-first g c = λ m mid.
    mid-no-first c.self.inside.output c.self.inside.residents.items (pile_of c.self.inside.screen) m (rw (← c.self.view_is) at mid)
    (sym (ap (position is_refused) c.deref.ensures.value) ∙ sym c.in_default.ensures.first)

pub returns-clause-first : goal.returns-clause-first
returns-clause-first g c = λ m mid.
    mid-first c.self.inside.output c.self.inside.residents.items (pile_of c.self.inside.screen) m (rw (← c.self.view_is) at mid) c.in-Some.k
    (sym (ap (position is_refused) c.deref.ensures.value) ∙ sym c.in-Some.ensures.first)

pub returns-in_default-clause-count : goal.returns-in_default-clause-count
returns-in_default-clause-count g c = rw (← c.self.view_is) (length-map c.self.inside.residents.items _ ∙ c.self.invariant.0)

pub returns-clause-count : goal.returns-clause-count
returns-clause-count g c = rw (← c.self.view_is) (length-map c.self.inside.residents.items _ ∙ c.self.invariant.0)

use Rattle.std.proofs.Common.{ap, refl, ◌∙◌, sym, ◌-◌}
use Rattle.std.proofs.lemmas.List.{length-set}
use Rattle.wl_client.specs.View.{ClientView}
use Rattle.wl_clients.specs.Agreement.{numbers_in}
use Rattle.wl_clients.specs.View.{MarkedDesk, pile_of}
use Rattle.wl_clients.proofs.Midway.{told-numbers}
use Rattle.wl_clients.proofs.Released.{here-released, nobody-released, rest-released, unput-released}
use Rattle.wl_clients.proofs.Rests.{rest-no-more, rest-unput}
use Rattle.wl_clients.proofs.Seats.{as-large, here-at}
use Rattle.wl_clients.proofs.clients.Clients.release_grabs.Goals as goal

-- nobody is there
pub returns-in_default-clause-releases : goal.returns-in_default-clause-releases
returns-in_default-clause-releases g c = λ m mid.
    let pile = pile_of c.self.inside.screen in
    unput-released _ c.args.self.now c.self.view_is c.args.client m
    (nobody-released c.self.inside.output c.self.inside.residents.items pile c.self.inside.screen.damage _ c.args.self.now c.args.client refl (sym c.in_default.ensures.value) c.self.view_is m mid)

pub returns-in_default-clause-numbers : goal.returns-in_default-clause-numbers
returns-in_default-clause-numbers g c =
    let pile = pile_of c.self.inside.screen in
    ap (λ (w : MarkedDesk). numbers_in w.desk.clients) c.self.view_is

pub returns-in_default-clause-rests : goal.returns-in_default-clause-rests
returns-in_default-clause-rests g c =
    let pile = pile_of c.self.inside.screen in
    rest-unput c.args.self.now _ c.self.view_is

pub returns-in_default-clause-sides : goal.returns-in_default-clause-sides
returns-in_default-clause-sides g c = as-large _ _ c.self.view_is

pub returns-in_default-clause-output : goal.returns-in_default-clause-output
returns-in_default-clause-output g c = ap (λ (m : MarkedDesk). m.desk.output) c.self.view_is

-- they are dismissed
pub returns-clause-releases : goal.returns-clause-releases
returns-clause-releases g c = λ m mid.
    let is = here-at c.self.inside.residents.items c.args.client c.in-Some.resident.now c.in-Some.ensures.value in
    rw (← c.self.view_is) (here-released c.self.inside.output c.self.inside.residents.items (pile_of c.self.inside.screen) c.args.client (c.args.client - 1) c.in-Some.resident.now is m
    (rw (← c.self.view_is) at mid) c.release_of.new.resident (pile_of c.release_of.new.screen) c.self.inside.screen.damage c.release_of.new.screen.damage
    c.release_of.ensures.releases c.release_of.ensures.marks c.release_of.ensures.client c.self.invariant.1)

pub returns-clause-numbers : goal.returns-clause-numbers
returns-clause-numbers g c =
    rw (← c.self.view_is) (told-numbers c.self.inside.output c.self.inside.residents.items (pile_of c.self.inside.screen) _ (c.args.client - 1) c.in-Some.resident.now
    (here-at c.self.inside.residents.items c.args.client c.in-Some.resident.now c.in-Some.ensures.value) c.release_of.new.resident
    (ap (λ (v : ClientView). v.objects) c.release_of.ensures.client))

pub returns-clause-rests : goal.returns-clause-rests
returns-clause-rests g c = λ other.
    rw (← c.self.view_is) (rest-no-more c.self.inside.output c.self.inside.residents.items (pile_of c.self.inside.screen) _ _ (c.args.client - 1) c.in-Some.resident.now
    (here-at c.self.inside.residents.items c.args.client c.in-Some.resident.now c.in-Some.ensures.value) c.release_of.new.resident
    (rest-released c.in-Some.resident.now c.release_of.new.resident c.release_of.ensures.client) other)

pub returns-clause-sides : goal.returns-clause-sides
returns-clause-sides g c = rw (← c.self.view_is) c.release_of.ensures.sides

pub returns-clause-output : goal.returns-clause-output
returns-clause-output g c = ap (λ (m : MarkedDesk). m.desk.output) c.self.view_is

pub invariant_of-self : goal.invariant_of-self
invariant_of-self g c = c.self.invariant

pub invariant_of-self-2 : goal.invariant_of-self-2
invariant_of-self-2 g c = (
  length-set _ _ _ ∙ c.self.invariant.0,
  (c.release_of.ensures.sides.width ∙ c.self.invariant.1.0, c.release_of.ensures.sides.height ∙ c.self.invariant.1.1),
)

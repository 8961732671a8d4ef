use Rattle.std.proofs.Common.{ap, refl, ◌∙◌, sym, ◌-◌}
use Rattle.std.proofs.lemmas.List.{length-set}
use Rattle.wl_clients.specs.View.{MarkedDesk, pile_of}
use Rattle.wl_clients.proofs.Kept.{err-then, keeps, lives-there, ok-then, stays}
use Rattle.wl_clients.proofs.Steps.{keeps-nobody, keeps-whole, stays-whole}
use Rattle.wl_clients.proofs.Seats.{here-at, missing}
use Rattle.wl_clients.proofs.clients.Clients.keep.Goals as goal

pub returns-in_default-clause-ok : goal.returns-in_default-clause-ok
returns-in_default-clause-ok g c =
    let pile = pile_of c.self.inside.screen in
    keeps-nobody c.args.client _ _ (missing c.self.inside.output c.self.inside.residents.items pile c.self.inside.screen.damage _ _ _ refl (sym c.in_default.ensures.value) c.self.view_is) c.self.view_is c.args.piece.now

pub returns-in_default-clause-damage : goal.returns-in_default-clause-damage
returns-in_default-clause-damage g c = ap (λ (m : MarkedDesk). m.damage) c.self.view_is

pub returns-in_default-clause-output : goal.returns-in_default-clause-output
returns-in_default-clause-output g c = ap (λ (m : MarkedDesk). m.desk.output) c.self.view_is

pub returns-clause-ok : goal.returns-clause-ok
returns-clause-ok g c =
    let pile = pile_of c.self.inside.screen in
    ok-then c.keep_in.result (λ same. keeps-whole c.args.client c.args.piece.now _ _ (λ d a.
    keeps c.self.inside.output c.self.inside.residents.items pile c.args.client (c.args.client - 1) c.in-Some.resident.now
    (here-at c.self.inside.residents.items c.args.client c.in-Some.resident.now c.in-Some.ensures.value) d (rw (← c.self.view_is) at a.matches) c.args.piece.now
    c.keep_in.new.resident same)) c.keep_in.ensures.ok

pub returns-clause-err : goal.returns-clause-err
returns-clause-err g c =
    let pile = pile_of c.self.inside.screen in
    err-then c.keep_in.result (λ kept d a. (
      stays-whole _ _ (λ d a. stays c.self.inside.output c.self.inside.residents.items pile c.args.client (c.args.client - 1) c.in-Some.resident.now
          (here-at c.self.inside.residents.items c.args.client c.in-Some.resident.now c.in-Some.ensures.value) d (rw (← c.self.view_is) at a)
          c.keep_in.new.resident pile kept.0 refl) d a,
      lives-there c.self.inside.output c.self.inside.residents.items pile c.args.client (c.args.client - 1) c.in-Some.resident.now
          (here-at c.self.inside.residents.items c.args.client c.in-Some.resident.now c.in-Some.ensures.value) d (rw (← c.self.view_is) at a.matches) kept.1,
    )) c.keep_in.ensures.err

pub returns-clause-damage : goal.returns-clause-damage
returns-clause-damage g c = ap (λ (m : MarkedDesk). m.damage) c.self.view_is

pub returns-clause-output : goal.returns-clause-output
returns-clause-output g c = ap (λ (m : MarkedDesk). m.desk.output) c.self.view_is

pub invariant_of-self : goal.invariant_of-self
invariant_of-self g c = c.self.invariant

pub invariant_of-self-2 : goal.invariant_of-self-2
invariant_of-self-2 g c = (length-set _ _ _ ∙ c.self.invariant.0, c.self.invariant.1)

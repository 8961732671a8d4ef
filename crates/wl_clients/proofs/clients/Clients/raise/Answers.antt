use Rattle.std.proofs.Common.{◌∙◌, ap}
use Rattle.wl_clients.specs.Agreement.{numbers_in}
use Rattle.wl_clients.specs.View.{MarkedDesk, pile_of}
use Rattle.wl_clients.specs.Residents.{client_views}
use Rattle.wl_clients.proofs.Opened.{open_all}
use Rattle.wl_clients.proofs.Restacked.{mid-raised, mid-sized, of-named}
use Rattle.wl_clients.proofs.clients.Clients.raise.Goals as goal

pub returns-clause-raises : goal.returns-clause-raises
returns-clause-raises g c = λ m top mid named.
    let rs = c.self.inside.residents.items in
    mid-raised c.self.inside.output rs (pile_of c.self.inside.screen) c.args.client top c.args.toplevel m (rw (← c.self.view_is) at mid) (rw (← c.self.view_is) at named)
    (pile_of c.raise_tree.new.self) (λ v r. c.raise_tree.ensures.raises v (numbers_in (client_views (open_all rs))) m.desktop m.desktop r top)

pub returns-clause-marks : goal.returns-clause-marks
returns-clause-marks g c = λ m top mid named.
    let rs = c.self.inside.residents.items in
    rw (← c.self.view_is) (of-named c.self.inside.output rs (pile_of c.self.inside.screen) c.args.client top c.args.toplevel m (rw (← c.self.view_is) at mid) (rw (← c.self.view_is) at named) _
    (λ v r. c.raise_tree.ensures.marks v (numbers_in (client_views (open_all rs))) m.desktop m.desktop r top))

pub returns-clause-most : goal.returns-clause-most
returns-clause-most g c = λ m top mid named.
    let rs = c.self.inside.residents.items in
    let pile = pile_of c.self.inside.screen in
    let here = rw (← c.self.view_is) at mid in
    let sides = mid-sized c.self.inside.output rs pile m here c.self.inside.screen.damage c.self.invariant.1 in
    rw (← c.self.view_is) (of-named c.self.inside.output rs pile c.args.client top c.args.toplevel m here (rw (← c.self.view_is) at named) _
    (λ v r. c.raise_tree.ensures.most v (numbers_in (client_views (open_all rs))) m.desktop m.desktop r top sides.0 sides.1))

pub returns-clause-clients : goal.returns-clause-clients
returns-clause-clients g c = ap (λ (m : MarkedDesk). m.desk.clients) c.self.view_is

pub returns-clause-output : goal.returns-clause-output
returns-clause-output g c = ap (λ (m : MarkedDesk). m.desk.output) c.self.view_is

pub returns-clause-sides : goal.returns-clause-sides
returns-clause-sides g c = rw (← c.self.view_is) c.raise_tree.ensures.sides

pub invariant_of-self : goal.invariant_of-self
invariant_of-self g c =
    (c.self.invariant.0, (c.raise_tree.ensures.sides.width ∙ c.self.invariant.1.0, c.raise_tree.ensures.sides.height ∙ c.self.invariant.1.1))

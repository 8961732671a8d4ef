use Rattle.std.proofs.Common.{◌∙◌, ◌-◌, ap, rules, sym, w64}
use Rattle.std.proofs.lemmas.Int.{to_z-of_z}
use Rattle.std.specs.Prelude.{FitsSigned}
use Rattle.wl_clients.specs.Agreement.{numbers_in}
use Rattle.wl_clients.specs.View.{MarkedDesk, pile_of}
use Rattle.wl_clients.specs.Residents.{client_views, resident_at}
use Rattle.wl_clients.proofs.Opened.{open_all}
use Rattle.wl_clients.proofs.Restacked.{here-moved, mid-sized, nobody-named, of-here}
use Rattle.wl_clients.proofs.Seats.{here-at}
use Rattle.wl_clients.proofs.clients.Clients.move_toplevel.Goals as goal

-- nobody is there
pub returns-in_default-clause-moves : goal.returns-in_default-clause-moves
returns-in_default-clause-moves g c = λ m top mid named.
    absurd (nobody-named c.self.inside.output c.self.inside.residents.items (pile_of c.self.inside.screen) c.self.inside.screen.damage _ c.args.self.now c.args.client top c.args.toplevel
    c.deref.ensures.value (sym {b = resident_at c.deref.result.now c.args.client} c.in_default.ensures) c.self.view_is named)

pub returns-in_default-clause-marks : goal.returns-in_default-clause-marks
returns-in_default-clause-marks g c = λ m top mid named.
    absurd (nobody-named c.self.inside.output c.self.inside.residents.items (pile_of c.self.inside.screen) c.self.inside.screen.damage _ c.args.self.now c.args.client top c.args.toplevel
    c.deref.ensures.value (sym {b = resident_at c.deref.result.now c.args.client} c.in_default.ensures) c.self.view_is named)

pub returns-in_default-clause-most : goal.returns-in_default-clause-most
returns-in_default-clause-most g c = λ m top mid named.
    absurd (nobody-named c.self.inside.output c.self.inside.residents.items (pile_of c.self.inside.screen) c.self.inside.screen.damage _ c.args.self.now c.args.client top c.args.toplevel
    c.deref.ensures.value (sym {b = resident_at c.deref.result.now c.args.client} c.in_default.ensures) c.self.view_is named)

-- it moves
pub returns-clause-moves : goal.returns-clause-moves
returns-clause-moves g c = λ m top mid named.
    let x : FitsSigned w64 c.args.x = search rules in
    let y : FitsSigned w64 c.args.y = search rules in
    let moves = rw (to_z-of_z w64 c.args.x x, to_z-of_z w64 c.args.y y) at c.move_tree.ensures.moves in
    let rs = c.self.inside.residents.items in
    let pile = pile_of c.self.inside.screen in
    let v = c.in-Some.resident.now in
    let is = here-at rs c.args.client v (c.in-Some.ensures ∙ ap (λ rs. resident_at rs c.args.client) c.deref.ensures.value) in
    here-moved c.self.inside.output rs pile c.args.client (c.args.client - 1) v is m (rw (← c.self.view_is) at mid) (pile_of c.move_tree.new.self) top c.args.toplevel c.args.x c.args.y
    (rw (← c.self.view_is) at named) (λ r. moves (numbers_in (client_views (open_all rs))) m.desktop m.desktop r top)

pub returns-clause-marks : goal.returns-clause-marks
returns-clause-marks g c = λ m top mid named.
    let x : FitsSigned w64 c.args.x = search rules in
    let y : FitsSigned w64 c.args.y = search rules in
    let marks = rw (to_z-of_z w64 c.args.x x, to_z-of_z w64 c.args.y y) at c.move_tree.ensures.marks in
    let rs = c.self.inside.residents.items in
    let pile = pile_of c.self.inside.screen in
    let v = c.in-Some.resident.now in
    let is = here-at rs c.args.client v (c.in-Some.ensures ∙ ap (λ rs. resident_at rs c.args.client) c.deref.ensures.value) in
    rw (← c.self.view_is) (of-here c.self.inside.output rs pile c.args.client (c.args.client - 1) v is m (rw (← c.self.view_is) at mid) _ top c.args.toplevel (rw (← c.self.view_is) at named)
    (λ r. marks (numbers_in (client_views (open_all rs))) m.desktop m.desktop r top))

pub returns-clause-most : goal.returns-clause-most
returns-clause-most g c = λ m top mid named.
    let x : FitsSigned w64 c.args.x = search rules in
    let y : FitsSigned w64 c.args.y = search rules in
    let most = rw (to_z-of_z w64 c.args.x x, to_z-of_z w64 c.args.y y) at c.move_tree.ensures.most in
    let rs = c.self.inside.residents.items in
    let pile = pile_of c.self.inside.screen in
    let v = c.in-Some.resident.now in
    let is = here-at rs c.args.client v (c.in-Some.ensures ∙ ap (λ rs. resident_at rs c.args.client) c.deref.ensures.value) in
    let here = rw (← c.self.view_is) at mid in
    let sides = mid-sized c.self.inside.output rs pile m here c.self.inside.screen.damage c.self.invariant.1 in
    rw (← c.self.view_is) (of-here c.self.inside.output rs pile c.args.client (c.args.client - 1) v is m here _ top c.args.toplevel (rw (← c.self.view_is) at named)
    (λ r. most (numbers_in (client_views (open_all rs))) m.desktop m.desktop r top sides.0 sides.1))

pub returns-clause-clients : goal.returns-clause-clients
returns-clause-clients g c = ap (λ (m : MarkedDesk). m.desk.clients) c.self.view_is

pub returns-clause-output : goal.returns-clause-output
returns-clause-output g c = ap (λ (m : MarkedDesk). m.desk.output) c.self.view_is

pub returns-clause-sides : goal.returns-clause-sides
returns-clause-sides g c = rw (← c.self.view_is) c.move_tree.ensures.sides

pub invariant_of-self : goal.invariant_of-self
invariant_of-self g c =
    (c.self.invariant.0, (c.move_tree.ensures.sides.width ∙ c.self.invariant.1.0, c.move_tree.ensures.sides.height ∙ c.self.invariant.1.1))

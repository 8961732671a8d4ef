use Rattle.std.proofs.Common.{ap, refl, ◌∙◌, sym, ◌-◌}
use Rattle.std.proofs.lemmas.List.{length-set}
use Rattle.wl_clients.specs.Agreement.{numbers_in}
use Rattle.wl_clients.specs.View.{MarkedDesk, pile_of}
use Rattle.wl_clients.specs.Residents.{client_views}
use Rattle.wl_clients.proofs.Looks.{mid-absent}
use Rattle.wl_clients.proofs.Midway.{is-alive, least-ended, mid-ended, most-ended, refused}
use Rattle.wl_clients.proofs.Opened.{open_all}
use Rattle.wl_clients.proofs.Rests.{rest-no-more, rest-unput}
use Rattle.wl_clients.proofs.Seats.{as-large, here-at}
use Rattle.wl_clients.proofs.clients.Clients.end_refused.Goals as goal

-- nobody is there
pub returns-in_default-clause-ends : goal.returns-in_default-clause-ends
returns-in_default-clause-ends g c = λ t ts d own mid.
    absurd (mid-absent c.self.inside.output c.self.inside.residents.items (pile_of c.self.inside.screen) c.self.inside.screen.damage _ c.args.self.now c.args.client refl (sym c.in_default.ensures.value) c.self.view_is t ts d
    own mid)

pub returns-in_default-clause-marks : goal.returns-in_default-clause-marks
returns-in_default-clause-marks g c = λ t ts d own mid.
    absurd (mid-absent c.self.inside.output c.self.inside.residents.items (pile_of c.self.inside.screen) c.self.inside.screen.damage _ c.args.self.now c.args.client refl (sym c.in_default.ensures.value) c.self.view_is t ts d
    own mid)

pub returns-in_default-clause-most : goal.returns-in_default-clause-most
returns-in_default-clause-most g c = λ t ts d own mid.
    absurd (mid-absent c.self.inside.output c.self.inside.residents.items (pile_of c.self.inside.screen) c.self.inside.screen.damage _ c.args.self.now c.args.client refl (sym c.in_default.ensures.value) c.self.view_is t ts d
    own mid)

-- it ends
pub returns-clause-ends : goal.returns-clause-ends
returns-clause-ends g c = λ t ts d own mid.
    let rs = c.self.inside.residents.items in
    let pile = pile_of c.self.inside.screen in
    let v = c.in-Some.resident.now in
    let is = here-at c.self.inside.residents.items c.args.client c.in-Some.resident.now c.in-Some.ensures.value in
    let m = rw (← c.self.view_is) at mid in
    let cause = refused c.self.inside.output rs pile c.args.client (c.args.client - 1) v is t ts d own m in
    let alive = is-alive c.self.inside.output rs pile c.args.client (c.args.client - 1) v is t ts d own m in
    mid-ended c.self.inside.output rs pile c.args.client (c.args.client - 1) v is t ts d own m c.end_for_refusal.new.resident (pile_of c.end_for_refusal.new.screen)
    (c.end_for_refusal.ensures.ends t.cause cause alive (numbers_in (client_views (open_all rs))) d d)

pub returns-clause-marks : goal.returns-clause-marks
returns-clause-marks g c = λ t ts d own mid.
    let rs = c.self.inside.residents.items in
    let pile = pile_of c.self.inside.screen in
    let v = c.in-Some.resident.now in
    let is = here-at c.self.inside.residents.items c.args.client c.in-Some.resident.now c.in-Some.ensures.value in
    let m = rw (← c.self.view_is) at mid in
    let cause = refused c.self.inside.output rs pile c.args.client (c.args.client - 1) v is t ts d own m in
    let alive = is-alive c.self.inside.output rs pile c.args.client (c.args.client - 1) v is t ts d own m in
    rw (← c.self.view_is) (least-ended c.self.inside.output rs pile c.args.client (c.args.client - 1) v is t ts d own m c.end_for_refusal.new.resident (pile_of c.end_for_refusal.new.screen)
    (c.end_for_refusal.ensures.ends t.cause cause alive (numbers_in (client_views (open_all rs))) d d)
    c.self.inside.screen.damage c.end_for_refusal.new.screen.damage (c.end_for_refusal.ensures.marks t.cause cause alive))

pub returns-clause-most : goal.returns-clause-most
returns-clause-most g c = λ t ts d own mid.
    let rs = c.self.inside.residents.items in
    let pile = pile_of c.self.inside.screen in
    let v = c.in-Some.resident.now in
    let is = here-at c.self.inside.residents.items c.args.client c.in-Some.resident.now c.in-Some.ensures.value in
    let m = rw (← c.self.view_is) at mid in
    let cause = refused c.self.inside.output rs pile c.args.client (c.args.client - 1) v is t ts d own m in
    let alive = is-alive c.self.inside.output rs pile c.args.client (c.args.client - 1) v is t ts d own m in
    rw (← c.self.view_is) (most-ended c.self.inside.output rs pile c.args.client (c.args.client - 1) v is t ts d own m c.end_for_refusal.new.resident (pile_of c.end_for_refusal.new.screen)
    (c.end_for_refusal.ensures.ends t.cause cause alive (numbers_in (client_views (open_all rs))) d d)
    c.self.inside.screen.damage c.end_for_refusal.new.screen.damage (c.end_for_refusal.ensures.marks t.cause cause alive) c.self.invariant.1)

pub returns-in_default-clause-rests : goal.returns-in_default-clause-rests
returns-in_default-clause-rests g c =
    let pile = pile_of c.self.inside.screen in
    rest-unput c.args.self.now _ c.self.view_is

pub returns-clause-rests : goal.returns-clause-rests
returns-clause-rests g c = λ other.
    rw (← c.self.view_is) (rest-no-more c.self.inside.output c.self.inside.residents.items (pile_of c.self.inside.screen) _ c.args.client (c.args.client - 1) c.in-Some.resident.now
    (here-at c.self.inside.residents.items c.args.client c.in-Some.resident.now c.in-Some.ensures.value) c.end_for_refusal.new.resident
    c.end_for_refusal.ensures.rest other)

pub returns-in_default-clause-sides : goal.returns-in_default-clause-sides
returns-in_default-clause-sides g c = as-large _ _ c.self.view_is

pub returns-in_default-clause-output : goal.returns-in_default-clause-output
returns-in_default-clause-output g c = ap (λ (m : MarkedDesk). m.desk.output) c.self.view_is

pub returns-clause-sides : goal.returns-clause-sides
returns-clause-sides g c = rw (← c.self.view_is) c.end_for_refusal.ensures.sides

pub returns-clause-output : goal.returns-clause-output
returns-clause-output g c = ap (λ (m : MarkedDesk). m.desk.output) c.self.view_is

pub invariant_of-self : goal.invariant_of-self
invariant_of-self g c = c.self.invariant

pub invariant_of-self-2 : goal.invariant_of-self-2
invariant_of-self-2 g c = (
  length-set _ _ _ ∙ c.self.invariant.0,
  (c.end_for_refusal.ensures.sides.width ∙ c.self.invariant.1.0, c.end_for_refusal.ensures.sides.height ∙ c.self.invariant.1.1),
)

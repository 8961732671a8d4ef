use Rattle.std.proofs.Common.{◌<◌, ℕ, List, map, ap, subst, ◌∙◌, vec_len, vec_capacity}
use Rattle.std.specs.Vec.{with_items}
use Rattle.wl_desk.specs.Seating.{seats_after}
use Rattle.wl_desk.proofs.Seated.{IsPlaced, held-placed}
use Rattle.wl_desk.proofs.Taking.{hits-whole, rested-whole, took-whole, written}
use Rattle.wl_desk.proofs.desks.Desk.take.Goals as goal

pub returns-in_default-clause-more : goal.returns-in_default-clause-more
returns-in_default-clause-more g c =
    let back = written c.self.inside.seats c.make_room-has_room.new.seats c.deref_mut.result.now c.make_room-has_room.auto.seats c.deref_mut.ensures.value in
    rested-whole c.args.client c.self.inside.clients c.take.new.self _ _ c.self.inside.latest.items c.self.inside.pointer _ c.args.self.now c.self.view_is
    (ap (map (λ s. s.items)) back ∙ c.make_room-has_room.ensures.same ∙ ap (map (λ s. s.items)) c.deref_mut.ensures.value) c.in_default.ensures.more

pub returns-clause-took : goal.returns-clause-took
returns-clause-took g c =
    let back = written c.self.inside.seats c.make_room-has_room.new.seats c.deref_mut.result.now c.make_room-has_room.auto.seats c.deref_mut.ensures.value in
    let put = written (with_items c.self.inside.seats c.make_room-has_room.new.seats) c.keep_asked.new.seats c.deref_mut-2.result.now c.keep_asked.auto.seats c.deref_mut-2.ensures.value in
    let same = c.make_room-has_room.ensures.same ∙ ap (map (λ s. s.items)) c.deref_mut.ensures.value in
    let said = c.in-Some.ensures in
    took-whole c.args.client c.in-Some.taken.pointer c.make_room-has_room.result c.self.inside.clients c.take.new.self _ _ c.self.inside.latest.items c.self.inside.pointer _ c.args.self.now c.self.view_is
    (ap (map (λ s. s.items)) put ∙ c.keep_asked.ensures
    ∙ ap (λ (seats : List (List ℕ)). seats_after c.make_room-has_room.result c.in-Some.taken.pointer c.args.client seats)
    (ap (map (λ s. s.items)) (c.deref_mut-2.ensures.value ∙ back) ∙ same))
    (λ room. subst (λ (seats : List (List ℕ)). IsPlaced c.args.client seats) same
    (held-placed (λ v. vec_len v < vec_capacity v) (λ s. s.items) c.args.client c.make_room-has_room.new.seats (c.make_room-has_room.ensures.room room)))
    c.serials-latest.result (λ d a. c.serials-latest.ensures d (rw (← c.self.view_is) a)) said.leads said.asks said.seat said.sides

pub returns-clause-hits : goal.returns-clause-hits
returns-clause-hits g c = λ none.
    hits-whole c.args.client c.self.inside.clients c.take.new.self _ c.self.inside.latest.items c.self.inside.pointer _ c.args.self.now c.self.view_is
    c.serials-latest.result (λ d a. c.serials-latest.ensures d (rw (← c.self.view_is) a)) (c.in-Some.ensures.hits none)

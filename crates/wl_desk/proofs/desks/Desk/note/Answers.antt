use Rattle.std.proofs.Common.{List, ap, sym, ◌∙◌}
use Rattle.std.proofs.lemmas.Bool.{true≢false}
use Rattle.std.proofs.lemmas.Option.{none-some}
use Rattle.wl_client.specs.Pointers.{has_any}
use Rattle.wl_clients.specs.declared.grabs.Latest.{Latest}
use Rattle.wl_desk.specs.Serials.{changed_of, noted_by}
use Rattle.wl_desk.specs.View.{latest_of}
use Rattle.wl_desk.proofs.Noting.{changed-other, empty-none, full-some, noted-here}
use Rattle.wl_desk.proofs.Taking.{written}
use Rattle.wl_desk.proofs.desks.Desk.note.Goals as goal

pub returns-then-is_empty-clause-noted : goal.returns-then-is_empty-clause-noted
returns-then-is_empty-clause-noted g c = λ some.
    let own = rw (← c.self.view_is) at some in
    let none = ap has_any (sym (rw (← c.deref.ensures.value) c.seat_of.ensures)) ∙ empty-none c.seat_of.result.now c.is_empty.result c.is_empty.ensures c.if-is_empty.true in
    absurd (true≢false (sym own ∙ none))

pub returns-in_default-clause-noted : goal.returns-in_default-clause-noted
returns-in_default-clause-noted g c = λ some n is. absurd (none-some n (sym c.in_default.is ∙ is))

pub returns-clause-noted : goal.returns-clause-noted
returns-clause-noted g c = λ some n is.
    let back = written c.self.inside.latest c.note.new.latest c.deref_mut.result.now c.note.auto.latest c.deref_mut.ensures.value in
    rw (← c.self.view_is) (noted-here (λ s. s.items) c.args.client c.in-Some.serial n c.args.pressed c.self.inside.seats.items c.self.inside.latest.items _
    (back ∙ c.note.ensures ∙ ap (changed_of (noted_by c.args.pressed c.in-Some.serial) c.args.client) c.deref_mut.ensures.value)
    (c.self.invariant.0 ∙ sym c.self.invariant.1) (rw (← c.self.view_is) at some) (sym c.in-Some.is ∙ is))

pub returns-clause-same : goal.returns-clause-same
returns-clause-same g c = λ none.
    let own = rw (← c.self.view_is) at none in
    let some = ap has_any (sym (rw (← c.deref.ensures.value) c.seat_of.ensures)) ∙ full-some c.seat_of.result.now c.is_empty.result c.is_empty.ensures c.if-is_empty.false in
    absurd (true≢false (sym some ∙ own))

pub returns-clause-others : goal.returns-clause-others
returns-clause-others g c = λ k apart.
    let back = written c.self.inside.latest c.note.new.latest c.deref_mut.result.now c.note.auto.latest c.deref_mut.ensures.value in
    rw (← c.self.view_is) (ap (λ (l : List Latest). latest_of l k)
    (back ∙ c.note.ensures ∙ ap (changed_of (noted_by c.args.pressed c.in-Some.serial) c.args.client) c.deref_mut.ensures.value)
    ∙ changed-other (noted_by c.args.pressed c.in-Some.serial) c.args.client k c.self.inside.latest.items apart)

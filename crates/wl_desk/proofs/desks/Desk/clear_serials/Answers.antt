use Rattle.std.proofs.Common.{List, ap, ◌∙◌}
use Rattle.wl_clients.specs.declared.grabs.Latest.{Latest}
use Rattle.wl_desk.specs.Serials.{changed_of}
use Rattle.wl_desk.specs.View.{latest_of, no_latest}
use Rattle.wl_desk.proofs.Noting.{changed-other, forgotten}
use Rattle.wl_desk.proofs.Taking.{written}
use Rattle.wl_desk.proofs.desks.Desk.clear_serials.Goals as goal

pub returns-clause-none : goal.returns-clause-none
returns-clause-none g c =
    let back = written c.self.inside.latest c.forget.new.latest c.deref_mut.result.now c.forget.auto.latest c.deref_mut.ensures.value in
    ap (λ (l : List Latest). latest_of l c.args.client) (back ∙ c.forget.ensures) ∙ forgotten c.args.client c.deref_mut.result.now

pub returns-clause-others : goal.returns-clause-others
returns-clause-others g c = λ k apart.
    let back = written c.self.inside.latest c.forget.new.latest c.deref_mut.result.now c.forget.auto.latest c.deref_mut.ensures.value in
    rw (← c.self.view_is) (ap (λ (l : List Latest). latest_of l k) (back ∙ c.forget.ensures ∙ ap (changed_of (λ l. no_latest) c.args.client) c.deref_mut.ensures.value)
    ∙ changed-other (λ l. no_latest) c.args.client k c.self.inside.latest.items apart)

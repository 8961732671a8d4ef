use Rattle.std.proofs.Common.{ap, sym, ◌∙◌}
use Rattle.wl_paint.specs.Damage.{Damaged, has}
use Rattle.wl_clients.specs.View.{MarkedDesk}
use Rattle.wl_clients.proofs.clients.Clients.take_damage.Goals as goal

pub returns-clause-none : goal.returns-clause-none
returns-clause-none g c = λ x y. ap (λ d. has d x y) c.swap.ensures.y_after ∙ c.clear.ensures.empty x y

pub returns-clause-taken : goal.returns-clause-taken
returns-clause-taken g c = c.swap.ensures.x_after ∙ ap (λ (m : MarkedDesk). m.damage) c.self.view_is

pub returns-clause-sides : goal.returns-clause-sides
returns-clause-sides g c = record {
  width = ap (λ (d : Damaged). d.width) c.swap.ensures.y_after ∙ (c.clear.ensures.width ∙ (c.requires.wide
      ∙ (sym (ap (λ (m : MarkedDesk). m.desk.output.width) c.self.view_is) ∙ (sym c.self.invariant.1.0 ∙ ap (λ (m : MarkedDesk). m.damage.width) c.self.view_is))));
  height = ap (λ (d : Damaged). d.height) c.swap.ensures.y_after ∙ (c.clear.ensures.height ∙ (c.requires.high
      ∙ (sym (ap (λ (m : MarkedDesk). m.desk.output.height) c.self.view_is) ∙ (sym c.self.invariant.1.1 ∙ ap (λ (m : MarkedDesk). m.damage.height) c.self.view_is))));
}

pub returns-clause-desk : goal.returns-clause-desk
returns-clause-desk g c = ap (λ (m : MarkedDesk). m.desk) c.self.view_is

pub returns-clause-width : goal.returns-clause-width
returns-clause-width g c =
    ap (λ (d : Damaged). d.width) c.swap.ensures.x_after ∙ (c.self.invariant.1.0 ∙ ap (λ (m : MarkedDesk). m.desk.output.width) c.self.view_is)

pub returns-clause-height : goal.returns-clause-height
returns-clause-height g c =
    ap (λ (d : Damaged). d.height) c.swap.ensures.x_after ∙ (c.self.invariant.1.1 ∙ ap (λ (m : MarkedDesk). m.desk.output.height) c.self.view_is)

pub invariant_of-self : goal.invariant_of-self
invariant_of-self g c = (
  c.self.invariant.0,
  (
    ap (λ (d : Damaged). d.width) c.swap.ensures.y_after
        ∙ (c.clear.ensures.width ∙ (c.requires.wide ∙ sym (ap (λ (m : MarkedDesk). m.desk.output.width) c.self.view_is))),
    ap (λ (d : Damaged). d.height) c.swap.ensures.y_after
        ∙ (c.clear.ensures.height ∙ (c.requires.high ∙ sym (ap (λ (m : MarkedDesk). m.desk.output.height) c.self.view_is))),
  ),
)

use Rattle.std.proofs.Common.{◌≡◌, ℕ, map, refl}
use Rattle.spec_desktop.specs.declared.answers.Done.TheVariants as gave
use Rattle.spec_desktop.specs.Act.{Connect, Close}
use Rattle.wl_desk.proofs.Calls.{marks-nothing, quiet-step}
use Rattle.wl_desk.proofs.desks.Desk.close.Goals as goal

differs : (client : ℕ) → Close client ≡ Connect → ⊥
differs client e = absurd (cc)

pub returns-clause-leads : goal.returns-clause-leads
returns-clause-leads g c =
    rw (← c.self.view_is) (quiet-step (Close c.args.client) (gave.Close c.close.result) c.self.inside.clients c.close.new.self (map (λ s. s.items) c.self.inside.seats.items)
    c.self.inside.latest.items c.self.inside.pointer refl (differs c.args.client) c.close.ensures.leads)

pub returns-clause-nothing : goal.returns-clause-nothing
returns-clause-nothing g c =
    let seats = map (λ s. s.items) c.self.inside.seats.items in
    let latest = c.self.inside.latest.items in
    rw (← c.self.view_is) (marks-nothing c.self.inside.clients c.close.new.self seats seats latest latest c.self.inside.pointer c.self.inside.pointer c.close.ensures.nothing)

pub returns-clause-sides : goal.returns-clause-sides
returns-clause-sides g c = rw (← c.self.view_is) c.close.ensures.sides

pub returns-clause-output : goal.returns-clause-output
returns-clause-output g c = rw (← c.self.view_is) c.close.ensures.output

use Rattle.std.proofs.Common.{◌≡◌, ℕ, List, map, refl}
use Rattle.spec_desktop.specs.declared.answers.Done.TheVariants as gave
use Rattle.spec_desktop.specs.Act.{Connect, Store}
use Rattle.wl_desk.proofs.Calls.{marks-nothing, quiet-step}
use Rattle.wl_desk.proofs.desks.Desk.store.Goals as goal

differs : (client store at : ℕ) (bytes : List ℕ) → Store client store at bytes ≡ Connect → ⊥
differs client store at bytes e = absurd (cc)

pub returns-clause-leads : goal.returns-clause-leads
returns-clause-leads g c =
    rw (← c.self.view_is) (quiet-step (Store c.args.client c.args.store c.args.at c.args.bytes.now) (gave.Store c.store.result) c.self.inside.clients c.store.new.self
    (map (λ s. s.items) c.self.inside.seats.items) c.self.inside.latest.items c.self.inside.pointer refl (differs c.args.client c.args.store c.args.at c.args.bytes.now) c.store.ensures.leads)

pub returns-clause-nothing : goal.returns-clause-nothing
returns-clause-nothing g c =
    let seats = map (λ s. s.items) c.self.inside.seats.items in
    let latest = c.self.inside.latest.items in
    rw (← c.self.view_is) (marks-nothing c.self.inside.clients c.store.new.self seats seats latest latest c.self.inside.pointer c.self.inside.pointer c.store.ensures.nothing)

pub returns-clause-sides : goal.returns-clause-sides
returns-clause-sides g c = rw (← c.self.view_is) c.store.ensures.sides

pub returns-clause-output : goal.returns-clause-output
returns-clause-output g c = rw (← c.self.view_is) c.store.ensures.output

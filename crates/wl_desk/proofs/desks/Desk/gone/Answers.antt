use Rattle.std.proofs.Common.{◌≡◌, ℕ, Bool, true, false, refl, map, subst, sym}
use Rattle.std.proofs.lemmas.Bool.{true≢false}
use Rattle.spec_desktop.specs.declared.answers.Done.TheVariants as gave
use Rattle.spec_desktop.specs.Act.{Connect, Leave}
use Rattle.spec_desktop.specs.Happenings.{Single}
use Rattle.wl_clients.specs.Leading.{LeadsBy}
use Rattle.wl_clients.specs.View.{MarkedDesk as KeptDesk}
use Rattle.wl_desk.proofs.Calls.{goes, quiet-step}
use Rattle.wl_desk.proofs.desks.Desk.gone.Goals as goal

differs : (client : ℕ) → Leave client ≡ Connect → ⊥
differs client e = absurd (cc)

went : (client : ℕ) (lived was : Bool) (old new : KeptDesk) → lived ≡ was → LeadsBy (Single (Leave client) (gave.Gone lived)) old new → LeadsBy (Single (Leave client) (gave.Gone was)) old new
went client lived was old new is leads = subst (λ (b : Bool). LeadsBy (Single (Leave client) (gave.Gone b)) old new) is leads

pub returns-then-not-gone-clause-leads : goal.returns-then-not-gone-clause-leads
returns-then-not-gone-clause-leads g c = λ lived. absurd (true≢false (sym lived))

pub returns-then-not-gone-clause-stays : goal.returns-then-not-gone-clause-stays
returns-then-not-gone-clause-stays g c =
    rw (← c.self.view_is) (λ not. quiet-step (Leave c.args.client) (gave.Gone false) c.self.inside.clients c.gone.new.self (map (λ s. s.items) c.self.inside.seats.items) c.self.inside.latest.items
    c.self.inside.pointer refl (differs c.args.client) (went c.args.client c.gone.result false c.self.inside.clients c.gone.new.self c.if-not-gone.true c.gone.ensures.leads))

pub returns-clause-leads : goal.returns-clause-leads
returns-clause-leads g c =
    rw (← c.self.view_is) (λ lived new settles.
    goes c.args.client c.self.inside.clients c.gone.new.self (map (λ s. s.items) c.self.inside.seats.items) c.self.inside.latest.items c.self.inside.pointer c.forget.new.self new
    (went c.args.client c.gone.result true c.self.inside.clients c.gone.new.self c.if-not-gone.false c.gone.ensures.leads) c.gone.ensures.sides c.forget.ensures settles)

pub returns-clause-stays : goal.returns-clause-stays
returns-clause-stays g c = λ not. absurd (true≢false not)

pub returns-clause-sides : goal.returns-clause-sides
returns-clause-sides g c = rw (← c.self.view_is) c.gone.ensures.sides

pub returns-clause-output : goal.returns-clause-output
returns-clause-output g c = rw (← c.self.view_is) c.gone.ensures.output

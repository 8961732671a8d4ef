use Rattle.std.proofs.Common.{◌≡◌, ℕ, Some, ap, subst, sym, ◌∙◌}
use Rattle.std.specs.Prelude.{IfNone, IfSome, ◌≢◌}
use Rattle.spec_desktop.specs.Objects.{ById}
use Rattle.wl_clients.specs.Residents.{resident_at}
use Rattle.wl_clients.proofs.Numbers.{found-named, named-none, numbers-here, unfound-or}
use Rattle.wl_clients.proofs.Seats.{here-of}
use Rattle.wl_clients.proofs.clients.Clients.surface_id.Goals as goal

pub returns-in_default-clause-none : goal.returns-in_default-clause-none
returns-in_default-clause-none g c =
    rw (← c.self.view_is) (named-none c.self.inside.residents.items _ c.args.client c.args.surface c.deref.ensures.value (sym c.in_default.ensures))

pub returns-clause-some : goal.returns-clause-some
returns-clause-some g c =
    let here = here-of c.self.inside.residents.items c.args.client c.in-Some.resident.now (c.in-Some.ensures ∙ ap (λ rs. resident_at rs c.args.client) c.deref.ensures.value) in
    rw (← c.self.view_is) (subst (λ (ns : ById ℕ). IfSome c.find.result (λ id. ns id ≡ Some c.args.surface)) (sym (numbers-here c.self.inside.residents.items c.args.client here.0 _ here.1))
    (found-named _ c.args.surface c.find.result c.find.ensures))

pub returns-clause-none : goal.returns-clause-none
returns-clause-none g c =
    let here = here-of c.self.inside.residents.items c.args.client c.in-Some.resident.now (c.in-Some.ensures ∙ ap (λ rs. resident_at rs c.args.client) c.deref.ensures.value) in
    rw (← c.self.view_is) (subst (λ (ns : ById ℕ). IfNone c.find.result ((id : ℕ) → ns id ≢ Some c.args.surface))
    (sym (numbers-here c.self.inside.residents.items c.args.client here.0 _ here.1)) (unfound-or _ c.args.surface c.find.result c.find.ensures))

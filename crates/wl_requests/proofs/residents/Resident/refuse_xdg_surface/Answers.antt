use Rattle.std.proofs.Common.{◌∙◌, ap, subst, refl}
use Rattle.wl_client.specs.Agreement.{IsPeer}
use Rattle.spec_desktop.specs.Peer.{Errs, Peer}
use Rattle.spec_desktop.specs.declared.refusals.Refusal.{Refusal}
use Rattle.law_desktop.specs.Owning.{shell_refusal}
use Rattle.wl_requests.proofs.residents.Resident.refuse_xdg_surface.Goals as goal

pub returns-clause-errs : goal.returns-clause-errs
returns-clause-errs g c = λ p is.
    let object = c.args.object in
    subst (λ (f : Refusal). (q : Peer) × Errs f p q × IsPeer c.refuse.new.self q)
    (c.refusal_of-refusal.ensures ∙ ap (λ base. shell_refusal base object object c.args.error) c.base_of.ensures)
    (c.refuse.ensures.errs p is)

pub returns-clause-surfaces : goal.returns-clause-surfaces
returns-clause-surfaces g c = refl

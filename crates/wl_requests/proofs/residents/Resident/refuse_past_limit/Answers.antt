use Rattle.std.proofs.Common.{refl}
use Rattle.spec_desktop.specs.Told.{display_error}
use Rattle.spec_desktop.specs.declared.refusals.ErrorCode.TheVariants.{Implementation}
use Rattle.spec_desktop.specs.WlSurface.{refuse_limit}
use Rattle.wl_requests.proofs.Shelling.{refused-so}
use Rattle.wl_requests.proofs.Meeting.{as-asked}
use Rattle.wl_requests.proofs.residents.Resident.refuse_past_limit.Goals as goal

pub returns-clause-answers : goal.returns-clause-answers
returns-clause-answers g c = λ client r on is only.
    as-asked _ _ client on r only refuse_limit (
    refused-so _ _ r refuse_limit c.of_display.result (display_error Implementation) refl c.of_display.ensures c.refuse.ensures.ended (c.refuse.ensures.errs r.peer is.peer))

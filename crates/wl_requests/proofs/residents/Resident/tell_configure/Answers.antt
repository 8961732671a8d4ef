use Rattle.std.proofs.Common.{List, [], ◌∷◌, ap, subst, ◌∙◌}
use Rattle.spec_desktop.specs.Peer.{Queues}
use Rattle.wl_client.specs.Said.{said_of}
use Rattle.spec_desktop.specs.Told.{Said}
use Rattle.spec_desktop.specs.Step.{toplevel_configured, xdg_configured}
use Rattle.wl_requests.proofs.residents.Resident.tell_configure.Goals as goal

pub returns-clause-queues : goal.returns-clause-queues
returns-clause-queues g c = λ p is.
    let next = c.queue_all.ensures.queues p is in
    let first = toplevel_configured c.args.toplevel in
    let second = xdg_configured c.args.xdg_surface c.args.serial in
    let events = ap (λ (e : Said). e ∷ said_of c.xdg_surface_event-second.result ∷ []) {y = first} c.toplevel_event-first.ensures
    ∙ ap (λ (e : Said). first ∷ e ∷ []) {y = second} c.xdg_surface_event-second.ensures in
    (next.0, subst (λ (es : List Said). Queues es p next.0) events next.1, next.2)

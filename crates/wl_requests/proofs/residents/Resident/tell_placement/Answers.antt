use Rattle.std.proofs.Common.{List, [], ◌∷◌, ap, subst, ◌∙◌}
use Rattle.spec_desktop.specs.Peer.{Queues}
use Rattle.wl_client.specs.Said.{said_of}
use Rattle.spec_desktop.specs.Told.{Said}
use Rattle.spec_desktop.specs.Replies.{popup_configured}
use Rattle.spec_desktop.specs.Step.{xdg_configured}
use Rattle.wl_requests.proofs.residents.Resident.tell_placement.Goals as goal

pub returns-in-Some-clause-queues : goal.returns-in-Some-clause-queues
returns-in-Some-clause-queues g c = λ p is.
    let next = c.queue_all.ensures.queues p is in
    let first = popup_configured c.args.popup c.in-Some.place in
    let second = xdg_configured c.args.xdg_surface c.args.serial in
    let events = ap (λ (e : Said). e ∷ said_of c.xdg_surface_event-configure.result ∷ []) {y = first} c.popup_event-first.ensures
    ∙ ap (λ (e : Said). first ∷ e ∷ []) {y = second} c.xdg_surface_event-configure.ensures in
    rw c.in-Some.is (next.0, subst (λ (es : List Said). Queues es p next.0) events next.1, next.2)

use Rattle.std.proofs.Common.{List, [], ◌∷◌, ap, subst, ◌∙◌}
use Rattle.wl_wire.specs.Wire.{Word}
use Rattle.wl_proto.specs.declared.interface.Interface.TheVariants.{XdgPopup}
use Rattle.wl_proto.specs.Messages.{says}
use Rattle.spec_desktop.specs.Peer.{Queues}
use Rattle.spec_desktop.specs.Told.{Said, said}
use Rattle.wl_client.specs.Said.{said_of}
use Rattle.wl_shell.specs.Shell.{next_serial}
use Rattle.spec_desktop.specs.Replies.{popup_configured}
use Rattle.spec_desktop.specs.Step.{xdg_configured}
use Rattle.wl_requests.proofs.Shelling.{drawn}
use Rattle.wl_requests.proofs.residents.Resident.tell_anew.Goals as goal

pub returns-clause-told : goal.returns-clause-told
returns-clause-told g c = λ p is.
    let peer = drawn _ _ p is c.draw_serial.ensures in
    let drawn_peer = record p { serial = next_serial p.serial } in
    let next = c.queue_all.ensures.queues drawn_peer peer in
    let first = said c.args.popup (says XdgPopup 2 (Word c.args.token ∷ [])) in
    let second = popup_configured c.args.popup c.in-Some.place in
    let third = xdg_configured c.args.xdg_surface c.args.serial in
    let events = ap (λ (e : Said). e ∷ said_of c.popup_event-second.result ∷ said_of c.xdg_surface_event-third.result ∷ []) {y = first} c.repositioned_event-first.ensures
    ∙ ap (λ (e : Said). first ∷ e ∷ said_of c.xdg_surface_event-third.result ∷ []) {y = second} c.popup_event-second.ensures
    ∙ ap (λ (e : Said). first ∷ second ∷ e ∷ []) {y = third} c.xdg_surface_event-third.ensures in
    rw c.in-Some.is (next.0, subst (λ (es : List Said). Queues es drawn_peer next.0) events next.1, next.2)

use Rattle.std.proofs.Common.{◌≡◌, ℕ, [], ◌∷◌, ap, subst, ◌∙◌}
use Rattle.std.proofs.lemmas.Option.{same_Some}
use Rattle.wl_client.specs.Said.{said_of}
use Rattle.wl_proto.specs.declared.interface.Interface.TheVariants.{XdgPopup}
use Rattle.spec_desktop.specs.Peer.{QueuesTo}
use Rattle.spec_desktop.specs.Told.{Said, said}
use Rattle.wl_proto.specs.Messages.{says}
use Rattle.wl_requests.proofs.PopupsReleased.{only-told, queued-or-not, still-refused}
use Rattle.wl_requests.proofs.residents.Resident.tell_released.Goals as goal

pub returns-clause-told : goal.returns-clause-told
returns-clause-told g c = λ popup known p is.
    let same : c.in-Some.popup ≡ popup = same_Some c.in-Some.popup popup (c.in-Some.ensures ∙ known) in
    let event : said_of c.popup_done_event.result ≡ said popup (says XdgPopup 1 []) = c.popup_done_event.ensures ∙ ap (λ (id : ℕ). said id (says XdgPopup 1 [])) same in
    let told = queued-or-not c.args.self.now.client c.queue-queued.new.self (said_of c.popup_done_event.result) c.queue-queued.result
    c.queue-queued.ensures.ok c.queue-queued.ensures.err c.queue-queued.ensures.cause p is in
    (told.0, subst (λ (e : Said). QueuesTo (e ∷ []) p told.0 c.queue-queued.new.self.refused) event told.1, told.2)

pub returns-clause-refused : goal.returns-clause-refused
returns-clause-refused g c =
    still-refused c.args.self.now.client c.queue-queued.new.self (said_of c.popup_done_event.result) c.queue-queued.result
    c.queue-queued.ensures.ok c.queue-queued.ensures.err c.queue-queued.ensures.cause

pub returns-clause-client : goal.returns-clause-client
returns-clause-client g c =
    only-told c.args.self.now.client c.queue-queued.new.self (said_of c.popup_done_event.result) c.queue-queued.result c.queue-queued.ensures.ok c.queue-queued.ensures.err

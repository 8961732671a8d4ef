use Rattle.std.proofs.Common.{ap, option_copied, sym, ◌∙◌}
use Rattle.wl_server.proofs.NotedActs.{noted-put, noted-unput}
use Rattle.wl_server.proofs.noting.note_put.Goals as goal

pub returns-in-Some : goal.returns-in-Some
returns-in-Some g c = λ done d agrees.
    noted-put g.R.Write.contents d c.args.place.now c.args.bytes.now c.in-Some.held.now done c.args.recording.now c.store.new.self
    (sym (ap (λ o. option_copied o) c.in-Some.is) ∙ c.held_at.ensures.held d agrees) c.store.ensures.asked c.store.ensures.clients

pub returns-in_default : goal.returns-in_default
returns-in_default g c = λ done d agrees.
    noted-unput g.R.Write.contents d c.args.place.now c.args.bytes.now done c.args.recording.now
    (sym (ap (λ o. option_copied o) c.in_default.is) ∙ c.held_at.ensures.held d agrees)

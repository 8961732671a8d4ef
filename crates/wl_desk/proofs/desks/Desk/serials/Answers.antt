use Rattle.std.proofs.Common.{List, ap, subst, sym, ◌∙◌}
use Rattle.spec_desktop.specs.Desktop.{client_at, unpointed}
use Rattle.wl_clients.specs.Pointing.{IsLatest}
use Rattle.wl_clients.specs.declared.grabs.Latest.{Latest}
use Rattle.wl_desk.specs.View.{latest_of}
use Rattle.wl_desk.proofs.Noting.{latest-alive, latest-none}
use Rattle.wl_desk.proofs.Telling.{seen}
use Rattle.wl_desk.proofs.desks.Desk.serials.Goals as goal

pub returns-in_default : goal.returns-in_default
returns-in_default g c = λ d a.
    let it = rw (← c.self.view_is) at a in
    subst (λ (l : Latest). IsLatest l (client_at c.args.client d)) (sym c.none.ensures)
    (latest-none (seen c.self.inside.clients.desk _ _ c.self.inside.pointer) d it c.args.client c.status.result (c.status.ensures (unpointed d) it.kept) c.in_default.not-Alive)

pub returns : goal.returns
returns g c = λ d a.
    let it = rw (← c.self.view_is) at a in
    subst (λ (l : Latest). IsLatest l (client_at c.args.client d)) (sym (c.latest_of.ensures ∙ ap (λ (latest : List Latest). latest_of latest c.args.client) c.deref.ensures.value))
    (latest-alive (seen c.self.inside.clients.desk _ _ c.self.inside.pointer) d it c.args.client c.status.result (c.status.ensures (unpointed d) it.kept) c.in-Alive.is)

use Rattle.std.proofs.Common.{ap, ◌∙◌}
use Rattle.spec_desktop.specs.Used.{has_used}
use Rattle.wl_client.specs.View.{ClientView}
use Rattle.spec_desktop.specs.Objects.{held_at}
use Rattle.wl_client.proofs.Taking.{used-same}
use Rattle.wl_client.proofs.clients.Client.is_buffer_used.Goals as goal

pub returns-in-Some : goal.returns-in-Some
returns-in-Some g c = λ used are.
    used-same c.args.surfaces.now used _ _ are c.is_used.ensures
    ∙ ap used c.number.ensures
    ∙ ap (λ b. has_used used b) c.in-Some.ensures.value
    ∙ ap (λ (v : ClientView). has_used used (held_at v.buffers c.args.id)) c.self.view_is

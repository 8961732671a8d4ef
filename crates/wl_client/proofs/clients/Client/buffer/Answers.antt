use Rattle.std.proofs.Common.{ap, ◌∙◌}
use Rattle.wl_client.specs.View.{ClientView}
use Rattle.spec_desktop.specs.Objects.{held_at}
use Rattle.wl_client.proofs.clients.Client.buffer.Goals as goal

pub returns : goal.returns
returns g c = c.get.ensures.value ∙ ap (λ (v : ClientView). held_at v.buffers c.args.id) c.self.view_is

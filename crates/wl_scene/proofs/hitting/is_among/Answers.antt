use Rattle.std.proofs.Common.{◌∙◌}
use Rattle.wl_scene.proofs.Hits.{among}
use Rattle.wl_scene.proofs.hitting.is_among.Goals as goal

pub returns : goal.returns
returns c = λ numbers ws id are once named. c.has_window.ensures ∙ among numbers c.args.client id c.args.surface once named c.args.windows.now ws are

use Rattle.std.proofs.Common.{◌∙◌, ap, length, List}
use Rattle.wl_scene.specs.declared.stacked.Stacked.{Stacked}
use Rattle.wl_scene.proofs.Hits.{as-many}
use Rattle.wl_scene.proofs.stacked_windows.StackedWindows.len.Goals as goal

pub returns-clause-windows : goal.returns-clause-windows
returns-clause-windows g c = λ numbers ws are. ap (λ (ss : List Stacked). length ss) c.windows.ensures.windows ∙ as-many numbers c.args.self.now.windows ws are

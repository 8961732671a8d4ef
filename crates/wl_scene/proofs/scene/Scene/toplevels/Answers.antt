use Rattle.std.proofs.Common.{rules}
use Rattle.wl_scene.proofs.scene.Scene.toplevels.Goals as goal

pub returns : goal.returns
returns g c = search rules

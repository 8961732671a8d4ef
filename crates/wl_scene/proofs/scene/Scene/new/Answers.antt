use Rattle.std.proofs.Common.{rules}
use Rattle.wl_scene.proofs.scene.Scene.new.Goals as goal

pub returns : goal.returns
returns g c = search rules

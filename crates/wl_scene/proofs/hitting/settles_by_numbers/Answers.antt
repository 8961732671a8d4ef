use Rattle.wl_scene.proofs.Numbered.{settles-by-numbers}
use Rattle.wl_scene.proofs.hitting.settles_by_numbers.Goals as goal

pub returns : goal.returns
returns c = settles-by-numbers

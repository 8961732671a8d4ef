use Rattle.wl_scene.proofs.Numbered.{hits-by-numbers}
use Rattle.wl_scene.proofs.hitting.hits_by_numbers.Goals as goal

pub returns : goal.returns
returns c = hits-by-numbers

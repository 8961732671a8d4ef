use Rattle.std.proofs.Common.{map}
use Rattle.wl_scene.specs.Stacked.{is_of, stacked}
use Rattle.wl_scene.proofs.StackedTogether.{place-none}
use Rattle.wl_scene.proofs.replaces_nothing.Goals as goal

pub returns : goal.returns
returns c = λ client toplevel windows all none. place-none (is_of client toplevel) (map (stacked client toplevel) windows) all none

use Rattle.std.proofs.Common.{map}
use Rattle.wl_scene.specs.Stacked.{is_of, stacked}
use Rattle.wl_scene.proofs.Places.{placed-run}
use Rattle.wl_scene.proofs.replaces_a_run.Goals as goal

pub returns : goal.returns
returns c = λ client toplevel windows below first others above none here all over.
    placed-run (is_of client toplevel) (map (stacked client toplevel) windows) below first others above none here all over

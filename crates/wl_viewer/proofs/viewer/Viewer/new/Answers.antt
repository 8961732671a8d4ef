use Rattle.std.proofs.Common.{◌<◌}
use Rattle.wl_viewer.proofs.Untold.{all-untold}
use Rattle.wl_viewer.proofs.viewer.Viewer.new.Goals as goal

-- src/viewer.rt:76:5
pub returns-clause-untold : goal.returns-clause-untold
returns-clause-untold g c = λ x y right below.
    all-untold c.args.width c.args.height c.in_ok-untold.untold c.add.new.self c.bounds.result c.in_ok-untold.ensures.width c.in_ok-untold.ensures.height c.bounds.ensures c.add.ensures.points x y right below

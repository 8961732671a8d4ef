use Rattle.wl_viewer.proofs.Appended.{update-appended}
use Rattle.wl_viewer.proofs.viewer.append_update.Goals as goal

pub returns : goal.returns
returns g c =
    update-appended c.args.frame.now c.args.time c.args.runs.now c.args.out.now.items c.append_head.new.out.items c.append_runs.new.out.items c.in_ok-append_head.ensures c.in_ok-append_runs.ensures

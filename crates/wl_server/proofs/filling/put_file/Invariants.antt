use Rattle.std.proofs.Common.{◌≤◌, ◌-◌}
use Rattle.wl_recording.specs.Side.{files_of}
use Rattle.wl_server.specs.Acting.{Takes}
use Rattle.wl_server.proofs.Pieces.{PutTo}
use Rattle.wl_server.proofs.filling.put_file.Given as goal

-- so many bytes were put
abbrev pub invariant-loop-done : goal.invariant-loop-done
invariant-loop-done g l = record {
  within : l.done ≤ l.most;
  steps : Takes g.R.Write.contents (PutTo (files_of g.S.SideFiles.opens g.S.SideFiles.gives g.S.SideFiles.fault_count) l.target.client l.target.store l.at l.done l.fn.side l.side) l.fn.recorded l.recorded;
}

abbrev pub decreases-loop-done : goal.decreases-loop-done
decreases-loop-done g l = l.most - l.done

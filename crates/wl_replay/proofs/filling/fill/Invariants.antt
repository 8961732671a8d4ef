use Rattle.std.proofs.Common.{◌≡◌, ◌≤◌, ◌-◌}
use Rattle.wl_recording.specs.Side.{files_of}
use Rattle.wl_replay.specs.Storing.{Fills}
use Rattle.wl_replay.specs.Told.{Stage, Stands}
use Rattle.wl_replay.proofs.filling.fill.Given as goal

-- the store was filled up to this byte
abbrev pub invariant-loop-at : goal.invariant-loop-at
invariant-loop-at g l = record {
  within : l.at ≤ l.size;
  filled : (d : Stage) → Stands l.fn.session d → (e : Stage)
      × Fills (files_of g.S.SideFiles.opens g.S.SideFiles.gives g.S.SideFiles.fault_count) l.place l.size d l.fn.side l.at e l.side × Stands l.session e;
  calm : g.S.SideFiles.fault_count l.side ≡ g.S.SideFiles.fault_count l.fn.side;
}

abbrev pub decreases-loop-at : goal.decreases-loop-at
decreases-loop-at g l = l.size - l.at

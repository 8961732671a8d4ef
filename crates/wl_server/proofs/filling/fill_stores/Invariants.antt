use Rattle.std.proofs.Common.{◌-◌, ◌^◌}
use Rattle.wl_recording.specs.Side.{files_of}
use Rattle.wl_server.specs.Acting.{Takes}
use Rattle.wl_server.proofs.Pieces.{FilledTo}
use Rattle.wl_server.proofs.filling.fill_stores.Given as goal

-- the live stores up to this one were filled
abbrev pub invariant-loop-store : goal.invariant-loop-store
invariant-loop-store g l =
    Takes g.R.Write.contents (FilledTo (files_of g.S.SideFiles.opens g.S.SideFiles.gives g.S.SideFiles.fault_count) l.client l.number l.last l.fn.side l.side) l.fn.recorded l.recorded

abbrev pub decreases-loop-store : goal.decreases-loop-store
decreases-loop-store g l = 2 ^ 32 - l.last

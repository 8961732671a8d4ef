use Rattle.std.proofs.Common.{◌-◌, take}
use Rattle.wl_recording.specs.Ranges.{lines_of, ranges_in, ranges_of}
use Rattle.wl_recording.specs.Side.{files_of}
use Rattle.wl_server.proofs.Listed.{PutsRest}
use Rattle.wl_server.proofs.filling.fill_ranges.Given as goal

-- the ranges of the lines so far were put
abbrev pub invariant-loop-taken : goal.invariant-loop-taken
invariant-loop-taken g l =
    PutsRest g.R.Write.contents (files_of g.S.SideFiles.opens g.S.SideFiles.gives g.S.SideFiles.fault_count) l.client l.number (ranges_of l.fn.text) (ranges_in l.before (take (4096 - l.taken) (lines_of l.text))) l.fn.side l.side l.fn.recorded l.recorded

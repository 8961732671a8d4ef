use Rattle.std.proofs.Common.{◌≤◌, ◌-◌, length}
use Rattle.wl_recording.specs.Side.{files_of}
use Rattle.wl_server.proofs.Listed.{GivenTo}
use Rattle.wl_server.proofs.filling.read_text.Given as goal

-- this text was given so far
abbrev pub invariant-loop-text : goal.invariant-loop-text
invariant-loop-text g l = record {
  within : length l.text.items ≤ 147456;
  given : GivenTo (files_of g.S.SideFiles.opens g.S.SideFiles.gives g.S.SideFiles.fault_count) l.text.items l.fn.side l.side;
}

abbrev pub decreases-loop-text : goal.decreases-loop-text
decreases-loop-text g l = 147456 - length l.text.items

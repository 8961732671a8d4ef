use Rattle.std.proofs.Common.{rules}
use Rattle.wl_recording.specs.Side.{files_of}
use Rattle.wl_server.proofs.Listed.{range-nowhere, range-put}
use Rattle.wl_server.proofs.filling.fill_range.Goals as goal

pub returns-in-Some : goal.returns-in-Some
returns-in-Some g c =
    range-put (files_of g.S.SideFiles.opens g.S.SideFiles.gives g.S.SideFiles.fault_count) c.args.client c.args.number c.args.range c.in-Some.size _ c.args.side.now c.fill_part.new.side c.args.recorded.now c.fill_part.new.recorded
    c.in-Some.ensures (search rules) c.fill_part.ensures

pub returns-in_default : goal.returns-in_default
returns-in_default g c =
    range-nowhere (files_of g.S.SideFiles.opens g.S.SideFiles.gives g.S.SideFiles.fault_count) c.args.client c.args.number c.args.range c.args.side.now c.args.recorded.now c.in_default.ensures

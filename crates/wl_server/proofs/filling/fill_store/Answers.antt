use Rattle.wl_recording.specs.Side.{files_of}
use Rattle.wl_server.proofs.Pieces.{put-nowhere, put-whole}
use Rattle.wl_server.proofs.filling.fill_store.Goals as goal

pub returns-in-Some : goal.returns-in-Some
returns-in-Some g c =
    put-whole (files_of g.S.SideFiles.opens g.S.SideFiles.gives g.S.SideFiles.fault_count) c.args.target.client c.args.target.number c.args.target.store c.in-Some.size c.args.side.now c.fill_part.new.side c.args.recorded.now c.fill_part.new.recorded
    c.in-Some.ensures c.fill_part.ensures

pub returns-in_default : goal.returns-in_default
returns-in_default g c =
    put-nowhere (files_of g.S.SideFiles.opens g.S.SideFiles.gives g.S.SideFiles.fault_count) c.args.target.client c.args.target.number c.args.target.store c.args.side.now c.args.recorded.now c.in_default.ensures

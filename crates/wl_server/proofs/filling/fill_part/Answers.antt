use Rattle.std.proofs.Common.{true, false, rules}
use Rattle.wl_recording.specs.Side.{files_of}
use Rattle.wl_server.specs.Filling.{side_name}
use Rattle.wl_server.proofs.Pieces.{opens-named, part-opened, part-unopened}
use Rattle.wl_server.proofs.filling.fill_part.Goals as goal

pub returns-then-opens : goal.returns-then-opens
returns-then-opens g c =
    let files = files_of g.S.SideFiles.opens g.S.SideFiles.gives g.S.SideFiles.fault_count in
    part-opened files c.args.target.client c.args.target.number c.args.target.store c.args.from c.args.at c.args.most c.args.side.now c.opens.new.side c.put_file.new.side c.args.recorded.now c.put_file.new.recorded
    (opens-named files _ (side_name c.args.target.number c.args.target.store) c.args.from c.opens.result true _ _ (search rules) c.if-opens.true c.opens.ensures) c.put_file.ensures

pub returns-else-opens : goal.returns-else-opens
returns-else-opens g c =
    let files = files_of g.S.SideFiles.opens g.S.SideFiles.gives g.S.SideFiles.fault_count in
    part-unopened files c.args.target.client c.args.target.number c.args.target.store c.args.from c.args.at c.args.most c.args.side.now c.opens.new.side c.args.recorded.now
    (opens-named files _ (side_name c.args.target.number c.args.target.store) c.args.from c.opens.result false _ _ (search rules) c.if-opens.false c.opens.ensures)

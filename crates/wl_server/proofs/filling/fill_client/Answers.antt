use Rattle.std.proofs.Common.{true, false, rules}
use Rattle.wl_recording.specs.Side.{files_of}
use Rattle.wl_server.specs.Ranges.{list_name}
use Rattle.wl_server.proofs.Pieces.{client-filled, opens-named}
use Rattle.wl_server.proofs.filling.fill_client.Goals as goal

pub returns-then-opens : goal.returns-then-opens
returns-then-opens g c =
    let files = files_of g.S.SideFiles.opens g.S.SideFiles.gives g.S.SideFiles.fault_count in
    client-filled files c.args.client c.args.number true c.args.side.now c.opens.new.side c.fill_listed.new.side c.args.recorded.now c.fill_listed.new.recorded
    (opens-named files _ (list_name c.args.number) 0 c.opens.result true _ _ (search rules) c.if-opens.true c.opens.ensures) c.fill_listed.ensures

pub returns-else-opens : goal.returns-else-opens
returns-else-opens g c =
    let files = files_of g.S.SideFiles.opens g.S.SideFiles.gives g.S.SideFiles.fault_count in
    client-filled files c.args.client c.args.number false c.args.side.now c.opens.new.side c.fill_stores.new.side c.args.recorded.now c.fill_stores.new.recorded
    (opens-named files _ (list_name c.args.number) 0 c.opens.result false _ _ (search rules) c.if-opens.false c.opens.ensures) c.fill_stores.ensures

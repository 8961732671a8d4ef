use Rattle.wl_recording.specs.Side.{files_of}
use Rattle.wl_server.proofs.Pieces.{fill-idle, fill-none, fill-sent}
use Rattle.wl_server.proofs.filling.fill_seat.Goals as goal

pub returns-then-seat : goal.returns-then-seat
returns-then-seat g c = fill-sent (files_of g.S.SideFiles.opens g.S.SideFiles.gives g.S.SideFiles.fault_count) c.args.client c.args.seat.now c.in-Some.seat c.args.side.now c.fill_client.new.side c.args.recorded.now c.fill_client.new.recorded c.in-Some.is c.if-seat.true c.fill_client.ensures

pub returns-else-seat : goal.returns-else-seat
returns-else-seat g c = fill-idle (files_of g.S.SideFiles.opens g.S.SideFiles.gives g.S.SideFiles.fault_count) c.args.client c.args.seat.now c.in-Some.seat c.args.side.now c.args.recorded.now c.in-Some.is c.if-seat.false

pub returns-in_default : goal.returns-in_default
returns-in_default g c = fill-none (files_of g.S.SideFiles.opens g.S.SideFiles.gives g.S.SideFiles.fault_count) c.args.client c.args.seat.now c.args.side.now c.args.recorded.now c.in_default.is

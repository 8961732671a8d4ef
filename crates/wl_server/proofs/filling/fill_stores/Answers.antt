use Rattle.wl_recording.specs.Side.{files_of}
use Rattle.wl_server.proofs.Pieces.{filled-all, filled-more, filled-none}
use Rattle.wl_server.proofs.filling.fill_stores.Goals as goal

pub loop-store-init : goal.loop-store-init
loop-store-init g c = filled-none (files_of g.S.SideFiles.opens g.S.SideFiles.gives g.S.SideFiles.fault_count) c.args.client c.args.number c.args.side.now c.args.recorded.now

pub loop-store-preserved : goal.loop-store-preserved
loop-store-preserved g c =
    filled-more (files_of g.S.SideFiles.opens g.S.SideFiles.gives g.S.SideFiles.fault_count) c.args.client c.args.number c.loop-store.last c.in-Some.store c.args.side.now c.loop-store.side c.fill_store.new.side c.args.recorded.now c.loop-store.recorded c.fill_store.new.recorded c.in-Some.ensures.next c.loop-store.invariant c.fill_store.ensures

pub returns : goal.returns
returns g c =
    filled-all (files_of g.S.SideFiles.opens g.S.SideFiles.gives g.S.SideFiles.fault_count) c.args.client c.args.number c.loop-store.last c.args.side.now c.loop-store.side c.args.recorded.now c.loop-store.recorded c.in_default.ensures.next c.loop-store.invariant

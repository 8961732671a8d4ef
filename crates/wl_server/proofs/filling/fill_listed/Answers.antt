use Rattle.wl_recording.specs.Side.{files_of}
use Rattle.wl_server.proofs.Listed.{listed}
use Rattle.wl_server.proofs.filling.fill_listed.Goals as goal

pub returns : goal.returns
returns g c =
    listed (files_of g.S.SideFiles.opens g.S.SideFiles.gives g.S.SideFiles.fault_count) c.args.client c.args.number c.read_text.new.text.items c.as_slice.result.now c.args.side.now c.read_text.new.side c.fill_ranges.new.side c.args.recorded.now c.fill_ranges.new.recorded
    c.read_text.ensures c.as_slice.ensures.value c.fill_ranges.ensures

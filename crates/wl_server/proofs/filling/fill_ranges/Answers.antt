use Rattle.std.proofs.Common.{◌-◌, ◌+◌, arith}
use Rattle.wl_recording.specs.Ranges.{lines_of, ranges_of}
use Rattle.wl_recording.specs.Side.{files_of}
use Rattle.wl_server.proofs.Listed.{rest-all, rest-end, rest-next, rest-over}
use Rattle.wl_server.proofs.filling.fill_ranges.Goals as goal

pub loop-taken-init : goal.loop-taken-init
loop-taken-init g c = rest-all (files_of g.S.SideFiles.opens g.S.SideFiles.gives g.S.SideFiles.fault_count) c.args.client c.args.number (ranges_of c.args.text.now) c.args.side.now c.args.recorded.now

pub loop-taken-preserved : goal.loop-taken-preserved
loop-taken-preserved g c =
    rest-next (files_of g.S.SideFiles.opens g.S.SideFiles.gives g.S.SideFiles.fault_count) c.args.client c.args.number (4096 - c.loop-taken.taken) (4096 - (c.loop-taken.taken + 1)) (ranges_of c.args.text.now) c.loop-taken.before c.in-Some.range (lines_of c.loop-taken.text.now) _
    c.args.side.now c.loop-taken.side c.fill_range.new.side c.args.recorded.now c.loop-taken.recorded c.fill_range.new.recorded (omega arith) c.in-Some.ensures.range c.in-Some.ensures.rest
    c.loop-taken.invariant c.fill_range.ensures

pub returns-in_default : goal.returns-in_default
returns-in_default g c =
    rest-end (files_of g.S.SideFiles.opens g.S.SideFiles.gives g.S.SideFiles.fault_count) c.args.client c.args.number (4096 - c.loop-taken.taken) (ranges_of c.args.text.now) c.loop-taken.before (lines_of c.loop-taken.text.now)
    c.args.side.now c.loop-taken.side c.args.recorded.now c.loop-taken.recorded c.in_default.ensures.range c.loop-taken.invariant

pub returns : goal.returns
returns g c =
    rest-over (files_of g.S.SideFiles.opens g.S.SideFiles.gives g.S.SideFiles.fault_count) c.args.client c.args.number (4096 - c.loop-taken.taken) (ranges_of c.args.text.now) c.loop-taken.before (lines_of c.loop-taken.text.now)
    c.args.side.now c.loop-taken.side c.args.recorded.now c.loop-taken.recorded (omega arith) c.loop-taken.invariant

use Rattle.std.proofs.Common.{◌≡◌, ◌+◌, ◌<◌, ◌≤◌, arith}
use Rattle.std.proofs.lemmas.List.{length-take}
use Rattle.wl_recording.specs.Side.{files_of}
use Rattle.wl_server.specs.Filling.{PutsOnce}
use Rattle.wl_server.proofs.Pieces.{put-all, put-last, put-more, put-none}
use Rattle.wl_server.proofs.Taking.{Takes-is}
use Rattle.wl_server.proofs.filling.put_file.Goals as goal

pub loop-done-init : goal.loop-done-init
loop-done-init g c = record {
  within = omega arith;
  steps = put-none (files_of g.S.SideFiles.opens g.S.SideFiles.gives g.S.SideFiles.fault_count) c.args.target.client c.args.target.store c.args.at c.args.side.now c.args.recorded.now;
}

pub loop-done-preserved : goal.loop-done-preserved
loop-done-preserved g c =
    let done = c.loop-done.done in
    let count = c.put_piece-count.result in
    let few : count ≤ c.min-room.result = omega (arith, c.put_piece-count.ensures.within, length-take c.min-room.result c.loop-done.buf) in
    let some : 0 < count = omega (arith, c.if-count-eq0.false) in
    record {
      within = omega (arith, few);
      steps = put-more (files_of g.S.SideFiles.opens g.S.SideFiles.gives g.S.SideFiles.fault_count) c.args.target.client c.args.target.store c.args.at done count c.args.side.now c.loop-done.side c.put_piece-count.new.side c.args.recorded.now c.loop-done.recorded c.put_piece-count.new.recorded some c.loop-done.invariant.steps c.put_piece-count.ensures.put;
    }

pub returns-then-count-eq0 : goal.returns-then-count-eq0
returns-then-count-eq0 g c =
    let files = files_of g.S.SideFiles.opens g.S.SideFiles.gives g.S.SideFiles.fault_count in
    put-last files c.args.target.client c.args.target.store c.args.at c.args.most c.loop-done.done c.args.side.now c.loop-done.side c.put_piece-count.new.side c.args.recorded.now c.loop-done.recorded c.put_piece-count.new.recorded c.loop-done-test.true c.loop-done.invariant.steps
    (Takes-is (λ count. PutsOnce files c.args.target.client c.args.target.store (c.args.at + c.loop-done.done) count c.loop-done.side c.put_piece-count.new.side) c.put_piece-count.result 0 c.loop-done.recorded c.put_piece-count.new.recorded c.if-count-eq0.true c.put_piece-count.ensures.put)

pub returns : goal.returns
returns g c =
    let full : c.loop-done.done ≡ c.args.most = omega (arith, c.loop-done.invariant.within) in
    put-all (files_of g.S.SideFiles.opens g.S.SideFiles.gives g.S.SideFiles.fault_count) c.args.target.client c.args.target.store c.args.at c.args.most c.loop-done.done c.args.side.now c.loop-done.side c.args.recorded.now c.loop-done.recorded full c.loop-done.invariant.steps

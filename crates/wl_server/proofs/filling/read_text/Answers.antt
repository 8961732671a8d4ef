use Rattle.std.proofs.Common.{◌≡◌, ◌<◌, ◌≤◌, length, ap, arith}
use Rattle.std.proofs.lemmas.List.{length-take}
use Rattle.wl_recording.specs.Side.{files_of}
use Rattle.wl_server.proofs.Listed.{given-ended, given-full, given-none, given-read}
use Rattle.wl_server.proofs.filling.read_text.Goals as goal

pub loop-text-init : goal.loop-text-init
loop-text-init g c =
    let none : length c.args.text.now.items ≡ 0 = ap length c.requires.text in
    record {
      within = omega (arith, none);
      given = given-none (files_of g.S.SideFiles.opens g.S.SideFiles.gives g.S.SideFiles.fault_count) c.args.text.now.items c.args.side.now c.requires.text;
    }

pub loop-text-preserved : goal.loop-text-preserved
loop-text-preserved g c =
    let got = c.read_piece-count.ensures.gave in
    let count = c.read_piece-count.result in
    let few : count ≤ c.min-room.result = omega (arith, c.read_piece-count.ensures.within, length-take c.min-room.result c.loop-text.buf) in
    let some : 0 < count = omega (arith, c.if-count-eq0.false) in
    record {
      within = omega (arith, few, c.read_piece-count.ensures.len);
      given = given-read (files_of g.S.SideFiles.opens g.S.SideFiles.gives g.S.SideFiles.fault_count) c.loop-text.text.items got.0 c.read_piece-count.new.text.items count c.args.side.now c.loop-text.side c.read_piece-count.new.side
          c.loop-text.invariant.given got.3 got.2 some got.1;
    }

pub returns-then-count-eq0 : goal.returns-then-count-eq0
returns-then-count-eq0 g c =
    let got = c.read_piece-count.ensures.gave in
    let few : length c.loop-text.text.items < 147456 = omega (arith, c.loop-text-test.true) in
    given-ended (files_of g.S.SideFiles.opens g.S.SideFiles.gives g.S.SideFiles.fault_count) c.loop-text.text.items got.0 c.read_piece-count.new.text.items c.read_piece-count.result c.args.side.now c.loop-text.side c.read_piece-count.new.side
    few c.loop-text.invariant.given got.3 got.2 c.if-count-eq0.true got.1

pub returns : goal.returns
returns g c =
    let full : length c.loop-text.text.items ≡ 147456 = omega (arith, c.loop-text.invariant.within) in
    given-full (files_of g.S.SideFiles.opens g.S.SideFiles.gives g.S.SideFiles.fault_count) c.loop-text.text.items c.args.side.now c.loop-text.side full c.loop-text.invariant.given

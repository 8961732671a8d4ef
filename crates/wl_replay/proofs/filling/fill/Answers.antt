use Rattle.std.proofs.Common.{◌≡◌, ◌≤◌, length, take, refl, inl, arith, ◌∙◌}
use Rattle.std.proofs.lemmas.List.{length-take}
use Rattle.wl_replay.specs.Storing.{none}
use Rattle.wl_replay.proofs.Filled.{Fills-more, FillsAll-end}
use Rattle.wl_replay.proofs.filling.fill.Goals as goal

pub loop-at-init : goal.loop-at-init
loop-at-init g c =
    record { within = c.requires; filled = λ d agrees. (d, none, agrees); calm = refl }

pub loop-at-preserved : goal.loop-at-preserved
loop-at-preserved g c =
    let m = c.loop-at.invariant in
    let put = c.in_ok-count.ensures in
    let asked : c.in_ok-count.count ≤ length (take c.min-room.result c.loop-at.buf) = put.within in
    let few : c.in_ok-count.count ≤ c.min-room.result = omega (arith, asked, length-take c.min-room.result c.loop-at.buf) in
    record {
      within = omega (arith, few);
      filled = λ d agrees.
          let f = m.filled d agrees in
          Fills-more _ c.args.place c.args.size d c.args.side.now c.loop-at.at c.in_ok-count.count f.0 c.loop-at.side c.write_piece.new.side put.wrote.0 _ _ f.1 f.2 put.wrote.1
          c.if-count-eq0.false (omega (arith, few)) (omega (arith, few)) put.wrote.2 put.wrote.3;
      calm = put.faults ∙ m.calm;
    }

pub returns-then-count-eq0-clause-filled : goal.returns-then-count-eq0-clause-filled
returns-then-count-eq0-clause-filled g c = λ d agrees.
    let f = c.loop-at.invariant.filled d agrees in
    let put = c.in_ok-count.ensures in
    FillsAll-end _ c.args.place c.args.size d c.args.side.now c.loop-at.at c.in_ok-count.count f.0 c.loop-at.side c.write_piece.new.side put.wrote.0 _ _ f.1 f.2 put.wrote.1
    c.if-count-eq0.true c.loop-at-test.true put.wrote.2 put.wrote.3

pub returns-clause-filled : goal.returns-clause-filled
returns-clause-filled g c = λ d agrees.
    let f = c.loop-at.invariant.filled d agrees in
    let full : c.loop-at.at ≡ c.args.size = omega (arith, c.loop-at.invariant.within) in
    (f.0, (c.loop-at.at, c.loop-at.side, f.1, inl (full, refl)), f.2)

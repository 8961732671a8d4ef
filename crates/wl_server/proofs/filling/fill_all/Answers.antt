use Rattle.std.proofs.Common.{◌≡◌, None, length, refl, arith}
use Rattle.std.proofs.lemmas.List.{get_or_read_under}
use Rattle.wl_recording.specs.Side.{files_of}
use Rattle.wl_server.specs.Acting.{InTurn}
use Rattle.wl_server.specs.Phases.{Fills}
use Rattle.wl_server.proofs.Pieces.{fill-next}
use Rattle.wl_server.proofs.Taking.{Takes-is, Takes-zero}
use Rattle.wl_server.proofs.filling.fill_all.Goals as goal

pub loop-k-init : goal.loop-k-init
loop-k-init g c = Takes-zero (Fills (files_of g.S.SideFiles.opens g.S.SideFiles.gives g.S.SideFiles.fault_count) c.args.seats.now) c.args.side.now c.args.recorded.now

pub loop-k-preserved : goal.loop-k-preserved
loop-k-preserved g c =
    fill-next (files_of g.S.SideFiles.opens g.S.SideFiles.gives g.S.SideFiles.fault_count) c.args.seats.now c.loop-k.k c.args.side.now c.loop-k.side c.fill_seat.new.side c.index-seats-k.result c.args.recorded.now c.loop-k.recorded c.fill_seat.new.recorded
    (get_or_read_under c.args.seats.now c.loop-k.k (length c.args.seats.now) c.index-seats-k.result None c.index-seats-k.is c.loop-k-test.true refl)
    c.loop-k.invariant c.fill_seat.ensures

pub returns : goal.returns
returns g c =
    let all : c.loop-k.k ≡ 32 = omega (arith, c.requires) in
    Takes-is (λ n. InTurn (Fills (files_of g.S.SideFiles.opens g.S.SideFiles.gives g.S.SideFiles.fault_count) c.args.seats.now) n c.args.side.now c.loop-k.side) c.loop-k.k 32 c.args.recorded.now c.loop-k.recorded all c.loop-k.invariant

use Rattle.std.proofs.Common.{◌≡◌, ◌<◌, ◌≤◌, inl, length, rules, take, arith}
use Rattle.std.proofs.lemmas.List.{length-take-le}
use Rattle.wl_recording.specs.Side.{files_of}
use Rattle.wl_server.proofs.Pieces.{put-end, put-one}
use Rattle.wl_server.proofs.filling.put_piece.Goals as goal

pub returns-in-Ok-clause-put : goal.returns-in-Ok-clause-put
returns-in-Ok-clause-put g c =
    let count = c.in-Ok.count in
    let piece = take count c.read.new.buf in
    let long : length piece ≡ count = length-take-le count c.read.new.buf c.in-Ok.ensures.within in
    let some : 0 < length piece = omega (arith, long) in
    let few : length piece ≤ 4096 = omega (arith, long, c.in-Ok.ensures.within, c.requires) in
    put-one (files_of g.S.SideFiles.opens g.S.SideFiles.gives g.S.SideFiles.fault_count) c.args.target.client c.args.target.store c.args.at count piece _ c.args.side.now c.read.new.self
    c.args.recorded.now c.store.new.self long (some, few) c.in-Ok.ensures.bytes (c.store.ensures.course, c.store.ensures.noted)

pub returns-in-Ok-eq0-clause-put : goal.returns-in-Ok-eq0-clause-put
returns-in-Ok-eq0-clause-put g c =
    put-end (files_of g.S.SideFiles.opens g.S.SideFiles.gives g.S.SideFiles.fault_count) c.args.target.client c.args.target.store c.args.at c.args.side.now c.read.new.self c.args.recorded.now
    (inl (search rules))

pub returns-in-Ok-eq0-2-clause-put : goal.returns-in-Ok-eq0-2-clause-put
returns-in-Ok-eq0-2-clause-put g c =
    put-end (files_of g.S.SideFiles.opens g.S.SideFiles.gives g.S.SideFiles.fault_count) c.args.target.client c.args.target.store c.args.at c.args.side.now c.read.new.self c.args.recorded.now
    (search rules)

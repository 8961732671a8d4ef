use Rattle.std.proofs.Common.{◌≡◌, ◌<◌, ◌≤◌, [], length, rules, take, refl, sym, inl, inr, arith, append-nil}
use Rattle.std.proofs.lemmas.List.{length-take-le}
use Rattle.wl_server.proofs.filling.read_piece.Goals as goal

pub returns-in-Ok-try_extend_from_slice-clause-gave : goal.returns-in-Ok-try_extend_from_slice-clause-gave
returns-in-Ok-try_extend_from_slice-clause-gave g c =
    let count = c.in-Ok.count in
    let piece = take count c.read.new.buf in
    let long : length piece ≡ count = length-take-le count c.read.new.buf c.in-Ok.ensures.within in
    let some : 0 < length piece = omega (arith, long) in
    let few : length piece ≤ 4096 = omega (arith, long, c.in-Ok.ensures.within, c.requires.buf) in
    (piece, (search rules), long, inr ((some, few), c.in-Ok.ensures.bytes))

pub returns-in-Ok-eq0-clause-gave : goal.returns-in-Ok-eq0-clause-gave
returns-in-Ok-eq0-clause-gave g c = ([], sym (append-nil _), refl, inl (refl, inl (search rules)))

pub returns-in-Ok-eq0-2-clause-gave : goal.returns-in-Ok-eq0-2-clause-gave
returns-in-Ok-eq0-2-clause-gave g c = ([], sym (append-nil _), refl, inl (refl, (search rules)))

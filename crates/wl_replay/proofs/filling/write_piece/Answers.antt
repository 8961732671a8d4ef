use Rattle.std.proofs.Common.{◌≡◌, ◌<◌, length, take, refl, arith}
use Rattle.std.proofs.lemmas.List.{length-take-le}
use Rattle.wl_replay.proofs.Filled.{Puts-none, Puts-some}
use Rattle.wl_replay.proofs.filling.write_piece.Goals as goal
use Rattle.wl_replay.proofs.filling.write_piece.Goals.{then-count-gt0, else-count-gt0}

pub returns-clause-wrote : goal.returns-clause-wrote
returns-clause-wrote g c =
    let count = c.in_ok-count.count in
    let bytes = take count c.read.new.buf in
    let long : length bytes ≡ count = length-take-le count c.read.new.buf c.in_ok-count.ensures.within in
    elim c.if-count-gt0.branch [
      | then-count-gt0 w ↦
          (let some : 0 < length bytes = omega (arith, long, w.if-count-gt0) in
          (bytes, long, c.in_ok-count.ensures.bytes, rw w.session-is (Puts-some c.args.place bytes _ _ _ some w.store.ensures.course)))
      | else-count-gt0 w ↦
          (let none : length bytes ≡ 0 = omega (arith, long, w.if-count-gt0) in
          (bytes, long, c.in_ok-count.ensures.bytes, rw w.session-is (Puts-none c.args.place bytes _ _ none refl)))
    ]

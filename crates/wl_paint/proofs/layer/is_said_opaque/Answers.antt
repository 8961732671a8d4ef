use Rattle.std.proofs.Common.{◌≡◌, pos, w32, to_z, of_z, arith}
use Rattle.std.proofs.lemmas.Int.{ints}
use Rattle.wl_paint.proofs.layer.is_said_opaque.Goals as goal

pub returns-then-changes-le-ASKED_CHANGES : goal.returns-then-changes-le-ASKED_CHANGES
returns-then-changes-le-ASKED_CHANGES g c t =
    let i : to_z w32 (of_z w32 (pos c.args.i)) ≡ pos c.args.i = omega (arith, ints) in
    let j : to_z w32 (of_z w32 (pos c.args.j)) ≡ pos c.args.j = omega (arith, ints) in
    (simp (i, j) at c.covers_run.ensures.made).0 t

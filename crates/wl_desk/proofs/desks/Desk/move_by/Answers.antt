use Rattle.std.proofs.Common.{◌≡◌, arith, of_z, refl, sym, to_z, w64}
use Rattle.std.proofs.lemmas.Int.{ints}
use Rattle.wl_scene.specs.Focus.{target_of}
use Rattle.wl_desk.specs.Midway.{unpointed_mid}
use Rattle.wl_desk.proofs.Restacking.{moved-change, moved-telling}
use Rattle.wl_desk.proofs.Telling.{seen}
use Rattle.wl_desk.proofs.desks.Desk.move_by.Goals as goal

pub returns-clause-moves : goal.returns-clause-moves
returns-clause-moves g c = λ m telling known.
    let it = rw (← c.self.view_is) at telling in
    let across : to_z w64 (of_z w64 c.args.x) ≡ c.args.x = omega (arith, ints) in
    let down : to_z w64 (of_z w64 c.args.y) ≡ c.args.y = omega (arith, ints) in
    moved-telling (target_of c.args.toplevel) c.args.x c.args.y _ _ across down (seen c.self.inside.clients.desk _ _ c.self.inside.pointer)
    (seen c.move_toplevel.new.self.desk _ _ c.self.inside.pointer) m refl refl refl it
    (c.move_toplevel.ensures.moves (unpointed_mid m) c.args.toplevel.surface it.kept (sym c.in-Some.ensures))

pub returns-clause-marks : goal.returns-clause-marks
returns-clause-marks g c = λ m telling known.
    let it = rw (← c.self.view_is) at telling in
    let across : to_z w64 (of_z w64 c.args.x) ≡ c.args.x = omega (arith, ints) in
    let down : to_z w64 (of_z w64 c.args.y) ≡ c.args.y = omega (arith, ints) in
    rw (← c.self.view_is) (moved-change (target_of c.args.toplevel) c.args.x c.args.y _ _ across down m.desktop c.self.inside.clients.damage c.move_toplevel.new.self.damage (
      c.move_toplevel.ensures.marks (unpointed_mid m) c.args.toplevel.surface it.kept (sym c.in-Some.ensures),
      c.move_toplevel.ensures.most (unpointed_mid m) c.args.toplevel.surface it.kept (sym c.in-Some.ensures),
    ))

use Rattle.std.proofs.Common.{None, refl, sym}
use Rattle.wl_desk.specs.Midway.{unpointed_mid}
use Rattle.wl_desk.proofs.Restacking.{change-none, telling-apart, telling-stack}
use Rattle.wl_desk.proofs.Telling.{seen}
use Rattle.wl_desk.proofs.desks.Desk.raise.Goals as goal

pub returns-in_default-clause-marks : goal.returns-in_default-clause-marks
returns-in_default-clause-marks g c =
    rw c.in_default.is (λ m telling known. change-none None m.desktop c.args.self.now.damage (telling-apart c.args.self.now.desk m telling))

pub returns-clause-raises : goal.returns-clause-raises
returns-clause-raises g c = rw c.in-Some.is (λ m telling known.
    let it = rw (← c.self.view_is) at telling in
    telling-stack (seen c.self.inside.clients.desk _ _ c.self.inside.pointer) (seen c.raise.new.self.desk _ _ c.self.inside.pointer) _ m refl refl refl it
    (c.raise.ensures.raises (unpointed_mid m) c.in-Some.toplevel.surface it.kept (sym c.in-Some-surface_number.ensures)))

pub returns-clause-marks : goal.returns-clause-marks
returns-clause-marks g c = rw c.in-Some.is (λ m telling known.
    let it = rw (← c.self.view_is) at telling in
    rw (← c.self.view_is) (
      c.raise.ensures.marks (unpointed_mid m) c.in-Some.toplevel.surface it.kept (sym c.in-Some-surface_number.ensures),
      c.raise.ensures.most (unpointed_mid m) c.in-Some.toplevel.surface it.kept (sym c.in-Some-surface_number.ensures),
    ))

use Rattle.std.proofs.Common.{◌≡◌, suc, arith}
use Rattle.wl_surface.proofs.Windows.{mapped-hidden, mapped-placed, mapped-root, mapped-unplaced}
use Rattle.wl_surface.proofs.surfaces.Surfaces.is_mapped_at.Goals as goal

pub returns-then-not-is_shown : goal.returns-then-not-is_shown
returns-then-not-is_shown g c = λ all stand kept placed.
    mapped-hidden _ _ all stand 17 c.args.surface c.is_shown.result (c.is_shown.ensures _ stand.surfaces) c.if-not-is_shown.true

pub returns-in_default : goal.returns-in_default
returns-in_default g c = λ all stand kept placed.
    mapped-root _ _ all stand 17 c.args.surface 16 c.is_shown.result c.args.link (omega arith) (c.is_shown.ensures _ stand.surfaces) c.if-not-is_shown.false kept c.in_default.is

pub returns-in_default-place : goal.returns-in_default-place
returns-in_default-place g c = λ all stand kept placed.
    mapped-unplaced _ _ all stand 17 c.args.surface 16 c.is_shown.result c.args.link c.in-Some.link c.args.place (omega arith) (c.is_shown.ensures _ stand.surfaces)
    c.if-not-is_shown.false kept c.in-Some.is placed c.in_default-place.is

pub returns : goal.returns
returns g c = λ all stand kept placed.
    mapped-placed _ _ all stand 17 c.args.surface 16 c.is_shown.result c.args.link c.in-Some.link c.args.place _ (omega arith) (c.is_shown.ensures _ stand.surfaces)
    c.if-not-is_shown.false kept c.in-Some.is placed c.in-Some-place.is c.is_mapped.result (c.is_mapped.ensures all stand)

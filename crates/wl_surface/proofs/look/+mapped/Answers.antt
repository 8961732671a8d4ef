use Rattle.std.proofs.Common.{◌≡◌, ◌-◌, suc, arith}
use Rattle.wl_surface.proofs.Windows.{mapped-above, mapped-away, mapped-hidden, mapped-root, mapped-zero}
use Rattle.wl_surface.proofs.look.+mapped.Goals as goal

pub returns-then-levels-eq0 : goal.returns-then-levels-eq0
returns-then-levels-eq0 g t c = λ all stand. mapped-zero _ _ all stand c.args.levels c.args.surface c.if-levels-eq0.true

pub returns-then-not-is_shown : goal.returns-then-not-is_shown
returns-then-not-is_shown g t c = λ all stand.
    mapped-hidden _ _ all stand c.args.levels c.args.surface c.is_shown.result (c.is_shown.ensures _ stand.surfaces) c.if-not-is_shown.true

pub returns-in_default : goal.returns-in_default
returns-in_default g t c = λ all stand.
    let less : c.args.levels ≡ suc (c.args.levels - 1) = omega arith in
    mapped-root _ _ all stand c.args.levels c.args.surface (c.args.levels - 1) c.is_shown.result c.link.result less (c.is_shown.ensures _ stand.surfaces) c.if-not-is_shown.false
    c.link.ensures c.in_default.is

pub returns-then-not-has_added : goal.returns-then-not-has_added
returns-then-not-has_added g t c = λ all stand.
    let less : c.args.levels ≡ suc (c.args.levels - 1) = omega arith in
    mapped-away _ _ all stand c.args.levels c.args.surface (c.args.levels - 1) c.is_shown.result c.link.result c.in-Some.link c.has_added.result less
    (c.is_shown.ensures _ stand.surfaces) c.if-not-is_shown.false c.link.ensures c.in-Some.is c.has_added.ensures c.if-not-has_added.true

pub returns : goal.returns
returns g t c = λ all stand.
    let less : c.args.levels ≡ suc (c.args.levels - 1) = omega arith in
    mapped-above _ _ all stand c.args.levels c.args.surface (c.args.levels - 1) c.is_shown.result c.link.result c.in-Some.link c.has_added.result less
    (c.is_shown.ensures _ stand.surfaces) c.if-not-is_shown.false c.link.ensures c.in-Some.is c.has_added.ensures c.if-not-has_added.false
    c.is_mapped.result (c.is_mapped.ensures all stand)

use Rattle.wl_surface.proofs.Sights.{whole-ordered, whole-unordered}
use Rattle.wl_surface.proofs.surfaces.Surfaces.is_whole_since.Goals as goal

pub returns-then-not-is_ordered : goal.returns-then-not-is_ordered
returns-then-not-is_ordered g c = λ old new surfaces order seen stand among so.
    whole-unordered old new surfaces c.args.looks.now order c.args.surface c.args.is_ordered seen among so c.if-not-is_ordered.true

pub returns : goal.returns
returns g c = λ old new surfaces order seen stand among so.
    whole-ordered old new surfaces c.args.looks.now order c.args.surface c.args.is_ordered c.has_same_look.result seen among so c.if-not-is_ordered.false
    (c.has_same_look.ensures old new surfaces seen.seen stand among)

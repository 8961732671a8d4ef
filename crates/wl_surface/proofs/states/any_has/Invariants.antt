use Rattle.std.proofs.Common.{◌≡◌}
use Rattle.std.specs.List.{list_any}
use Rattle.slab.specs.Slab.{entries}
use Rattle.wl_surface.specs.Kept.{kept_has}
use Rattle.wl_surface.proofs.states.any_has.Given as goal

-- what is left tells as much as all entries
abbrev pub invariant-loop-kept : goal.invariant-loop-kept
invariant-loop-kept g l =
    (goal.iterator-loop-kept g).can_next l.kept-iterator ×
    (goal.iterator-loop-kept g).is_finite l.kept-iterator ×
    (list_any (λ e. kept_has l.buffer e.1) (entries l.slots) ≡ list_any (λ e. kept_has l.buffer e.1) l.kept-iterator)

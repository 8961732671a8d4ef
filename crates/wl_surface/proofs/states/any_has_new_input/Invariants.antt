use Rattle.std.proofs.Common.{◌≡◌}
use Rattle.std.specs.List.{list_any}
use Rattle.slab.specs.Slab.{entries}
use Rattle.wl_surface.specs.Kept.{has_new_input}
use Rattle.wl_surface.proofs.states.any_has_new_input.Given as goal

-- what is left tells as much as all entries
abbrev pub invariant-loop-kept : goal.invariant-loop-kept
invariant-loop-kept g l =
    (goal.iterator-loop-kept g).can_next l.kept-iterator ×
    (goal.iterator-loop-kept g).is_finite l.kept-iterator ×
    (list_any (λ e. has_new_input e.1) (entries l.slots) ≡ list_any (λ e. has_new_input e.1) l.kept-iterator)

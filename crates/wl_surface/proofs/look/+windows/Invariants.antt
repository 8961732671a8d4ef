use Rattle.std.proofs.Common.{◌≡◌, ◌+◌, ◌*◌, ◌++◌, flat_map, take}
use Rattle.wl_surface.specs.Linked.{Stand}
use Rattle.wl_surface.specs.Seen.{windows_at}
use Rattle.wl_surface.specs.Surfaces.{Surfaces as Asked}
use Rattle.wl_surface.proofs.look.+windows.Given as goal

abbrev pub decreases-add_windows : goal.decreases-add_windows
decreases-add_windows g l = l.levels * 3

abbrev pub decreases-add_stack : goal.decreases-add_stack
decreases-add_stack g l = l.levels * 3 + 2

abbrev pub decreases-add_placed : goal.decreases-add_placed
decreases-add_placed g l = l.levels * 3 + 1

abbrev pub invariant-add_stack-loop-placed : goal.invariant-add_stack-loop-placed
invariant-add_stack-loop-placed g l =
    (all : Asked) → Stand l.surfaces.states l.surfaces.family all
    → l.order.items ≡ l.initial.order.items ++ flat_map (windows_at l.levels all l.surface) (take l.placed-index l.stack)

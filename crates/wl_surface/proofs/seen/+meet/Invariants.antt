use Rattle.std.proofs.Common.{◌≡◌, ◌+◌, ◌*◌, flat_map, fold, take}
use Rattle.wl_surface.specs.Linked.{Stand}
use Rattle.wl_surface.specs.Seen.{met, windows_at}
use Rattle.wl_surface.specs.Surfaces.{Surfaces as Asked}
use Rattle.wl_surface.proofs.seen.+meet.Given as goal

abbrev pub decreases-meet_windows : goal.decreases-meet_windows
decreases-meet_windows g l = l.levels * 3

abbrev pub decreases-meet_stack : goal.decreases-meet_stack
decreases-meet_stack g l = l.levels * 3 + 2

abbrev pub decreases-meet_placed : goal.decreases-meet_placed
decreases-meet_placed g l = l.levels * 3 + 1

abbrev pub invariant-meet_stack-loop-placed : goal.invariant-meet_stack-loop-placed
invariant-meet_stack-loop-placed g l =
    (all : Asked) → Stand l.surfaces.states l.surfaces.family all
    → l.met ≡ fold (met l.order) l.fn.count (flat_map (windows_at l.levels all l.surface) (take l.placed-index l.stack))

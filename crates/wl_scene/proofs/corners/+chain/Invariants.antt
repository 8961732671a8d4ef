use Rattle.std.proofs.Common.{◌+◌, ◌*◌}
use Rattle.wl_scene.proofs.corners.+chain.Given as goal

abbrev pub decreases-xdg_corner : goal.decreases-xdg_corner
decreases-xdg_corner g l = l.levels * 3

abbrev pub decreases-corner_at_parent : goal.decreases-corner_at_parent
decreases-corner_at_parent g l = l.levels * 3 + 1

abbrev pub decreases-surface_corner : goal.decreases-surface_corner
decreases-surface_corner g l = l.levels * 3 + 2

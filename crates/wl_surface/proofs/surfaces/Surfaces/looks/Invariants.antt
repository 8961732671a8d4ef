use Rattle.std.proofs.Common.{◌≡◌, map, take}
use Rattle.wl_surface.specs.Linked.{Stand}
use Rattle.wl_surface.specs.Seen.{looked_at}
use Rattle.wl_surface.specs.Surfaces.{Surfaces as Asked}
use Rattle.wl_surface.proofs.surfaces.Surfaces.looks.Given as goal

abbrev pub invariant-loop-surface : goal.invariant-loop-surface
invariant-loop-surface g l =
    (all : Asked) → Stand l.self.states l.self.family all → l.looks.items ≡ map (looked_at all) (take l.surface-index l.surfaces)

use Rattle.std.proofs.Common.{◌≡◌, ℕ, List, map, take}
use Rattle.wl_surface.specs.Linked.{Stand}
use Rattle.wl_surface.specs.Seen.{AreOf, AreSeen, IsCompared, unmarked}
use Rattle.wl_surface.specs.Surfaces.{Surfaces as Asked}
use Rattle.wl_surface.specs.Whole.{AreWhole}
use Rattle.wl_surface.proofs.surfaces.Surfaces.mark.Given as goal

abbrev pub invariant-loop-change : goal.invariant-loop-change
invariant-loop-change g l = record {
  kept : map unmarked l.changes ≡ map unmarked l.initial.changes;
  whole : (old new : Asked) (surfaces : List ℕ) → AreSeen old surfaces l.looks l.order → Stand l.self.states l.self.family new
      → AreOf surfaces l.initial.changes → AreWhole old new (take l.change-index l.changes);
  compared : (new : Asked) → Stand l.self.states l.self.family new → IsCompared l.order new l.last;
}

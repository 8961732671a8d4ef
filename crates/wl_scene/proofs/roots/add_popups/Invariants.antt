use Rattle.std.proofs.Common.{◌≡◌, ◌≤◌, ◌++◌, List, [], ◌∷◌, length, map}
use Rattle.std.specs.Prelude.{vec_capacity}
use Rattle.wl_scene.specs.declared.roots.RootPlace.{RootPlace}
use Rattle.wl_scene.specs.Roots.{AreAt, Continues, IsHeld, roots_done, told_root}
use Rattle.wl_shell.specs.InOrder.{AreRising}
use Rattle.wl_scene.proofs.Rooted.{left}
use Rattle.wl_scene.proofs.roots.add_popups.Given as goal
use Rattle.spec_desktop.specs.Stacking.{Owned}
use Rattle.spec_desktop.specs.Windows.{Root}
use Rattle.wl_shell.specs.Popups.{popups_of}

abbrev pub invariant-loop-surface : goal.invariant-loop-surface
invariant-loop-surface g l = record {
  told : (o : Owned) (toplevel : Root) (had : List RootPlace) → IsHeld l.owned.surfaces.states l.owned.surfaces.family l.owned.shell o → AreRising (popups_of o.shell)
      → AreAt l.owned.shell (toplevel ∷ []) → length had ≡ l.before → l.initial.roots.items ≡ had ++ told_root toplevel ∷ []
      → l.roots.items ≡ had ++ map told_root (roots_done o toplevel l.last);
  more : Continues l.initial.roots.items l.roots.items;
  capacity : vec_capacity l.initial.roots ≤ vec_capacity l.roots;
}

abbrev pub decreases-loop-surface : goal.decreases-loop-surface
decreases-loop-surface g l = left l.last

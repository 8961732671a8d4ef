use Rattle.std.proofs.Common.{◌≡◌, ◌+◌, ◌++◌, drop, map, take}
use Rattle.wl_scene.specs.Stacked.{stacked}
use Rattle.wl_scene.proofs.runs.write_over.Given as goal

abbrev pub invariant-loop-k : goal.invariant-loop-k
invariant-loop-k l = l.all ≡ take l.start l.initial.all ++ (map (stacked l.client l.toplevel) (take l.k l.windows) ++ drop (l.start + l.k) l.initial.all)

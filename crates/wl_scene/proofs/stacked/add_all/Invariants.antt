use Rattle.std.proofs.Common.{◌≡◌, ◌++◌, ◌+◌, ◌≤◌, map, take}
use Rattle.std.specs.Prelude.{vec_capacity, vec_len}
use Rattle.wl_scene.specs.Stacked.{stacked}
use Rattle.wl_scene.proofs.stacked.add_all.Given as goal

abbrev pub invariant-loop-window : goal.invariant-loop-window
invariant-loop-window g l = record {
  added : l.all.items ≡ l.fn.all.items ++ map (stacked l.client l.toplevel) (take l.window-index l.windows);
  len : vec_len l.all ≤ vec_len l.initial.all + l.window-index;
  capacity : vec_capacity l.all ≡ vec_capacity l.initial.all;
}

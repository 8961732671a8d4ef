use Rattle.std.proofs.Common.{◌≡◌, ◌≤◌, length, take}
use Rattle.std.specs.Prelude.{vec_capacity, vec_len}
use Rattle.wl_clients.specs.Runs.{windows_told}
use Rattle.wl_clients.proofs.screen.run.Run.keep.Given as goal

abbrev pub invariant-loop-stacked : goal.invariant-loop-stacked
invariant-loop-stacked g l = record {
  kept : l.self-inside.windows.items ≡ windows_told (take l.stacked-index l.windows);
  len : vec_len l.self-inside.windows ≤ l.stacked-index;
  room : length l.windows ≤ vec_capacity l.self-inside.windows;
  most : 256 ≤ vec_capacity l.self-inside.windows;
}

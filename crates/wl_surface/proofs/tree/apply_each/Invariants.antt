use Rattle.std.proofs.Common.{◌≡◌, ◌+◌, ◌≤◌, List, take}
use Rattle.std.specs.Prelude.{vec_capacity, vec_len}
use Rattle.wl_links.specs.Family.{links_in, stacks_in}
use Rattle.wl_surface.specs.Slots.{Numbered, StandForAll}
use Rattle.wl_surface.specs.Waiting.{AreWaiting, Callback}
use Rattle.wl_surface.specs.Tree.{AreOnce, AreToldAfter, applied_among, stacks_among}
use Rattle.wl_surface.proofs.tree.apply_each.Given as goal

abbrev pub invariant-loop-number : goal.invariant-loop-number
invariant-loop-number g l = record {
  len : vec_len l.changes ≤ vec_len l.initial.changes + l.number-index;
  capacity : vec_capacity l.changes ≡ vec_capacity l.initial.changes;
  stand : (all : Numbered) → StandForAll l.initial.surfaces all → StandForAll l.surfaces (applied_among (take l.number-index l.numbers) all);
  waits : (all : Numbered) (cs : List Callback) → AreWaiting l.initial.surfaces.frames all cs
      → AreWaiting l.surfaces.frames (applied_among (take l.number-index l.numbers) all) cs;
  told : (all : Numbered) → StandForAll l.initial.surfaces all → AreOnce l.numbers
      → AreToldAfter l.initial.changes.items (take l.number-index l.numbers) all l.changes.items;
  links : links_in l.family ≡ links_in l.initial.family;
  places : l.family.places ≡ l.initial.family.places;
  stacks : stacks_in l.family ≡ stacks_among (take l.number-index l.numbers) (stacks_in l.initial.family);
}

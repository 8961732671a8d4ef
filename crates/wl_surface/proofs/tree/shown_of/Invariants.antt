use Rattle.std.proofs.Common.{◌≡◌, map, take}
use Rattle.wl_surface.specs.Kept.{buffer_of}
use Rattle.wl_surface.specs.Slots.{Numbered, StandForAll}
use Rattle.wl_surface.specs.Tree.{shown_by}
use Rattle.wl_surface.proofs.tree.shown_of.Given as goal

abbrev pub invariant-loop-number : goal.invariant-loop-number
invariant-loop-number g l = (all : Numbered) → StandForAll l.surfaces all → map buffer_of l.shown.items ≡ shown_by (take l.number-index l.numbers) all

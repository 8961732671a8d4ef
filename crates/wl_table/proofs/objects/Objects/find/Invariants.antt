use Rattle.std.proofs.Common.{◌<◌, ◌≤◌, ℕ, None, get_or, map}
use Rattle.std.specs.Map.Iter.{deref_pair}
use Rattle.wl_table.specs.Objects.{StandsFor, entry_of}
use Rattle.wl_table.proofs.Finding.{AreOthers}
use Rattle.wl_table.proofs.objects.Objects.find.Given as goal

-- what is looked for isn't at a place before this one
abbrev pub invariant-loop-place : goal.invariant-loop-place
invariant-loop-place g l = (k : ℕ) → k < l.place → StandsFor (get_or l.entry-items k None) l.interface l.target → ⊥

-- it isn't in the row, nor is it one of those that came after
abbrev pub invariant-loop-id : goal.invariant-loop-id
invariant-loop-id g l = record {
  row : (id : ℕ) → id ≤ 8192 → StandsFor (entry_of l.self id) l.interface l.target → ⊥;
  passed : AreOthers l.interface l.target (map deref_pair l.yielded);
}

use Rattle.std.proofs.Common.{◌≡◌, ◌≤◌, drop, length}
use Rattle.wl_recording.proofs.differing.same_up_to.Given as goal

abbrev pub invariant-loop-last : goal.invariant-loop-last
invariant-loop-last l = record {
  order : l.first ≤ l.last;
  within : l.last ≤ length l.bytes;
  alike : drop l.last l.bytes ≡ drop l.last l.held;
}

abbrev pub decreases-loop-last : goal.decreases-loop-last
decreases-loop-last l = l.last

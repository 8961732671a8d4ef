use Rattle.std.proofs.Common.{◌≡◌, ◌≤◌, ◌-◌, ℕ, List, Option, length}
use Rattle.wl_recording.specs.Line.{Asked}
use Rattle.wl_recording.specs.Recording.{HoldsTo}
use Rattle.wl_recording.proofs.FedPieces.{Fed}
use Rattle.wl_recording.proofs.recording.Recording.feed_all.Given as goal

abbrev pub invariant-loop-done : goal.invariant-loop-done
invariant-loop-done g l = record {
  some : l.done ≤ length l.piece;
  clients : l.self.clients ≡ l.fn.self.clients;
  asked : (first : Option (List ℕ)) (asked : List Asked) → HoldsTo 1000000 g.W.Write.contents first asked l.fn.self
      → Fed g.W.Write.contents l.client l.piece first asked l.done l.self;
}

abbrev pub decreases-loop-done : goal.decreases-loop-done
decreases-loop-done g l = length l.piece - l.done

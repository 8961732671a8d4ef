use Rattle.std.proofs.Common.{ℕ, List}
use Rattle.std.specs.Io.KnownBytes.{Appends}
use Rattle.wl_replay.specs.Clients.{TellsFirst}
use Rattle.wl_replay.specs.Told.{Stage, Stands}
use Rattle.wl_replay.proofs.tell.tell_clients.Given as goal

-- the clients up to this number were told of
abbrev pub invariant-loop-before : goal.invariant-loop-before
invariant-loop-before g l =
    (d : Stage) → Stands l.fn.session d → (e : Stage) × (text : List ℕ) × TellsFirst l.before d text e
    × Stands l.session e × Appends (g.W.Write.contents l.fn.writer) (g.W.Write.contents l.writer) text

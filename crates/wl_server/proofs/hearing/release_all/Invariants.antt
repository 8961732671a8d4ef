use Rattle.std.specs.Prelude.{drop}
use Rattle.wl_server.proofs.Watched.{ReleasedTo}
use Rattle.wl_server.proofs.hearing.release_all.Given as goal

-- the buttons before this one were released
abbrev pub invariant-loop-code : goal.invariant-loop-code
invariant-loop-code g l = ReleasedTo g.R.Write.contents l.time l.buttons (drop l.code-index l.buttons) l.fn.recorded l.recorded

use Rattle.std.proofs.Common.{◌≡◌, length}
use Rattle.wl_desk.specs.Agreeing.{Agrees}
use Rattle.spec_desktop.specs.Desktop.{Desktop}
use Rattle.wl_desk.specs.Feeding.{rest_in}
use Rattle.wl_session.specs.Course.{Took}
use Rattle.wl_session.proofs.sessions.Session.serve_all.Given as goal

-- so many messages were taken
abbrev pub invariant-loop-self : goal.invariant-loop-self
invariant-loop-self g l = record {
  taken : (d : Desktop) → Agrees l.fn.self.desk d
      → Took l.client l.fn.self (record { desk = l.self-inside.desk.desk; damage = l.self-inside.desk.damage; frame = l.self-inside.framebuffer; painted = l.self-inside.painted }) d;
  frame : l.self-inside.framebuffer ≡ l.initial.self-inside.framebuffer;
  output : l.self-inside.desk.desk.kept.output ≡ l.initial.self-inside.desk.desk.kept.output;
  painted : l.self-inside.painted ≡ l.initial.self-inside.painted;
}

abbrev pub decreases-loop-self : goal.decreases-loop-self
decreases-loop-self g l = length (rest_in l.client l.self-inside.desk.desk.kept)

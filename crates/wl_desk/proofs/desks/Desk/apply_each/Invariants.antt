use Rattle.std.proofs.Common.{◌≡◌}
use Rattle.wl_desk.proofs.Rests.{IsLeft}
use Rattle.wl_desk.proofs.Applying.{AreApplied}
use Rattle.wl_desk.proofs.desks.Desk.apply_each.Given as goal

-- the actions before this one were done
abbrev pub invariant-loop-action : goal.invariant-loop-action
invariant-loop-action g l = record {
  applied : AreApplied l.action-index l.actions l.fn.self.desk l.self.desk;
  pointer : l.self.desk.pointer ≡ l.fn.self.desk.pointer;
  seats : l.self.desk.seats ≡ l.fn.self.desk.seats;
  damage : l.self.damage ≡ l.fn.self.damage;
  rests : IsLeft l.fn.self.desk.kept l.self.desk.kept;
  output : l.self.desk.kept.output ≡ l.fn.self.desk.kept.output;
}

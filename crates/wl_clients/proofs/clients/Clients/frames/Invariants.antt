use Rattle.std.proofs.Common.{◌≡◌}
use Rattle.spec_desktop.specs.Desktop.{Desktop}
use Rattle.wl_scene.specs.Marking.{IsAsLarge}
use Rattle.wl_clients.specs.Agreeing.{Agrees}
use Rattle.wl_clients.proofs.Framing.{HasTold}
use Rattle.wl_clients.proofs.clients.Clients.frames.Given as goal

-- the clients up to this number were told
abbrev pub invariant-loop-before : goal.invariant-loop-before
invariant-loop-before g l = record {
  told : (d : Desktop) → Agrees l.fn.self.desk d → (mid : Desktop) × HasTold l.time l.before l.fn.self l.self d mid;
  sides : IsAsLarge l.fn.self.damage l.self.damage;
  output : l.self.desk.output ≡ l.fn.self.desk.output;
}

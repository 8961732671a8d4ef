use Rattle.std.specs.Prelude.{◌≡◌}
use Rattle.spec_desktop.specs.Desktop.{Desktop}
use Rattle.wl_session.specs.Agreeing.{Agrees}
use Rattle.wl_server.specs.Watching.{lines_of}
use Rattle.wl_server.proofs.Windows.{ToldTo}
use Rattle.wl_server.proofs.viewed.put_windows.Given as goal

-- the windows below this place were told, behind how many there are
abbrev pub invariant-loop-k : goal.invariant-loop-k
invariant-loop-k g l =
    ((d : Desktop) → Agrees l.session.desk d → ToldTo (lines_of d) l.count l.k l.fn.viewer l.viewer) × (l.viewer.heard.held ≡ l.fn.viewer.heard.held)

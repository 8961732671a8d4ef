use Rattle.std.proofs.Common.{ℕ, List, Option}
use Rattle.spec_desktop.specs.Desktop.{Desktop}
use Rattle.wl_session.specs.Agreeing.{Agrees}
use Rattle.wl_server.specs.Recorded.{HoldsNotes, Notes, looked_up_to}
use Rattle.wl_server.proofs.noting.look_at_all.Given as goal

-- the clients up to this one were looked at
abbrev pub invariant-loop-place : goal.invariant-loop-place
invariant-loop-place g l =
    (d : Desktop) → Agrees l.session.desk d → (first : Option (List ℕ)) (notes : Notes)
    → HoldsNotes g.R.Write.contents first notes l.fn.recording → HoldsNotes g.R.Write.contents first (looked_up_to l.place d notes) l.recording

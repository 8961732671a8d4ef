use Rattle.std.proofs.Common.{map, refl}
use Rattle.spec_desktop.specs.Desktop.{unpointed}
use Rattle.wl_clients.proofs.Kept.{err-then, ok-then}
use Rattle.wl_desk.proofs.Calls.{desk_with}
use Rattle.wl_desk.proofs.Keeping.{agrees-still, keeps}
use Rattle.wl_desk.proofs.desks.Desk.keep.Goals as goal

pub returns-clause-ok : goal.returns-clause-ok
returns-clause-ok g c =
    let seats = map (λ s. s.items) c.self.inside.seats.items in
    rw (← c.self.view_is) (ok-then c.keep.result (λ kept d a.
    keeps c.args.client c.args.piece.now (desk_with c.self.inside.clients seats c.self.inside.latest.items c.self.inside.pointer).desk (desk_with c.keep.new.self seats c.self.inside.latest.items c.self.inside.pointer).desk d a refl refl refl
    (kept (unpointed d) a.kept)) c.keep.ensures.ok)

pub returns-clause-err : goal.returns-clause-err
returns-clause-err g c =
    let seats = map (λ s. s.items) c.self.inside.seats.items in
    rw (← c.self.view_is) (err-then c.keep.result (λ kept d a.
    let k = kept (unpointed d) a.kept in
    (agrees-still (desk_with c.self.inside.clients seats c.self.inside.latest.items c.self.inside.pointer).desk (desk_with c.keep.new.self seats c.self.inside.latest.items c.self.inside.pointer).desk d a refl refl refl k.0, k.1)) c.keep.ensures.err)

pub returns-clause-damage : goal.returns-clause-damage
returns-clause-damage g c = rw (← c.self.view_is) c.keep.ensures.damage

pub returns-clause-output : goal.returns-clause-output
returns-clause-output g c = rw (← c.self.view_is) c.keep.ensures.output

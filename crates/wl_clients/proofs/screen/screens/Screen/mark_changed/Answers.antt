use Rattle.wl_clients.proofs.screen.screens.Screen.mark_changed.Goals as goal

pub returns-clause-points : goal.returns-clause-points
returns-clause-points g c = λ was is x y wide high.
    let s = c.args.self.now in
    rw (c.deref.ensures.value, c.deref-2.ensures.value, c.changes_of-changes.ensures) at
    (c.mark_moved.ensures.points (rw (c.deref.ensures.value) was) (rw (c.deref-2.ensures.value) is) x y wide high)

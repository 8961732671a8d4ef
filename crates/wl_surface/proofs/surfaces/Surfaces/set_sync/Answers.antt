use Rattle.std.proofs.Common.{true}
use Rattle.wl_surface.proofs.Linking.{sets-mode}
use Rattle.wl_surface.proofs.Ending.{never-none}
use Rattle.wl_surface.proofs.surfaces.Surfaces.set_sync.Goals as goal

pub returns-then-is_none-clause-stand : goal.returns-then-is_none-clause-stand
returns-then-is_none-clause-stand g c = λ all number link is stand.
    never-none c.args.self.now.states c.args.self.now.family all number c.args.child link c.link.result is stand c.link.ensures c.if-is_none.ensures

pub returns-clause-stand : goal.returns-clause-stand
returns-clause-stand g c = rw (← c.self.view_is) (λ all number link is stand.
    let v = c.self.inside in
    let hang = sets-mode v.family c.set_synchronised.new.self all number link true is.here is.lives (rw is.of_child c.set_synchronised.ensures.links) c.set_synchronised.ensures.stacks stand.hang in
    record { surfaces = stand.surfaces; hang = hang; there = rw c.set_synchronised.ensures.places stand.there })

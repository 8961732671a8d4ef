use Rattle.std.proofs.Common.{ap, map, ◌∙◌}
use Rattle.wl_surface.specs.Linked.{SurfacesView}
use Rattle.wl_surface.specs.Seen.{looked_at}
use Rattle.wl_surface.proofs.Sights.{are-seen}
use Rattle.wl_surface.proofs.surfaces.Surfaces.room.Goals as goal

pub returns-clause-seen : goal.returns-clause-seen
returns-clause-seen g c = λ all stand.
    let v = c.args.self.now in
    let family = ap (λ (v : SurfacesView). v.family) c.self.view_is in
    let hang = rw family at c.in_ok-below.ensures.hang in
    let those = rw family at c.in_ok-below.ensures.those in
    are-seen v.states v.family all hang stand c.args.surface c.in_ok-below.below.items c.in_ok-seen.seen.looks.items c.in_ok-seen.seen.order.items
    those (c.in_ok-seen.ensures.looks all stand ∙ ap (map (looked_at all)) c.deref.ensures.value) (c.in_ok-seen.ensures.order all stand)

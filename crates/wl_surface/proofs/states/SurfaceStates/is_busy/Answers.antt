use Rattle.std.proofs.Common.{refl, sym}
use Rattle.wl_surface.proofs.Slots.{IsAny-kept, shows-same}
use Rattle.wl_surface.specs.Kept.{kept_shows}
use Rattle.wl_surface.specs.Slots.{shows_at}
use Rattle.wl_surface.proofs.states.SurfaceStates.is_busy.Goals as goal

pub returns : goal.returns
returns g c = λ all stand.
    IsAny-kept (kept_shows c.args.buffer) (shows_at c.args.buffer) refl (shows-same c.args.buffer) c.self.inside.slots.slots all (rw (← c.self.view_is) at stand) c.any_shows.result
    (sym c.any_shows.ensures)

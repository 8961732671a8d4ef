use Rattle.std.proofs.Common.{refl, sym}
use Rattle.wl_surface.proofs.Slots.{IsAny-kept, has-same}
use Rattle.wl_surface.specs.Kept.{kept_has}
use Rattle.wl_surface.specs.Slots.{has_at}
use Rattle.wl_surface.proofs.states.SurfaceStates.is_used.Goals as goal

pub returns : goal.returns
returns g c = λ all stand.
    IsAny-kept (kept_has c.args.buffer) (has_at c.args.buffer) refl (has-same c.args.buffer) c.self.inside.slots.slots all (rw (← c.self.view_is) at stand) c.any_has.result (sym c.any_has.ensures)

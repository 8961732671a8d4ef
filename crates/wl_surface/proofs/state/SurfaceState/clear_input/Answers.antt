use Rattle.std.proofs.Common.{refl, Some, None}
use Rattle.wl_surface.proofs.Records.{For-asked, still, undamaged}
use Rattle.wl_surface.specs.Request.{SetInputRegion}
use Rattle.wl_surface.proofs.state.SurfaceState.clear_input.Goals as goal

pub returns : goal.returns
returns g c = λ s u.
    let v = rw (← c.self.view_is) at u in
    let t = v.history in
    For-asked _ s _ _ _ _ _ (Some None) _ _ _ refl v
    (record { buffer_is = t.pending.buffer_is; transform_is = t.pending.transform_is; scale_is = t.pending.scale_is; opaque_is = t.pending.opaque_is; input_is = tt })
    (still _ s.history t) (undamaged _ s.history (SetInputRegion None) refl refl t)

use Rattle.std.proofs.Common.{refl}
use Rattle.wl_surface.proofs.Records.{For-asked, still, undamaged}
use Rattle.wl_surface.specs.Request.{SetBufferTransform}
use Rattle.wl_surface.proofs.state.SurfaceState.set_transform.Goals as goal

pub returns : goal.returns
returns g c = λ number e s u.
    let v = rw (← c.self.view_is) at u in
    let t = v.history in
    For-asked _ s (SetBufferTransform number) _ c.args.transform _ _ _ _ _ _ refl v
    (record { buffer_is = t.pending.buffer_is; transform_is = e; scale_is = t.pending.scale_is; opaque_is = t.pending.opaque_is; input_is = t.pending.input_is }) (still _ s.history t)
    (undamaged _ s.history (SetBufferTransform number) refl refl t)

use Rattle.std.proofs.Common.{refl}
use Rattle.wl_surface.proofs.Records.{For-asked, still, undamaged}
use Rattle.wl_surface.specs.Request.{SetBufferScale}
use Rattle.wl_surface.proofs.state.SurfaceState.set_scale.Goals as goal

pub returns : goal.returns
returns g c = λ s u.
    let v = rw (← c.self.view_is) at u in
    let t = v.history in
    For-asked _ s (SetBufferScale c.args.scale.number) _ _ c.args.scale _ _ _ _ _ refl v
    (record { buffer_is = t.pending.buffer_is; transform_is = t.pending.transform_is; scale_is = refl; opaque_is = t.pending.opaque_is; input_is = t.pending.input_is }) (still _ s.history t)
    (undamaged _ s.history (SetBufferScale c.args.scale.number) refl refl t)

use Rattle.std.proofs.Common.{refl, Some, None}
use Rattle.wl_surface.proofs.Records.{For-asked, still, undamaged}
use Rattle.wl_surface.specs.Request.{SetOpaqueRegion}
use Rattle.wl_surface.proofs.state.SurfaceState.clear_opaque.Goals as goal

pub returns : goal.returns
returns g c = λ s u.
    let v = rw (← c.self.view_is) at u in
    let t = v.history in
    For-asked _ s (SetOpaqueRegion None) _ _ _ (Some c.new.result) _ _ _ _ refl v
    (record { buffer_is = t.pending.buffer_is; transform_is = t.pending.transform_is; scale_is = t.pending.scale_is; opaque_is = c.new.ensures; input_is = t.pending.input_is }) (still _ s.history t)
    (undamaged _ s.history (SetOpaqueRegion None) refl refl t)

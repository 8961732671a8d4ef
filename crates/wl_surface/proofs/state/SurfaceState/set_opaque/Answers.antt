use Rattle.std.proofs.Common.{refl, Some}
use Rattle.wl_surface.proofs.Records.{For-asked, still, undamaged}
use Rattle.wl_surface.specs.Request.{SetOpaqueRegion}
use Rattle.wl_surface.proofs.state.SurfaceState.set_opaque.Goals as goal

pub returns : goal.returns
returns g c = λ changes covers s u.
    let v = rw (← c.self.view_is) at u in
    let t = v.history in
    For-asked _ s _ _ _ _ (Some c.args.region) _ _ _ _ refl v
    (record { buffer_is = t.pending.buffer_is; transform_is = t.pending.transform_is; scale_is = t.pending.scale_is; opaque_is = covers; input_is = t.pending.input_is })
    (still _ s.history t) (undamaged _ s.history (SetOpaqueRegion (Some changes)) refl refl t)

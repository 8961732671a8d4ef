use Rattle.std.proofs.Common.{refl, Some}
use Rattle.wl_surface.proofs.Records.{For-asked, still, undamaged}
use Rattle.wl_surface.specs.Request.{SetInputRegion}
use Rattle.wl_surface.proofs.state.SurfaceState.set_input.Goals as goal

pub returns : goal.returns
returns g c = λ changes covers s u.
    let v = rw (← c.self.view_is) at u in
    let t = v.history in
    For-asked _ s _ _ _ _ _ (Some (Some c.args.region)) _ _ _ refl v
    (record { buffer_is = t.pending.buffer_is; transform_is = t.pending.transform_is; scale_is = t.pending.scale_is; opaque_is = t.pending.opaque_is; input_is = covers })
    (still _ s.history t) (undamaged _ s.history (SetInputRegion (Some changes)) refl refl t)

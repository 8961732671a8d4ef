use Rattle.std.proofs.Common.{refl, Some, w32}
use Rattle.std.proofs.lemmas.Int.{to_z-of_z}
use Rattle.wl_surface.proofs.Records.{For-asked, undamaged}
use Rattle.wl_surface.specs.Request.{Attach}
use Rattle.std.specs.Option.{option_map}
use Rattle.wl_surface.specs.Kept.{buffer_of}
use Rattle.wl_surface.proofs.state.SurfaceState.attach.Goals as goal

pub returns : goal.returns
returns g c = λ s u.
    let v = rw (← c.self.view_is) at u in
    let t = v.history in
    rw (to_z-of_z w32 c.args.x c.ranges.x, to_z-of_z w32 c.args.y c.ranges.y)
    (For-asked _ s _ c.args.buffer _ _ _ _ (Some (record { x = c.args.x; y = c.args.y })) _ _ refl v
    (record { buffer_is = refl; transform_is = t.pending.transform_is; scale_is = t.pending.scale_is; opaque_is = t.pending.opaque_is; input_is = t.pending.input_is }) refl
    (undamaged _ s.history (Attach (option_map buffer_of c.args.buffer) c.args.x c.args.y) refl refl t))

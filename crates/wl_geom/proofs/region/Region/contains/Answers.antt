use Rattle.std.proofs.Common.{◌∙◌, ap, sym, w32}
use Rattle.std.proofs.lemmas.Int.{to_z-of_z}
use Rattle.wl_geom.specs.Region.{holds}
use Rattle.wl_geom.proofs.Held.{fits-coordinate, holds-of}
use Rattle.wl_geom.proofs.region.Region.contains.Goals as goal

pub returns : goal.returns
returns g c changes stands =
    let x = to_z-of_z w32 c.args.x c.ranges.x in
    let y = to_z-of_z w32 c.args.y c.ranges.y in
    let found = simp (x, y, c.deref.ensures.value) at c.is_held.ensures in
    found
    ∙ sym (holds-of c.args.x c.args.y c.self.inside.edits.items (fits-coordinate c.args.x c.ranges.x) (fits-coordinate c.args.y c.ranges.y))
    ∙ ap (holds c.args.x c.args.y) (ap (λ v. v.made) c.self.view_is ∙ stands.listed)

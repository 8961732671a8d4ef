use Rattle.std.proofs.Common.{FitsSigned, rules}
use Rattle.std.proofs.lemmas.Int.{to_z-of_z}
use Rattle.std.specs.Int.{w32}
use Rattle.wl_proto.proofs.wl_output.encode.Goals as goal

pub returns-in-Geometry : goal.returns-in-Geometry
returns-in-Geometry g c =
    let x : FitsSigned w32 c.in-Geometry.x = search rules in
    let y : FitsSigned w32 c.in-Geometry.y = search rules in
    let physical_width : FitsSigned w32 c.in-Geometry.physical_width = search rules in
    let physical_height : FitsSigned w32 c.in-Geometry.physical_height = search rules in
    let subpixel : FitsSigned w32 c.in-Geometry.subpixel = search rules in
    let transform : FitsSigned w32 c.in-Geometry.transform = search rules in
    rw c.in-Geometry.is (record {
      ok = simp to_z-of_z at c.put.ensures.ok;
      too_long = simp to_z-of_z at c.put.ensures.too_long;
      err = c.put.ensures.err;
    })

pub returns-in-Mode : goal.returns-in-Mode
returns-in-Mode g c =
    let width : FitsSigned w32 c.in-Mode.width = search rules in
    let height : FitsSigned w32 c.in-Mode.height = search rules in
    let refresh : FitsSigned w32 c.in-Mode.refresh = search rules in
    rw c.in-Mode.is (record {
      ok = simp to_z-of_z at c.put-in-Mode.ensures.ok;
      too_long = c.put-in-Mode.ensures.too_long;
      err = c.put-in-Mode.ensures.err;
    })

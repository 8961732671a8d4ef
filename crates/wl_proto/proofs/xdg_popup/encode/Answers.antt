use Rattle.std.proofs.Common.{FitsSigned, rules}
use Rattle.std.proofs.lemmas.Int.{to_z-of_z}
use Rattle.std.specs.Int.{w32}
use Rattle.wl_proto.proofs.xdg_popup.encode.Goals as goal

pub returns-in-Configure : goal.returns-in-Configure
returns-in-Configure g c =
    let x : FitsSigned w32 c.in-Configure.x = search rules in
    let y : FitsSigned w32 c.in-Configure.y = search rules in
    let width : FitsSigned w32 c.in-Configure.width = search rules in
    let height : FitsSigned w32 c.in-Configure.height = search rules in
    rw c.in-Configure.is (record {
      ok = simp to_z-of_z at c.put.ensures.ok;
      too_long = c.put.ensures.too_long;
      err = c.put.ensures.err;
    })

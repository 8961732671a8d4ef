use Rattle.std.proofs.Common.{◌+ℤ◌, ◌^◌, List, ap, pos, subst, w32, arith}
use Rattle.std.specs.Prelude.{◌↔◌, ◌≤ℤ◌, IsTrue}
use Rattle.std.proofs.lemmas.Int.{ints, to_z-of_z}
use Rattle.wl_geom.specs.Region.{Change, HoldsRun}
use Rattle.wl_geom.proofs.Held.{fits-coordinate, run-held}
use Rattle.wl_geom.proofs.region.Region.covers_run.Goals as goal

pub returns-clause-made : goal.returns-clause-made
returns-clause-made g c =
    let x = to_z-of_z w32 c.args.x c.ranges.x in
    let y = to_z-of_z w32 c.args.y c.ranges.y in
    let is = simp (x, y, c.deref.ensures.value) at c.is_run_held.ensures in
    let ends : (c.args.x +ℤ pos c.args.w) ≤ℤ pos (2 ^ 31) = grind (arith, ints) in
    let run = run-held c.args.x c.args.y c.args.w c.self.inside.edits.items c.is_run_held.result (fits-coordinate c.args.x c.ranges.x) (fits-coordinate c.args.y c.ranges.y) ends is in
    subst (λ (made : List Change). IsTrue c.is_run_held.result ↔ HoldsRun c.args.x c.args.y c.args.w made) (ap (λ v. v.made) c.self.view_is) run

pub returns-clause-held : goal.returns-clause-held
returns-clause-held g c changes stands =
    subst (λ (made : List Change). IsTrue c.is_run_held.result ↔ HoldsRun c.args.x c.args.y c.args.w made) stands.listed (returns-clause-made g c)

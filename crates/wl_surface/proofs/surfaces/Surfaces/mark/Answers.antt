use Rattle.std.proofs.Common.{◌≡◌, ◌+◌, ◌<◌, suc, refl, subst, arith, length, rules, take}
use Rattle.std.specs.Prelude.{slice_index_or, slice_set}
use Rattle.wl_surface.specs.declared.applied.Change.{Change}
use Rattle.wl_surface.specs.Whole.{AreWhole}
use Rattle.wl_surface.proofs.Marked.{kept-set, of-at, whole-set}
use Rattle.wl_surface.proofs.Sights.{compared-so}
use Rattle.wl_surface.proofs.surfaces.Surfaces.mark.Goals as goal

pub loop-change-preserved : goal.loop-change-preserved
loop-change-preserved g c =
    let i = c.loop-change.change-index in
    let changes = c.loop-change.changes in
    let less : i < length changes = search rules in
    let on : suc i ≡ i + 1 = omega arith in
    let item = c.change-item.result in
    let at : Change g.row.A.Denot = slice_index_or changes i item in
    let marked : Change g.row.A.Denot = record { surface = at.surface; whole = c.is_whole_since-whole.result; rects = at.rects } in
    record {
      kept = kept-set {A = g.row.A.Denot} changes c.args.changes.now i item marked less c.loop-change.invariant.kept refl;
      whole = λ old new surfaces seen stand of_them.
          subst (λ n. AreWhole {A = g.row.A.Denot} old new (take n (slice_set changes i marked))) on
          (whole-set {A = g.row.A.Denot} old new changes i marked less (c.loop-change.invariant.whole old new surfaces seen stand of_them)
          (c.is_whole_since-whole.ensures old new surfaces c.args.order.now seen stand
          (of-at {A = g.row.A.Denot} surfaces changes c.args.changes.now i item less c.loop-change.invariant.kept of_them)
          (compared-so c.args.self.now.states c.args.self.now.family new stand at.surface c.compare-compared.result c.args.order.now c.compare-compared.ensures.root
          (c.compare-compared.ensures.same new stand (c.loop-change.invariant.compared new stand)))));
      compared = λ new stand. c.compare-compared.ensures.same new stand (c.loop-change.invariant.compared new stand);
    }

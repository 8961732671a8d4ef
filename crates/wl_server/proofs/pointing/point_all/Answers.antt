use Rattle.std.proofs.Common.{refl, ap, sym, ◌∙◌}
use Rattle.wl_server.specs.Due.{left_at}
use Rattle.wl_server.proofs.PointedLines.{left-more, left-none, pointed-all, pointed-more, pointed-none}
use Rattle.wl_server.proofs.pointing.point_all.Goals as goal

pub loop-line-init : goal.loop-line-init
loop-line-init g c = record { left = refl; pointed = pointed-none c.args.time c.args.waiting.now c.args.recorded.now }

pub loop-line-preserved : goal.loop-line-preserved
loop-line-preserved g c =
    let m = c.loop-line.invariant in
    let due = c.in-Some.ensures in
    record {
      left = sym (ap (left_at c.args.time) due.0 ∙ left-more c.args.time c.in-Some.line _ due.1) ∙ m.left;
      pointed = pointed-more c.args.time c.args.waiting.now c.loop-line.waiting _ c.in-Some.line _ _ _ due.0 due.1 m.pointed c.point.ensures;
    }

pub returns-clause-pointed : goal.returns-clause-pointed
returns-clause-pointed g c = pointed-all c.args.time c.args.waiting.now c.loop-line.waiting _ _ c.in_default.ensures.1 c.loop-line.invariant.pointed

pub returns-clause-left : goal.returns-clause-left
returns-clause-left g c = c.in_default.ensures.0 ∙ (sym (left-none c.args.time c.loop-line.waiting c.in_default.ensures.1) ∙ c.loop-line.invariant.left)

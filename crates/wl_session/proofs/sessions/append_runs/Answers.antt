use Rattle.std.proofs.Common.{arith}
use Rattle.wl_paint.specs.Damage.{has}
use Rattle.wl_session.proofs.Reported.{row-all, row-more, row-none}
use Rattle.wl_session.proofs.sessions.append_runs.Goals as goal

pub loop-x-init : goal.loop-x-init
loop-x-init g c = record { bound = omega arith; runs = λ are. row-none _ _ _ _ are }

pub loop-x-preserved : goal.loop-x-preserved
loop-x-preserved g c = record {
  bound = c.in-Some.ensures.within;
  runs = λ are. rw c.in_ok-push.ensures.items (row-more c.loop-x.runs.items (has c.args.damage.now) c.args.damage.now.width c.args.y c.loop-x.from c.in-Some.x c.in-Some.w c.in-Some.ensures
      (c.loop-x.invariant.runs are));
}

pub returns : goal.returns
returns g c = λ are. row-all c.loop-x.runs.items (has c.args.damage.now) c.args.damage.now.width c.args.y c.loop-x.from (rw c.in_default.is at c.next_run.ensures) (c.loop-x.invariant.runs are)

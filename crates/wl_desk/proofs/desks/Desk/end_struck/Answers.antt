use Rattle.std.proofs.Common.{sym}
use Rattle.std.proofs.lemmas.Bool.{true≢false}
use Rattle.wl_desk.proofs.Ended.{ends-marked, ends-midway}
use Rattle.wl_desk.proofs.desks.Desk.end_struck.Goals as goal

pub returns-clause-ends : goal.returns-clause-ends
returns-clause-ends g c = λ s ss m same struck midway. record {
  midway = ends-midway c.self.inside.clients.desk c.end_refused.new.self.desk c.args.client c.self.inside.clients.damage c.end_refused.new.self.damage c.end_refused.ensures.ends c.end_refused.ensures.marks
      c.end_refused.ensures.most _ _ c.self.inside.pointer s ss m same struck (rw (← c.self.view_is) at midway) c.forget.new.self c.forget.ensures;
  known = λ yes. absurd (true≢false (sym yes));
}

pub returns-clause-marks : goal.returns-clause-marks
returns-clause-marks g c = λ s ss m same struck midway.
    rw (← c.self.view_is) (ends-marked c.self.inside.clients.desk c.end_refused.new.self.desk c.args.client c.self.inside.clients.damage c.end_refused.new.self.damage c.end_refused.ensures.ends
    c.end_refused.ensures.marks c.end_refused.ensures.most _ _ c.self.inside.pointer s ss m same struck (rw (← c.self.view_is) at midway))

pub returns-clause-rests : goal.returns-clause-rests
returns-clause-rests g c = rw (← c.self.view_is) c.end_refused.ensures.rests

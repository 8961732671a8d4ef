use Rattle.wl_desk.specs.View.{no_latest}
use Rattle.wl_desk.proofs.Noting.{changed-nowhere, changed-set}
use Rattle.wl_desk.proofs.latest.forget.Goals as goal

pub returns-in_default : goal.returns-in_default
returns-in_default c = changed-nowhere (λ l. no_latest) c.args.client c.args.latest.now c.in_default.ensures.none

pub returns : goal.returns
returns c = changed-set (λ l. no_latest) c.args.client c.in-Some.k c.args.latest.now no_latest c.none.result c.in-Some.ensures.some c.none.ensures

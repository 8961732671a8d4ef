use Rattle.wl_desk.specs.Serials.{noted_by}
use Rattle.wl_desk.proofs.Noting.{changed-nowhere, changed-set}
use Rattle.wl_desk.proofs.latest.note.Goals as goal

pub returns-in_default : goal.returns-in_default
returns-in_default c = changed-nowhere (noted_by c.args.pressed c.args.serial) c.args.client c.args.latest.now c.in_default.ensures.none

pub returns : goal.returns
returns c =
    changed-set (noted_by c.args.pressed c.args.serial) c.args.client c.in-Some.k c.args.latest.now _ c.noted.result c.in-Some.ensures.some c.noted.ensures

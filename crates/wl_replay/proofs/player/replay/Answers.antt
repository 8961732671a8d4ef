use Rattle.wl_replay.proofs.Playing.{IfErr-at, IfOk-at}
use Rattle.wl_replay.proofs.Stages.{begun, is-first, some-first, stands-first}
use Rattle.wl_replay.proofs.player.replay.Goals as goal

pub returns-in-Ok-clause-played : goal.returns-in-Ok-clause-played
returns-in-Ok-clause-played g c =
    let new = c.in-Ok.ensures in
    IfOk-at c.play.result _ c.args.config c.in-Ok.session (begun c.args.config c.in-Ok.session) (is-first c.in-Ok.session c.args.config new.desk new.right new.width new.height new.background
    new.pixels new.damage)
    (stands-first c.in-Ok.session c.args.config new.desk new.right) c.play.ensures.played

pub returns-in-Ok-clause-stopped : goal.returns-in-Ok-clause-stopped
returns-in-Ok-clause-stopped g c =
    let new = c.in-Ok.ensures in
    IfErr-at c.play.result _ c.args.config c.in-Ok.session (begun c.args.config c.in-Ok.session) (is-first c.in-Ok.session c.args.config new.desk new.right new.width new.height new.background
    new.pixels new.damage)
    (stands-first c.in-Ok.session c.args.config new.desk new.right) c.play.ensures.stopped

pub returns-in-Err-clause-stopped : goal.returns-in-Err-clause-stopped
returns-in-Err-clause-stopped g c = let some = some-first c.args.config in (some.0, some.1, tt)

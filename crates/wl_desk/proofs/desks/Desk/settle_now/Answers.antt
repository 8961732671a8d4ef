use Rattle.wl_scene.specs.Focus.{action_of, target_or_none}
use Rattle.std.proofs.Common.{map}
use Rattle.wl_desk.proofs.Rounds.{settled-once}
use Rattle.wl_desk.proofs.desks.Desk.settle_now.Goals as goal

pub returns-clause-settles : goal.returns-clause-settles
returns-clause-settles g c = λ m midway.
    settled-once c.self.inside.clients.desk _ _ c.self.inside.pointer c.settle-actions.new.self (target_or_none c.seen-hit.result.0) c.seen-hit.result.1 (map action_of c.settle-actions.result.items)
    c.apply_all.new.self.desk (λ n at. c.seen-hit.ensures n (rw (← c.self.view_is) at)) c.settle-actions.ensures.acts c.settle-actions.ensures.keeps c.apply_all.ensures.told c.apply_all.ensures.pointer m
    (rw (← c.self.view_is) at midway)

use Rattle.wl_scene.specs.Focus.{target_of}
use Rattle.wl_desk.proofs.Begun.{over-forgets}
use Rattle.wl_desk.proofs.Forgetting.{lives-left}
use Rattle.wl_desk.proofs.Taking.{ended-status, lives-status}
use Rattle.wl_desk.proofs.desks.Desk.forget_of.Goals as goal

pub returns-in_default-status-clause-left : goal.returns-in_default-status-clause-left
returns-in_default-status-clause-left g c = rw (c.in-Some.is, ← c.self.view_is) (λ e kept.
    let t = target_of c.in-Some.surface in
    lives-left t e c.self.inside.pointer (lives-status t.client e c.status.result (c.status.ensures e kept) c.in_default-status.not-Ended))

pub returns-clause-left : goal.returns-clause-left
returns-clause-left g c = rw (c.in-Some.is, ← c.self.view_is) (λ e kept.
    over-forgets (target_of c.in-Some.surface) e c.in-Ended.field-0 c.self.inside.pointer c.forget.new.self c.forget.ensures
    (ended-status c.in-Some.surface.client e c.status.result c.in-Ended.field-0 (c.status.ensures e kept) c.in-Ended.is))

use Rattle.std.proofs.Common.{subst, sym}
use Rattle.wl_scene.specs.Focus.{target_or_none}
use Rattle.wl_clients.specs.Agreeing.{Agrees as KeptAgrees}
use Rattle.wl_clients.specs.View.{DeskView}
use Rattle.wl_desk.proofs.Forgetting.{all-left}
use Rattle.wl_desk.proofs.desks.Desk.forget_ended.Goals as goal

pub returns-clause-left : goal.returns-clause-left
returns-clause-left g c = λ old d e a same kept.
    all-left old d e a c.args.self.now.desk.pointer c.forget_of.new.self.desk.pointer c.forget_of-2.new.self.desk.pointer (target_or_none c.focus-focus.result) (target_or_none c.moved-moved.result)
    same (rw (← c.self.view_is) c.focus-focus.ensures) (c.forget_of.ensures.left e kept) (rw (← c.self-2.view_is) c.moved-moved.ensures)
    (c.forget_of-2.ensures.left e (subst (λ (v : DeskView). KeptAgrees v e) (sym c.forget_of.ensures.kept) kept))

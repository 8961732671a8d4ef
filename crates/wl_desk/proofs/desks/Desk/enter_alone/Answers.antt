use mir.Val.{SFits}
use Rattle.std.proofs.Common.{Some, [], refl, rules, true, w32, ◌∷◌}
use Rattle.std.proofs.lemmas.Int.{to_z-of_z}
use Rattle.wl_client.specs.declared.pointers.PointerEvent.TheVariants.{Enter}
use Rattle.wl_scene.specs.Focus.{target_of}
use Rattle.spec_desktop.specs.Changing.{drawing}
use Rattle.spec_desktop.specs.Replies.{entered_at, focus_window}
use Rattle.spec_desktop.specs.Stacked.{all_windows}
use Rattle.wl_desk.proofs.LatestStay.{keeps-noted}
use Rattle.wl_desk.proofs.Noting.{drawing-keeps}
use Rattle.wl_desk.proofs.Points.{point-there}
use Rattle.wl_desk.proofs.Telling.{enters-new-at, point-as, seen, tells-telling}
use Rattle.wl_desk.proofs.desks.Desk.enter_alone.Goals as goal

pub returns-in_default-clause-tells : goal.returns-in_default-clause-tells
returns-in_default-clause-tells g c = λ m telling stacked some.
    absurd (point-there (target_of c.args.target) (all_windows m.desktop) m.desktop.pointer.place stacked some (c.in_default.ensures m telling))

pub returns-clause-tells : goal.returns-clause-tells
returns-clause-tells g c = λ m telling stacked some.
    let fx : SFits w32 c.in-Some.x = search rules in
    let fy : SFits w32 c.in-Some.y = search rules in
    tells-telling (Enter c.args.target.surface _ _) (c.args.pointer ∷ []) c.args.target.client (seen c.self.inside.clients.desk _ _ c.self.inside.pointer)
    (seen c.tell.new.self.desk _ _ c.self.inside.pointer) c.tell.ensures.tells refl refl (drawing true)
    (λ r. entered_at c.args.pointer r.peer.serial m.desktop.pointer.place (focus_window (Some (target_of c.args.target)) (all_windows m.desktop))) m (rw (← c.self.view_is) at telling)
    (keeps-noted _ _ c.args.target.client (drawing true) _ (drawing-keeps true) refl)
    (λ r there lives. enters-new-at (target_of c.args.target) (all_windows m.desktop) m _ _ refl
    (point-as _ _ c.in-Some.x c.in-Some.y _ (to_z-of_z w32 c.in-Some.x fx) (to_z-of_z w32 c.in-Some.y fy) (c.in-Some.ensures m telling)) c.args.pointer r)

pub returns-clause-rests : goal.returns-clause-rests
returns-clause-rests g c = rw (← c.self.view_is) c.tell.ensures.rests

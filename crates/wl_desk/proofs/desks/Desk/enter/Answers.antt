use mir.Val.{SFits}
use Rattle.std.proofs.Common.{List, None, Some, rules, subst, sym, w32, ◌≡◌}
use Rattle.std.proofs.lemmas.Int.{to_z-of_z}
use Rattle.wl_scene.specs.Focus.{target_of}
use Rattle.spec_desktop.specs.Windows.{Window}
use Rattle.spec_desktop.specs.Replies.{focus_window}
use Rattle.spec_desktop.specs.Pointing.{entered_surface}
use Rattle.spec_desktop.specs.Settling.{told_drawn}
use Rattle.wl_desk.specs.Points.{point_told}
use Rattle.wl_desk.proofs.Noting.{drawing-keeps}
use Rattle.wl_desk.proofs.Points.{point-there}
use Rattle.wl_desk.proofs.Telling.{enters-at, point-as}
use Rattle.wl_desk.proofs.desks.Desk.enter.Goals as goal

pub returns-in_default-clause-tells : goal.returns-in_default-clause-tells
returns-in_default-clause-tells g c = λ ws m telling same stacked some.
    absurd (point-there (target_of c.args.target) ws m.desktop.pointer.place stacked some
    (subst (λ (vs : List Window). None ≡ point_told m.desktop.pointer.place (focus_window (Some (target_of c.args.target)) vs)) (sym same) (c.in_default.ensures m telling)))

pub returns-clause-tells : goal.returns-clause-tells
returns-clause-tells g c = λ ws m telling same stacked some.
    let fx : SFits w32 c.in-Some.x = search rules in
    let fy : SFits w32 c.in-Some.y = search rules in
    c.tell.ensures.tells told_drawn (entered_surface m.desktop.pointer.place (focus_window (Some (target_of c.args.target)) ws)) m telling
    (enters-at (target_of c.args.target) ws m _ _ same (point-as _ _ c.in-Some.x c.in-Some.y _ (to_z-of_z w32 c.in-Some.x fx) (to_z-of_z w32 c.in-Some.y fy) (c.in-Some.ensures m telling)))
    (λ r. drawing-keeps _ r)

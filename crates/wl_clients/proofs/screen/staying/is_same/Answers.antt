use Rattle.std.proofs.Common.{rules}
use Rattle.std.proofs.lemmas.Bool.Decides.{Decides-at, Decides-eqb, Decides-int_eq, same_from_decides}
use Rattle.wl_scene.specs.Repaint.{is_same_window}
use Rattle.wl_scene.proofs.Same.{fields-Decide, window-Decides}
use Rattle.wl_clients.proofs.screen.staying.is_same.Goals as goal

pub returns : goal.returns
returns c =
    let w = c.args.window.now in
    let v = c.args.other.now in
    same_from_decides c.eq.result (is_same_window w v)
    (Decides-at c.eq.result _ c.eq.ensures
    (fields-Decide w v _ _ _ _ _ _ _ _ (Decides-eqb w.surface v.surface) (Decides-eqb w.root v.root) (Decides-int_eq w.x v.x) (Decides-int_eq w.y v.y) (Decides-eqb w.w v.w)
    (Decides-eqb w.h v.h) (λ e. search rules, λ e. search rules) (Decides-eqb w.scale v.scale)))
    (window-Decides w v)

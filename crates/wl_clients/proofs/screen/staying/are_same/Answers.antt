use Rattle.std.proofs.Common.{refl, rules}
use Rattle.std.proofs.lemmas.Bool.Decides.{Decides-eqb, Decides-int_eq, same_from_decides}
use Rattle.std.proofs.lemmas.Slice.Eq.{slice_eq-Decides}
use Rattle.wl_scene.specs.Repaint.{same_windows}
use Rattle.wl_scene.proofs.Same.{fields-Decide, window-Decides}
use Rattle.wl_clients.proofs.screen.staying.are_same.Goals as goal

pub returns : goal.returns
returns c =
    same_from_decides c.eq.result (same_windows c.args.was.now c.args.is.now)
    (slice_eq-Decides (λ w v. fields-Decide w v _ _ _ _ _ _ _ _ (Decides-eqb w.surface v.surface) (Decides-eqb w.root v.root) (Decides-int_eq w.x v.x) (Decides-int_eq w.y v.y) (Decides-eqb w.w v.w)
    (Decides-eqb w.h v.h) (λ e. search rules, λ e. search rules) (Decides-eqb w.scale v.scale)) _ _ _ c.eq.ensures)
    (slice_eq-Decides window-Decides c.args.was.now c.args.is.now _ refl)

use Rattle.std.proofs.Common.{◌<◌, ℕ, ap, sym, subst, ◌∙◌, arith}
use Rattle.std.proofs.lemmas.Result.{on_ok_weaker}
use Rattle.std.specs.Io.KnownBytes.{Appends}
use Rattle.std.proofs.KnownBytes.{Appends-nil}
use Rattle.wl_recording.specs.Text.{frame_line}
use Rattle.wl_session.specs.Damage.{Damaged, count_points, has}
use Rattle.wl_session.specs.Frame.{Image}
use Rattle.wl_session.specs.Image.{image_of}
use Rattle.wl_recording.specs.Images.{images_in}
use Rattle.wl_server.proofs.Telling.{ok-kept, on-ok-kept, painted-none, painted-some}
use Rattle.wl_server.proofs.showing.show_frame.Goals as goal

pub returns-then-count-eq0-clause-course : goal.returns-then-count-eq0-clause-course
returns-then-count-eq0-clause-course g c = c.tick-frame.follows.holds-at-none.2

pub returns-in_err-map_err-clause-course : goal.returns-in_err-map_err-clause-course
returns-in_err-map_err-clause-course g c = c.tick-frame.follows.holds-at-none.2

pub returns-clause-course : goal.returns-clause-course
returns-clause-course g c = c.tick-frame.follows.holds-at-none.2

-- ---- what is told

pub returns-then-count-eq0-clause-told : goal.returns-then-count-eq0-clause-told
returns-then-count-eq0-clause-told g c =
    let damage = c.tick-frame.ensures.damage in
    let counts = c.count-count.ensures ∙ ap (λ (m : Damaged). count_points m.width m.height (has m)) damage in
    λ d e agrees. (
      subst (Appends (g.W.Write.contents c.args.report.now) (g.W.Write.contents c.args.report.now)) (sym (painted-none _ _ (sym counts ∙ c.if-count-eq0.true))) (Appends-nil _),
      subst (Appends (images_in g.P.Write.contents c.args.ppm.now) (images_in g.P.Write.contents c.args.ppm.now)) (sym (painted-none _ _ (sym counts ∙ c.if-count-eq0.true))) (Appends-nil _),
    )

pub returns-clause-told : goal.returns-clause-told
returns-clause-told g c =
    let wrote = ok-kept c.write_frame.result c.map_err.result _ _ c.write_frame.ensures c.map_err.ensures.variant c.in_ok-map_err.was in
    let next = c.tick-frame.follows.holds-at-none in
    let counts = c.count-count.ensures ∙ ap (λ (m : Damaged). count_points m.width m.height (has m)) c.tick-frame.ensures.damage in
    let some : 0 < c.count-count.result = omega arith in
    on-ok-kept c.write_image.result c.map_err-2.result _
    (on_ok_weaker c.write_image.result
    (λ shown d e agrees. (
      subst (Appends (g.W.Write.contents c.args.report.now) (g.W.Write.contents c.write_frame.new.writer)) (sym (painted-some _ _ (subst (λ (n : ℕ). 0 < n) counts some)))
          (subst (λ (n : ℕ). Appends (g.W.Write.contents c.args.report.now) (g.W.Write.contents c.write_frame.new.writer) (frame_line c.args.time n)) counts wrote),
      subst (Appends (images_in g.P.Write.contents c.args.ppm.now) (images_in g.P.Write.contents c.write_image.new.ppm)) (sym (painted-some _ _ (subst (λ (n : ℕ). 0 < n) counts some)))
          (subst (λ (i : Image). Appends (images_in g.P.Write.contents c.args.ppm.now) (images_in g.P.Write.contents c.write_image.new.ppm) (image_of i.width i.height i.pixels)) (sym next.1) shown),
    ))
    c.write_image.ensures)
    c.map_err-2.ensures.variant

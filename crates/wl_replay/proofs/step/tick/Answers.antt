use Rattle.std.proofs.Common.{◌≡◌, ℕ, refl, ap, sym, subst, ◌∙◌}
use Rattle.std.proofs.lemmas.Result.{on_ok_weaker}
use Rattle.std.specs.Io.KnownBytes.{Appends}
use Rattle.spec_desktop.specs.Act.{Tick}
use Rattle.spec_desktop.specs.declared.answers.Done.TheVariants as gave
use Rattle.wl_session.specs.Damage.{Damaged, count_points, has}
use Rattle.wl_session.specs.Frame.{Image}
use Rattle.wl_session.specs.Image.{image_of}
use Rattle.wl_recording.specs.Text.{frame_line}
use Rattle.wl_recording.specs.Images.{images_in}
use Rattle.wl_replay.specs.Told.{Stage}
use Rattle.wl_replay.proofs.Outcomes.{ok_kept, on_ok_kept}
use Rattle.wl_replay.proofs.Stages.{after, seen-on, stands-on, steps-on}
use Rattle.wl_replay.proofs.step.tick.Goals as goal

pub returns-clause-told : goal.returns-clause-told
returns-clause-told g c =
    let wrote = ok_kept c.write_frame.result c.map_err.result _ _ c.write_frame.ensures c.map_err.ensures.variant c.in_ok-map_err.was in
    let next = c.tick-frame.follows.holds-at-none in
    on_ok_kept c.write_image.result c.map_err-2.result _
    (on_ok_weaker c.write_image.result
    (λ shown. λ old stands.
    let course = next.2 old.now.desktop stands.desk in
    let damage : c.tick-frame.result.damage.now ≡ old.now.damage = c.tick-frame.ensures.damage ∙ stands.damage in
    let new : Stage = after (Tick c.args.time) gave.Tick _ _ old course in (
      new,
      record {
        text = frame_line c.args.time (count_points old.now.damage.width old.now.damage.height (has old.now.damage));
        images = image_of new.now.frame.width new.now.frame.height new.now.frame.pixels;
        frames = 1;
        clients = 0;
      },
      (steps-on (Tick c.args.time) gave.Tick _ _ old stands course, seen-on c.args.time _ _ old stands course, refl),
      stands-on (Tick c.args.time) gave.Tick _ _ old stands course,
      subst (λ (n : ℕ). Appends (g.W.Write.contents c.args.writer.now) (g.W.Write.contents c.write_frame.new.writer) (frame_line c.args.time n))
          (c.count-count.ensures ∙ ap (λ (m : Damaged). count_points m.width m.height (has m)) damage) wrote,
      (
        subst (λ (i : Image). Appends (images_in g.P.Write.contents c.args.ppm.now) (images_in g.P.Write.contents c.write_image.new.ppm) (image_of i.width i.height i.pixels)) (sym next.1) shown,
        refl,
        refl,
      ),
    ))
    c.write_image.ensures)
    c.map_err-2.ensures.variant

use Rattle.std.proofs.Common.{refl}
use Rattle.spec_desktop.specs.Act.{Tick}
use Rattle.spec_desktop.specs.declared.answers.Done.TheVariants as gave
use Rattle.wl_server.specs.Watching.{Shows}
use Rattle.wl_server.proofs.Histories.{on-ok, recorded-on}
use Rattle.wl_server.proofs.Telling.{Tells-looking, tells-tick}
use Rattle.wl_server.proofs.viewed.show_viewed.Goals as goal

pub invariant_of-recorded : goal.invariant_of-recorded
invariant_of-recorded g c =
    recorded-on g.R.Write.contents (Tick c.args.time) gave.Tick c.recorded.inside.session c.show_viewed_frame.new.session c.recorded.inside.recording c.settle.new.recording c.note_tick.new.recording
    c.recorded.invariant c.settle.ensures c.note_tick.ensures c.show_viewed_frame.ensures.course

pub invariant_of-recorded-2 : goal.invariant_of-recorded-2
invariant_of-recorded-2 g c =
    recorded-on g.R.Write.contents (Tick c.args.time) gave.Tick c.recorded.inside.session c.show_viewed_frame.new.session c.recorded.inside.recording c.settle.new.recording c.note_tick.new.recording
    c.recorded.invariant c.settle.ensures c.note_tick.ensures c.show_viewed_frame.ensures.course

pub returns-clause-told : goal.returns-clause-told
returns-clause-told g c =
    let told = c.in_ok-show_viewed_frame.ensures.told in
    rw (← c.recorded.view_is) (on-ok c.flush.result (
      told.0,
      Tells-looking (Shows c.args.time told.0 c.args.place.now c.show_viewed_frame.new.place) _ _ _ _ _ _ _ c.flush.ensures.kept c.flush.ensures.noted
          (tells-tick (Shows c.args.time told.0 c.args.place.now c.show_viewed_frame.new.place) c.args.time c.recorded.inside.session c.show_viewed_frame.new.session
          c.recorded.inside.recording c.settle.new.recording c.note_tick.new.recording _ _ _ _
          c.settle.ensures c.note_tick.ensures c.show_viewed_frame.ensures.course (λ d e es. (refl, told.1)) told.2),
    ))

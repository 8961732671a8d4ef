use Rattle.std.proofs.Common.{refl}
use Rattle.spec_desktop.specs.Act.{Tick}
use Rattle.spec_desktop.specs.declared.answers.Done.TheVariants as gave
use Rattle.wl_server.specs.Phases.{Shows}
use Rattle.wl_server.proofs.Histories.{on-ok, recorded-on}
use Rattle.wl_server.proofs.Taking.{Takes-looking}
use Rattle.wl_server.proofs.Telling.{Tells-looking, shows-tick, tells-tick}
use Rattle.wl_server.proofs.showing.show.Goals as goal

pub invariant_of-recorded : goal.invariant_of-recorded
invariant_of-recorded g c =
    recorded-on g.R.Write.contents (Tick c.args.time) gave.Tick c.recorded.inside.session c.show_frame.new.session c.recorded.inside.recording c.settle.new.recording c.note_tick.new.recording
    c.recorded.invariant c.settle.ensures c.note_tick.ensures c.show_frame.ensures.course

pub invariant_of-recorded-2 : goal.invariant_of-recorded-2
invariant_of-recorded-2 g c =
    recorded-on g.R.Write.contents (Tick c.args.time) gave.Tick c.recorded.inside.session c.show_frame.new.session c.recorded.inside.recording c.settle.new.recording c.note_tick.new.recording
    c.recorded.invariant c.settle.ensures c.note_tick.ensures c.show_frame.ensures.course

pub returns-in_err-show_frame-clause-taken : goal.returns-in_err-show_frame-clause-taken
returns-in_err-show_frame-clause-taken g c =
    rw (← c.recorded.view_is) (shows-tick c.args.time c.recorded.inside.session c.show_frame.new.session c.recorded.inside.recording c.settle.new.recording c.note_tick.new.recording
    c.settle.ensures c.note_tick.ensures c.show_frame.ensures.course)

pub returns-clause-taken : goal.returns-clause-taken
returns-clause-taken g c =
    rw (← c.recorded.view_is) (Takes-looking (Shows c.args.time) _ _ _ c.flush.ensures.kept c.flush.ensures.noted
    (shows-tick c.args.time c.recorded.inside.session c.show_frame.new.session c.recorded.inside.recording c.settle.new.recording c.note_tick.new.recording
    c.settle.ensures c.note_tick.ensures c.show_frame.ensures.course))

pub returns-clause-told : goal.returns-clause-told
returns-clause-told g c =
    rw (← c.recorded.view_is) (on-ok c.flush.result (Tells-looking (Shows c.args.time) _ _ _ _ _ _ _ c.flush.ensures.kept c.flush.ensures.noted
    (tells-tick (Shows c.args.time) c.args.time c.recorded.inside.session c.show_frame.new.session c.recorded.inside.recording c.settle.new.recording c.note_tick.new.recording _ _ _ _
    c.settle.ensures c.note_tick.ensures c.show_frame.ensures.course (λ d e es. refl) c.in_ok-show_frame.ensures.told)))

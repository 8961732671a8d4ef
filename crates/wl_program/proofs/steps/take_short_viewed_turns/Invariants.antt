use Rattle.std.proofs.Common.{◌≡◌}
use Rattle.wl_recording.specs.Side.{files_of}
use Rattle.wl_server.specs.Acting.{InTurn}
use Rattle.wl_recording.specs.Images.{images_in}
use Rattle.wl_server.specs.Telling.{Tells}
use Rattle.wl_server.specs.Ways.{serving, ways}
use Rattle.wl_program.proofs.Stepped.{ShortViewed}
use Rattle.wl_program.proofs.steps.take_short_viewed_turns.Given as goal

-- so many short turns were taken, and told of
abbrev pub invariant-loop-taken : goal.invariant-loop-taken
invariant-loop-taken g l = record {
  tells : Tells g.R.Write.contents (InTurn (ShortViewed (ways g.H.Hub.accepts g.H.Hub.reads g.H.Hub.writes g.H.Hub.closes g.H.Hub.fault_count) (ways g.V.Hub.accepts g.V.Hub.reads g.V.Hub.writes g.V.Hub.closes g.V.Hub.fault_count) (files_of g.S.SideFiles.opens g.S.SideFiles.gives g.S.SideFiles.fault_count) l.time l.fn.viewing.width l.fn.viewing.height) l.taken
      (serving l.fn.service.hub l.fn.connections l.fn.service.side l.fn.service.waiting, (l.fn.viewing.hub, l.fn.viewing.watcher))
      (serving l.service.hub l.connections l.service.side l.service.waiting, (l.viewing.hub, l.viewing.watcher)))
      l.fn.service.recorded l.service.recorded (g.W.Write.contents l.fn.report) (g.W.Write.contents l.report)
      (images_in g.P.Write.contents l.fn.ppm) (images_in g.P.Write.contents l.ppm);
  width : l.viewing.width ≡ l.fn.viewing.width;
  height : l.viewing.height ≡ l.fn.viewing.height;
}

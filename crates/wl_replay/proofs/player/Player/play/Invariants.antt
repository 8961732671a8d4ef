use Rattle.std.proofs.Common.{◌≤◌}
use Rattle.wl_recording.specs.Images.{images_in}
use Rattle.wl_recording.specs.Side.{files_of}
use Rattle.wl_replay.specs.Told.{Stage, Stands}
use Rattle.wl_replay.proofs.Playing.{PlayedTo}
use Rattle.wl_replay.proofs.player.Player.play.Given as goal

-- as many lines were played as were counted
abbrev pub invariant-loop-lines : goal.invariant-loop-lines
invariant-loop-lines g l = record {
  played : (first : Stage) → Stands l.fn.self.session first
      → PlayedTo (files_of g.S.SideFiles.opens g.S.SideFiles.gives g.S.SideFiles.fault_count) first l.fn.side l.side l.self.session (g.R.Read.remaining l.fn.reader) (g.R.Read.remaining l.reader)
      (g.W.Write.contents l.fn.writer) (g.W.Write.contents l.writer) (images_in g.P.Write.contents l.fn.ppm) (images_in g.P.Write.contents l.ppm)
      l.lines l.frames l.clients;
  few_frames : l.frames ≤ l.lines;
  few_clients : l.clients ≤ l.lines;
}

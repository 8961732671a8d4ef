use Rattle.std.proofs.Common.{◌≤◌, subst}
use Rattle.wl_recording.specs.Line.{meaning}
use Rattle.wl_recording.specs.Recording.{Recording}
use Rattle.wl_recording.proofs.Recordings.{holds-full, ok-last, ok-more}
use Rattle.wl_recording.proofs.recorder.Recorder.record.Goals as goal

pub returns-then-self-ge-MAX_LINES : goal.returns-then-self-ge-MAX_LINES
returns-then-self-ge-MAX_LINES g c = λ first asked holds.
    let full : 1000000 ≤ c.args.self.now.lines = subst (λ (r : Recording g.row.W.Denot). 1000000 ≤ r.lines) c.self.view_is c.if-self-ge-MAX_LINES.true in
    holds-full 1000000 g.W.Write.contents first asked (meaning c.args.piece.now c.args.line.now) c.args.self.now holds full

pub returns-then-self-eq-MAX_LINES : goal.returns-then-self-eq-MAX_LINES
returns-then-self-eq-MAX_LINES g c =
    ok-last c.write_last_line.result 1000000 g.W.Write.contents (meaning c.args.piece.now c.args.line.now) c.args.self.now c.self.inside.lines c.self.inside.writer _ c.self.view_is
    c.if-self-eq-MAX_LINES.true c.write_last_line.ensures

pub returns-else-self-eq-MAX_LINES : goal.returns-else-self-eq-MAX_LINES
returns-else-self-eq-MAX_LINES g c =
    ok-more c.write_line.result 1000000 g.W.Write.contents (meaning c.args.piece.now c.args.line.now) c.args.self.now c.self.inside.lines c.self.inside.writer _ c.self.view_is
    c.if-self-ge-MAX_LINES.false c.if-self-eq-MAX_LINES.false c.write_line.ensures

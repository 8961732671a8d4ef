use Rattle.std.proofs.Common.{subst, take}
use Rattle.std.specs.Io.BufRead.{FillKeeps}
use Rattle.std.proofs.BufReadLemmas.{Consumes_shown}
use Rattle.wl_recording.proofs.LineEnds.{taken_by}
use Rattle.wl_recording.proofs.lines.take_part.Goals as goal

pub returns-clause-taken : goal.returns-clause-taken
returns-clause-taken g c =
    let shown = c.in-Ok.available.now in
    let end = c.end_of-end in
    let kept = c.kept_of-kept in
    let rested = c.fill_buf.follows.lender-at-none in
    let filled = subst (FillKeeps _ (g.R.Read.remaining rested) (g.R.BufRead.consumable_len rested)) c.in-Ok.is c.fill_buf.follows.holds-at-none in
    let moved = Consumes_shown _ _ _ _ shown end.result end.ensures.within c.in-Ok.ensures.front c.in-Ok.ensures.end filled.0 filled.1 c.consume.ensures.bytes in
    let taken = taken_by c.part_of-part.result _ _ shown end.result kept.result c.part_of-part.ensures kept.ensures end.ensures.within end.ensures.some end.ensures.before moved.0 moved.1 in
    (take kept.result shown, c.in_ok-append.ensures.items, taken.0, taken.1)

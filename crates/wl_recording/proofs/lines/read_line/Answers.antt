use Rattle.std.proofs.Common.{subst, arith}
use Rattle.wl_recording.specs.declared.lines.Part.{Part}
use Rattle.wl_recording.specs.Lines.{IsTaken}
use Rattle.wl_recording.proofs.LineEnds.{took_line, too_long}
use Rattle.wl_recording.proofs.lines.read_line.Goals as goal

pub returns-in-LineFeed-clause-taken : goal.returns-in-LineFeed-clause-taken
returns-in-LineFeed-clause-taken g c = λ answer.
    let t = c.in_ok-take_part.ensures.taken in
    let old = g.R.Read.remaining c.args.reader.now in
    let mid = g.R.Read.remaining c.loop.reader in
    let new = g.R.Read.remaining c.take_part.new.reader in
    let taken = subst (λ (p : Part). IsTaken p mid new t.0) c.in-LineFeed.is t.3 in
    took_line old mid new c.loop.line.items t.0 c.take_part.new.line.items c.loop.invariant.taken c.loop.invariant.plain t.2 t.1 taken

pub returns-then-len-gt-LINE_LIMIT-clause-long : goal.returns-then-len-gt-LINE_LIMIT-clause-long
returns-then-len-gt-LINE_LIMIT-clause-long g c = λ answer.
    let t = c.in_ok-take_part.ensures.taken in
    let old = g.R.Read.remaining c.args.reader.now in
    let mid = g.R.Read.remaining c.loop.reader in
    let new = g.R.Read.remaining c.take_part.new.reader in
    let taken = subst (λ (p : Part). IsTaken p mid new t.0) c.in-More.is t.3 in
    too_long 140000 old mid new c.loop.line.items t.0 c.take_part.new.line.items c.loop.invariant.taken c.loop.invariant.plain t.2 t.1 taken (omega arith)

-- The lines are read one after another.
use Rattle.std.proofs.Common.{rules, refl, subst}
use Rattle.std.proofs.lemmas.Result.{err_from_is_err_and}
use Rattle.wl_program.specs.Pointing.{IsNextLine}
use Rattle.wl_program.specs.Pointing.ReadsPointer.{none}
use Rattle.wl_program.proofs.PointerLines.{lines-fail, lines-more}
use Rattle.wl_program.proofs.pointing.read_lines.Goals as goal

pub loop-before-init : goal.loop-before-init
loop-before-init g c = rw c.new-lines.ensures.items (record { reads = none; count = refl })

pub returns-in_err-line-clause-failed : goal.returns-in_err-line-clause-failed
returns-in_err-line-clause-failed g c =
    let p = err_from_is_err_and c.from_residual.result c.from_residual.ensures.1 in
    rw (p.1, p.2) (lines-fail _ _ _ _ _ c.loop-before.invariant.reads c.loop-before.invariant.count c.in_err-line.ensures.failed)

pub returns-in_err-map_err-in-Some-clause-failed :
    goal.returns-in_err-map_err-in-Some-clause-failed
returns-in_err-map_err-in-Some-clause-failed g c =
    let p = err_from_is_err_and c.from_residual-in_err-map_err-in-Some.result c.from_residual-in_err-map_err-in-Some.ensures.1 in
    rw (p.1, p.2) (lines-fail _ _ _ _ _ c.loop-before.invariant.reads c.loop-before.invariant.count (search rules))

pub loop-before-preserved : goal.loop-before-preserved
loop-before-preserved g c = record {
  reads = lines-more _ _ _ _ _ c.in-Some.line c.loop-before.invariant.reads
      (subst (IsNextLine (g.R.Read.remaining c.loop-before.reader) (g.R.Read.remaining c.next_line.new.reader)) c.in-Some.is c.in_ok-line.ensures.ok) (search rules);
  count = search rules;
}

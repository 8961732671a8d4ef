-- A line is what the pointer's file has next.
use Rattle.std.proofs.Common.{refl, ap, Ok}
use Rattle.wl_program.proofs.PointerLines.{line-is-bad, line-is-taken}
use Rattle.wl_program.proofs.pointing.next_line.Goals as goal

pub returns-in-Bad-clause-failed : goal.returns-in-Bad-clause-failed
returns-in-Bad-clause-failed g c =
    (refl, line-is-bad _ _ c.read_text.new.text.items c.deref.result.now _ (c.in_ok-read_text.ensures.taken (ap Ok c.if-not-branch.false)) c.deref.ensures.value c.pointer_line.ensures c.in-Bad.is)

pub returns-in_default : goal.returns-in_default
returns-in_default g c = record {
  ok = line-is-taken _ _ c.read_text.new.text.items c.deref.result.now _ (c.in_ok-read_text.ensures.taken (ap Ok c.if-not-branch.false)) c.in_ok-read_text.ensures.short c.deref.ensures.value c.pointer_line.ensures
      c.in_default.not-Bad;
  failed = tt;
}

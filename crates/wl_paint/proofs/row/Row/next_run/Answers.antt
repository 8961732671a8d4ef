use Rattle.std.proofs.Common.{◌≡◌, ap, length, arith}
use Rattle.wl_paint.specs.Damage.{marked}
use Rattle.wl_paint.specs.Words.{is_marked, marks_from}
use Rattle.wl_paint.proofs.MarkedWords.{GivesRun-same, length-marks_from, marked-row_words, none_marked}
use Rattle.wl_paint.proofs.row.Row.next_run.Goals as goal

pub returns-then-self-eq0 : goal.returns-then-self-eq0
returns-then-self-eq0 g c =
    rw (← c.self.view_is) (λ k l h. none_marked c.self.inside.words.items c.self.inside.width c.self.inside.count c.self.invariant.0 (omega arith) k)

pub run_from-requires-clause-narrow : goal.run_from-requires-clause-narrow
run_from-requires-clause-narrow g c =
    let wide : length c.args.self.now ≡ c.self.inside.width = rw (← c.self.view_is) (length-marks_from c.self.inside.words.items 0 c.self.inside.width) in
    omega (arith, wide, ap length c.deref.ensures.value, c.requires, c.self.invariant.0.tight)

pub returns : goal.returns
returns g c =
    let words = c.self.inside.words.items in
    let width = c.self.inside.width in
    let run = (rw c.deref.ensures.value at c.run_from.ensures) in
    rw (← c.self.view_is, length-marks_from words 0 width)
    (GivesRun-same (is_marked words) (marked (marks_from words 0 width)) width c.args.from c.run_from.result (λ k. marked-row_words words width k c.self.invariant.0.clear) run)

use Rattle.std.proofs.Common.{◌<◌, ◌≤◌, ◌∙◌, [], ap, arith, length, refl}
use Rattle.std.proofs.lemmas.List.{get_or_default}
use Rattle.wl_paint.proofs.MarkedRows.{cleared-all, cleared-row, width-row}
use Rattle.wl_paint.proofs.damage.clear_rows.Goals as goal

pub loop-row-init : goal.loop-row-init
loop-row-init g c = record { empty = λ x y h. absurd (omega (arith, h)); widths = λ y. refl }

pub loop-row-preserved : goal.loop-row-preserved
loop-row-preserved g c =
    let rows = c.loop-row.rows in
    let i = c.loop-row.row-index in
    let within : i < length rows = omega arith in
    record {
      empty = cleared-row rows c.clear.new.self i within c.clear.ensures.empty c.loop-row.invariant.empty;
      widths = width-row c.args.rows.now rows c.clear.new.self i within (c.clear.ensures.width ∙ ap length (get_or_default rows i c.row-item.result [] within)) c.loop-row.invariant.widths;
    }

pub returns-clause-empty : goal.returns-clause-empty
returns-clause-empty g c =
    let all : length c.loop-row.rows ≤ c.loop-row.row-index = omega arith in
    cleared-all c.loop-row.rows c.loop-row.row-index all c.loop-row.invariant.empty

pub returns-clause-widths : goal.returns-clause-widths
returns-clause-widths g c = c.loop-row.invariant.widths

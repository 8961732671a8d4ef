use Rattle.std.proofs.Common.{arith, refl, ◌≡◌, ◌<◌, ◌∙◌, ◌||◌, ap, length, get_or, Bool, List, []}
use Rattle.std.proofs.lemmas.List.{get_or_default}
use Rattle.wl_paint.specs.Damage.{is_between, marked}
use Rattle.wl_paint.proofs.Clips.{is_between-none}
use Rattle.wl_paint.proofs.MarkedRows.{marked-all, marked-row, width-read, width-row}
use Rattle.wl_paint.proofs.damage.mark_rows.Goals as goal

pub loop-y-preserved : goal.loop-y-preserved
loop-y-preserved g c =
    let rows = c.loop-y.rows in
    let y = c.loop-y.y in
    let old = c.index-rows-y.result in
    let within : y < length rows = omega arith in
    let same : get_or rows y old ≡ get_or rows y [] = get_or_default rows y old [] within in
    record {
      points = marked-row c.args.rows.now rows c.add.new.self c.args.left c.args.right c.args.top y within (omega arith) c.loop-y.invariant.points
          (λ x. c.add.ensures.points x ∙ ap (λ (r : List Bool). marked r x || is_between c.args.left c.args.right x) same);
      widths = width-row c.args.rows.now rows c.add.new.self y within (c.add.ensures.width ∙ ap length same) c.loop-y.invariant.widths;
    }

pub loop-y-init : goal.loop-y-init
loop-y-init g c = record {
  points = λ x k. is_between-none (marked (get_or c.args.rows.now k []) x) (is_between c.args.left c.args.right x) c.args.top k;
  widths = λ k. refl;
}

pub add-requires-clause-order : goal.add-requires-clause-order
add-requires-clause-order g c = c.requires.columns

pub add-requires-clause-within : goal.add-requires-clause-within
add-requires-clause-within g c =
    let rows = c.loop-y.rows in
    let y = c.loop-y.y in
    let low : y < length c.args.rows.now = omega arith in
    let within : y < length rows = omega arith in
    rw (width-read c.args.rows.now rows c.index-rows-y.result y within c.loop-y.invariant.widths) (c.requires.wide y low)

pub add-requires-clause-narrow : goal.add-requires-clause-narrow
add-requires-clause-narrow g c =
    let rows = c.loop-y.rows in
    let y = c.loop-y.y in
    let low : y < length c.args.rows.now = omega arith in
    let within : y < length rows = omega arith in
    rw (width-read c.args.rows.now rows c.index-rows-y.result y within c.loop-y.invariant.widths) (c.requires.narrow y low)

pub returns-clause-points : goal.returns-clause-points
returns-clause-points g c =
    let last : c.loop-y.y ≡ c.args.bottom = omega arith in
    marked-all c.args.rows.now c.loop-y.rows c.args.left c.args.right c.args.top c.loop-y.y c.args.bottom last c.loop-y.invariant.points

pub returns-clause-widths : goal.returns-clause-widths
returns-clause-widths g c = c.loop-y.invariant.widths

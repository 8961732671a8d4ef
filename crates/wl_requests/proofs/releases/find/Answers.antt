use Rattle.std.proofs.Common.{List, ap, arith, eq-eqb, length, map, sym, ◌∙◌, ◌≤◌}
use Rattle.std.specs.Prelude.{find}
use Rattle.std.proofs.lemmas.Bool.{ne_eqb}
use Rattle.std.proofs.lemmas.List.{length-map, take_all}
use Rattle.wl_surface.specs.Kept.{buffer_of}
use Rattle.wl_surface.specs.Request.{Buffer}
use Rattle.wl_requests.proofs.Letting.{find-here, find-past, has}
use Rattle.wl_requests.proofs.releases.find.Goals as goal

pub returns-then-buffer-number : goal.returns-then-buffer-number
returns-then-buffer-number c =
    sym (find-here c.args.shown.now c.args.number c.loop-buffer.buffer-index c.buffer-item.result c.loop-buffer-test.true c.buffer-item.is
    (eq-eqb c.buffer-item.result.number c.args.number c.if-buffer-number.true) c.loop-buffer.invariant)

pub loop-buffer-preserved : goal.loop-buffer-preserved
loop-buffer-preserved c =
    find-past c.args.shown.now c.args.number c.loop-buffer.buffer-index c.buffer-item.result c.loop-buffer-test.true c.buffer-item.is
    (ne_eqb c.buffer-item.result.number c.args.number c.if-buffer-number.false) c.loop-buffer.invariant

pub returns : goal.returns
returns c =
    let shown = map buffer_of c.args.shown.now in
    let same = length-map c.args.shown.now buffer_of in
    let past = c.loop-buffer-test.false in
    let most : length shown ≤ c.loop-buffer.buffer-index = omega (arith, same, past) in
    sym c.loop-buffer.invariant ∙ ap (λ (bs : List Buffer). find (has c.args.number) bs) (take_all c.loop-buffer.buffer-index shown most)

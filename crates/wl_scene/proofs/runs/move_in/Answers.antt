use Rattle.std.proofs.Common.{◌≡◌, ◌+◌, ◌++◌, ℕ, List, ap, drop, map, subst, sym, take, ◌∙◌}
use Rattle.wl_scene.specs.declared.stacked.Stacked.{Stacked}
use Rattle.wl_scene.specs.Stacked.{AreTogether, is_of, replaced, stacked}
use Rattle.wl_scene.proofs.StackedTogether.{place-none}
use Rattle.wl_scene.proofs.Kept.{together-replaced}
use Rattle.wl_scene.proofs.Written.{run-counted, run-over}
use Rattle.wl_scene.proofs.runs.move_in.Goals as goal

pub returns-in_default-clause-moved : goal.returns-in_default-clause-moved
returns-in_default-clause-moved c = λ same.
    sym (place-none (is_of c.args.client c.args.toplevel) (map (stacked c.args.client c.args.toplevel) c.args.windows.now) c.args.all.now c.in_default.ensures)

pub returns-then-windows-run-clause-together : goal.returns-then-windows-run-clause-together
returns-then-windows-run-clause-together c =
    let start = c.in-Some.run'.start in
    let new = map (stacked c.args.client c.args.toplevel) c.args.windows.now in
    let moved : c.write_over.new.all ≡ replaced c.args.client c.args.toplevel c.args.windows.now c.args.all.now =
    run-over (is_of c.args.client c.args.toplevel) start c.in-Some.run'.count new c.args.all.now c.write_over.new.all c.in-Some.ensures
    (c.write_over.ensures.written ∙ ap (λ (n : ℕ). take start c.args.all.now ++ (new ++ drop (start + n) c.args.all.now)) c.if-windows-run.true) in
    subst (λ (xs : List Stacked). AreTogether xs) (sym moved) (together-replaced c.args.client c.args.toplevel c.args.windows.now c.args.all.now c.requires)

pub returns-then-windows-run-clause-moved : goal.returns-then-windows-run-clause-moved
returns-then-windows-run-clause-moved c = λ same.
    let start = c.in-Some.run'.start in
    let new = map (stacked c.args.client c.args.toplevel) c.args.windows.now in
    run-over (is_of c.args.client c.args.toplevel) start c.in-Some.run'.count new c.args.all.now c.write_over.new.all c.in-Some.ensures
    (c.write_over.ensures.written ∙ ap (λ (n : ℕ). take start c.args.all.now ++ (new ++ drop (start + n) c.args.all.now)) c.if-windows-run.true)

pub returns-else-windows-run-clause-moved : goal.returns-else-windows-run-clause-moved
returns-else-windows-run-clause-moved c = λ same.
    absurd
    (c.if-windows-run.false
    (same ∙ run-counted (is_of c.args.client c.args.toplevel) c.in-Some.run'.start c.in-Some.run'.count c.args.all.now c.in-Some.ensures))

use Rattle.std.proofs.Common.{Bool, List, ap, arith, false, pos, refl, subst, sym, true, ◌||◌, ◌≡◌, ◌∙◌}
use Rattle.std.proofs.lemmas.List.{take_all}
use Rattle.wl_paint.specs.Damage.{has}
use Rattle.law_windows.proofs.Lists.{any-mapped}
use Rattle.wl_scene.proofs.Marked.{IsMarked, marked-more}
use Rattle.wl_scene.specs.Repaint.{window_has}
use Rattle.wl_clients.proofs.screen.marking.mark_kept.Goals as goal
use Rattle.wl_scene.specs.declared.stacked.Stacked.{Stacked}

-- one alone passes where it passes
or-none : (b : Bool) → (b || false) ≡ b
or-none true = refl
or-none false = refl

pub loop-stacked-preserved : goal.loop-stacked-preserved
loop-stacked-preserved g c =
    marked-more (λ x y (s : Stacked). window_has x y s.window) c.args.windows.now c.loop-stacked.stacked-index _ c.args.damage.now c.loop-stacked.damage c.mark_windows.new.damage
    (omega arith) c.loop-stacked.invariant
    (λ x y wide high. c.mark_windows.ensures.points x y wide high ∙ ap (λ b. has c.loop-stacked.damage x y || b) (or-none _)) c.mark_windows.ensures.sides

pub returns-clause-points : goal.returns-clause-points
returns-clause-points g c = λ x y wide high.
    let all : IsMarked (λ x y (s : Stacked). window_has x y s.window) c.args.windows.now c.args.damage.now c.loop-stacked.damage =
    subst (λ (ws : List Stacked). IsMarked (λ x y (s : Stacked). window_has x y s.window) ws c.args.damage.now c.loop-stacked.damage)
    (take_all c.loop-stacked.stacked-index c.args.windows.now (omega arith)) c.loop-stacked.invariant in
    all.points x y wide high
    ∙ ap (λ b. has c.args.damage.now x y || b) (sym (any-mapped (λ (s : Stacked). s.window) (window_has (pos x) (pos y)) c.args.windows.now))

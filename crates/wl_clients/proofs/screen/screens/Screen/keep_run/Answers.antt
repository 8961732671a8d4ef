use Rattle.std.proofs.Common.{ℕ, Option, Result, ap, map, rules, sym, ◌++◌, ◌∙◌}
use Rattle.std.specs.Prelude.{Err, Ok, OnOk}
use Rattle.std.proofs.lemmas.Iterator.{YieldsList-from_map, YieldsList-from_slice}
use Rattle.std.proofs.lemmas.Iterator.Adapters.{items_from_extend}
use Rattle.wl_scene.specs.declared.stacked.Stacked.{Stacked}
use Rattle.wl_clients.specs.Screens.{run_kept}
use Rattle.wl_clients.proofs.screen.screens.Screen.keep_run.Goals as goal

-- from one fact at `Ok` to another
on-ok : {X E P Q : Type 0} (r : Result X E) → OnOk r P → (P → Q) → OnOk r Q
on-ok (Ok x) h f = f h
on-ok (Err e) h f = tt

pub returns-clause-was : goal.returns-clause-was
returns-clause-was g c =
    let road = YieldsList-from_map _ (λ (s : Stacked). s.window) (YieldsList-from_slice c.run-run.result.now cc) (cc) (λ x r q k. search rules) in
    on-ok c.extend.result (items_from_extend c.extend.result c.extend.ensures.ran road)
    (λ h. (h.0 ∙ ap (λ kept. kept ++ map (λ (s : Stacked). s.window) c.run-run.result.now) c.clear.ensures.items ∙ ap (map (λ (s : Stacked). s.window)) c.run-run.ensures
    ∙ sym (ap (λ (o : Option ℕ). run_kept c.args.client o c.args.self.now.stacked.windows) c.in-Some.is)))

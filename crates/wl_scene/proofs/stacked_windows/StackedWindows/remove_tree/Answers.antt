use Rattle.std.proofs.Common.{rules, ◌≡◌, List, ap, arith, subst, sym, ◌∙◌}
use Rattle.std.specs.Prelude.{not}
use Rattle.std.proofs.lemmas.Fn.{filter_same}
use Rattle.wl_scene.specs.declared.stacked.Stacked.{Stacked}
use Rattle.wl_scene.specs.Stacked.{AreTogether, WindowsKept, is_rooted, without_tree}
use Rattle.wl_scene.proofs.Kept.{together-filter}
use Rattle.wl_scene.proofs.stacked_windows.StackedWindows.remove_tree.Goals as goal

pub invariant_of-self : goal.invariant_of-self
invariant_of-self g c =
    let same : c.retain.new.self.items ≡ without_tree c.args.client c.args.root c.self.inside.windows.items =
    filter_same _ (λ (s : Stacked). not (is_rooted c.args.client c.args.root s)) _ (λ x b f' k. search rules) _ _ c.retain.ensures.filtered in (
      subst (λ (xs : List Stacked). AreTogether xs) (sym same) (together-filter (λ (s : Stacked). not (is_rooted c.args.client c.args.root s)) c.self.inside.windows.items c.self.invariant.0),
      omega (arith, c.retain.ensures.bound, c.retain.ensures.capacity, c.self.invariant.1),
    )

pub returns-clause-windows : goal.returns-clause-windows
returns-clause-windows g c =
    let same : c.retain.new.self.items ≡ without_tree c.args.client c.args.root c.self.inside.windows.items =
    filter_same _ (λ (s : Stacked). not (is_rooted c.args.client c.args.root s)) _ (λ x b f' k. search rules) _ _ c.retain.ensures.filtered in
    same ∙ ap (λ (kept : WindowsKept). without_tree c.args.client c.args.root kept.windows) c.self.view_is

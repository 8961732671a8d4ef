use Rattle.std.proofs.Common.{◌≡◌, ◌∙◌, ◌++◌, List, ap, drop, length, subst, sym, take}
use Rattle.std.proofs.lemmas.List.{take_at}
use Rattle.wl_scene.specs.declared.stacked.Stacked.{Stacked}
use Rattle.wl_scene.specs.Stacked.{AreTogether, WindowsKept, raised}
use Rattle.wl_scene.proofs.Kept.{together-raised}
use Rattle.wl_scene.proofs.stacked_windows.StackedWindows.raise.Goals as goal

pub invariant_of-self : goal.invariant_of-self
invariant_of-self g c =
    let whole : take c.self.inside.windows.len (c.raise_in.new.all ++ drop (length c.raise_in.new.all) c.self.inside.windows.items) ≡ raised c.args.client c.args.toplevel c.self.inside.windows.items =
    take_at c.raise_in.new.all (drop (length c.raise_in.new.all) c.self.inside.windows.items) c.self.inside.windows.len (c.raise_in.ensures.len ∙ c.deref_mut.ensures.len)
    ∙ (c.raise_in.ensures.raised ∙ ap (λ (xs : List Stacked). raised c.args.client c.args.toplevel xs) c.deref_mut.ensures.value) in (
      subst (λ (xs : List Stacked). AreTogether xs) (sym whole) (together-raised c.args.client c.args.toplevel c.self.inside.windows.items c.self.invariant.0),
      c.self.invariant.1,
    )

pub returns-clause-windows : goal.returns-clause-windows
returns-clause-windows g c =
    let whole : take c.self.inside.windows.len (c.raise_in.new.all ++ drop (length c.raise_in.new.all) c.self.inside.windows.items) ≡ raised c.args.client c.args.toplevel c.self.inside.windows.items =
    take_at c.raise_in.new.all (drop (length c.raise_in.new.all) c.self.inside.windows.items) c.self.inside.windows.len (c.raise_in.ensures.len ∙ c.deref_mut.ensures.len)
    ∙ (c.raise_in.ensures.raised ∙ ap (λ (xs : List Stacked). raised c.args.client c.args.toplevel xs) c.deref_mut.ensures.value) in
    whole ∙ ap (λ (kept : WindowsKept). raised c.args.client c.args.toplevel kept.windows) c.self.view_is

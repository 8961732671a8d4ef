use Rattle.std.proofs.Common.{◌≡◌, ◌∙◌, ◌++◌, List, ap, arith, length, map, subst, sym}
use Rattle.std.specs.Prelude.{false, vec_capacity}
use Rattle.std.specs.List.{list_any}
use Rattle.std.proofs.lemmas.List.{length-append, length-map}
use Rattle.wl_scene.specs.declared.stacked.Stacked.{Stacked}
use Rattle.wl_scene.specs.Stacked.{AreTogether, WindowsKept, is_of, stacked}
use Rattle.wl_scene.proofs.Rooms.{either-shorter}
use Rattle.wl_scene.proofs.Kept.{together-either, together-pushed}
use Rattle.wl_scene.proofs.stacked_windows.StackedWindows.push.Goals as goal

pub invariant_of-self-2 : goal.invariant_of-self-2
invariant_of-self-2 g c =
    let base = c.reserve_both.new.all.items in
    let more = map (stacked c.args.client c.args.toplevel) c.args.windows.now in
    let same : base ≡ c.self.inside.windows.items = c.reserve_both.ensures.items in
    let together : AreTogether base = subst (λ (xs : List Stacked). AreTogether xs) (sym same) c.self.invariant.0 in
    let none : list_any (is_of c.args.client c.args.toplevel) base ≡ false =
    ap (λ (xs : List Stacked). list_any (is_of c.args.client c.args.toplevel) xs) same
    ∙ (ap (λ (kept : WindowsKept). list_any (is_of c.args.client c.args.toplevel) kept.windows) c.self.view_is ∙ c.requires) in (
      together-either c.add_all.result base more c.add_all.new.all.items together
          (together-pushed c.args.client c.args.toplevel c.args.windows.now base together none) c.add_all.ensures.ok c.add_all.ensures.err,
      omega (
        arith,
        c.add_all.new.all.ok.0,
        either-shorter c.add_all.result base (base ++ more) c.add_all.new.all.items (vec_capacity c.reserve_both.new.spare)
            (omega (arith, c.in_ok-reserve_both.ensures.ok_spare, c.self.inside.windows.ok.0, ap length same))
            (omega (arith, c.in_ok-reserve_both.ensures.ok_spare, c.self.inside.windows.ok.0, ap length same, length-append base more, length-map c.args.windows.now (stacked c.args.client c.args.toplevel)))
            c.add_all.ensures.ok c.add_all.ensures.err,
      ),
    )

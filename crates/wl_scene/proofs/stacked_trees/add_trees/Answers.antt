use Rattle.std.proofs.Common.{◌≡◌, ◌∙◌, ◌++◌, ap, arith, length, sym}
use Rattle.std.specs.Prelude.{pos, vec_capacity, vec_len}
use Rattle.std.proofs.lemmas.List.{take_all}
use Rattle.wl_scene.proofs.WindowsTrees.{failed-not}
use Rattle.wl_scene.specs.declared.roots.RootPlace.{RootPlace}
use Rattle.wl_scene.specs.Told.{told_at, told_trees}
use Rattle.wl_scene.proofs.Told.{more-behind, next-fits}
use Rattle.wl_scene.proofs.stacked_trees.add_trees.Goals as goal

-- the root that stands for one that isn't there
abbrev d : RootPlace
d = record { surface = 0; x = pos 0; y = pos 0 }

pub loop-root-preserved : goal.loop-root-preserved
loop-root-preserved g c = record {
  told = λ all owner stand.
      more-behind (told_at owner all) c.args.roots.now c.loop-root.root-index d c.args.windows.now.items c.loop-root.windows.items c.add_root.new.windows.items
      c.loop-root-test.true (c.loop-root.invariant.told all owner stand)
      (c.in_ok-add_root.ensures.ok all owner stand);
  capacity = omega (arith, c.loop-root.invariant.capacity, c.in_ok-add_root.ensures.capacity);
}

pub returns-clause-ok : goal.returns-clause-ok
returns-clause-ok g c = λ all owner stand.
    c.loop-root.invariant.told all owner stand
    ∙ ap (λ rs. c.args.windows.now.items ++ told_trees owner all rs) (take_all c.loop-root.root-index c.args.roots.now c.loop-root-test.false)

pub returns-in_err-add_root-clause-succeeds : goal.returns-in_err-add_root-clause-succeeds
returns-in_err-add_root-clause-succeeds g c = λ all owner stand fits.
    let old : length c.args.windows.now.items ≡ vec_len c.args.windows.now = sym c.args.windows.now.ok.0 in
    let room = next-fits (told_at owner all) c.args.roots.now c.loop-root.root-index d c.args.windows.now.items c.loop-root.windows.items (vec_capacity c.args.windows.now)
    (vec_capacity c.loop-root.windows) c.loop-root-test.true (c.loop-root.invariant.told all owner stand) (omega arith) c.loop-root.invariant.capacity in
    failed-not (c.in_err-add_root.ensures.succeeds all owner stand (omega (arith, room, c.loop-root.windows.ok.0)))

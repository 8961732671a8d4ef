use Rattle.std.proofs.Common.{ℕ, List, ap, ◌∙◌}
use Rattle.std.proofs.lemmas.List.{take_all}
use Rattle.wl_surface.specs.Tree.{shown_by}
use Rattle.wl_surface.proofs.TreeShown.{shown-more}
use Rattle.wl_surface.proofs.tree.shown_of.Goals as goal

pub loop-number-preserved : goal.loop-number-preserved
loop-number-preserved g c = λ all stand.
    shown-more c.args.numbers.now c.loop-number.number-index 0 all c.loop-number.shown.items c.add_buffer.new.buffers.items c.add_buffer-in-loop-number.new.buffers.items
    c.buffers.result c.index-buffers-1.result c.index-buffers-2.result c.loop-number-test.true (c.loop-number.invariant all stand) (c.buffers.ensures all stand)
    c.in_ok-add_buffer.ensures c.in_ok-add_buffer-2.ensures

pub returns : goal.returns
returns g c = λ all stand.
    c.loop-number.invariant all stand ∙ ap (λ (ns : List ℕ). shown_by ns all) (take_all c.loop-number.number-index c.args.numbers.now c.loop-number-test.false)

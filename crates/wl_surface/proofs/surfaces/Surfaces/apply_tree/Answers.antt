use Rattle.std.proofs.Common.{ℕ, List, subst, sym}
use Rattle.wl_surface.specs.Tree.{AreOnce, AreToldAfter}
use Rattle.wl_surface.proofs.Marked.{of-after}
use Rattle.wl_surface.proofs.surfaces.Surfaces.apply_tree.Goals as goal

pub returns-clause-freed : goal.returns-clause-freed
returns-clause-freed g c = λ all stand b is any. rw c.deref-2.ensures.value at c.add_freed.ensures.counted all stand b is any

pub returns-clause-told : goal.returns-clause-told
returns-clause-told g c = rw (← c.self.view_is) (λ all stand once. (
  c.apply_each.new.changes.items,
  c.mark_all.ensures.kept,
  subst (λ (ns : List ℕ). AreToldAfter c.args.room.changes.items ns all c.apply_each.new.changes.items) c.deref.ensures.value
      (c.apply_each.ensures.told all stand (subst AreOnce (sym c.deref.ensures.value) once)),
))

pub returns-clause-whole : goal.returns-clause-whole
returns-clause-whole g c = rw (← c.self.view_is) (λ old new all stand once of_them seen now.
    c.mark_all.ensures.whole old new c.args.room.below.items seen now
    (of-after c.args.room.below.items all c.args.room.changes.items c.apply_each.new.changes.items of_them
    (subst (λ (ns : List ℕ). AreToldAfter c.args.room.changes.items ns all c.apply_each.new.changes.items) c.deref.ensures.value
    (c.apply_each.ensures.told all stand (subst AreOnce (sym c.deref.ensures.value) once)))))

pub returns-clause-among : goal.returns-clause-among
returns-clause-among g c = λ number e. rw c.deref-2.ensures.value at c.add_freed.ensures.among number e

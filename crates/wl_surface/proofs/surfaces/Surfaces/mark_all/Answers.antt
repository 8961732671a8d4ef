use Rattle.std.proofs.Common.{◌≡◌, ◌++◌, ◌∙◌, ap, sym, subst, arith, drop, length, map, take}
use Rattle.std.proofs.lemmas.List.{take_at}
use Rattle.wl_surface.specs.Seen.{AreOf, AreSeen, unmarked}
use Rattle.wl_surface.proofs.surfaces.Surfaces.mark_all.Goals as goal

pub returns-clause-kept : goal.returns-clause-kept
returns-clause-kept g c =
    let new = c.mark.new.changes in
    let long : length new ≡ c.args.changes.now.len = omega (arith, c.deref_mut.ensures.len, c.mark.auto.changes) in
    let same : take c.args.changes.now.len (new ++ drop (length new) c.args.changes.now.items) ≡ new = take_at new _ _ long in
    rw same (c.mark.ensures.kept ∙ ap (map unmarked) c.deref_mut.ensures.value)

pub returns-clause-whole : goal.returns-clause-whole
returns-clause-whole g c =
    let new = c.mark.new.changes in
    let long : length new ≡ c.args.changes.now.len = omega (arith, c.deref_mut.ensures.len, c.mark.auto.changes) in
    let same : take c.args.changes.now.len (new ++ drop (length new) c.args.changes.now.items) ≡ new = take_at new _ _ long in
    rw same (λ old all surfaces seen stand of_them.
    c.mark.ensures.whole old all surfaces
    (subst (λ ls. AreSeen old surfaces ls c.deref-2.result.now) (sym c.deref.ensures.value)
    (subst (λ ws. AreSeen old surfaces c.args.seen.now.looks.items ws) (sym c.deref-2.ensures.value) seen))
    stand (subst (AreOf surfaces) (sym c.deref_mut.ensures.value) of_them))

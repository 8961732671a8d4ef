use Rattle.std.proofs.Common.{arith, rules, ◌≡◌, ◌++◌, ◌∙◌, sym, take, drop, w32, FitsSigned, length}
use Rattle.std.proofs.lemmas.Int.{to_z-of_z}
use Rattle.std.proofs.lemmas.List.{take_at}
use Rattle.wl_paint.proofs.MarkedRows.{rows-kept, rows-narrow, rows-wide}
use Rattle.wl_paint.proofs.Wholes.{IsMarkedIn-add, both-same, marked-already}
use Rattle.wl_paint.proofs.damage.Damage.add.Goals as goal

pub returns-clause-points : goal.returns-clause-points
returns-clause-points g c =
    let new = c.mark_rows.new.rows in
    let long : length new ≡ c.self.inside.rows.len = omega (arith, c.deref_mut.ensures.len, c.mark_rows.auto.rows) in
    let same : take c.self.inside.rows.len (new ++ drop (length new) c.self.inside.rows.items) ≡ new = take_at new _ _ long in
    let rect = c.args.rect in
    let fits_x : FitsSigned w32 rect.x = search rules in
    let fits_y : FitsSigned w32 rect.y = search rules in
    let fits_w : FitsSigned w32 rect.w = search rules in
    let fits_h : FitsSigned w32 rect.h = search rules in
    let column = c.clipped-left.ensures.same in
    let row = c.clipped-top.ensures.same in
    rw (← c.self.view_is, same) (λ x y w h.
    let in_row = simp to_z-of_z at (column x w) in
    let in_column = simp to_z-of_z at (row y h) in
    c.mark_rows.ensures.points x y
    ∙ rw (c.deref_mut.ensures.value, in_row, in_column))

pub mark_rows-requires-clause-rows : goal.mark_rows-requires-clause-rows
mark_rows-requires-clause-rows g c = c.clipped-top.ensures.order

pub mark_rows-requires-clause-columns : goal.mark_rows-requires-clause-columns
mark_rows-requires-clause-columns g c = c.clipped-left.ensures.order

pub mark_rows-requires-clause-within : goal.mark_rows-requires-clause-within
mark_rows-requires-clause-within g c = rw (c.deref_mut.ensures.value, c.self.invariant.0.sized) c.clipped-top.ensures.within

pub mark_rows-requires-clause-wide : goal.mark_rows-requires-clause-wide
mark_rows-requires-clause-wide g c =
    rows-wide c.deref_mut.result.now c.self.inside.rows.items c.self.inside.width c.self.inside.height c.clipped-left.result.1 c.deref_mut.ensures.value c.self.invariant.0 c.clipped-left.ensures.within

pub mark_rows-requires-clause-narrow : goal.mark_rows-requires-clause-narrow
mark_rows-requires-clause-narrow g c =
    rows-narrow c.deref_mut.result.now c.self.inside.rows.items c.self.inside.width c.self.inside.height c.deref_mut.ensures.value c.self.invariant.0

pub invariant_of-self : goal.invariant_of-self
invariant_of-self g c =
    let d = c.self.inside in
    let new = c.mark_rows.new.rows in
    let long : length new ≡ d.rows.len = omega (arith, c.deref_mut.ensures.len, c.mark_rows.auto.rows) in
    let same : take d.rows.len (new ++ drop (length new) d.rows.items) ≡ new = take_at new _ _ long in (
      rows-kept c.deref_mut.result.now d.rows.items new d.width d.height d.rows.len c.deref_mut.ensures.value c.self.invariant.0
          c.deref_mut.ensures.len c.mark_rows.auto.rows c.mark_rows.ensures.widths,
      rw same (IsMarkedIn-add c.deref_mut.result.now new d.whole c.block_of-block.result c.larger-self-inside.result c.clipped-left.result.0 c.clipped-left.result.1 c.clipped-top.result.0 c.clipped-top.result.1
          (rw c.deref_mut.ensures.value c.self.invariant.1) c.block_of-block.ensures c.mark_rows.ensures.points c.larger-self-inside.ensures),
    )

pub returns-then-has_all-clause-points : goal.returns-then-has_all-clause-points
returns-then-has_all-clause-points g c =
    let rect = c.args.rect in
    let fits_x : FitsSigned w32 rect.x = search rules in
    let fits_y : FitsSigned w32 rect.y = search rules in
    let fits_w : FitsSigned w32 rect.w = search rules in
    let fits_h : FitsSigned w32 rect.h = search rules in
    let column = c.clipped-left.ensures.same in
    let row = c.clipped-top.ensures.same in
    rw (← c.self.view_is) (λ x y w h.
    let in_row = simp to_z-of_z at (column x w) in
    let in_column = simp to_z-of_z at (row y h) in
    marked-already _ _ (λ e. c.self.invariant.1 x y (c.has_all.ensures c.if-has_all.true x y (c.block_of-block.ensures x y ∙ sym (both-same in_row in_column) ∙ e))))

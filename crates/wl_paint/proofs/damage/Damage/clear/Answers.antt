use Rattle.std.proofs.Common.{◌∙◌}
use Rattle.wl_paint.proofs.MarkedRows.{rows-empty, rows-kept}
use Rattle.wl_paint.proofs.Wholes.{IsMarkedIn-none}
use Rattle.wl_paint.proofs.damage.Damage.clear.Goals as goal

pub invariant_of-self : goal.invariant_of-self
invariant_of-self g c =
    let d = c.self.inside in (
      rows-kept c.deref_mut.result.now d.rows.items c.clear_rows.new.rows d.width d.height d.rows.len c.deref_mut.ensures.value c.self.invariant.0
          c.deref_mut.ensures.len c.clear_rows.auto.rows c.clear_rows.ensures.widths,
      IsMarkedIn-none _,
    )

pub returns-clause-empty : goal.returns-clause-empty
returns-clause-empty g c =
    rows-empty c.self.inside.rows.items c.clear_rows.new.rows c.self.inside.rows.len (c.clear_rows.auto.rows ∙ c.deref_mut.ensures.len) c.clear_rows.ensures.empty

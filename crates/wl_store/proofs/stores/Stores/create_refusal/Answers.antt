use Rattle.std.proofs.Common.{sym, ◌∙◌, w32}
use Rattle.std.proofs.lemmas.Int.{to_z-of_z}
use Rattle.wl_store.specs.Kept.{seen}
use Rattle.wl_store.proofs.Refusals.{create-refused}
use Rattle.wl_store.proofs.stores.Stores.create_refusal.Goals as goal

pub returns-then-is_full-clause-first : goal.returns-then-is_full-clause-first
returns-then-is_full-clause-first g c = rw (sym c.is_full.ensures ∙ c.if-is_full.true)

pub returns-clause-first : goal.returns-clause-first
returns-clause-first g c =
    let first = simp (to_z-of_z w32 c.args.size c.ranges.size) at c.new_refusal.ensures.first in
    rw (
      create-refused (seen c.self.inside.held.items) c.self.inside.made c.self.inside.total c.args.self.now c.args.size c.self.view_is c.self.invariant.sound (sym c.is_full.ensures ∙ c.if-is_full.false),
      ← first,
    )

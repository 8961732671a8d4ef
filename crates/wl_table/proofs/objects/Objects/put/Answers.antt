use Rattle.std.proofs.Common.{◌-◌, Some, arith}
use Rattle.wl_table.proofs.Places.{Changed, changed_in_row, changed_beside, whole_more, longer, counted_insert}
use Rattle.wl_table.proofs.objects.Objects.put.Given
use Rattle.wl_table.proofs.objects.Objects.put.Goals as goal
use Rattle.wl_table.proofs.objects.Objects.put.Goals.{then-id-gt-LAST_PLACED+in_ok-insert, else-id-gt-LAST_PLACED+in_ok-extend}

changed : (g : Rattle.wl_table.proofs.objects.Objects.put.Given.Over) (c : goal.After-self-2-1 g) → Changed c.args.self.now c.args.id (Some c.args.entry) c.if-id-gt-LAST_PLACED.self-inside.row.items
    c.if-id-gt-LAST_PLACED.self-inside.others c.if-id-gt-LAST_PLACED.self-inside.count
changed g c = elim c.if-id-gt-LAST_PLACED.branch [
  | then-id-gt-LAST_PLACED+in_ok-insert w ↦ rw w.self-inside-is (changed_beside c.self.inside.row.items c.self.inside.others w.insert.new.self c.args.self.now c.self.inside.count c.args.id
      (Some c.args.entry) c.self.view_is c.self.invariant (omega arith) w.in_ok-insert.ensures.updates (counted_insert _ _ _ _ w.in_ok-insert.ensures.old w.in_ok-insert.ensures.len))
  | else-id-gt-LAST_PLACED+in_ok-extend w ↦ rw w.self-inside-is (changed_in_row c.self.inside.row.items w.extend.new.row.items c.self.inside.others c.args.self.now c.self.inside.count c.args.id
      (c.args.id - 1) (Some c.args.entry) c.self.view_is c.self.invariant w.in_ok-extend.ensures.ok (omega arith) (omega arith))
]

pub invariant_of-self-2 : goal.invariant_of-self-2
invariant_of-self-2 g c = whole_more c.args.self.now c.args.id c.args.entry c.if-id-gt-LAST_PLACED.self-inside.row.items c.if-id-gt-LAST_PLACED.self-inside.others
    c.if-id-gt-LAST_PLACED.self-inside.count (changed g c) c.requires.free c.requires.room

pub returns-clause-ok : goal.returns-clause-ok
returns-clause-ok g c = (changed g c).holds

pub returns-clause-len : goal.returns-clause-len
returns-clause-len g c = longer c.args.self.now c.args.id c.args.entry c.if-id-gt-LAST_PLACED.self-inside.row.items c.if-id-gt-LAST_PLACED.self-inside.others c.if-id-gt-LAST_PLACED.self-inside.count
    (changed g c) c.requires.free

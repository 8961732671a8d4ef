use Rattle.std.proofs.Common.{◌≡◌, ◌∙◌, length, None, refl, ap, sym, arith}
use Rattle.wl_table.proofs.Places.{Changed, changed_at, changed_beside, beyond, not_empty, whole_less, shorter, counted_remove, out_of}
use Rattle.wl_table.proofs.objects.Objects.remove.Given
use Rattle.wl_table.proofs.objects.Objects.remove.Goals as goal
use Rattle.wl_table.proofs.objects.Objects.remove.Goals.{in-Some-place_of, in-None}

changed : (g : Rattle.wl_table.proofs.objects.Objects.remove.Given.Over) (c : goal.After-self-2-1 g)
    → Changed c.args.self.now c.args.id None c.match-place_of.self-inside.row.items c.match-place_of.self-inside.others c.match-place_of.self-inside.count
changed g c = elim c.match-place_of.branch [
  | in-Some-place_of w ↦ rw w.self-inside-is (changed_at c.self.inside.row.items c.self.inside.others c.args.self.now c.self.inside.count c.args.id w.in-Some-place_of.place None c.self.view_is
      c.self.invariant (omega (arith, w.in-Some-place_of.ensures.some)) (omega (arith, w.in-Some-place_of.ensures.some, c.len.ensures)))
  | in-None w ↦ rw w.self-inside-is (changed_beside c.self.inside.row.items c.self.inside.others w.remove.new.self c.args.self.now c.self.inside.count c.args.id None c.self.view_is c.self.invariant
      (beyond c.self.inside.row.items c.self.inside.others c.args.self.now c.self.inside.count c.args.id c.in-Some.entry c.self.view_is c.self.invariant
      (out_of c.args.id c.len.result (length c.self.inside.row.items) w.in-None.ensures.none (omega (arith, c.len.ensures))) (sym c.in-Some.is ∙ c.get.ensures)) w.remove.ensures.updates
      (counted_remove _ _ _ _ w.remove.ensures.value w.remove.ensures.len))
]

pub overflow_sub-self : goal.overflow_sub-self
overflow_sub-self g c =
    let kept : c.match-place_of.self-inside.count ≡ c.self.inside.count = elim c.match-place_of.branch [
      | in-Some-place_of w ↦ rw w.self-inside-is refl
      | in-None w ↦ rw w.self-inside-is refl
    ] in
    omega (arith, kept, c.self.invariant.counted, ap length c.self.view_is, not_empty c.args.self.now c.args.id c.in-Some.entry (sym c.in-Some.is ∙ c.get.ensures))

pub invariant_of-self : goal.invariant_of-self
invariant_of-self g c = whole_less c.args.self.now c.args.id c.in-Some.entry c.match-place_of.self-inside.row.items c.match-place_of.self-inside.others c.match-place_of.self-inside.count (changed g c)
    (sym c.in-Some.is ∙ c.get.ensures)

pub returns-clause-removed : goal.returns-clause-removed
returns-clause-removed g c = (changed g c).holds

pub returns-clause-len : goal.returns-clause-len
returns-clause-len g c = shorter c.args.self.now c.args.id c.in-Some.entry c.match-place_of.self-inside.row.items c.match-place_of.self-inside.others c.match-place_of.self-inside.count (changed g c)
    (sym c.in-Some.is ∙ c.get.ensures)

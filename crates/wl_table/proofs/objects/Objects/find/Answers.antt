use Rattle.std.proofs.Common.{◌≡◌, ◌++◌, ◌∷◌, ◌<◌, map, below_more, length, refl, sym, ◌∙◌, ap, arith}
use Rattle.std.specs.Map.Iter.{deref_pair}
use Rattle.std.proofs.lemmas.Map.Iter.{rest_more, rest_so_far, iter_end}
use Rattle.std.proofs.lemmas.Bool.{false≢true}
use Rattle.std.proofs.lemmas.List.{map-append}
use Rattle.wl_table.proofs.Finding.{others-push, none-placed, none-placeable, none-held, found-placed, found-beside}
use Rattle.wl_table.proofs.objects.Objects.find.Goals as goal

pub loop-place-init : goal.loop-place-init
loop-place-init g c = λ k h. absurd (omega arith)

pub returns-then-stands_for : goal.returns-then-stands_for
returns-then-stands_for g c =
    let row = c.self.inside.row.items in let others = c.self.inside.others in let count = c.self.inside.count in
    let none = rw c.deref-entry-items.ensures.value at c.loop-place.invariant in
    let here = rw c.deref-entry-items.ensures.value at (c.if-stands_for.ensures.0 refl) in
    let within : c.loop-place.place < length row = omega (arith, ap length c.deref-entry-items.ensures.value) in (
      found-placed row others c.args.self.now count c.loop-place.place c.args.interface c.args.target c.self.view_is c.self.invariant within here,
      λ other lt. none-placed row others c.args.self.now count c.loop-place.place c.args.interface c.args.target c.self.view_is c.self.invariant (omega arith) none other (omega arith),
    )

pub loop-place-preserved : goal.loop-place-preserved
loop-place-preserved g c = below_more _ _ c.loop-place.invariant (λ stands. false≢true (c.if-stands_for.ensures.1 stands))

pub loop-id-init : goal.loop-id-init
loop-id-init g c =
    let row = c.self.inside.row.items in let others = c.self.inside.others in let count = c.self.inside.count in
    let none = rw c.deref-entry-items.ensures.value at c.loop-place.invariant in
    record {
      row = none-placeable row others c.args.self.now count c.args.interface c.args.target c.self.view_is c.self.invariant
          (λ k h. none k (omega (arith, ap length c.deref-entry-items.ensures.value)));
      passed = tt;
    }

pub returns-then-stands_for-2 : goal.returns-then-stands_for-2
returns-then-stands_for-2 g c =
    let given = c.into_iter-id-iterator.ensures.into_iter_gives in
    let parts : c.self.inside.others.entries ≡ map deref_pair c.loop-id.yielded ++ (c.in-Some.id.now, c.in-Some.entry.now) ∷ c.next.new.self =
    sym given.0 ∙ rest_so_far deref_pair c.loop-id.yielded _ _ c.loop-id.yielded_by
    ∙ ap (λ u. map deref_pair c.loop-id.yielded ++ u) (rest_more deref_pair _ _ _ (c.in-Some.id, c.in-Some.entry) c.in-Some.is c.next.ensures.steps) in
    found-beside c.self.inside.row.items c.self.inside.others c.args.self.now c.self.inside.count c.args.interface c.args.target (map deref_pair c.loop-id.yielded) c.next.new.self
    (c.in-Some.id.now, c.in-Some.entry.now) c.self.view_is c.self.invariant parts given.5 c.loop-id.invariant.row c.loop-id.invariant.passed (c.if-stands_for-2.ensures.0 refl)

pub loop-id-preserved : goal.loop-id-preserved
loop-id-preserved g c = record {
  row = c.loop-id.invariant.row;
  passed = rw map-append (others-push c.args.interface c.args.target (map deref_pair c.loop-id.yielded) (c.in-Some.id.now, c.in-Some.entry.now) c.loop-id.invariant.passed
      (λ stands. false≢true (c.if-stands_for-2.ensures.1 stands)));
}

pub returns : goal.returns
returns g c =
    let given = c.into_iter-id-iterator.ensures.into_iter_gives in
    let all = (iter_end deref_pair c.self.inside.others.entries c.loop-id.yielded _ _ _ _ given.0 c.loop-id.yielded_by c.in-None.is c.next.ensures.steps).0 in
    none-held c.self.inside.row.items c.self.inside.others c.args.self.now c.self.inside.count c.args.interface c.args.target c.self.view_is c.self.invariant c.loop-id.invariant.row
    (rw (← all) c.loop-id.invariant.passed)

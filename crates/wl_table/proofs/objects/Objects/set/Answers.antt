use Rattle.std.proofs.Common.{◌≡◌, ℕ, ◌<◌, ◌⊎◌, ◌++◌, ◌∙◌, length, is_some, Some, None, ap, subst, sym, arith}
use Rattle.std.specs.Option.{option_map}
use Rattle.std.specs.BTreeMap.{BTreeMap}
use Rattle.wl_table.specs.declared.entry.Entry.{Entry}
use Rattle.wl_table.specs.Objects.{Held, HoldsAt, entry_of, with_target}
use Rattle.wl_table.specs.Places.{placed}
use Rattle.wl_table.proofs.Places.{Changed, changed_at, changed_written, found_at, found_beside, whole_same, as_long, out_of, HoldsAt-none}
use Rattle.wl_table.proofs.objects.Objects.set.Given
use Rattle.wl_table.proofs.objects.Objects.set.Goals as goal

pub returns-in_default-index-clause-found : goal.returns-in_default-index-clause-found
returns-in_default-index-clause-found g c =
    ap is_some (sym c.in_default-index.is ∙ found_at c.self.inside.row.items c.self.inside.others c.args.self.now c.self.inside.count c.args.id c.in-Some.place c.index.result.now c.self.view_is
    c.self.invariant (omega (arith, c.in-Some.ensures.some)) (omega (arith, c.in-Some.ensures.some, c.len.ensures)) c.index.ensures)

pub returns-in_default-index-clause-set : goal.returns-in_default-index-clause-set
returns-in_default-index-clause-set g c =
    let none : None ≡ entry_of c.args.self.now c.args.id = sym c.in_default-index.is ∙ found_at c.self.inside.row.items c.self.inside.others c.args.self.now c.self.inside.count c.args.id
    c.in-Some.place c.index.result.now c.self.view_is c.self.invariant (omega (arith, c.in-Some.ensures.some)) (omega (arith, c.in-Some.ensures.some, c.len.ensures)) c.index.ensures in
    HoldsAt-none c.args.self.now c.args.id (option_map (with_target c.args.target) (entry_of c.args.self.now c.args.id)) (sym none) (ap (option_map (with_target c.args.target)) (sym none))

pub invariant_of-self : goal.invariant_of-self
invariant_of-self g c =
    let some : Some c.in-Some-index.entry ≡ entry_of c.args.self.now c.args.id = sym c.in-Some-index.is
    ∙ found_at c.self.inside.row.items c.self.inside.others c.args.self.now c.self.inside.count c.args.id c.in-Some.place c.index.result.now c.self.view_is c.self.invariant
    (omega (arith, c.in-Some.ensures.some)) (omega (arith, c.in-Some.ensures.some, c.len.ensures)) c.index.ensures in
    whole_same c.args.self.now c.args.id c.in-Some-index.entry (with_target c.args.target c.in-Some-index.entry) _ _ _
    (changed_at c.self.inside.row.items c.self.inside.others c.args.self.now c.self.inside.count c.args.id c.in-Some.place (Some (with_target c.args.target c.in-Some-index.entry)) c.self.view_is
    c.self.invariant (omega (arith, c.in-Some.ensures.some)) (omega (arith, c.in-Some.ensures.some, c.len.ensures)))
    some

pub returns-in-Some : goal.returns-in-Some
returns-in-Some g c =
    let some : Some c.in-Some-index.entry ≡ entry_of c.args.self.now c.args.id = sym c.in-Some-index.is
    ∙ found_at c.self.inside.row.items c.self.inside.others c.args.self.now c.self.inside.count c.args.id c.in-Some.place c.index.result.now c.self.view_is c.self.invariant
    (omega (arith, c.in-Some.ensures.some)) (omega (arith, c.in-Some.ensures.some, c.len.ensures)) c.index.ensures in
    let changed = changed_at c.self.inside.row.items c.self.inside.others c.args.self.now c.self.inside.count c.args.id c.in-Some.place (Some (with_target c.args.target c.in-Some-index.entry))
    c.self.view_is c.self.invariant (omega (arith, c.in-Some.ensures.some)) (omega (arith, c.in-Some.ensures.some, c.len.ensures)) in
    record {
      found = ap is_some some;
      set = rw (← some) changed.holds;
      len = as_long c.args.self.now c.args.id c.in-Some-index.entry (with_target c.args.target c.in-Some-index.entry) _ _ _ changed some;
    }

pub returns-in_default-get_mut : goal.returns-in_default-get_mut
returns-in_default-get_mut g c =
    let none : None ≡ entry_of c.args.self.now c.args.id = c.in_default-get_mut.ensures.value ∙ found_beside c.self.inside.row.items c.self.inside.others c.args.self.now c.args.id c.self.view_is
    (out_of c.args.id c.len.result (length c.self.inside.row.items) c.in_default.ensures.none (omega (arith, c.len.ensures))) in
    let same : placed 1 c.self.inside.row.items ++ c.get_mut.follows.lender-at-none.entries ≡ c.args.self.now =
    ap (λ (u : BTreeMap ℕ Entry). placed 1 c.self.inside.row.items ++ u.entries) c.get_mut.follows.holds-at-none ∙ c.self.view_is in
    record {
      found = ap is_some none;
      set = subst (λ (u : Held). HoldsAt c.args.self.now u c.args.id (option_map (with_target c.args.target) (entry_of c.args.self.now c.args.id))) (sym same)
          (HoldsAt-none c.args.self.now c.args.id (option_map (with_target c.args.target) (entry_of c.args.self.now c.args.id)) (sym none) (ap (option_map (with_target c.args.target)) (sym none)));
      len = ap length same;
    }

now_written : (g : Rattle.wl_table.proofs.objects.Objects.set.Given.Over) (c : goal.After-self-2-1 g) → (c.args.id ≡ 0) ⊎ (length c.self.inside.row.items < c.args.id)
    → Changed c.args.self.now c.args.id (Some (with_target c.args.target c.in-Some-get_mut.entry.now)) c.self.inside.row.items
    (c.get_mut.follows.lender (with_target c.args.target c.in-Some-get_mut.entry.now)) c.self.inside.count
now_written g c out =
    let holds = c.get_mut.follows.holds (with_target c.args.target c.in-Some-get_mut.entry.now) in
    changed_written c.self.inside.row.items c.self.inside.others (c.get_mut.follows.lender (with_target c.args.target c.in-Some-get_mut.entry.now)) c.args.self.now c.self.inside.count c.args.id
    c.in-Some-get_mut.entry.now (with_target c.args.target c.in-Some-get_mut.entry.now)
    c.self.view_is c.self.invariant out c.in-Some-get_mut.ensures.value (holds.3 (sym (ap is_some c.in-Some-get_mut.ensures.value))) holds.2

pub invariant_of-self-2 : goal.invariant_of-self-2
invariant_of-self-2 g c =
    let out = out_of c.args.id c.len.result (length c.self.inside.row.items) c.in_default.ensures.none (omega (arith, c.len.ensures)) in
    let some : Some c.in-Some-get_mut.entry.now ≡ entry_of c.args.self.now c.args.id = c.in-Some-get_mut.ensures.value
    ∙ found_beside c.self.inside.row.items c.self.inside.others c.args.self.now c.args.id c.self.view_is out in
    whole_same c.args.self.now c.args.id c.in-Some-get_mut.entry.now (with_target c.args.target c.in-Some-get_mut.entry.now) _ _ _ (now_written g c out) some

pub returns : goal.returns
returns g c =
    let out = out_of c.args.id c.len.result (length c.self.inside.row.items) c.in_default.ensures.none (omega (arith, c.len.ensures)) in
    let some : Some c.in-Some-get_mut.entry.now ≡ entry_of c.args.self.now c.args.id = c.in-Some-get_mut.ensures.value
    ∙ found_beside c.self.inside.row.items c.self.inside.others c.args.self.now c.args.id c.self.view_is out in
    let changed = now_written g c out in
    record {
      found = ap is_some some;
      set = rw (← some) changed.holds;
      len = as_long c.args.self.now c.args.id c.in-Some-get_mut.entry.now (with_target c.args.target c.in-Some-get_mut.entry.now) _ _ _ changed some;
    }

use Rattle.std.proofs.Common.{◌≡◌, None, Some, ap, rules, subst, sym, tests, ◌∙◌}
use Rattle.std.specs.List.{find}
use Rattle.std.specs.Option.{option_map}
use Rattle.std.proofs.lemmas.Iterator.{YieldsList-from_slice}
use Rattle.std.proofs.lemmas.Iterator.Search.{find_from_yields_List}
use Rattle.wl_store.specs.Kept.{Kept, seen}
use Rattle.std.specs.Prelude.{nat_lt}
use Rattle.wl_store.proofs.Kept.{find-seen}
use Rattle.wl_store.proofs.Refusals.{next-found, next-missing}
use Rattle.wl_store.proofs.stores.Stores.next_after.Goals as goal

pub returns-in_err-found-clause-next : goal.returns-in_err-found-clause-next
returns-in_err-found-clause-next g c =
    let stores = c.self.inside.held.items in
    let looked = find_from_yields_List (λ (s : Kept). nat_lt c.args.number s.held.number) _ _ c.find.result c.find.ensures.ran (YieldsList-from_slice c.deref.result.now cc) (λ x b q k. search (rules, tests)) in
    let none = subst (λ h. find (λ (s : Kept). nat_lt c.args.number s.held.number) h ≡ None) c.deref.ensures.value (sym looked ∙ ap (option_map (λ x. x.now)) c.in_err-found.was) in
    let missing = next-missing (seen stores) c.self.inside.made c.args.self.now c.args.number c.self.view_is (find-seen (λ s. nat_lt c.args.number s.number) stores ∙ ap (option_map (λ (s : Kept). s.held)) none) in
    rw missing c.from_residual.ensures

pub returns-clause-next : goal.returns-clause-next
returns-clause-next g c =
    let stores = c.self.inside.held.items in
    let looked = find_from_yields_List (λ (s : Kept). nat_lt c.args.number s.held.number) _ _ c.find.result c.find.ensures.ran (YieldsList-from_slice c.deref.result.now cc) (λ x b q k. search (rules, tests)) in
    let found = subst (λ h. find (λ (s : Kept). nat_lt c.args.number s.held.number) h ≡ Some c.in_ok-found.found.now) c.deref.ensures.value (sym looked ∙ ap (option_map (λ x. x.now)) c.in_ok-found.was) in
    let is = find-seen (λ s. nat_lt c.args.number s.number) stores ∙ ap (option_map (λ (s : Kept). s.held)) found in
    next-found (seen stores) c.self.inside.made c.args.self.now c.args.number c.in_ok-found.found.now.held c.number.result c.self.view_is is c.number.ensures

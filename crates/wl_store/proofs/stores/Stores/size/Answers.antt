use Rattle.std.proofs.Common.{◌≡◌, None, Some, ap, eqb, rules, subst, sym, tests, ◌∙◌}
use Rattle.std.specs.List.{find}
use Rattle.std.specs.Option.{option_map}
use Rattle.std.proofs.lemmas.Iterator.{YieldsList-from_slice}
use Rattle.std.proofs.lemmas.Iterator.Search.{find_from_yields_List}
use Rattle.wl_store.specs.Kept.{Kept, seen}
use Rattle.wl_store.proofs.Kept.{find-seen}
use Rattle.wl_store.proofs.Refusals.{size-found, size-missing}
use Rattle.wl_store.proofs.stores.Stores.size.Goals as goal

pub returns-in_err-found : goal.returns-in_err-found
returns-in_err-found g c =
    let stores = c.self.inside.held.items in
    let looked = find_from_yields_List (λ (s : Kept). eqb s.held.number c.args.store) _ _ c.find.result c.find.ensures.ran (YieldsList-from_slice c.deref.result.now cc) (λ x b q k. search (rules, tests)) in
    let none = subst (λ h. find (λ (s : Kept). eqb s.held.number c.args.store) h ≡ None) c.deref.ensures.value (sym looked ∙ ap (option_map (λ x. x.now)) c.in_err-found.was) in
    let missing = size-missing (seen stores) c.self.inside.made c.args.self.now c.args.store c.self.view_is (find-seen (λ s. eqb s.number c.args.store) stores ∙ ap (option_map (λ (s : Kept). s.held)) none) in
    rw missing c.from_residual.ensures

pub returns : goal.returns
returns g c =
    let stores = c.self.inside.held.items in
    let looked = find_from_yields_List (λ (s : Kept). eqb s.held.number c.args.store) _ _ c.find.result c.find.ensures.ran (YieldsList-from_slice c.deref.result.now cc) (λ x b q k. search (rules, tests)) in
    let found = subst (λ h. find (λ (s : Kept). eqb s.held.number c.args.store) h ≡ Some c.in_ok-found.found.now) c.deref.ensures.value (sym looked ∙ ap (option_map (λ x. x.now)) c.in_ok-found.was) in
    let is = find-seen (λ s. eqb s.number c.args.store) stores ∙ ap (option_map (λ (s : Kept). s.held)) found in
    size-found (seen stores) c.self.inside.made c.args.self.now c.args.store c.in_ok-found.found.now.held c.size.result c.self.view_is is c.size.ensures.value

use Rattle.std.proofs.lemmas.Iterator.Search.{position_from_yields_List}
use Rattle.std.proofs.lemmas.Iterator.{YieldsList-from_slice}
use Rattle.std.proofs.Common.{eqb, rules, tests, ◌∙◌}
use Rattle.wl_store.specs.Kept.{Kept}
use Rattle.wl_store.proofs.Kept.{position-seen}
use Rattle.wl_store.proofs.stores.position_of.Goals as goal

pub returns : goal.returns
returns g c =
    position_from_yields_List (λ (s : Kept). eqb s.held.number c.args.number) _ _ _ c.position.ensures.ran (YieldsList-from_slice c.args.held.now cc) (λ x b q k. search (rules, tests))
    ∙ position-seen c.args.number c.args.held.now

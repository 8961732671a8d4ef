use Rattle.std.proofs.Common.{List, ℕ, ap, map, subst, take, ◌∙◌}
use Rattle.std.proofs.lemmas.List.{take_all}
use Rattle.wl_client.specs.Agreement.{IsPeer}
use Rattle.wl_client.specs.View.{ClientView}
use Rattle.law_desktop.specs.Freed.{freed_of}
use Rattle.spec_desktop.specs.Desktop.{Resident}
use Rattle.spec_desktop.specs.Releases.{let_if}
use Rattle.spec_desktop.specs.Step.{is_over}
use Rattle.wl_surface.specs.Kept.{buffer_of}
use Rattle.wl_store.specs.Stores.{Stock}
use Rattle.std.specs.Option.{option_map}
use Rattle.std.specs.Prelude.{false}
use Rattle.wl_requests.proofs.Doing.{kept-there, one-let}
use Rattle.wl_requests.proofs.Letting.{gone-all, gone-more, gone_of}
use Rattle.wl_requests.proofs.residents.Resident.let_go_of_freed.Goals as goal

pub loop-number-preserved : goal.loop-number-preserved
loop-number-preserved g c = record {
  stores = λ r numbers is kept.
      let numbers_freed = c.args.freed.now in
      let shown = map buffer_of c.args.shown.now in
      let i = c.loop-number.number-index in
      let found = option_map buffer_of c.find.result in
      let was = gone_of (freed_of (take i numbers_freed) shown) r in
      let now = c.loop-number.invariant.stores r numbers is kept in
      let there = kept-there _ _ numbers r.owned.surfaces c.loop-number.invariant.owned kept in
      let next = one-let _ _ was (let_if (is_over r) false found) now c.let_go_if_over.ensures.only (c.let_go_if_over.ensures.stores was numbers now there) in
      subst (λ (s : Stock). IsPeer c.let_go_if_over.new.self.client (record r.peer { stores = s }))
      (gone-more numbers_freed i 0 shown found r c.loop-number-test.true c.find.ensures)
      next;
  only = c.let_go_if_over.ensures.only ∙ ap (λ (v : ClientView). record v { stores = c.let_go_if_over.new.self.client.stores }) c.loop-number.invariant.only;
  owned = c.let_go_if_over.ensures.owned ∙ c.loop-number.invariant.owned;
  subsurfaces = c.let_go_if_over.ensures.subsurfaces ∙ c.loop-number.invariant.subsurfaces;
}

pub returns-clause-stores : goal.returns-clause-stores
returns-clause-stores g c = λ r numbers is kept once.
    let shown = map buffer_of c.args.shown.now in
    let all = ap (λ (ns : List ℕ). gone_of (freed_of ns shown) r) (take_all c.loop-number.number-index c.args.freed.now c.loop-number-test.false) in
    subst (λ (x : Resident). IsPeer c.loop-number.self.client x.peer) (all ∙ gone-all c.args.freed.now shown r once) (c.loop-number.invariant.stores r numbers is kept)

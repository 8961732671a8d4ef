use Rattle.std.proofs.Common.{Bool, false, ap, subst, sym, ◌∙◌}
use Rattle.std.specs.Option.{option_map}
use Rattle.wl_store.specs.Stores.{Stock}
use Rattle.wl_client.specs.Agreement.{IsPeer}
use Rattle.wl_surface.specs.Kept.{buffer_of}
use Rattle.std.specs.Prelude.{◌||◌}
use Rattle.spec_desktop.specs.Releases.{let_if, same_number}
use Rattle.spec_desktop.specs.Step.{is_over, with_peer}
use Rattle.wl_requests.proofs.Doing.{kept-there, one-let}
use Rattle.law_desktop.proofs.Keeping.Releases.{three-go}
use Rattle.wl_requests.proofs.residents.Resident.let_go_of_three.Goals as goal

pub returns-clause-stores : goal.returns-clause-stores
returns-clause-stores g c = λ r numbers is kept.
    let one = option_map buffer_of c.args.first in
    let two = option_map buffer_of c.args.second in
    let three = option_map buffer_of c.args.third in
    let over = is_over r in
    let after_one = let_if over false one r.peer.stores in
    let after_two = let_if over c.is_same.result two after_one in
    let first = one-let _ _ r (let_if over false one) is c.let_go_if_over.ensures.only (c.let_go_if_over.ensures.stores r numbers is kept) in
    let then = with_peer (record r.peer { stores = after_one }) r in
    let kept_then = kept-there _ _ numbers r.owned.surfaces c.let_go_if_over.ensures.owned kept in
    let second = one-let _ _ then (let_if over c.is_same.result two) first c.let_go_if_over-2.ensures.only (c.let_go_if_over-2.ensures.stores then numbers first kept_then) in
    let later = with_peer (record r.peer { stores = after_two }) r in
    let kept_later = kept-there _ _ numbers r.owned.surfaces c.let_go_if_over-2.ensures.owned kept_then in
    let third = one-let _ _ later (let_if over c.is_either.result three) second c.let_go_if_over-3.ensures.only (c.let_go_if_over-3.ensures.stores later numbers second kept_later) in
    subst (λ (s : Stock). IsPeer c.let_go_if_over-3.new.self.client (record r.peer { stores = s }))
    (ap (λ (again : Bool). let_if over again three after_two) c.is_either.ensures
    ∙ ap (λ (again : Bool). let_if over (same_number three two || same_number three one) three (let_if over again two after_one)) c.is_same.ensures
    ∙ sym (three-go over r.peer.stores one two three))
    third

use Rattle.std.proofs.Common.{ℕ, List, Option, ap, slice_index_or, subst}
use Rattle.wl_client.specs.Agreement.{IsPeer}
use Rattle.wl_surface.specs.Request.{Buffer}
use Rattle.wl_surface.specs.declared.content.Attached.{Attached}
use Rattle.spec_desktop.specs.Step.{letting_go}
use Rattle.law_desktop.proofs.Keeping.Releases.{three-had}
use Rattle.wl_requests.proofs.residents.Resident.let_go_of.Goals as goal

pub returns-clause-stores : goal.returns-clause-stores
returns-clause-stores g c = λ r numbers is kept at same.
    let element : ℕ → Option Attached → Option Attached = λ k d. slice_index_or c.args.had k d in
    subst (λ (bs : List Buffer). IsPeer c.let_go_of_three.new.self.client (letting_go bs r).peer)
    (three-had c.args.had (element 0 c.index-had-0.result) (element 1 c.index-had-1.result) (element 2 c.index-had-2.result) at
    (ap (element 0) c.index-had-0.is) (ap (element 1) c.index-had-1.is) (ap (element 2) c.index-had-2.is) same)
    (c.let_go_of_three.ensures.stores r numbers is kept)

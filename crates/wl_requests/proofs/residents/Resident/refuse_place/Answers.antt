use Rattle.std.proofs.Common.{subst}
use Rattle.wl_client.specs.Agreement.{IsPeer}
use Rattle.spec_desktop.specs.Peer.{Errs, Peer, counted}
use Rattle.spec_desktop.specs.declared.refusals.Refusal.{Refusal}
use Rattle.wl_requests.proofs.residents.Resident.refuse_place.Goals as goal

pub returns-then-eq-clause-errs : goal.returns-then-eq-clause-errs
returns-then-eq-clause-errs g c = λ error p is. subst (λ (x : Refusal). (q : Peer) × Errs x p q × IsPeer c.refuse.new.self q) c.of.ensures (c.refuse.ensures.errs p is)

pub returns-else-eq-clause-lacks : goal.returns-else-eq-clause-lacks
returns-else-eq-clause-lacks g c = λ other p is. c.lack_memory.ensures.lacks (counted p) (c.count.ensures.counts p is)

use Rattle.std.proofs.Common.{ap, sym, refl, inl, inr}
use Rattle.std.specs.Prelude.{is_some}
use Rattle.wl_geom.specs.Region.{Subtract}
use Rattle.spec_desktop.specs.Peer.{changed_region}
use Rattle.wl_client.proofs.Peers.{region-absent, region-grown, region-kept}
use Rattle.wl_client.proofs.clients.Client.subtract_from_region.Goals as goal

pub returns-in_default-clause-acts : goal.returns-in_default-clause-acts
returns-in_default-clause-acts g c = λ p is.
    let seen = rw (← c.self.view_is) at is in
    (changed_region c.args.id (Subtract c.args.rect) p, inr refl, rw c.get_mut.follows.holds-at-none (region-absent _ p c.args.id (Subtract c.args.rect) (sym c.in_default.ensures.value) seen))

pub returns-in-Ok-clause-acts : goal.returns-in-Ok-clause-acts
returns-in-Ok-clause-acts g c = λ p is.
    let seen = rw (← c.self.view_is) at is in
    let region = c.subtract.new.self in
    let there = c.in-Some.ensures.value in
    let updates = (c.get_mut.follows.holds region).3 (ap is_some (sym there)) in (
      changed_region c.args.id (Subtract c.args.rect) p,
      inr refl,
      region-grown _ p c.self.inside.regions (c.get_mut.follows.lender region) c.args.id c.in-Some.region.now region (Subtract c.args.rect) refl there updates c.in-Ok.ensures.ok seen,
    )

pub returns-in-Err-clause-acts : goal.returns-in-Err-clause-acts
returns-in-Err-clause-acts g c = λ p is.
    let seen = rw (← c.self.view_is) at is in
    let region = c.subtract.new.self in
    let there = c.in-Some.ensures.value in
    let updates = (c.get_mut.follows.holds region).3 (ap is_some (sym there)) in
    let next = c.lack_memory.ensures.lacks _ (region-kept _ p c.self.inside.regions (c.get_mut.follows.lender region) c.args.id c.in-Some.region.now region refl there updates c.in-Err.ensures.err
    seen) in
    (next.0, inl next.1, next.2)

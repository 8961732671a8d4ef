use Rattle.std.specs.Prelude.{Ok}
use Rattle.spec_desktop.specs.Ask.{Ignore}
use Rattle.std.proofs.Common.{refl, subst, sym}
use Rattle.spec_desktop.specs.Peer.{counted}
use Rattle.wl_shell.specs.Kept.{kept_of}
use Rattle.law_desktop.specs.Owning.{IsOwned, Names}
use Rattle.spec_desktop.specs.Step.{with_peer}
use Rattle.wl_requests.proofs.Shelling.{names-counted}
use Rattle.wl_requests.proofs.Numbers.{keeps-names}
use Rattle.wl_requests.proofs.Naming.{subsurfaces-names}
use Rattle.wl_requests.proofs.Meeting.{as-asked}
use Rattle.wl_requests.proofs.residents.Resident.ignore.Goals as goal
use Rattle.wl_requests.proofs.Framing.{framed-names, one-more}

pub returns-clause-answers : goal.returns-clause-answers
returns-clause-answers g c = λ client r on is only.
    as-asked _ _ client on r only (Ok Ignore) (
    let v = c.args.self.now in (
      counted r.peer,
      refl,
      record {
        peer = c.count.ensures.counts r.peer is.peer;
        numbers = λ alive. keeps-names v.client.objects c.count.new.self.objects (names-counted v.client c.count.new.self c.count.ensures.only);
        frames = λ alive. framed-names v.owned.surfaces.states.frames v.client.objects c.count.new.self.objects r (with_peer (counted r.peer) r) refl (one-more r.peer.requests) is.frames
            (names-counted v.client c.count.new.self c.count.ensures.only) refl;
        subsurfaces = λ alive. subsurfaces-names v.subsurfaces r.subsurfaces v.client.objects c.count.new.self.objects is.subsurfaces
            (names-counted v.client c.count.new.self c.count.ensures.only);
        owns = λ alive. subst (λ (n : Names). IsOwned n v.owned.surfaces.states v.owned.surfaces.family (kept_of v.owned.shell) r.owned)
            (sym (names-counted v.client c.count.new.self c.count.ensures.only)) is.owns;
      },
    ))

use Rattle.std.proofs.Common.{inr, sym, subst, refl}
use Rattle.wl_shell.specs.Kept.{kept_of}
use Rattle.law_desktop.specs.Owning.{IsOwned, Names}
use Rattle.spec_desktop.specs.Step.{removing}
use Rattle.wl_requests.proofs.Shelling.{alone-gone}
use Rattle.wl_requests.proofs.Numbers.{keeps-names}
use Rattle.wl_requests.proofs.Naming.{subsurfaces-names}
use Rattle.wl_requests.proofs.residents.Resident.end_object.Goals as goal
use Rattle.wl_requests.proofs.Framing.{framed-names, no-more}

pub returns-clause-does : goal.returns-clause-does
returns-clause-does g c = λ alone r is.
    let v = c.args.self.now in
    let gone = c.remove.ensures.removes r.peer is.peer in (
      gone.0,
      inr gone.1,
      record {
        peer = gone.2;
        numbers = λ alive. keeps-names v.client.objects c.remove.new.self.objects (alone-gone _ _ c.args.object alone (c.remove.ensures.table alive));
        frames = λ alive. framed-names v.owned.surfaces.states.frames v.client.objects c.remove.new.self.objects r (removing c.args.object r) refl (no-more r.peer.requests) is.frames
            (alone-gone _ _ c.args.object alone (c.remove.ensures.table alive)) refl;
        subsurfaces = λ alive. subsurfaces-names v.subsurfaces r.subsurfaces v.client.objects c.remove.new.self.objects is.subsurfaces
            (alone-gone _ _ c.args.object alone (c.remove.ensures.table alive));
        owns = λ alive. subst (λ (names : Names). IsOwned names v.owned.surfaces.states v.owned.surfaces.family (kept_of v.owned.shell) r.owned)
            (sym (alone-gone _ _ c.args.object alone (c.remove.ensures.table alive))) is.owns;
      },
    )

use Rattle.wl_proto.specs.declared.xdg_surface.XdgSurfaceRequest.TheVariants as xdg
use Rattle.std.proofs.Common.{ap, inr, refl, subst, sym}
use Rattle.spec_desktop.specs.Peer.{counted}
use Rattle.wl_shell.specs.Kept.{acknowledgement_answer, kept_of}
use Rattle.spec_desktop.specs.Ask.{Acknowledge}
use Rattle.law_desktop.specs.Owning.{IsOwned, Names, shell_refusal}
use Rattle.law_desktop.specs.RoleNames.{names_of}
use Rattle.spec_desktop.specs.Step.{changed_by, with_peer}
use Rattle.spec_desktop.specs.XdgShell.{acknowledged_by}
use Rattle.law_desktop.proofs.Keeping.OwningAsks.{owned-acknowledged}
use Rattle.law_desktop.proofs.Keeping.OwningReads.{acknowledged-by}
use Rattle.wl_requests.proofs.Shelling.{accepted, names-counted, told-err, told-ok, xdg-answered, xdg-refused}
use Rattle.wl_requests.proofs.Numbers.{keeps-names}
use Rattle.wl_requests.proofs.Naming.{subsurfaces-names}
use Rattle.wl_requests.proofs.Meeting.{as-asked}
use Rattle.wl_requests.proofs.residents.Resident.ack_configure.Goals as goal
use Rattle.wl_requests.proofs.Framing.{framed-names, one-more}

pub returns-in-Ok-clause-answers : goal.returns-in-Ok-clause-answers
returns-in-Ok-clause-answers g c = λ version named client r on is only.
    let v = c.args.self.now in
    let names = names_of v.client.objects in
    let kept = kept_of v.owned.shell in
    let serial = c.args.serial in
    xdg-answered v _ c.args.object c.args.surface version (xdg.AckConfigure c.args.serial) client on r is named
    (λ k x h one same. as-asked _ _ client on r only (acknowledged_by x c.args.serial) (
    let judged = acknowledged-by names kept r c.args.surface k x h one c.args.object serial in
    accepted _ r (acknowledged_by x serial) (Acknowledge x.id serial)
    (told-ok _ _ (shell_refusal x.base x.id c.args.object) (acknowledgement_answer serial (kept c.args.surface)) c.ack.result judged c.ack.ensures.answer c.in-Ok.is) (
      counted r.peer,
      inr refl,
      record {
        peer = c.count.ensures.counts r.peer is.peer;
        numbers = λ alive. keeps-names v.client.objects c.count.new.self.objects (names-counted v.client c.count.new.self c.count.ensures.only);
        frames = λ alive. framed-names v.owned.surfaces.states.frames v.client.objects c.count.new.self.objects r (changed_by (Acknowledge x.id serial) (with_peer (counted r.peer) r)) refl
            (one-more r.peer.requests) is.frames
            (names-counted v.client c.count.new.self c.count.ensures.only) refl;
        subsurfaces = λ alive. subsurfaces-names v.subsurfaces r.subsurfaces v.client.objects c.count.new.self.objects is.subsurfaces
            (names-counted v.client c.count.new.self c.count.ensures.only);
        owns = λ alive. subst (λ (n : Names). IsOwned n v.owned.surfaces.states v.owned.surfaces.family (kept_of c.ack.new.self) (changed_by (Acknowledge x.id serial) r).owned)
            (sym (names-counted v.client c.count.new.self c.count.ensures.only))
            (owned-acknowledged names v.owned.surfaces.states v.owned.surfaces.family kept r is.owns c.args.surface k x h one serial (kept_of c.ack.new.self) c.in-Ok.ensures.ok);
      },
    )))

pub returns-in-Err-clause-answers : goal.returns-in-Err-clause-answers
returns-in-Err-clause-answers g c = λ version named client r on is only.
    let v = c.args.self.now in
    let kept = kept_of v.owned.shell in
    let serial = c.args.serial in
    xdg-answered v _ c.args.object c.args.surface version (xdg.AckConfigure c.args.serial) client on r is named
    (λ k x h one same. as-asked _ _ client on r only (acknowledged_by x c.args.serial) (
    let judged = acknowledged-by (names_of v.client.objects) kept r c.args.surface k x h one c.args.object serial in
    xdg-refused v _ (kept_of c.ack.new.self) r c.args.object c.args.surface k x h c.in-Err.error (acknowledged_by x serial) one same
    (told-err _ _ (shell_refusal x.base x.id c.args.object) (acknowledgement_answer serial (kept c.args.surface)) c.ack.result c.in-Err.error judged c.ack.ensures.answer c.in-Err.is)
    (ap kept_of c.in-Err.ensures.err)
    c.refuse_xdg_surface.ensures.ended
    (c.refuse_xdg_surface.ensures.errs r.peer is.peer)))

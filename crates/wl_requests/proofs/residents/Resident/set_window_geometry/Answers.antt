use Rattle.wl_proto.specs.declared.xdg_surface.XdgSurfaceRequest.TheVariants as xdg
use Rattle.std.proofs.Common.{ap, inr, refl, subst, sym, true}
use Rattle.spec_desktop.specs.Peer.{counted}
use Rattle.wl_surface.specs.Request.{SetWindowGeometry}
use Rattle.wl_shell.specs.Kept.{geometry_answer, kept_of}
use Rattle.spec_desktop.specs.Ask.{AskSurface}
use Rattle.law_desktop.specs.Owning.{IsOwned, Names, shell_refusal}
use Rattle.law_desktop.specs.RoleNames.{names_of}
use Rattle.spec_desktop.specs.Step.{changed_by, with_peer}
use Rattle.spec_desktop.specs.XdgShell.{geometry_set}
use Rattle.law_desktop.proofs.Keeping.OwningAsks.{owned-geometry}
use Rattle.law_desktop.proofs.Keeping.OwningReads.{geometry-set-by}
use Rattle.wl_requests.proofs.Shelling.{accepted, asked-releases, geometry-keeps, names-counted, told-err, told-ok, wants-told, xdg-answered, xdg-refused}
use Rattle.wl_requests.proofs.Numbers.{keeps-names}
use Rattle.wl_requests.proofs.Naming.{subsurfaces-names}
use Rattle.wl_requests.proofs.Meeting.{as-asked}
use Rattle.wl_requests.proofs.residents.Resident.set_window_geometry.Goals as goal
use Rattle.wl_requests.proofs.Framing.{framed-asked, one-more}

pub returns-in-Ok-clause-answers : goal.returns-in-Ok-clause-answers
returns-in-Ok-clause-answers g c = λ version named client r on is only.
    let v = c.args.self.now in
    let names = names_of v.client.objects in
    let kept = kept_of v.owned.shell in
    let rect = c.args.rect in
    xdg-answered v _ c.args.object c.args.surface version (xdg.SetWindowGeometry c.args.rect.x c.args.rect.y c.args.rect.w c.args.rect.h) client on r is named
    (λ k x h one same. as-asked _ _ client on r only (geometry_set x c.args.rect) (
    let judged = geometry-set-by names kept r c.args.surface k x h one c.args.object rect in
    accepted _ r (geometry_set x rect) (AskSurface x.surface (SetWindowGeometry rect))
    (told-ok _ _ (shell_refusal x.base x.id c.args.object) (geometry_answer rect (kept c.args.surface)) c.geometry.result judged c.geometry.ensures.answer c.in-Ok.is) (
      counted r.peer,
      wants-told true _ _ (counted r.peer) (changed_by (AskSurface x.surface (SetWindowGeometry rect)) (with_peer (counted r.peer) r)).peer (counted r.peer)
          (asked-releases names.surfaces v.owned.surfaces.states v.owned.surfaces.family (with_peer (counted r.peer) r) x.surface c.args.surface (SetWindowGeometry rect) refl is.owns.surfaces
          one.surface)
          (inr (sym (geometry-keeps names.surfaces v.owned.surfaces.states v.owned.surfaces.family (with_peer (counted r.peer) r) x.surface c.args.surface rect is.owns.surfaces one.surface))),
      record {
        peer = c.count.ensures.counts r.peer is.peer;
        numbers = λ alive. keeps-names v.client.objects c.count.new.self.objects (names-counted v.client c.count.new.self c.count.ensures.only);
        frames = λ alive. framed-asked v.owned.surfaces.states.frames v.client.objects c.count.new.self.objects r
            (changed_by (AskSurface x.surface (SetWindowGeometry rect)) (with_peer (counted r.peer) r))
            refl (one-more r.peer.requests) is.frames
            v.owned.surfaces.states v.owned.surfaces.family is.owns.surfaces x.surface c.args.surface (SetWindowGeometry rect) refl refl one.surface
            (names-counted v.client c.count.new.self c.count.ensures.only) refl;
        subsurfaces = λ alive. subsurfaces-names v.subsurfaces r.subsurfaces v.client.objects c.count.new.self.objects is.subsurfaces
            (names-counted v.client c.count.new.self c.count.ensures.only);
        owns = λ alive. subst (λ (n : Names). IsOwned n v.owned.surfaces.states v.owned.surfaces.family (kept_of c.geometry.new.self)
            (changed_by (AskSurface x.surface (SetWindowGeometry rect)) r).owned)
            (sym (names-counted v.client c.count.new.self c.count.ensures.only))
            (owned-geometry names v.owned.surfaces.states v.owned.surfaces.family kept r is.owns c.args.surface k x h one rect (kept_of c.geometry.new.self) c.in-Ok.ensures.ok);
      },
    )))

pub returns-in-Err-clause-answers : goal.returns-in-Err-clause-answers
returns-in-Err-clause-answers g c = λ version named client r on is only.
    let v = c.args.self.now in
    let kept = kept_of v.owned.shell in
    let rect = c.args.rect in
    xdg-answered v _ c.args.object c.args.surface version (xdg.SetWindowGeometry c.args.rect.x c.args.rect.y c.args.rect.w c.args.rect.h) client on r is named
    (λ k x h one same. as-asked _ _ client on r only (geometry_set x c.args.rect) (
    let judged = geometry-set-by (names_of v.client.objects) kept r c.args.surface k x h one c.args.object rect in
    xdg-refused v _ (kept_of c.geometry.new.self) r c.args.object c.args.surface k x h c.in-Err.error (geometry_set x rect) one same
    (told-err _ _ (shell_refusal x.base x.id c.args.object) (geometry_answer rect (kept c.args.surface)) c.geometry.result c.in-Err.error judged c.geometry.ensures.answer c.in-Err.is)
    (ap kept_of c.in-Err.ensures.err)
    c.refuse_xdg_surface.ensures.ended
    (c.refuse_xdg_surface.ensures.errs r.peer is.peer)))

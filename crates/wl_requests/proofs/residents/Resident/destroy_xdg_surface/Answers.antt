use Rattle.wl_proto.specs.declared.xdg_surface.XdgSurfaceRequest.TheVariants as xdg
use Rattle.std.proofs.Common.{◌≡◌, ap, inr, subst, sym, ◌∙◌, refl}
use Rattle.std.specs.Prelude.{Ok, None}
use Rattle.spec_desktop.specs.Peer.{counted}
use Rattle.wl_shell.specs.Kept.{destruction_answer, kept_of}
use Rattle.spec_desktop.specs.Ask.{DestroyXdgSurface}
use Rattle.law_desktop.specs.Owning.{IsOwned, shell_refusal, with_xdg, Names}
use Rattle.law_desktop.specs.RoleNames.{names_of}
use Rattle.spec_desktop.specs.Step.{changed_by, with_peer}
use Rattle.spec_desktop.specs.XdgShell.{xdg_surface_destroyed}
use Rattle.law_desktop.proofs.Keeping.OwningAsks.{owned-xdg-gone}
use Rattle.law_desktop.proofs.Keeping.OwningReads.{bare-destroyed, xdg-destroyed-by}
use Rattle.wl_requests.proofs.Shelling.{accepted, told-err, told-ok, xdg-answered, xdg-gone, xdg-refused}
use Rattle.wl_requests.proofs.Numbers.{keeps-xdg}
use Rattle.wl_requests.proofs.Naming.{subsurfaces-named}
use Rattle.wl_requests.proofs.Meeting.{as-asked}
use Rattle.wl_requests.proofs.residents.Resident.destroy_xdg_surface.Goals as goal
use Rattle.wl_requests.proofs.Framing.{framed-kept, one-more}

pub returns-in-Ok-clause-answers : goal.returns-in-Ok-clause-answers
returns-in-Ok-clause-answers g c = λ version named client r on is only.
    let v = c.args.self.now in
    let names = names_of v.client.objects in
    let kept = kept_of v.owned.shell in
    let object = c.args.object in
    let number = c.args.surface in
    let left = names_of c.remove.new.self.objects in
    let after = kept_of c.destroy_xdg_surface.new.self in
    let gone = c.remove.ensures.removes (counted r.peer) (c.count.ensures.counts r.peer is.peer) in
    xdg-answered v _ object number version xdg.Destroy client on r is named
    (λ k x h one same. as-asked _ _ client on r only (xdg_surface_destroyed x) (
    let judged = xdg-destroyed-by names kept r number k x h one object in
    let bare = bare-destroyed names kept r number k x h one object (sym c.destroy_xdg_surface.ensures.answer ∙ c.in-Ok.is) in
    accepted _ r (xdg_surface_destroyed x) (DestroyXdgSurface object)
    (told-ok _ _ (shell_refusal x.base x.id object) (destruction_answer (kept number)) c.destroy_xdg_surface.result judged c.destroy_xdg_surface.ensures.answer c.in-Ok.is
    ∙ ap (λ i. Ok (DestroyXdgSurface i)) same) (
      gone.0,
      inr gone.1,
      record {
        peer = gone.2;
        numbers = λ alive. keeps-xdg v.client.objects c.remove.new.self.objects object None (xdg-gone v.client c.count.new.self c.remove.new.self object number c.count.ensures.only named
            (c.remove.ensures.table alive));
        frames = λ alive.
            let went = xdg-gone v.client c.count.new.self c.remove.new.self object number c.count.ensures.only named (c.remove.ensures.table alive) in
            framed-kept v.owned.surfaces.states.frames v.client.objects c.remove.new.self.objects r (changed_by (DestroyXdgSurface object) (with_peer (counted r.peer) r)) refl
            (one-more r.peer.requests)
            is.frames (ap (λ (n : Names). n.surfaces) went) refl;
        subsurfaces = λ alive.
            let went = xdg-gone v.client c.count.new.self c.remove.new.self object number c.count.ensures.only named (c.remove.ensures.table alive) in
            subsurfaces-named v.subsurfaces r.subsurfaces v.client.objects c.remove.new.self.objects is.subsurfaces (ap (λ (n : Names). n.surfaces) went);
        owns = λ alive.
            let went : left ≡ with_xdg object None names = xdg-gone v.client c.count.new.self c.remove.new.self object number c.count.ensures.only named (c.remove.ensures.table alive) in
            subst (λ i. IsOwned left v.owned.surfaces.states v.owned.surfaces.family after (changed_by (DestroyXdgSurface i) (with_peer (counted r.peer) r)).owned) same
            (owned-xdg-gone names v.owned.surfaces.states v.owned.surfaces.family kept r is.owns number k x h one after left bare c.in-Ok.ensures.ok
            (subst (λ i. left ≡ with_xdg i None names) (sym same) went));
      },
    )))

pub returns-in-Err-clause-answers : goal.returns-in-Err-clause-answers
returns-in-Err-clause-answers g c = λ version named client r on is only.
    let v = c.args.self.now in
    let kept = kept_of v.owned.shell in
    xdg-answered v _ c.args.object c.args.surface version xdg.Destroy client on r is named
    (λ k x h one same. as-asked _ _ client on r only (xdg_surface_destroyed x) (
    let judged = xdg-destroyed-by (names_of v.client.objects) kept r c.args.surface k x h one c.args.object in
    xdg-refused v _ (kept_of c.destroy_xdg_surface.new.self) r c.args.object c.args.surface k x h c.in-Err.error (xdg_surface_destroyed x) one same
    (told-err _ _ (shell_refusal x.base x.id c.args.object) (destruction_answer (kept c.args.surface)) c.destroy_xdg_surface.result c.in-Err.error judged c.destroy_xdg_surface.ensures.answer
    c.in-Err.is)
    (ap kept_of c.in-Err.ensures.err)
    c.refuse_xdg_surface.ensures.ended
    (c.refuse_xdg_surface.ensures.errs r.peer is.peer)))

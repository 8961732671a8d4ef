use Rattle.wl_proto.specs.declared.xdg_surface.XdgSurfaceRequest.TheVariants as xdg
use Rattle.std.proofs.Common.{◌≡◌, ap, refl, sym, ◌∙◌, List, subst}
use Rattle.std.specs.Prelude.{Some}
use Rattle.wl_proto.specs.declared.interface.Interface.TheVariants.{WlSurface, XdgToplevel}
use Rattle.spec_desktop.specs.Peer.{counted}
use Rattle.wl_shell.specs.Kept.{kept_of, toplevel_answer}
use Rattle.spec_desktop.specs.Ask.{GetToplevel}
use Rattle.law_desktop.specs.Owning.{shell_refusal, Names, targets_in}
use Rattle.law_desktop.specs.RoleNames.{names_of}
use Rattle.law_desktop.specs.Subsurfaces.{AreOfSurfaces}
use Rattle.spec_desktop.specs.Step.{with_peer, making, toplevel_given}
use Rattle.spec_desktop.specs.XdgShell.{is_no_toplevel, role_of, toplevel_made}
use Rattle.law_desktop.proofs.Keeping.OwningAsks.{owned-toplevel-made}
use Rattle.law_desktop.proofs.OwnedPopups.Naming.{roles-named}
use Rattle.wl_requests.proofs.Roles.{names-toplevel-made}
use Rattle.law_desktop.proofs.Keeping.OwningReads.{bare-toplevel, role-read, toplevel-made-by}
use Rattle.wl_requests.proofs.Shelling.{accepted, acts-given, holds-counted, role-given, told-err, told-ok, xdg-answered, xdg-refused}
use Rattle.wl_requests.proofs.Numbers.{keeps-toplevel}
use Rattle.wl_requests.proofs.Naming.{subsurfaces-named}
use Rattle.wl_requests.proofs.Meeting.{as-asked}
use Rattle.wl_requests.proofs.residents.Resident.get_toplevel.Goals as goal
use Rattle.wl_requests.proofs.Framing.{IsFramed, framed-role, one-more}
use Rattle.wl_surface.specs.declared.frames.Waiting.{Waiting}
use Rattle.wl_surface.specs.declared.role.Role.TheVariants.{Toplevel as AsToplevel}

pub returns-in-Ok-clause-answers : goal.returns-in-Ok-clause-answers
returns-in-Ok-clause-answers g c = λ named free client r on is only.
    let v = c.args.self.now in
    let names = names_of v.client.objects in
    let kept = kept_of v.owned.shell in
    let number = c.args.surface in
    let id = c.args.id in
    let version = c.args.version in
    let made = c.add.ensures.makes (counted r.peer) (c.count.ensures.counts r.peer is.peer) in
    xdg-answered v _ c.args.object number c.args.version (xdg.GetToplevel c.args.id) client on r is named
    (λ k x h one same. as-asked _ _ client on r only (toplevel_made r x c.args.version c.args.id) (
    let other : c.is_other_role-has_other_role.result ≡ is_no_toplevel (role_of r x.surface) =
    c.is_other_role-has_other_role.ensures ∙ ap is_no_toplevel
    (role-read names v.owned.surfaces.states v.owned.surfaces.family kept r is.owns x.surface number c.role.result one.surface c.role.ensures) in
    let answer : c.get_toplevel.result ≡ toplevel_answer (is_no_toplevel (role_of r x.surface)) (kept number) = c.get_toplevel.ensures.answer ∙ ap (λ b. toplevel_answer b (kept number)) other in
    let bare = bare-toplevel names kept r number k x h one c.args.object (is_no_toplevel (role_of r x.surface)) (sym answer ∙ c.in-Ok.is) in
    accepted _ r (toplevel_made r x version id) (GetToplevel id version x.id)
    (told-ok _ _ (shell_refusal x.base x.id c.args.object) _ c.get_toplevel.result (toplevel-made-by names kept r number k x h one c.args.object version id) answer c.in-Ok.is) (
      made.0,
      acts-given x.id id version r made.0 made.1,
      record {
        peer = made.2;
        numbers = λ alive. keeps-toplevel v.client.objects c.add.new.self.objects id (Some number)
            (names-toplevel-made v.client.objects c.add.new.self.objects id (record { interface = XdgToplevel; version = version; target = number }) free refl
            (holds-counted v.client c.count.new.self c.add.new.self.objects id (Some (record { interface = XdgToplevel; version = version; target = number })) c.count.ensures.only
            (c.add.ensures.table alive)));
        frames = λ alive.
            let now = names-toplevel-made v.client.objects c.add.new.self.objects id (record { interface = XdgToplevel; version = version; target = number }) free refl
            (holds-counted v.client c.count.new.self c.add.new.self.objects id (Some (record { interface = XdgToplevel; version = version; target = number })) c.count.ensures.only
            (c.add.ensures.table alive)) in
            let then = with_peer (counted r.peer) r in
            subst (λ o. IsFramed c.give_role-given.new.self.states.frames c.add.new.self.objects (making XdgToplevel id version (toplevel_given id x.id o then))) (sym one.at_id)
            (subst (λ (ws : List Waiting). IsFramed ws c.add.new.self.objects (making XdgToplevel id version (toplevel_given id x.id (Some x) then))) (sym c.give_role-given.ensures.frames)
            (framed-role v.owned.surfaces.states.frames v.client.objects c.add.new.self.objects r (making XdgToplevel id version (toplevel_given id x.id (Some x) then)) refl
            (one-more r.peer.requests)
            is.frames
            v.owned.surfaces.states v.owned.surfaces.family is.owns.surfaces x.surface number AsToplevel one.surface (ap (λ (n : Names). n.surfaces) now) refl));
        subsurfaces = λ alive.
            let now = names-toplevel-made v.client.objects c.add.new.self.objects id (record { interface = XdgToplevel; version = version; target = number }) free refl
            (holds-counted v.client c.count.new.self c.add.new.self.objects id (Some (record { interface = XdgToplevel; version = version; target = number })) c.count.ensures.only
            (c.add.ensures.table alive)) in
            subst (λ o. AreOfSurfaces v.subsurfaces (targets_in WlSurface c.add.new.self.objects) (toplevel_given id x.id o (with_peer (counted r.peer) r)).subsurfaces) (sym one.at_id)
            (subsurfaces-named v.subsurfaces r.subsurfaces v.client.objects c.add.new.self.objects is.subsurfaces (ap (λ (n : Names). n.surfaces) now));
        owns = λ alive. rw c.give_role-given.ensures.family (owned-toplevel-made names v.owned.surfaces.states v.owned.surfaces.family kept (with_peer (counted r.peer) r) is.owns number k x h one id version c.give_role-given.new.self.states
            (kept_of c.get_toplevel.new.self)
            (names_of c.add.new.self.objects) bare.0
            (roles-named.free v.client.objects id free)
            (role-given names v.owned.surfaces.states v.owned.surfaces.family kept r is.owns x.surface number c.role.result c.give_role-given.result c.give_role-given.new.self.states one.surface bare.1
            c.role.ensures
            c.give_role-given.ensures.refused c.give_role-given.ensures.ok)
            c.in-Ok.ensures.ok
            (names-toplevel-made v.client.objects c.add.new.self.objects id (record { interface = XdgToplevel; version = version; target = number }) free refl
            (holds-counted v.client c.count.new.self c.add.new.self.objects id (Some (record { interface = XdgToplevel; version = version; target = number })) c.count.ensures.only
            (c.add.ensures.table alive))));
      },
    )))

pub returns-in-Err-clause-answers : goal.returns-in-Err-clause-answers
returns-in-Err-clause-answers g c = λ named free client r on is only.
    let v = c.args.self.now in
    let names = names_of v.client.objects in
    let kept = kept_of v.owned.shell in
    let number = c.args.surface in
    xdg-answered v _ c.args.object number c.args.version (xdg.GetToplevel c.args.id) client on r is named
    (λ k x h one same. as-asked _ _ client on r only (toplevel_made r x c.args.version c.args.id) (
    let other : c.is_other_role-has_other_role.result ≡ is_no_toplevel (role_of r x.surface) =
    c.is_other_role-has_other_role.ensures ∙ ap is_no_toplevel
    (role-read names v.owned.surfaces.states v.owned.surfaces.family kept r is.owns x.surface number c.role.result one.surface c.role.ensures) in
    xdg-refused v _ (kept_of c.get_toplevel.new.self) r c.args.object number k x h c.in-Err.error (toplevel_made r x c.args.version c.args.id) one same
    (told-err _ _ (shell_refusal x.base x.id c.args.object) _ c.get_toplevel.result c.in-Err.error (toplevel-made-by names kept r number k x h one c.args.object c.args.version c.args.id)
    (c.get_toplevel.ensures.answer ∙ ap (λ b. toplevel_answer b (kept number)) other) c.in-Err.is)
    (ap kept_of c.in-Err.ensures.err)
    c.refuse_xdg_surface.ensures.ended
    (c.refuse_xdg_surface.ensures.errs r.peer is.peer)))

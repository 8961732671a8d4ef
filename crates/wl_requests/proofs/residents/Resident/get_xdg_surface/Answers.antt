use Rattle.std.proofs.Common.{ap, inl, refl, ◌∙◌}
use Rattle.std.specs.Prelude.{Some, Err}
use Rattle.wl_proto.specs.declared.interface.Interface.TheVariants.{XdgSurface}
use Rattle.spec_desktop.specs.Peer.{counted}
use Rattle.wl_shell.specs.Kept.{kept_of, making_refused}
use Rattle.wl_shell.specs.declared.error.ShellError.{ShellError}
use Rattle.spec_desktop.specs.Ask.{GetXdgSurface}
use Rattle.law_desktop.specs.Owning.{asks_unless, shell_refusal, Names}
use Rattle.law_desktop.specs.RoleNames.{names_of}
use Rattle.spec_desktop.specs.Step.{changed_by, with_peer}
use Rattle.spec_desktop.specs.XdgShell.{has_any, is_foreign, role_of, xdg_surface_made}
use Rattle.wl_requests.proofs.Doing.{lacked}
use Rattle.law_desktop.proofs.Keeping.OwningAsks.{owned-xdg-made}
use Rattle.law_desktop.proofs.Keeping.OwningNames.{targets-free}
use Rattle.wl_requests.proofs.Roles.{names-xdg-made}
use Rattle.law_desktop.proofs.Keeping.OwningReads.{content-read, free-made, made-by, role-read}
use Rattle.wl_requests.proofs.Shelling.{accepted, making-err, making-memory, making-ok, making-read, holds-counted, refused-so}
use Rattle.wl_requests.proofs.Numbers.{keeps-xdg}
use Rattle.wl_requests.proofs.Naming.{subsurfaces-named}
use Rattle.wl_requests.proofs.Meeting.{as-asked}
use Rattle.wl_requests.proofs.residents.Resident.get_xdg_surface.Goals as goal
use Rattle.wl_requests.proofs.Framing.{framed-kept, one-more}

pub returns-in-Ok-clause-answers : goal.returns-in-Ok-clause-answers
returns-in-Ok-clause-answers g c = λ surface free named client r on is only.
    as-asked _ _ client on r only (xdg_surface_made r c.args.object c.args.version c.args.id surface) (
    let v = c.args.self.now in
    let names = names_of v.client.objects in
    let kept = kept_of v.owned.shell in
    let base = c.args.object in
    let id = c.args.id in
    let number = c.args.surface in
    let version = c.args.version in
    let ask = GetXdgSurface id version base surface in
    let role = c.is_foreign_role-has_other_role.ensures ∙ ap is_foreign
    (role-read names v.owned.surfaces.states v.owned.surfaces.family kept r is.owns surface number c.role.result named c.role.ensures) in
    let content = content-read names v.owned.surfaces.states v.owned.surfaces.family kept r is.owns surface number c.has_content-has_content.result named c.has_content-has_content.ensures in
    let refuses = making-read _ _ _ _ (kept number) c.get_xdg_surface.result role content c.get_xdg_surface.ensures.refused in
    let none = making-ok (making_refused (is_foreign (role_of r surface)) (has_any r surface) (kept number)) c.get_xdg_surface.result refuses c.in-Ok.is in
    let made = c.add.ensures.makes (counted r.peer) (c.count.ensures.counts r.peer is.peer) in
    accepted _ r (xdg_surface_made r base version id surface) ask
    (made-by names v.owned.surfaces.states v.owned.surfaces.family kept r is.owns base version id surface number id base named ∙ ap (asks_unless ask (shell_refusal base id base)) none) (
      made.0,
      made.1,
      record {
        peer = made.2;
        numbers = λ alive. keeps-xdg v.client.objects c.add.new.self.objects id (Some number)
            (names-xdg-made v.client.objects c.add.new.self.objects id (record { interface = XdgSurface; version = version; target = number }) free refl
            (holds-counted v.client c.count.new.self c.add.new.self.objects id (Some (record { interface = XdgSurface; version = version; target = number })) c.count.ensures.only
            (c.add.ensures.table alive)));
        frames = λ alive.
            let now = names-xdg-made v.client.objects c.add.new.self.objects id (record { interface = XdgSurface; version = version; target = number }) free refl
            (holds-counted v.client c.count.new.self c.add.new.self.objects id (Some (record { interface = XdgSurface; version = version; target = number })) c.count.ensures.only
            (c.add.ensures.table alive)) in
            framed-kept v.owned.surfaces.states.frames v.client.objects c.add.new.self.objects r (changed_by ask (with_peer (counted r.peer) r)) refl (one-more r.peer.requests) is.frames
            (ap (λ (n : Names). n.surfaces) now) refl;
        subsurfaces = λ alive.
            let now = names-xdg-made v.client.objects c.add.new.self.objects id (record { interface = XdgSurface; version = version; target = number }) free refl
            (holds-counted v.client c.count.new.self c.add.new.self.objects id (Some (record { interface = XdgSurface; version = version; target = number })) c.count.ensures.only
            (c.add.ensures.table alive)) in
            subsurfaces-named v.subsurfaces r.subsurfaces v.client.objects c.add.new.self.objects is.subsurfaces (ap (λ (n : Names). n.surfaces) now);
        owns = λ alive. owned-xdg-made names v.owned.surfaces.states v.owned.surfaces.family kept r is.owns id version base surface number (kept_of c.get_xdg_surface.new.self)
            (names_of c.add.new.self.objects) named
            (free-made (is_foreign (role_of r surface)) (has_any r surface) (kept number) none).2
            (targets-free XdgSurface v.client.objects id free)
            c.in-Ok.ensures.ok
            (names-xdg-made v.client.objects c.add.new.self.objects id (record { interface = XdgSurface; version = version; target = number }) free refl
            (holds-counted v.client c.count.new.self c.add.new.self.objects id (Some (record { interface = XdgSurface; version = version; target = number })) c.count.ensures.only
            (c.add.ensures.table alive)));
      },
    ))

pub returns-then-is_memory-clause-answers : goal.returns-then-is_memory-clause-answers
returns-then-is_memory-clause-answers g c = λ surface free named client r on is only.
    as-asked _ _ client on r only (xdg_surface_made r c.args.object c.args.version c.args.id surface) (
    let v = c.args.self.now in
    let names = names_of v.client.objects in
    let kept = kept_of v.owned.shell in
    let base = c.args.object in
    let id = c.args.id in
    let number = c.args.surface in
    let version = c.args.version in
    let ask = GetXdgSurface id version base surface in
    let role = c.is_foreign_role-has_other_role.ensures ∙ ap is_foreign
    (role-read names v.owned.surfaces.states v.owned.surfaces.family kept r is.owns surface number c.role.result named c.role.ensures) in
    let content = content-read names v.owned.surfaces.states v.owned.surfaces.family kept r is.owns surface number c.has_content-has_content.result named c.has_content-has_content.ensures in
    let refuses = making-read _ _ _ _ (kept number) c.get_xdg_surface.result role content c.get_xdg_surface.ensures.refused in
    let none = making-memory (is_foreign (role_of r surface)) (has_any r surface) (kept number) c.get_xdg_surface.result refuses (c.in-Err.is
    ∙ ap (λ (e : ShellError). Err e) (c.is_memory.ensures.0 c.if-is_memory.true)) in
    let then = with_peer (counted r.peer) r in
    let lacks = lacked c.args.self.now _ (changed_by ask then) then (c.lack_memory.ensures.lacks (counted r.peer)
    (c.count-then-is_memory.ensures.counts r.peer is.peer)) c.lack_memory.ensures.ended in
    accepted _ r (xdg_surface_made r base version id surface) ask
    (made-by names v.owned.surfaces.states v.owned.surfaces.family kept r is.owns base version id surface number id base named ∙ ap (asks_unless ask (shell_refusal base id base)) none)
    (lacks.0, inl lacks.1, lacks.2))

pub returns-else-is_memory-clause-answers : goal.returns-else-is_memory-clause-answers
returns-else-is_memory-clause-answers g c = λ surface free named client r on is only.
    as-asked _ _ client on r only (xdg_surface_made r c.args.object c.args.version c.args.id surface) (
    let v = c.args.self.now in
    let names = names_of v.client.objects in
    let kept = kept_of v.owned.shell in
    let base = c.args.object in
    let id = c.args.id in
    let number = c.args.surface in
    let version = c.args.version in
    let ask = GetXdgSurface id version base surface in
    let role = c.is_foreign_role-has_other_role.ensures ∙ ap is_foreign
    (role-read names v.owned.surfaces.states v.owned.surfaces.family kept r is.owns surface number c.role.result named c.role.ensures) in
    let content = content-read names v.owned.surfaces.states v.owned.surfaces.family kept r is.owns surface number c.has_content-has_content.result named c.has_content-has_content.ensures in
    let refuses = making-read _ _ _ _ (kept number) c.get_xdg_surface.result role content c.get_xdg_surface.ensures.refused in
    let some = making-err (making_refused (is_foreign (role_of r surface)) (has_any r surface) (kept number)) c.get_xdg_surface.result c.in-Err.error refuses c.in-Err.is
    (λ memory. absurd (let told = c.is_memory.ensures.1 memory in let not = c.if-is_memory.false in cc)) in
    refused-so _ _ r (xdg_surface_made r base version id surface) c.refusal_of.result (shell_refusal base id base c.in-Err.error)
    (made-by names v.owned.surfaces.states v.owned.surfaces.family kept r is.owns base version id surface number id base named ∙ ap (asks_unless ask (shell_refusal base id base)) some)
    c.refusal_of.ensures c.refuse.ensures.ended (c.refuse.ensures.errs r.peer is.peer))

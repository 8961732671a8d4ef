use Rattle.std.proofs.Common.{ℕ, Some, refl, inl, subst, sym, List, ap}
use Rattle.wl_proto.specs.declared.interface.Interface.TheVariants.{WlSurface}
use Rattle.spec_desktop.specs.Peer.{counted}
use Rattle.spec_desktop.specs.Objects.{ById}
use Rattle.wl_shell.specs.Kept.{kept_of}
use Rattle.std.specs.Prelude.{Result}
use Rattle.spec_desktop.specs.declared.refusals.Refusal.{Refusal}
use Rattle.spec_desktop.specs.Ask.{Ask, CreateSurface}
use Rattle.spec_desktop.specs.Demanding.{demands}
use Rattle.wl_requests.specs.Residents.{AnswersSo}
use Rattle.law_desktop.specs.Owning.{Names}
use Rattle.law_desktop.specs.RoleNames.{names_of}
use Rattle.law_desktop.specs.Subsurfaces.{AreOfSurfaces}
use Rattle.spec_desktop.specs.Step.{changed_by, with_peer}
use Rattle.spec_desktop.specs.WlSurface.{surface_created}
use Rattle.wl_requests.proofs.Doing.{lacked}
use Rattle.wl_requests.proofs.Numbers.{keeps-made}
use Rattle.wl_requests.proofs.Subsurfaces.{made-subsurfaces}
use Rattle.law_desktop.proofs.Keeping.OwningAsks.{owned-created}
use Rattle.law_desktop.proofs.Keeping.OwningNames.{targets-free}
use Rattle.wl_requests.proofs.Roles.{names-surface-made}
use Rattle.law_desktop.proofs.Keeping.Creating.{created-past, created-short, created-within}
use Rattle.wl_requests.proofs.Shelling.{accepted, holds-counted}
use Rattle.wl_requests.proofs.Meeting.{as-asked}
use Rattle.wl_requests.proofs.residents.Resident.create_surface.Goals as goal
use Rattle.wl_requests.proofs.Framing.{IsFramed, framed-made, one-more}
use Rattle.wl_surface.specs.declared.frames.Waiting.{Waiting}

pub returns-in-Ok-clause-answers : goal.returns-in-Ok-clause-answers
returns-in-Ok-clause-answers g c = λ free client r on is only.
    as-asked _ _ client on r only (surface_created r c.args.id c.args.version) (
    let v = c.args.self.now in
    let id = c.args.id in
    let made = c.add.ensures.makes (counted r.peer) (c.count.ensures.counts r.peer is.peer) in
    let names = names-surface-made v.client.objects c.add.new.self.objects id _ free refl in
    accepted _ r (surface_created r id c.args.version) (CreateSurface id c.args.version)
    (created-within (names_of v.client.objects) v.owned.surfaces.states v.owned.surfaces.family r id c.args.version (is.owns.surfaces) c.in-Ok.ensures.room) (
      made.0,
      made.1,
      record {
        peer = made.2;
        owns = λ alive. rw c.create.ensures.family (owned-created (names_of v.client.objects) v.owned.surfaces.states v.owned.surfaces.family (kept_of v.owned.shell) (with_peer (counted r.peer) r) is.owns id c.args.version
            c.in-Ok.surface c.create.new.self.states
            (names_of c.add.new.self.objects)
            (targets-free WlSurface v.client.objects id free) c.in-Ok.ensures.ok c.in-Ok.ensures.count
            (names (holds-counted v.client c.count.new.self c.add.new.self.objects id _ c.count.ensures.only (c.add.ensures.table alive))));
        frames = λ alive.
            let now = names (holds-counted v.client c.count.new.self c.add.new.self.objects id _ c.count.ensures.only (c.add.ensures.table alive)) in
            let after = changed_by (CreateSurface id c.args.version) (with_peer (counted r.peer) r) in
            subst (λ (ws : List Waiting). IsFramed ws c.add.new.self.objects after) (sym c.create.ensures.frames)
            (framed-made v.owned.surfaces.states.frames v.client.objects c.add.new.self.objects r after refl (one-more r.peer.requests) is.frames v.owned.surfaces.states v.owned.surfaces.family
            is.owns.surfaces id c.in-Ok.surface
            c.create.new.self.states c.in-Ok.ensures.ok
            (targets-free WlSurface v.client.objects id free) (ap (λ (n : Names). n.surfaces) now) refl);
        subsurfaces = λ alive.
            let now = names (holds-counted v.client c.count.new.self c.add.new.self.objects id _ c.count.ensures.only (c.add.ensures.table alive)) in
            subst (λ (numbers : ById ℕ). AreOfSurfaces v.subsurfaces numbers r.subsurfaces) (sym (ap (λ (n : Names). n.surfaces) now))
            (made-subsurfaces v.subsurfaces (names_of v.client.objects).surfaces r.subsurfaces id (Some c.in-Ok.surface) (targets-free WlSurface v.client.objects id free) is.subsurfaces);
        numbers = λ alive. keeps-made v.client.objects c.add.new.self.objects id c.in-Ok.surface (targets-free WlSurface v.client.objects id free)
            (names (holds-counted v.client c.count.new.self c.add.new.self.objects id _ c.count.ensures.only (c.add.ensures.table alive)));
      },
    ))

pub returns-then-is_too_many-clause-answers : goal.returns-then-is_too_many-clause-answers
returns-then-is_too_many-clause-answers g c = λ free client r on is only.
    let v = c.args.self.now in
    let many = c.is_too_many.ensures.0 c.if-is_too_many.true in
    subst (λ (j : Result Ask Refusal). AnswersSo (demands j) client r on v c.refuse_past_limit.new.self)
    (sym (created-past (names_of v.client.objects) v.owned.surfaces.states v.owned.surfaces.family r c.args.id c.args.version c.in-Err.error is.owns.surfaces c.in-Err.ensures.cause many))
    (rw c.in-Err.ensures.err at c.refuse_past_limit.ensures.answers client r on is only)

pub returns-else-is_too_many-clause-answers : goal.returns-else-is_too_many-clause-answers
returns-else-is_too_many-clause-answers g c = λ free client r on is only.
    as-asked _ _ client on r only (surface_created r c.args.id c.args.version) (
    let v = c.args.self.now in
    let id = c.args.id in
    let ask = CreateSurface id c.args.version in
    let then = with_peer (counted r.peer) r in
    let lacks = lacked v _ (changed_by ask then) then (c.lack_memory.ensures.lacks (counted r.peer) (c.count-else-is_too_many.ensures.counts r.peer is.peer)) c.lack_memory.ensures.ended in
    accepted _ r (surface_created r id c.args.version) ask
    (created-short (names_of v.client.objects) v.owned.surfaces.states v.owned.surfaces.family r id c.args.version c.in-Err.error is.owns.surfaces c.in-Err.ensures.cause
    (λ many. absurd (let told = c.is_too_many.ensures.1 many in let not = c.if-is_too_many.false in cc)))
    (lacks.0, inl lacks.1, lacks.2))

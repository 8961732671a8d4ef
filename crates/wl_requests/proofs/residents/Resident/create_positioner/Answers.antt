use Rattle.std.specs.Prelude.{Ok}
use Rattle.spec_desktop.specs.declared.actions.Action.TheVariants.{CreatePositioner}
use Rattle.spec_desktop.specs.Ask.{Own}
use Rattle.std.proofs.Common.{◌≡◌, Some, None, refl, subst, sym}
use Rattle.spec_desktop.specs.Objects.{entry_at_version}
use Rattle.wl_requests.proofs.Roles.{names-other-made}
use Rattle.wl_proto.specs.declared.interface.Interface.TheVariants.{XdgPositioner}
use Rattle.spec_desktop.specs.Peer.{counted}
use Rattle.wl_shell.specs.Kept.{kept_of}
use Rattle.law_desktop.specs.Owning.{IsOwned, Names}
use Rattle.spec_desktop.specs.Step.{changed_by, with_peer}
use Rattle.wl_requests.proofs.Numbers.{keeps-names}
use Rattle.wl_requests.proofs.Naming.{subsurfaces-names}
use Rattle.wl_requests.proofs.Shelling.{holds-counted}
use Rattle.wl_requests.proofs.Meeting.{as-asked}
use Rattle.wl_requests.proofs.residents.Resident.create_positioner.Goals as goal
use Rattle.wl_requests.proofs.Framing.{framed-names, one-more}

pub returns-clause-answers : goal.returns-clause-answers
returns-clause-answers g c = λ free client r on is only.
    as-asked _ _ client on r only (Ok (Own (CreatePositioner c.args.id c.args.version))) (
    let v = c.args.self.now in
    let made = c.create_positioner.ensures.acts (counted r.peer) (c.count.ensures.counts r.peer is.peer) in
    let named = λ (alive : c.create_positioner.new.self.ended ≡ None). names-other-made v.client.objects c.create_positioner.new.self.objects c.args.id (entry_at_version XdgPositioner c.args.version)
    free refl
    (holds-counted v.client c.count.new.self c.create_positioner.new.self.objects c.args.id (Some (entry_at_version XdgPositioner c.args.version)) c.count.ensures.only
    (c.create_positioner.ensures.table alive)) in (
      made.0,
      made.1,
      record {
        peer = made.2;
        owns = λ alive. subst (λ (n : Names). IsOwned n v.owned.surfaces.states v.owned.surfaces.family (kept_of v.owned.shell) r.owned) (sym (named alive)) is.owns;
        frames = λ alive. framed-names v.owned.surfaces.states.frames v.client.objects c.create_positioner.new.self.objects r
            (changed_by (Own (CreatePositioner c.args.id c.args.version)) (with_peer (counted r.peer) r)) refl (one-more r.peer.requests) is.frames (named alive) refl;
        subsurfaces = λ alive. subsurfaces-names v.subsurfaces r.subsurfaces v.client.objects c.create_positioner.new.self.objects is.subsurfaces (named alive);
        numbers = λ alive. keeps-names v.client.objects c.create_positioner.new.self.objects (named alive);
      },
    ))

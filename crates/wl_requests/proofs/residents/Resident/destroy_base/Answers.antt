use Rattle.std.proofs.Common.{inl, refl}
use Rattle.wl_proto.specs.declared.interface.Interface.TheVariants.{XdgWmBase}
use Rattle.spec_desktop.specs.declared.refusals.ErrorCode.TheVariants.{DefunctSurfaces}
use Rattle.wl_shell.specs.Kept.{kept_of}
use Rattle.spec_desktop.specs.Ask.{EndObject}
use Rattle.spec_desktop.specs.Desktop.{Resident}
use Rattle.law_desktop.specs.RoleNames.{names_of}
use Rattle.spec_desktop.specs.XdgShell.{base_destroyed}
use Rattle.law_desktop.proofs.Keeping.OwningReads.{base-unused, base-used}
use Rattle.wl_requests.proofs.Shelling.{accepted, counted-does, object-held, refused-so}
use Rattle.wl_requests.proofs.Meeting.{as-asked}
use Rattle.wl_requests.proofs.residents.Resident.destroy_base.Goals as goal

pub returns-in-Ok-clause-answers : goal.returns-in-Ok-clause-answers
returns-in-Ok-clause-answers g c = λ base client r on is only.
    as-asked _ _ client on r only (base_destroyed r c.args.object) (
    let v = c.args.self.now in
    accepted _ r (base_destroyed r c.args.object) (EndObject c.args.object)
    (base-unused (names_of v.client.objects) v.owned.surfaces.states v.owned.surfaces.family (kept_of v.owned.shell) r is.owns c.args.object c.in-Ok.ensures.ok)
    (counted-does v (record v { client = c.count.new.self }) c.end_object.new.self r (λ (q : Resident). EndObject c.args.object) is c.count.ensures.only refl refl
    (c.count.ensures.counts r.peer is.peer) refl
    (c.end_object.ensures.does (inl (object-held XdgWmBase v.client c.count.new.self c.args.object c.count.ensures.only base)))))

pub returns-in-Err-clause-answers : goal.returns-in-Err-clause-answers
returns-in-Err-clause-answers g c = λ base client r on is only.
    as-asked _ _ client on r only (base_destroyed r c.args.object) (
    let v = c.args.self.now in
    let used = c.in-Err.ensures.err.1 in
    refused-so _ _ r (base_destroyed r c.args.object) c.of.result (record { object = c.args.object; code = DefunctSurfaces })
    (base-used (names_of v.client.objects) v.owned.surfaces.states v.owned.surfaces.family (kept_of v.owned.shell) r is.owns c.args.object used.0 used.1)
    c.of.ensures c.refuse.ensures.ended (c.refuse.ensures.errs r.peer is.peer))

use Rattle.std.proofs.Common.{None, Some, inl, refl, subst, sym, true, ◌≡◌}
use Rattle.wl_proto.specs.declared.interface.Interface.TheVariants.{WlPointer}
use Rattle.law_desktop.proofs.KeptRecords.Toplevels.Releases.{still-released}
use Rattle.spec_desktop.specs.Changing.{changed_for}
use Rattle.spec_desktop.specs.Desktop.{unpointed}
use Rattle.wl_requests.proofs.Roles.{names-other-made}
use Rattle.law_desktop.specs.Owning.{IsOwned, Names}
use Rattle.spec_desktop.specs.Peer.{counted}
use Rattle.spec_desktop.specs.Demand.{GetPointer}
use Rattle.spec_desktop.specs.Step.{with_peer}
use Rattle.wl_table.specs.declared.entry.Entry.{Entry}
use Rattle.wl_shell.specs.Kept.{kept_of}
use Rattle.wl_requests.proofs.Doing.{lacked}
use Rattle.wl_requests.proofs.Framing.{framed-names, one-more}
use Rattle.wl_requests.proofs.Naming.{subsurfaces-names}
use Rattle.wl_requests.proofs.Numbers.{keeps-names}
use Rattle.wl_requests.proofs.Shelling.{holds-counted, wants-told}
use Rattle.wl_requests.proofs.Meeting.{meets-so}
use Rattle.wl_requests.proofs.residents.Resident.get_pointer.Goals as goal

pub returns-clause-answers : goal.returns-clause-answers
returns-clause-answers g c = λ free client r on is only.
    let v = c.args.self.now in
    let id = c.args.id in
    let version = c.args.version in
    let then = with_peer (counted r.peer) r in
    let demand = GetPointer id version in
    let after = changed_for client demand then (unpointed on) in
    let now = c.add.new.self.objects in
    let entry : Entry = record { interface = WlPointer; version = version; target = 0 } in
    let made = c.add.ensures.makes (counted r.peer) (c.count.ensures.counts r.peer is.peer) in
    let table = λ (alive : c.add.new.self.ended ≡ None). names-other-made v.client.objects now id entry free refl
    (holds-counted v.client c.count.new.self now id (Some entry) c.count.ensures.only (c.add.ensures.table alive)) in
    meets-so _ _ client on demand then refl (
      made.0,
      wants-told true _ _ (counted r.peer) after.peer made.0 (still-released then after refl) made.1,
      record {
        peer = made.2;
        numbers = λ alive. keeps-names v.client.objects now (table alive);
        frames = λ alive. framed-names v.owned.surfaces.states.frames v.client.objects now r after refl (one-more r.peer.requests) is.frames (table alive) refl;
        subsurfaces = λ alive. subsurfaces-names v.subsurfaces r.subsurfaces v.client.objects now is.subsurfaces (table alive);
        owns = λ alive. subst (λ (n : Names). IsOwned n v.owned.surfaces.states v.owned.surfaces.family (kept_of v.owned.shell) r.owned) (sym (table alive)) is.owns;
      },
    )

-- where there is no room
pub returns-then-not-has_room-clause-answers : goal.returns-then-not-has_room-clause-answers
returns-then-not-has_room-clause-answers g c = λ free client r on is only.
    let v = c.args.self.now in
    let demand = GetPointer c.args.id c.args.version in
    let then = with_peer (counted r.peer) r in
    let lacks = lacked v _ (changed_for client demand then (unpointed on)) then (c.lack_memory.ensures.lacks (counted r.peer) (c.count.ensures.counts r.peer is.peer)) c.lack_memory.ensures.ended in
    meets-so _ _ client on demand then refl (lacks.0, inl lacks.1, lacks.2)

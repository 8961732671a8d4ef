use Rattle.std.proofs.Common.{refl, inl, ◌≡◌, None, true}
use Rattle.std.specs.Prelude.{Some}
use Rattle.wl_proto.specs.declared.interface.Interface.TheVariants.{WlCallback}
use Rattle.spec_desktop.specs.Peer.{counted}
use Rattle.wl_table.specs.declared.entry.Entry.{Entry}
use Rattle.wl_shell.specs.Kept.{kept_of}
use Rattle.wl_surface.specs.Request.{Frame}
use Rattle.spec_desktop.specs.Demand.{AskFrame}
use Rattle.law_desktop.specs.RoleNames.{names_of}
use Rattle.spec_desktop.specs.Step.{with_peer}
use Rattle.law_desktop.proofs.Keeping.OwningAsks.{owned-asked}
use Rattle.wl_requests.proofs.Roles.{names-other-made}
use Rattle.spec_desktop.specs.Changing.{changed_for}
use Rattle.spec_desktop.specs.Desktop.{unpointed}
use Rattle.wl_requests.proofs.Doing.{lacked}
use Rattle.wl_requests.proofs.Framing.{framed-frame}
use Rattle.wl_requests.proofs.Numbers.{keeps-names}
use Rattle.wl_requests.proofs.Naming.{subsurfaces-names}
use Rattle.wl_requests.proofs.Shelling.{asked-releases, holds-counted, wants-told}
use Rattle.wl_requests.proofs.Meeting.{meets-so}
use Rattle.wl_requests.proofs.residents.Resident.frame.Goals as goal

pub returns-in-Ok-clause-answers : goal.returns-in-Ok-clause-answers
returns-in-Ok-clause-answers g c = λ object named free client r on is only.
    let v = c.args.self.now in
    let names = names_of v.client.objects in
    let number = c.args.surface in
    let callback = c.args.callback in
    let version = c.args.version in
    let then = with_peer (counted r.peer) r in
    let n = (counted r.peer).requests in
    let ask = AskFrame callback version object in
    let entry : Entry = record { interface = WlCallback; version = version; target = 0 } in
    meets-so _ _ client on ask then refl (
    let made = c.add.ensures.makes (counted r.peer) (c.count.ensures.counts r.peer is.peer) in
    let table = λ (alive : c.add.new.self.ended ≡ None). names-other-made v.client.objects c.add.new.self.objects callback entry free refl
    (holds-counted v.client c.count.new.self c.add.new.self.objects callback (Some entry) c.count.ensures.only (c.add.ensures.table alive)) in (
      made.0,
      wants-told true _ _ (counted r.peer) (changed_for client ask then (unpointed on)).peer made.0
          (asked-releases names.surfaces v.owned.surfaces.states v.owned.surfaces.family then object number (Frame n) refl is.owns.surfaces named) made.1,
      record {
        peer = made.2;
        numbers = λ alive. keeps-names v.client.objects c.add.new.self.objects (table alive);
        frames = λ alive. framed-frame v.client.objects c.add.new.self.objects r (changed_for client ask then
            (unpointed on)) v.owned.surfaces.states v.owned.surfaces.family is.owns.surfaces is.frames object number
            named c.frame.new.self.states.frames n
            callback refl refl c.in-Ok.ensures.waits refl (table alive) refl;
        subsurfaces = λ alive. subsurfaces-names v.subsurfaces r.subsurfaces v.client.objects c.add.new.self.objects is.subsurfaces (table alive);
        owns = λ alive. rw (table alive, c.frame.ensures.family)
            (owned-asked names v.owned.surfaces.states v.owned.surfaces.family (kept_of v.owned.shell) then is.owns object number (Frame n) c.frame.new.self.states named refl refl (λ asked. refl)
            (c.in-Ok.ensures.ok n));
      },
    ))

pub returns-in-Err-clause-answers : goal.returns-in-Err-clause-answers
returns-in-Err-clause-answers g c = λ object named free client r on is only.
    let callback = c.args.callback in
    let version = c.args.version in
    let then = with_peer (counted r.peer) r in
    let ask = AskFrame callback version object in
    meets-so _ _ client on ask then refl (
    let lacks = lacked c.args.self.now _ (changed_for client ask then (unpointed on)) then (c.lack_memory.ensures.lacks (counted r.peer)
    (c.count.ensures.counts r.peer is.peer)) c.lack_memory.ensures.ended in
    (lacks.0, inl lacks.1, lacks.2))

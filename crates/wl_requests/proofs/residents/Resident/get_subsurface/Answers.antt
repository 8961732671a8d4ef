use Rattle.std.proofs.Common.{List, None, Option, Some, true, ap, inl, refl, subst, sym, ◌≡◌, ◌∙◌}
use Rattle.std.specs.Prelude.{Result}
use Rattle.std.specs.Option.{option_map}
use Rattle.wl_client.specs.Agreement.{IsPeer}
use Rattle.wl_client.specs.View.{ClientView}
use Rattle.wl_proto.specs.declared.interface.Interface.TheVariants.{WlSubsurface}
use Rattle.law_desktop.specs.Owning.{IsOwned, Names, by_number}
use Rattle.law_desktop.specs.RoleNames.{names_of}
use Rattle.wl_requests.proofs.Roles.{names-other-made}
use Rattle.spec_desktop.specs.Objects.{Objects, object_of}
use Rattle.spec_desktop.specs.Peer.{counted}
use Rattle.spec_desktop.specs.declared.refusals.Refusal.{Refusal}
use Rattle.spec_desktop.specs.Demand.{Demand, GetSubsurface}
use Rattle.spec_desktop.specs.Step.{with_peer}
use Rattle.spec_desktop.specs.WlSubsurface.{subsurface_made}
use Rattle.wl_shell.specs.Kept.{kept_of}
use Rattle.wl_surface.specs.Slots.{Numbered}
use Rattle.wl_surface.specs.Waiting.{counted_at, frames_at}
use Rattle.wl_surface.specs.declared.frames.Waiting.{Waiting}
use Rattle.wl_table.specs.declared.entry.Entry.{Entry}
use Rattle.spec_desktop.specs.Changing.{changed_for}
use Rattle.spec_desktop.specs.Desktop.{unpointed}
use Rattle.wl_requests.specs.declared.residents.Resident.{Resident as Kept}
use Rattle.wl_requests.specs.Linking.{IsJudged}
use Rattle.wl_requests.specs.Residents.{AnswersSo}
use Rattle.wl_requests.proofs.Doing.{lacked}
use Rattle.wl_requests.proofs.Framing.{IsFramed, framed-left, one-more}
use Rattle.wl_requests.proofs.Joined.{counted-only, linked-counts, linked-frames, linked-released, new-number, new-subsurface}
use Rattle.wl_requests.proofs.Naming.{subsurfaces-names}
use Rattle.wl_requests.proofs.Numbers.{keeps-names}
use Rattle.wl_requests.proofs.Shelling.{holds-counted, refused-whole, wants-told}
use Rattle.wl_requests.proofs.Meeting.{meets-so}
use Rattle.wl_requests.proofs.residents.Resident.get_subsurface.Goals as goal

pub returns-in-Some-clause-answers : goal.returns-in-Some-clause-answers
returns-in-Some-clause-answers g c = λ surface above free below over client r d is orderly.
    let v = c.args.self.now in
    let demand = GetSubsurface c.args.id c.args.version surface above in
    let judged = subsurface_made r c.args.object c.args.version c.args.id surface above in
    let so = c.in-Err.ensures.judged (names_of v.client.objects) r surface above c.args.object c.args.version c.args.id
    (record { orderly = orderly; owns = is.owns; subsurfaces = is.subsurfaces; child_named = below; parent_named = over }) in
    let peer = subst (λ (w : ClientView). IsPeer w r.peer) (sym c.link.ensures.client) is.peer in
    refused-whole v _ client r d judged c.in-Some.refusal (subst (λ (o : Option Refusal). IsJudged o demand judged) (sym c.refusal_of.ensures ∙ c.in-Some.is) so)
    c.refuse.ensures.ended (c.refuse.ensures.errs r.peer peer)

pub returns-in-None-clause-answers : goal.returns-in-None-clause-answers
returns-in-None-clause-answers g c = λ surface above free below over client r d is orderly.
    let v = c.args.self.now in
    let demand = GetSubsurface c.args.id c.args.version surface above in
    let judged = subsurface_made r c.args.object c.args.version c.args.id surface above in
    let so = c.in-Err.ensures.judged (names_of v.client.objects) r surface above c.args.object c.args.version c.args.id
    (record { orderly = orderly; owns = is.owns; subsurfaces = is.subsurfaces; child_named = below; parent_named = over }) in
    let peer = subst (λ (w : ClientView). IsPeer w r.peer) (sym c.link.ensures.client) is.peer in
    let new : Kept _ = record c.link.new.self { client = c.lack_memory.new.self } in
    let one_more = with_peer (counted r.peer) r in
    let lacks = lacked v new (changed_for client demand one_more (unpointed d)) one_more (c.lack_memory.ensures.lacks (counted r.peer)
    (c.count-in-None.ensures.counts r.peer peer)) c.lack_memory.ensures.ended in
    subst (λ (j : Result Demand Refusal). AnswersSo j client r d v new) (sym (subst (λ (o : Option Refusal). IsJudged o demand judged) (sym c.refusal_of.ensures ∙ c.in-None.is) so))
    (meets-so v new client d demand one_more refl (lacks.0, inl lacks.1, lacks.2))

pub returns-in-Ok-clause-answers : goal.returns-in-Ok-clause-answers
returns-in-Ok-clause-answers g c = λ surface above free below over client r d is orderly.
    let v = c.args.self.now in
    let id = c.args.id in
    let version = c.args.version in
    let names = names_of v.client.objects in
    let then = with_peer (counted r.peer) r in
    let n = (counted r.peer).requests in
    let demand = GetSubsurface id version surface above in
    let after = changed_for client demand then (unpointed d) in
    let now = c.add.new.self.objects in
    let entry : Entry = record { interface = WlSubsurface; version = version; target = c.args.child } in
    let new : Kept _ = record c.link.new.self { client = c.add.new.self } in
    let so = c.in-Ok.ensures.judged names r surface above c.args.object version id
    (record { orderly = orderly; owns = is.owns; subsurfaces = is.subsurfaces; child_named = below; parent_named = over }) in
    let linked_so = c.in-Ok.ensures.made names r surface above n
    (record { orderly = orderly; owns = is.owns; subsurfaces = is.subsurfaces; child_named = below; parent_named = over })
    (new-number r orderly) (new-subsurface r orderly id (sym (ap (λ (o : Objects). o id) is.peer.objects) ∙ ap (option_map object_of) free)) in
    let peer = subst (λ (w : ClientView). IsPeer w r.peer) (sym c.link.ensures.client) is.peer in
    let only = counted-only v.client c.link.new.self.client c.count.new.self c.link.ensures.client c.count.ensures.only in
    let made = c.add.ensures.makes (counted r.peer) (c.count.ensures.counts r.peer peer) in
    let table = λ (alive : c.add.new.self.ended ≡ None). names-other-made v.client.objects now id entry free refl
    (holds-counted v.client c.count.new.self now id (Some entry) only (c.add.ensures.table alive)) in
    let named = λ (alive : c.add.new.self.ended ≡ None). ap (λ (x : Names). by_number x.surfaces after.owned.surfaces) (table alive) in
    subst (λ (j : Result Demand Refusal). AnswersSo j client r d v new) (sym so)
    (meets-so v new client d demand then refl (
      made.0,
      wants-told true _ _ (counted r.peer) after.peer made.0
          (linked-released n surface above names.surfaces v.owned.surfaces.states v.owned.surfaces.family r.owned.surfaces is.owns.surfaces then after refl refl) made.1,
      record {
        peer = made.2;
        numbers = λ alive. keeps-names v.client.objects now (table alive);
        frames = λ alive. subst (λ (ws : List Waiting). IsFramed ws now after) (sym c.link.ensures.frames)
            (framed-left v.owned.surfaces.states.frames v.client.objects now r after refl (one-more r.peer.requests) is.frames
            (λ number. ap (λ (all : Numbered). frames_at (all number)) (named alive)
            ∙ linked-frames n surface above names.surfaces v.owned.surfaces.states v.owned.surfaces.family r.owned.surfaces is.owns.surfaces number)
            (λ number. ap (λ (all : Numbered). counted_at (all number)) (named alive)
            ∙ linked-counts n surface above names.surfaces v.owned.surfaces.states v.owned.surfaces.family r.owned.surfaces is.owns.surfaces number));
        subsurfaces = λ alive. subsurfaces-names c.link.new.self.subsurfaces after.subsurfaces v.client.objects now linked_so.1 (table alive);
        owns = λ alive. subst (λ (x : Names). IsOwned x c.link.new.self.owned.surfaces.states c.link.new.self.owned.surfaces.family (kept_of c.link.new.self.owned.shell) after.owned)
            (sym (table alive)) linked_so.0;
      },
    ))

use Rattle.std.proofs.Common.{◌≡◌, ℕ, List, Option, None, Some, map, true, false, refl, ap, subst, sym, ◌∙◌, []}
use Rattle.std.specs.Prelude.{Result}
use Rattle.wl_client.specs.Agreement.{IsPeer}
use Rattle.wl_client.specs.View.{ClientView}
use Rattle.wl_proto.specs.declared.interface.Interface.TheVariants.{WlBuffer}
use Rattle.spec_desktop.specs.Peer.{Queues, counted}
use Rattle.spec_desktop.specs.Told.{Said, said}
use Rattle.spec_desktop.specs.declared.refusals.Refusal.{Refusal}
use Rattle.wl_proto.specs.Messages.{says}
use Rattle.wl_proto.specs.declared.wl_subsurface.WlSubsurfaceRequest.TheVariants.{SetDesync}
use Rattle.wl_scene.specs.declared.owned.Owned.{Owned as Lent}
use Rattle.wl_shell.specs.Kept.{kept_of}
use Rattle.wl_surface.specs.Kept.{buffer_of}
use Rattle.wl_surface.specs.Trees.{desynchronised_in}
use Rattle.spec_desktop.specs.Changing.{mode_set}
use Rattle.spec_desktop.specs.Demand.{Demand, SetMode}
use Rattle.spec_desktop.specs.Desktop.{Resident}
use Rattle.spec_desktop.specs.Step.{with_peer, with_surfaces}
use Rattle.spec_desktop.specs.WlSubsurface.{demand_by_link}
use Rattle.law_desktop.specs.RoleNames.{names_of}
use Rattle.law_desktop.proofs.Keeping.Freeing.{releases-freed}
use Rattle.law_desktop.proofs.Keeping.Ids.{waits-desynchronised}
use Rattle.law_desktop.proofs.Keeping.OwningLinks.{owned-desynchronised}
use Rattle.law_desktop.proofs.Keeping.Trees.{once-freed}
use Rattle.wl_requests.specs.Linking.{IsChildOf}
use Rattle.wl_requests.specs.Residents.{AnswersAs}
use Rattle.wl_requests.specs.Touching.{IsMade, IsTouched, Releases}
use Rattle.wl_requests.proofs.Calls.{desync-called}
use Rattle.wl_requests.proofs.Doing.{gone, lacked}
use Rattle.wl_requests.proofs.Framing.{framed-names, one-more}
use Rattle.wl_requests.proofs.Subsurfaces.{only-number}
use Rattle.wl_requests.proofs.Linking.{link-of-child, no-link-of}
use Rattle.wl_requests.proofs.Numbers.{keeps-same}
use Rattle.wl_requests.proofs.Positions.{ignored-so}
use Rattle.wl_requests.proofs.Meeting.{answered-so, counted-ordered, meets-as}
use Rattle.wl_requests.proofs.Trees.{are-one, told-all, tree-lets-go}
use Rattle.wl_requests.specs.Holding.{HoldsSo}
use Rattle.wl_requests.proofs.Holding.{holds-same}
use Rattle.wl_requests.proofs.residents.Resident.set_desync.Goals as goal

pub returns-in_err-child-clause-answers : goal.returns-in_err-child-clause-answers
returns-in_err-child-clause-answers g c = λ here client r d is orderly.
    let object = c.args.object in
    let none = subst (λ (o : Option ℕ). IsChildOf c.args.self.now object o) c.in_err-child.was c.child_of.ensures in
    ignored-so c.args.self.now _ client r d _ is orderly (ap (λ o. demand_by_link r object o SetDesync) (no-link-of c.args.self.now r is orderly object none))
    c.count.ensures.only refl refl
    (c.count.ensures.counts r.peer is.peer)

pub returns-in_err-child-clause-decides : goal.returns-in_err-child-clause-decides
returns-in_err-child-clause-decides g c = λ child of here client r d is orderly.
    let none = subst (λ (o : Option ℕ). IsChildOf c.args.self.now c.args.object o) c.in_err-child.was c.child_of.ensures in
    absurd (gone _ of.0.1 (none _ _ is.subsurfaces child of.0.0))

pub returns-in_default-clause-decides : goal.returns-in_default-clause-decides
returns-in_default-clause-decides g c = λ child of here client r d is orderly.
    let object = c.args.object in
    let its = link-of-child c.args.self.now r is orderly object child of.0 in
    let then = with_peer (counted r.peer) r in
    subst (λ (j : Result Demand Refusal). AnswersAs false j client r d c.args.self.now
    (record c.args.self.now { client = c.lack_memory.new.self; owned = record c.args.self.now.owned { surfaces = c.set_desync.new.self } })) (sym (ap
    (λ o. demand_by_link r object o SetDesync) its.of_object))
    (meets-as c.args.self.now _ client d (SetMode its.link.number false) then refl false (
    let lacks = lacked c.args.self.now _ _ then (c.lack_memory.ensures.lacks (counted r.peer) (c.count.ensures.counts r.peer is.peer)) c.lack_memory.ensures.ended in
    (refl, lacks.0, lacks.1, lacks.2)))

pub returns-in_default-clause-answers : goal.returns-in_default-clause-answers
returns-in_default-clause-answers g c = λ here client r d is orderly.
    let of = subst (λ (o : Option ℕ). IsChildOf c.args.self.now c.args.object o) c.in_ok-child.was c.child_of.ensures in
    let only = λ (other : ℕ) (there : _). only-number _ _ _ c.args.object other c.in_ok-child.child is.subsurfaces there of.0 in
    answered-so false _ client r d _ _ (returns-in_default-clause-decides g c c.in_ok-child.child (of, only) here client r d is orderly)

pub returns-in_default-let_go_of_told-clause-decides : goal.returns-in_default-let_go_of_told-clause-decides
returns-in_default-let_go_of_told-clause-decides g c = λ child of here client r d is orderly.
    let object = c.args.object in
    let its = link-of-child c.args.self.now r is orderly object child of.0 in
    let then = with_peer (counted r.peer) r in
    subst (λ (j : Result Demand Refusal). AnswersAs false j client r d c.args.self.now
    c.let_go_of_told.new.self) (sym (ap
    (λ o. demand_by_link r object o SetDesync) its.of_object))
    (meets-as c.args.self.now _ client d (SetMode its.link.number false) then refl false (
    let lacks = lacked c.args.self.now _ _ then (c.in_default-let_go_of_told.ensures.lacks (counted r.peer) (c.count.ensures.counts r.peer is.peer))
    c.in_default-let_go_of_told.ensures.ended in
    (refl, lacks.0, lacks.1, lacks.2)))

pub returns-in_default-let_go_of_told-clause-answers : goal.returns-in_default-let_go_of_told-clause-answers
returns-in_default-let_go_of_told-clause-answers g c = λ here client r d is orderly.
    let of = subst (λ (o : Option ℕ). IsChildOf c.args.self.now c.args.object o) c.in_ok-child.was c.child_of.ensures in
    let only = λ (other : ℕ) (there : _). only-number _ _ _ c.args.object other c.in_ok-child.child is.subsurfaces there of.0 in
    answered-so false _ client r d _ _ (returns-in_default-let_go_of_told-clause-decides g c c.in_ok-child.child (of, only) here client r d is orderly)

pub returns-clause-decides : goal.returns-clause-decides
returns-clause-decides g c = λ child of here client r d is orderly.
    let v = c.args.self.now in
    let object = c.args.object in
    let below = c.in_ok-child.child in
    let its = link-of-child v r is orderly object below (subst (λ (o : Option ℕ). IsChildOf v object o) c.in_ok-child.was c.child_of.ensures) in
    let number = its.link.number in
    let names = names_of v.client.objects in
    let slots = v.owned.surfaces.states in
    let tied = v.owned.surfaces.family in
    let one_more = with_peer (counted r.peer) r in
    let peer_one = c.count.ensures.counts r.peer is.peer in
    let order = counted-ordered r orderly in
    let then = with_surfaces (desynchronised_in number r.owned.surfaces) one_more in
    let after = mode_set number false one_more in
    let freed = c.in-Ok.told.freed.items in
    let shown = map buffer_of c.in-Ok.told.shown.items in
    let called = desync-called names.surfaces slots c.set_desync.new.self.states tied c.set_desync.new.self.family one_more is.owns.surfaces its.link below its.here its.lives its.named
    freed shown c.in-Ok.ensures.among c.in-Ok.ensures.ok c.in-Ok.ensures.waits c.in-Ok.ensures.freed c.in-Ok.ensures.shown in
    let stores = c.in-Some.ensures.lets_go.stores in
    let peer_then = subst (λ (x : Resident). IsPeer c.let_go_of_told.new.self.client x.peer)
    (tree-lets-go one_more then freed shown order.order.buffers called.frees (waits-desynchronised number r.owned.surfaces))
    (stores then names.surfaces peer_one called.are (once-freed freed shown r.owned.surfaces then.owned.surfaces called.frees)) in
    let ids = c.in-Some.released.items in
    let releasing = map (λ thing. said thing (says WlBuffer 0 [])) ids in
    let those = c.in-Some.ensures.lets_go.those in
    let rel = releases-freed one_more after freed shown (are-one one_more order.order.buffers) called.frees ids c.in-Some.ensures.lets_go.rising (λ thing. those one_more peer_one thing) in
    let queues = rw c.deref.ensures.value at c.tell_releases.ensures.queues in
    let next = told-all c.let_go_of_told.new.self.client c.tell_releases.new.self.client [] releasing after.peer after.peer (sym is.peer.status ∙ is.lives) refl peer_then
    queues c.tell_releases.ensures.ended in
    let kept_owned = c.tell_releases.ensures.owned ∙ c.let_go_of_told.ensures.owned in
    let table = λ (alive : c.tell_releases.new.self.client.ended ≡ None).
    c.tell_releases.ensures.table alive ∙ ap (λ (w : ClientView). w.objects) c.in-Some.ensures.lets_go.only ∙ ap (λ (w : ClientView). w.objects) c.count.ensures.only in
    subst (λ (j : Result Demand Refusal). AnswersAs true j client r d v c.tell_releases.new.self) (sym (ap (λ o. demand_by_link r object o SetDesync) its.of_object))
    (meets-as v c.tell_releases.new.self client d (SetMode number false) one_more refl true (
      next.0,
      subst (λ (es : List Said). Queues es after.peer next.0) (sym rel) next.1,
      record {
        peer = next.2;
        owns = λ alive. rw (kept_owned, table alive)
            (owned-desynchronised names slots tied (kept_of v.owned.shell) r.owned is.owns number below its.link its.here its.lives its.named c.set_desync.new.self.states
            c.set_desync.new.self.family orderly.order.once orderly.order.numbered orderly.order.roots c.in-Ok.ensures.ok);
        frames = λ alive. rw (kept_owned, table alive)
            (called.framed (framed-names slots.frames v.client.objects v.client.objects r one_more refl (one-more r.peer.requests) is.frames refl refl));
        subsurfaces = λ alive. rw (c.tell_releases.ensures.subsurfaces, c.let_go_of_told.ensures.subsurfaces, table alive) is.subsurfaces;
        numbers = λ alive. keeps-same v.client.objects c.tell_releases.new.self.client.objects (table alive);
      },
    ))

pub returns-clause-answers : goal.returns-clause-answers
returns-clause-answers g c = λ here client r d is orderly.
    let of = subst (λ (o : Option ℕ). IsChildOf c.args.self.now c.args.object o) c.in_ok-child.was c.child_of.ensures in
    let only = λ (other : ℕ) (there : _). only-number _ _ _ c.args.object other c.in_ok-child.child is.subsurfaces there of.0 in
    answered-so true _ client r d _ _ (returns-clause-decides g c c.in_ok-child.child (of, only) here client r d is orderly)

pub returns-clause-touched : goal.returns-clause-touched
returns-clause-touched g c = λ child of.
    let here = subst (λ (o : Option ℕ). IsChildOf c.args.self.now c.args.object o) c.in_ok-child.was c.child_of.ensures in
    let same : c.in_ok-child.child ≡ child = of.1 c.in_ok-child.child here.0 in
    subst (λ (n : ℕ). IsTouched (Releases n) c.args.self.now.owned.surfaces c.tell_releases.new.self.owned.surfaces (Some c.in-Ok.told)) same (
      subst (λ (o : Lent _). IsMade (Releases c.in_ok-child.child) c.args.self.now.owned.surfaces o.surfaces) (sym (c.tell_releases.ensures.owned ∙ c.let_go_of_told.ensures.owned)) c.in-Ok.ensures.ok,
      λ all number link is stands. c.in-Ok.ensures.changes all number link is stands,
    )

pub returns-clause-nothing : goal.returns-clause-nothing
returns-clause-nothing g c = λ never numbers ss are.
    let of = subst (λ (o : Option ℕ). IsChildOf c.args.self.now c.args.object o) c.in_ok-child.was c.child_of.ensures in
    absurd (never c.in_ok-child.child (of, λ other there. only-number _ numbers ss c.args.object other c.in_ok-child.child are there of.0))

-- ---- what is kept stands by the numbers from before

pub returns-in_err-child-clause-holds : goal.returns-in_err-child-clause-holds
returns-in_err-child-clause-holds g c = λ child of here client r d is orderly done.
    let none = subst (λ (o : Option ℕ). IsChildOf c.args.self.now c.args.object o) c.in_err-child.was c.child_of.ensures in
    absurd (gone _ of.0.1 (none _ _ is.subsurfaces child of.0.0))

pub returns-in_default-clause-holds : goal.returns-in_default-clause-holds
returns-in_default-clause-holds g c = λ child of here client r d is orderly done. absurd (cc)

pub returns-in_default-let_go_of_told-clause-holds : goal.returns-in_default-let_go_of_told-clause-holds
returns-in_default-let_go_of_told-clause-holds g c = λ child of here client r d is orderly done. absurd (cc)

pub returns-clause-holds : goal.returns-clause-holds
returns-clause-holds g c = λ child of here client r d is orderly done.
    let v = c.args.self.now in
    let object = c.args.object in
    let below = c.in_ok-child.child in
    let its = link-of-child v r is orderly object below (subst (λ (o : Option ℕ). IsChildOf v object o) c.in_ok-child.was c.child_of.ensures) in
    let number = its.link.number in
    let names = names_of v.client.objects in
    subst (λ (j : Result Demand Refusal). HoldsSo j client r d v c.tell_releases.new.self) (sym (ap (λ o. demand_by_link r object o SetDesync) its.of_object))
    (holds-same v c.tell_releases.new.self names _ refl (rw (c.tell_releases.ensures.owned ∙ c.let_go_of_told.ensures.owned)
    (owned-desynchronised names v.owned.surfaces.states v.owned.surfaces.family (kept_of v.owned.shell) r.owned is.owns number below its.link its.here its.lives its.named
    c.set_desync.new.self.states c.set_desync.new.self.family orderly.order.once orderly.order.numbered orderly.order.roots c.in-Ok.ensures.ok)))

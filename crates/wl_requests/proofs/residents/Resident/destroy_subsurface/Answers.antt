use Rattle.std.proofs.Common.{◌≡◌, ℕ, List, [], ◌∷◌, Option, None, Some, map, true, false, refl, ap, subst, sym, ◌∙◌, inr}
use Rattle.std.specs.Prelude.{◌==◌, filter, not, Ok}
use Rattle.std.specs.Option.{option_map}
use Rattle.wl_client.specs.Agreement.{IsPeer}
use Rattle.wl_client.specs.View.{ClientView}
use Rattle.wl_proto.specs.declared.interface.Interface.{Interface}
use Rattle.wl_proto.specs.declared.interface.Interface.TheVariants.{WlBuffer, WlSubsurface, WlSurface, XdgPopup, XdgSurface, XdgToplevel}
use Rattle.spec_desktop.specs.Objects.{interface_number, is_of, object_of, objects_in}
use Rattle.spec_desktop.specs.Peer.{Peer, Queues, counted}
use Rattle.spec_desktop.specs.Told.{Said, id_deleted, said}
use Rattle.wl_proto.specs.Messages.{says}
use Rattle.wl_scene.specs.declared.owned.Owned.{Owned as Lent}
use Rattle.wl_shell.specs.Kept.{kept_of}
use Rattle.wl_surface.specs.Kept.{buffer_of}
use Rattle.wl_surface.specs.Surfaces.{Surfaces}
use Rattle.wl_surface.specs.Trees.{unlinked}
use Rattle.wl_table.specs.Objects.{Held, HoldsAt, entry_of}
use Rattle.wl_table.specs.declared.entry.Entry.{Entry}
use Rattle.spec_desktop.specs.Changing.{after_all, link_with_id, unlinked_at}
use Rattle.spec_desktop.specs.Demand.{EndSubsurface}
use Rattle.spec_desktop.specs.Desktop.{Resident, Subsurface}
use Rattle.spec_desktop.specs.Replies.{releases}
use Rattle.spec_desktop.specs.Step.{removing, with_peer, with_surfaces}
use Rattle.law_desktop.specs.Owning.{Names}
use Rattle.law_desktop.specs.RoleNames.{names_of}
use Rattle.law_desktop.proofs.Keeping.Freeing.{releases-freed}
use Rattle.law_desktop.proofs.Keeping.Ids.{waits-unlinked}
use Rattle.law_desktop.proofs.Keeping.OwningLinks.{owned-parted}
use Rattle.wl_requests.proofs.Roles.{names_object, names-other-gone}
use Rattle.law_desktop.proofs.Keeping.Trees.{once-freed}
use Rattle.law_desktop.proofs.KeptRecords.Toplevels.Releases.{still-released}
use Rattle.wl_requests.specs.declared.residents.Resident.{Resident as Kept}
use Rattle.wl_requests.specs.Residents.{IsLeft}
use Rattle.wl_requests.specs.Touching.{IsMade, IsTouched, Parts}
use Rattle.wl_requests.proofs.Calls.{part-called}
use Rattle.wl_requests.proofs.Doing.{gone, lacked}
use Rattle.wl_requests.proofs.Framing.{framed-names, one-more}
use Rattle.wl_requests.proofs.Linking.{link-of-child, no-link-of}
use Rattle.wl_requests.proofs.Numbers.{keeps-names}
use Rattle.wl_requests.proofs.Meeting.{answered-so, counted-ordered, meets-as, meets-so}
use Rattle.wl_requests.proofs.Subsurfaces.{ended-subsurfaces, only-number}
use Rattle.wl_requests.proofs.Trees.{are-one, lived, nothing-goes, told-all, tree-lets-go}
use Rattle.wl_requests.proofs.Unlinking.{link-number, no-link-ends}
use Rattle.wl_requests.specs.Holding.{HoldsBy}
use Rattle.wl_requests.proofs.Holding.{holds-same}
use Rattle.wl_requests.proofs.residents.Resident.destroy_subsurface.Goals as goal

-- a wl_subsurface names no surface in the table
subsurface-names : (interface : Interface) → (interface_number interface == interface_number WlSubsurface) ≡ true → names_object interface ≡ false
subsurface-names WlSurface e = absurd (cc)
subsurface-names XdgSurface e = absurd (cc)
subsurface-names XdgToplevel e = absurd (cc)
subsurface-names XdgPopup e = absurd (cc)
subsurface-names interface e = refl

object-gone : (old new : Held) (id : ℕ) → is_of WlSubsurface (objects_in old id) ≡ true → HoldsAt old new id None → names_of new ≡ names_of old
object-gone old new id is holds = at (entry_of old id) refl is
  where
    at : (o : Option Entry) → entry_of old id ≡ o → is_of WlSubsurface (option_map object_of o) ≡ true → names_of new ≡ names_of old
    at None found is = absurd (cc)
    at (Some entry) found is = names-other-gone old new id entry found (subsurface-names entry.interface is) holds

-- the client after this link ended, and its wl_subsurface went
abbrev ended_by : ℕ → Option ℕ → Resident → Resident
ended_by id link r =
    removing id (after_all r (with_surfaces (unlinked_at link r.owned.surfaces) (record r { subsurfaces = filter (λ (s : Subsurface). not (s.id == id)) r.subsurfaces })))

-- what is done where it is told so
abbrev EndsSo : {A : Type 0} → ℕ → Resident → Kept A → Kept A → Resident → Type 0
EndsSo id r old new made = (q : Peer) × Queues (id_deleted id ∷ releases r made) made.peer q × IsLeft old new made q

pub returns-in_default-clause-answers : goal.returns-in_default-clause-answers
returns-in_default-clause-answers g c = λ here client r d is orderly.
    let v = c.args.self.now in
    let object = c.args.object in
    let one_more = with_peer (counted r.peer) r in
    let none = no-link-of v r is orderly object c.in_default.ensures in
    let then = record one_more { subsurfaces = filter (λ (s : Subsurface). not (s.id == object)) r.subsurfaces } in
    let made = removing object then in
    let told = c.remove.ensures.removes (counted r.peer) (subst (λ (w : ClientView). IsPeer w (counted r.peer)) (sym c.forget.ensures.client) (c.count.ensures.counts r.peer is.peer)) in
    let same : ended_by object (link_with_id object one_more) one_more ≡ made =
    ap (λ (all : Surfaces). removing object (after_all one_more (with_surfaces all then))) (no-link-ends object r orderly.order.numbered none)
    ∙ ap (removing object) (nothing-goes one_more then refl) in
    let table = λ (alive : c.remove.new.self.ended ≡ None).
    object-gone v.client.objects c.remove.new.self.objects object here
    (subst (λ (held : Held). HoldsAt held c.remove.new.self.objects object None) (ap (λ (w : ClientView). w.objects) c.forget.ensures.client ∙ ap (λ (w : ClientView). w.objects) c.count.ensures.only)
    (c.remove.ensures.table alive)) in
    let new = record c.forget.new.self { client = c.remove.new.self } in
    let done : EndsSo object one_more v new made = (
      told.0,
      subst (λ (es : List Said). Queues (id_deleted object ∷ es) made.peer told.0) (sym (still-released one_more made refl)) told.1,
      record {
        peer = told.2;
        owns = λ alive. rw (c.forget.ensures.owned, table alive) is.owns;
        frames = λ alive. rw (c.forget.ensures.owned, ap (λ (n : Names). n.surfaces) (table alive))
            (framed-names v.owned.surfaces.states.frames v.client.objects v.client.objects r one_more refl (one-more r.peer.requests) is.frames refl refl);
        subsurfaces = λ alive. rw (ap (λ (n : Names). n.surfaces) (table alive)) (c.forget.ensures.subsurfaces _ r.subsurfaces is.subsurfaces is.owns.surfaces.once);
        numbers = λ alive. keeps-names v.client.objects c.remove.new.self.objects (table alive);
      },
    ) in
    let so = subst (λ (x : Resident). EndsSo object one_more v new x) (sym same) done in
    meets-so v new client d (EndSubsurface object) one_more refl (so.0, inr so.1, so.2)

pub returns-in_default-clause-decides : goal.returns-in_default-clause-decides
returns-in_default-clause-decides g c = λ child of here client r d is orderly. absurd (gone _ of.0.1 (c.in_default.ensures _ _ is.subsurfaces child of.0.0))

pub returns-in_default-remove_subsurface-clause-decides : goal.returns-in_default-remove_subsurface-clause-decides
returns-in_default-remove_subsurface-clause-decides g c = λ child of here client r d is orderly.
    let then = with_peer (counted r.peer) r in
    meets-as c.args.self.now _ client d (EndSubsurface c.args.object) then refl false (
    let lacks = lacked c.args.self.now _ _ then (c.lack_memory.ensures.lacks (counted r.peer) (c.count.ensures.counts r.peer is.peer))
    c.lack_memory.ensures.ended in
    (refl, lacks.0, lacks.1, lacks.2))

pub returns-in_default-remove_subsurface-clause-answers : goal.returns-in_default-remove_subsurface-clause-answers
returns-in_default-remove_subsurface-clause-answers g c = λ here client r d is orderly.
    let only = λ (other : ℕ) (there : _). only-number _ _ _ c.args.object other c.in-Some.child is.subsurfaces there c.in-Some.ensures.0 in
    answered-so false (Ok (EndSubsurface c.args.object)) client r d c.args.self.now
    (record c.args.self.now { client = c.lack_memory.new.self; owned = record c.args.self.now.owned { surfaces = c.remove_subsurface.new.self } })
    (returns-in_default-remove_subsurface-clause-decides g c c.in-Some.child (c.in-Some.ensures, only) here client r d is orderly)

pub returns-in_default-let_go_of_told-clause-decides : goal.returns-in_default-let_go_of_told-clause-decides
returns-in_default-let_go_of_told-clause-decides g c = λ child of here client r d is orderly.
    let then = with_peer (counted r.peer) r in
    meets-as c.args.self.now _ client d (EndSubsurface c.args.object) then refl false (
    let lacks = lacked c.args.self.now _ _ then (c.in_default-let_go_of_told.ensures.lacks (counted r.peer) (c.count.ensures.counts r.peer is.peer))
    c.in_default-let_go_of_told.ensures.ended in
    (refl, lacks.0, lacks.1, lacks.2))

pub returns-in_default-let_go_of_told-clause-answers : goal.returns-in_default-let_go_of_told-clause-answers
returns-in_default-let_go_of_told-clause-answers g c = λ here client r d is orderly.
    let only = λ (other : ℕ) (there : _). only-number _ _ _ c.args.object other c.in-Some.child is.subsurfaces there c.in-Some.ensures.0 in
    answered-so false (Ok (EndSubsurface c.args.object)) client r d c.args.self.now
    c.let_go_of_told.new.self
    (returns-in_default-let_go_of_told-clause-decides g c c.in-Some.child (c.in-Some.ensures, only) here client r d is orderly)

pub returns-clause-decides : goal.returns-clause-decides
returns-clause-decides g c = λ child of here client r d is orderly.
    let v = c.args.self.now in
    let object = c.args.object in
    let below = c.in-Some.child in
    let its = link-of-child v r is orderly object below c.in-Some.ensures in
    let number = its.link.number in
    let names = names_of v.client.objects in
    let slots = v.owned.surfaces.states in
    let tied = v.owned.surfaces.family in
    let one_more = with_peer (counted r.peer) r in
    let peer_one = c.count.ensures.counts r.peer is.peer in
    let order = counted-ordered r orderly in
    let then = with_surfaces (unlinked number r.owned.surfaces) (record one_more { subsurfaces = filter (λ (s : Subsurface). not (s.id == object)) r.subsurfaces }) in
    let after = after_all one_more then in
    let freed = c.in-Ok.told.freed.items in
    let shown = map buffer_of c.in-Ok.told.shown.items in
    let called = part-called names.surfaces slots c.remove_subsurface.new.self.states tied c.remove_subsurface.new.self.family one_more is.owns.surfaces its.link below its.here its.lives its.named
    freed shown c.in-Ok.ensures.among c.in-Ok.ensures.ok c.in-Ok.ensures.waits c.in-Ok.ensures.freed c.in-Ok.ensures.shown in
    let stores = c.in-Some-let_go_of_told.ensures.lets_go.stores in
    let peer_then = subst (λ (x : Resident). IsPeer c.let_go_of_told.new.self.client x.peer)
    (tree-lets-go one_more then freed shown order.order.buffers called.frees (waits-unlinked (Some number) r.owned.surfaces))
    (stores then names.surfaces peer_one called.are (once-freed freed shown r.owned.surfaces then.owned.surfaces called.frees)) in
    let made = ended_by object (Some number) one_more in
    let told = c.remove-2.ensures.removes after.peer peer_then in
    let ids = c.in-Some-let_go_of_told.released.items in
    let releasing = map (λ thing. said thing (says WlBuffer 0 [])) ids in
    let those = c.in-Some-let_go_of_told.ensures.lets_go.those in
    let rel = releases-freed one_more made freed shown (are-one one_more order.order.buffers) called.frees ids c.in-Some-let_go_of_told.ensures.lets_go.rising
    (λ thing. those one_more peer_one thing) in
    let queues = rw c.deref.ensures.value at c.tell_releases.ensures.queues in
    let next = told-all c.remove-2.new.self c.tell_releases.new.self.client (id_deleted object ∷ []) releasing made.peer told.0 (sym is.peer.status ∙ is.lives) told.1 told.2
    queues c.tell_releases.ensures.ended in
    let kept_owned = c.tell_releases.ensures.owned ∙ c.let_go_of_told.ensures.owned in
    let table = λ (alive : c.tell_releases.new.self.client.ended ≡ None).
    ap names_of (c.tell_releases.ensures.table alive)
    ∙ object-gone v.client.objects c.remove-2.new.self.objects object here
    (subst (λ (held : Held). HoldsAt held c.remove-2.new.self.objects object None)
    (ap (λ (w : ClientView). w.objects) c.in-Some-let_go_of_told.ensures.lets_go.only ∙ ap (λ (w : ClientView). w.objects) c.count.ensures.only)
    (c.remove-2.ensures.table (lived c.remove-2.new.self c.tell_releases.new.self.client c.tell_releases.ensures.ended alive))) in
    let done : EndsSo object one_more v c.tell_releases.new.self made = (
      next.0,
      subst (λ (es : List Said). Queues (id_deleted object ∷ es) made.peer next.0) (sym rel) next.1,
      record {
        peer = next.2;
        owns = λ alive. rw (kept_owned, table alive)
            (owned-parted names slots tied (kept_of v.owned.shell) r.owned is.owns number below its.link its.here its.lives its.named c.remove_subsurface.new.self.states
            c.remove_subsurface.new.self.family orderly.order.once orderly.order.numbered orderly.order.roots c.in-Ok.ensures.ok);
        frames = λ alive. rw (kept_owned, ap (λ (n : Names). n.surfaces) (table alive))
            (called.framed (framed-names slots.frames v.client.objects v.client.objects r one_more refl (one-more r.peer.requests) is.frames refl refl));
        subsurfaces = λ alive. rw (c.tell_releases.ensures.subsurfaces, c.let_go_of_told.ensures.subsurfaces, ap (λ (n : Names). n.surfaces) (table alive))
            (ended-subsurfaces v.subsurfaces c.clear.new.self names.surfaces r.subsurfaces object below c.in-Some.ensures.0 is.owns.surfaces.once c.clear.ensures is.subsurfaces);
        numbers = λ alive. keeps-names v.client.objects c.tell_releases.new.self.client.objects (table alive);
      },
    ) in
    meets-as v c.tell_releases.new.self client d (EndSubsurface object) one_more refl true
    (subst (λ (o : Option ℕ). EndsSo object one_more v c.tell_releases.new.self (ended_by object o one_more)) (sym (link-number object one_more its.link its.of_object)) done)

pub returns-clause-answers : goal.returns-clause-answers
returns-clause-answers g c = λ here client r d is orderly.
    let only = λ (other : ℕ) (there : _). only-number _ _ _ c.args.object other c.in-Some.child is.subsurfaces there c.in-Some.ensures.0 in
    answered-so true (Ok (EndSubsurface c.args.object)) client r d c.args.self.now c.tell_releases.new.self (returns-clause-decides g c c.in-Some.child
    (c.in-Some.ensures, only) here client r d is orderly)

pub returns-clause-touched : goal.returns-clause-touched
returns-clause-touched g c = λ child of.
    let same : c.in-Some.child ≡ child = of.1 c.in-Some.child c.in-Some.ensures.0 in
    subst (λ (n : ℕ). IsTouched (Parts n) c.args.self.now.owned.surfaces c.tell_releases.new.self.owned.surfaces (Some c.in-Ok.told)) same (
      subst (λ (o : Lent _). IsMade (Parts c.in-Some.child) c.args.self.now.owned.surfaces o.surfaces) (sym (c.tell_releases.ensures.owned ∙ c.let_go_of_told.ensures.owned)) c.in-Ok.ensures.ok,
      λ all number link is stands. c.in-Ok.ensures.changes all number link is stands,
    )

pub returns-clause-nothing : goal.returns-clause-nothing
returns-clause-nothing g c = λ never numbers ss are.
    absurd (never c.in-Some.child (c.in-Some.ensures, λ other there. only-number _ numbers ss c.args.object other c.in-Some.child are there c.in-Some.ensures.0))

-- ---- what is kept stands by the numbers from before

pub returns-in_default-clause-holds : goal.returns-in_default-clause-holds
returns-in_default-clause-holds g c = λ child of here client r d is orderly done. absurd (cc)

pub returns-in_default-remove_subsurface-clause-holds : goal.returns-in_default-remove_subsurface-clause-holds
returns-in_default-remove_subsurface-clause-holds g c = λ child of here client r d is orderly done. absurd (cc)

pub returns-in_default-let_go_of_told-clause-holds : goal.returns-in_default-let_go_of_told-clause-holds
returns-in_default-let_go_of_told-clause-holds g c = λ child of here client r d is orderly done. absurd (cc)

pub returns-clause-holds : goal.returns-clause-holds
returns-clause-holds g c = λ child of here client r d is orderly done.
    let v = c.args.self.now in
    let object = c.args.object in
    let below = c.in-Some.child in
    let its = link-of-child v r is orderly object below c.in-Some.ensures in
    let names = names_of v.client.objects in
    let one_more = with_peer (counted r.peer) r in
    subst (λ (o : Option ℕ). HoldsBy v c.tell_releases.new.self (ended_by object o one_more).owned) (sym (link-number object one_more its.link its.of_object))
    (holds-same v c.tell_releases.new.self names _ refl (rw (c.tell_releases.ensures.owned ∙ c.let_go_of_told.ensures.owned)
    (owned-parted names v.owned.surfaces.states v.owned.surfaces.family (kept_of v.owned.shell) r.owned is.owns its.link.number below its.link its.here its.lives its.named
    c.remove_subsurface.new.self.states c.remove_subsurface.new.self.family orderly.order.once orderly.order.numbered orderly.order.roots c.in-Ok.ensures.ok)))

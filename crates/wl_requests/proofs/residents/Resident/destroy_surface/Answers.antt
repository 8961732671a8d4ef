use Rattle.std.proofs.Common.{◌≡◌, slice_index_or, List, [], ◌∷◌, ◌++◌, ◌+◌, Option, None, Some, map, true, false, refl, ap, subst, sym, ◌∙◌}
use Rattle.std.specs.Prelude.{◌==◌, ◌&&◌, filter, not}
use Rattle.std.specs.List.{list_any}
use Rattle.std.specs.Option.{option_map}
use Rattle.wl_client.specs.Agreement.{IsPeer}
use Rattle.wl_client.specs.Serving.{HoldsWithout}
use Rattle.wl_client.specs.View.{ClientView}
use Rattle.wl_proto.specs.declared.interface.Interface.TheVariants.{WlBuffer}
use Rattle.spec_desktop.specs.Buffers.{Buffer as Made}
use Rattle.spec_desktop.specs.Objects.{ById, with_id}
use Rattle.spec_desktop.specs.Peer.{Peer, Queues, all_removed, removed}
use Rattle.spec_desktop.specs.Told.{Said, id_deleted, said}
use Rattle.wl_proto.specs.Messages.{says}
use Rattle.wl_scene.specs.declared.owned.Owned.{Owned as Lent}
use Rattle.wl_shell.specs.Kept.{kept_of}
use Rattle.wl_surface.specs.FrameRequests.{frames_asked}
use Rattle.wl_surface.specs.Kept.{buffer_of}
use Rattle.wl_surface.specs.Request.{Buffer}
use Rattle.wl_surface.specs.State.{pending}
use Rattle.wl_store.specs.Stores.{Stock}
use Rattle.wl_surface.specs.Surfaces.{history_in}
use Rattle.wl_surface.specs.Trees.{destroyed_in, ended_in, links_with}
use Rattle.wl_surface.specs.Waiting.{Callback, is_in}
use Rattle.std.specs.Prelude.{fold}
use Rattle.wl_surface.specs.Slots.{had_at}
use Rattle.wl_table.specs.Objects.{Held}
use Rattle.spec_desktop.specs.Changing.{after_all, callbacks_of, surface_ended, without_child}
use Rattle.spec_desktop.specs.Demand.{EndSurface}
use Rattle.spec_desktop.specs.Framing.{AreFramed}
use Rattle.spec_desktop.specs.Desktop.{Resident}
use Rattle.spec_desktop.specs.Releases.{let_if}
use Rattle.spec_desktop.specs.Replies.{is_same_buffer}
use Rattle.spec_desktop.specs.Step.{is_over, letting_go, with_surfaces}
use Rattle.law_desktop.specs.Freed.{freed_of}
use Rattle.law_desktop.specs.Owning.{Names, by_number}
use Rattle.law_desktop.specs.RoleNames.{names_of}
use Rattle.law_desktop.proofs.Keeping.Freeing.{releases-freed}
use Rattle.law_desktop.proofs.Keeping.Ids.{waits-without-links}
use Rattle.law_desktop.proofs.Keeping.OwningAsks.{owned-destroyed}
use Rattle.law_desktop.proofs.Keeping.OwningSurfaces.{surface-named}
use Rattle.law_desktop.proofs.Keeping.OwningXdg.{xdg-of-none}
use Rattle.law_desktop.proofs.Keeping.Trees.{once-freed}
use Rattle.law_desktop.proofs.OneBuffer.Messages.{callbacks-buffers}
use Rattle.wl_requests.specs.Freed.{is_freed_in}
use Rattle.wl_requests.specs.Touching.{Destroys, IsMade}
use Rattle.wl_requests.proofs.Calls.{calls-here, destroy-called}
use Rattle.wl_requests.proofs.Doing.{had-by, kept-there, lacked, one-let}
use Rattle.wl_requests.proofs.Framing.{left-by}
use Rattle.wl_requests.proofs.Going.{are-heard, asked-read, going-removed, going-requests, going-status, going-told, surface-gone-with}
use Rattle.wl_requests.proofs.Numbers.{keeps-gone}
use Rattle.wl_requests.proofs.Meeting.{meets-as}
use Rattle.wl_requests.proofs.Subsurfaces.{gone-subsurfaces}
use Rattle.wl_requests.proofs.Trees.{are-one, destroy-lets-go, goes-too, is-freed, lived, pending-had, told-all}
use Rattle.wl_requests.proofs.Holding.{holds-without}
use Rattle.wl_requests.proofs.residents.Resident.destroy_surface.Goals as goal

pub returns-in_default-clause-does : goal.returns-in_default-clause-does
returns-in_default-clause-does g c = λ named bare client r on is only.
    meets-as _ _ client on (EndSurface c.args.object) r refl false (
    let lacks = lacked c.args.self.now _ _ r (c.lack_memory.ensures.lacks r.peer is.peer) c.lack_memory.ensures.ended in
    (refl, lacks.0, lacks.1, lacks.2))

pub returns-in_default-let_go_of_told-clause-does : goal.returns-in_default-let_go_of_told-clause-does
returns-in_default-let_go_of_told-clause-does g c = λ named bare client r on is only.
    meets-as _ _ client on (EndSurface c.args.object) r refl false (
    let lacks = lacked c.args.self.now _ _ r (c.in_default-let_go_of_told.ensures.lacks r.peer is.peer) c.in_default-let_go_of_told.ensures.ended in
    (refl, lacks.0, lacks.1, lacks.2))

pub returns-clause-does : goal.returns-clause-does
returns-clause-does g c = λ named bare client r on is only.
    let v = c.args.self.now in
    let id = c.args.object in
    let number = c.args.surface in
    let names = names_of v.client.objects in
    let slots = v.owned.surfaces.states in
    let tied = v.owned.surfaces.family in
    let kept = kept_of v.owned.shell in
    let none = xdg-of-none names slots tied kept r.owned is.owns id number named bare in
    let there = surface-named names.surfaces slots tied r.owned.surfaces is.owns.surfaces id number named in
    let extra = (pending there.0.history).buffer in
    let had = had-by names.surfaces slots tied r.owned.surfaces id number c.buffers.result is.owns.surfaces named c.buffers.ensures ∙ ap had_at there.1 in
    let element = slice_index_or c.buffers.result 0 c.index-buffers-0.result in
    let first : option_map buffer_of element ≡ extra = ap (option_map buffer_of) (sym c.index-buffers-0.is) ∙ pending-had c.buffers.result c.index-buffers-0.result there.0 c.index-buffers-0.is had in
    let freed = c.in-Ok.told.freed.items in
    let shown = map buffer_of c.in-Ok.told.shown.items in
    let left = fold ended_in r.owned.surfaces (links_with id r.owned.surfaces) in
    let then : Resident = with_surfaces (destroyed_in id r.owned.surfaces) (record r { subsurfaces = map (without_child id) r.subsurfaces }) in
    let without = with_id id None names.surfaces in
    let called = destroy-called names.surfaces slots c.destroy.new.self.states tied c.destroy.new.self.family r is.owns.surfaces id number named freed shown
    c.in-Ok.ensures.among c.in-Ok.ensures.ok c.in-Ok.ensures.waits c.in-Ok.ensures.freed c.in-Ok.ensures.shown in
    let gone = freed_of freed shown in
    let stores = c.in-Some.ensures.lets_go.stores in
    let one = stores then without is.peer called.are (once-freed freed shown r.owned.surfaces then.owned.surfaces called.frees) in
    let went = c.is_freed.result in
    let same_went = λ (b : Buffer) (e : extra ≡ Some b).
    c.is_freed.ensures ∙ ap (λ ns. is_freed_in ns (option_map buffer_of element)) c.deref.ensures.value ∙ ap (is_freed_in freed) (first ∙ e)
    ∙ is-freed freed shown r.owned.surfaces then.owned.surfaces b called.frees in
    let kept_there = kept-there _ _ without then.owned.surfaces c.let_go_of_told.ensures.owned called.are in
    let two = one-let _ _ (letting_go gone then) (let_if (is_over then) went (option_map buffer_of element)) one c.let_go_if_over.ensures.only
    (c.let_go_if_over.ensures.stores (letting_go gone then) without one kept_there) in
    let after = after_all r then in
    let peer_then = subst (λ (x : Resident). IsPeer c.let_go_if_over.new.self.client x.peer)
    (destroy-lets-go r then left id there.0 freed shown only.order.buffers only.order.known.apart there.1 called.frees (waits-without-links id r.owned.surfaces) refl)
    (subst (λ (s : Stock). IsPeer c.let_go_if_over.new.self.client (record then.peer { stores = s }))
    (ap (λ (o : Option Buffer). let_if (is_over then) went o (letting_go gone then).peer.stores) first ∙ goes-too then gone extra went same_went) two) in
    let asked = asked-read v.client.objects r slots tied is.owns.surfaces id number named in
    let cs = callbacks_of id r in
    let calls = c.deref-2.result.now in
    let waits = is.frames.waits in
    let ids : calls ≡ map (λ (x : Callback). x.id) cs =
    c.deref-2.ensures.value ∙ calls-here names.surfaces slots tied r.owned.surfaces is.owns.surfaces number c.in-Ok.told.callbacks.items r.callbacks c.in-Ok.ensures.callbacks waits
    ∙ ap (λ ns. map (λ (x : Callback). x.id) (filter (is_in ns) r.callbacks)) asked in
    let made = surface_ended id r in
    let told = c.remove_with.ensures.removes after.peer peer_then in
    let released = c.in-Some.released.items in
    let releasing = map (λ object. said object (says WlBuffer 0 [])) released in
    let telling : List Said = id_deleted id ∷ map (λ (x : Callback). id_deleted x.id) cs in
    let first_told : Queues telling made.peer told.0 =
    subst (λ (p : Peer). Queues telling (removed id p) told.0) (going-removed cs calls after.peer ids)
    (subst (λ (es : List Said). Queues es (removed id (all_removed calls after.peer)) told.0) (going-told id cs calls ids) told.1) in
    let those = c.in-Some.ensures.lets_go.those in
    let rel = releases-freed r made freed shown (are-one r only.order.buffers) called.frees released c.in-Some.ensures.lets_go.rising
    (λ thing. those r is.peer thing
    ∙ ap (λ (f : ById Made). list_any (λ b. (b.object == thing) && is_same_buffer b.number (option_map (λ (m : Made). m.number) (f b.object))) gone) (sym (callbacks-buffers cs after.peer))) in
    let queues = rw c.deref-3.ensures.value at c.tell_releases.ensures.queues in
    let next = told-all c.remove_with.new.self c.tell_releases.new.self.client telling releasing made.peer told.0
    (going-status cs after.peer ∙ sym is.peer.status ∙ is.lives) first_told told.2 queues c.tell_releases.ensures.ended in
    let kept_owned = c.tell_releases.ensures.owned ∙ c.let_go_if_over.ensures.owned ∙ c.let_go_of_told.ensures.owned in
    let table = λ (alive : c.tell_releases.new.self.client.ended ≡ None).
    ap names_of (c.tell_releases.ensures.table alive)
    ∙ surface-gone-with v.client.objects c.remove_with.new.self.objects id calls (are-heard id r v.client.objects calls only.order.known is.peer.objects ids)
    (subst (λ (held : Held). HoldsWithout held c.remove_with.new.self.objects (id ∷ calls))
    (ap (λ (w : ClientView). w.objects) (c.let_go_if_over.ensures.only) ∙ ap (λ (w : ClientView). w.objects) c.in-Some.ensures.lets_go.only)
    (c.remove_with.ensures.table (lived c.remove_with.new.self c.tell_releases.new.self.client c.tell_releases.ensures.ended alive)))
    number named in
    meets-as _ _ client on (EndSurface id) r refl true (
      next.0,
      subst (λ (es : List Said). Queues es made.peer next.0) (ap (λ (es : List Said). telling ++ es) (sym rel)) next.1,
      record {
        peer = next.2;
        owns = λ alive. rw kept_owned
            (owned-destroyed names slots tied kept r is.owns id number c.destroy.new.self.states c.destroy.new.self.family (names_of c.tell_releases.new.self.client.objects)
            only.order.once only.order.numbered only.order.roots named none c.in-Ok.ensures.ok (table alive));
        frames = λ alive. rw (kept_owned, ap (λ (n : Names). n.surfaces) (table alive), going-requests cs after.peer)
            (subst (λ (ls : List Callback). AreFramed c.destroy.new.self.states.frames (by_number without then.owned.surfaces) (r.peer.requests + 1) ls)
            (ap (λ ns. filter (λ x. not (is_in ns x)) r.callbacks) asked ∙ sym (left-by (frames_asked (history_in id r.owned.surfaces)) r.callbacks)) (called.framed is.frames));
        subsurfaces = λ alive. rw (c.tell_releases.ensures.subsurfaces, c.let_go_if_over.ensures.subsurfaces, c.let_go_of_told.ensures.subsurfaces, ap (λ (n : Names). n.surfaces) (table alive))
            (gone-subsurfaces v.subsurfaces c.clear.new.self names.surfaces r.subsurfaces id number named is.owns.surfaces.once c.clear.ensures is.subsurfaces);
        numbers = λ alive. keeps-gone v.client.objects c.tell_releases.new.self.client.objects id (table alive);
      },
    )

pub returns-clause-touched : goal.returns-clause-touched
returns-clause-touched g c = (
  subst (λ (o : Lent _). IsMade (Destroys c.args.surface) c.args.self.now.owned.surfaces o.surfaces)
      (sym (c.tell_releases.ensures.owned ∙ c.let_go_if_over.ensures.owned ∙ c.let_go_of_told.ensures.owned)) c.in-Ok.ensures.ok,
  c.in-Ok.ensures.changes,
)

-- ---- what is kept stands by the numbers from before

pub returns-in_default-clause-holds : goal.returns-in_default-clause-holds
returns-in_default-clause-holds g c = λ named bare client r on is only done. absurd (cc)

pub returns-in_default-let_go_of_told-clause-holds : goal.returns-in_default-let_go_of_told-clause-holds
returns-in_default-let_go_of_told-clause-holds g c = λ named bare client r on is only done. absurd (cc)

pub returns-clause-holds : goal.returns-clause-holds
returns-clause-holds g c = λ named bare client r on is only done.
    let v = c.args.self.now in
    let id = c.args.object in
    let number = c.args.surface in
    let names = names_of v.client.objects in
    let slots = v.owned.surfaces.states in
    let tied = v.owned.surfaces.family in
    let kept = kept_of v.owned.shell in
    let none = xdg-of-none names slots tied kept r.owned is.owns id number named bare in
    holds-without v c.tell_releases.new.self names id _ refl (rw (c.tell_releases.ensures.owned ∙ c.let_go_if_over.ensures.owned ∙ c.let_go_of_told.ensures.owned)
    (owned-destroyed names slots tied kept r is.owns id number c.destroy.new.self.states c.destroy.new.self.family (record names { surfaces = with_id id None names.surfaces })
    only.order.once only.order.numbered only.order.roots named none c.in-Ok.ensures.ok refl))

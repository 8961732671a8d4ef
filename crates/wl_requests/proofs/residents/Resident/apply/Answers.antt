use Rattle.std.proofs.Common.{◌≡◌, ℕ, List, [], ◌++◌, Option, None, map, true, false, refl, ap, subst, sym, ◌∙◌}
use Rattle.std.specs.Prelude.{◌==◌, ◌&&◌}
use Rattle.std.specs.List.{list_any}
use Rattle.std.specs.Option.{option_map}
use Rattle.wl_client.specs.Agreement.{IsPeer}
use Rattle.wl_client.specs.View.{ClientView}
use Rattle.spec_desktop.specs.Buffers.{Buffer as Made}
use Rattle.spec_desktop.specs.Objects.{ById}
use Rattle.spec_desktop.specs.Peer.{Peer, Queues}
use Rattle.spec_desktop.specs.Told.{Said, said}
use Rattle.wl_proto.specs.Messages.{says}
use Rattle.wl_proto.specs.declared.interface.Interface.TheVariants.{WlBuffer}
use Rattle.wl_shell.specs.Kept.{Kept, changing, kept_after, kept_of}
use Rattle.wl_shell.specs.Shell.{Effect, xdg_of}
use Rattle.wl_scene.specs.declared.owned.Owned.{Owned as Lent}
use Rattle.wl_surface.specs.Kept.{buffer_of}
use Rattle.wl_surface.specs.Surfaces.{Surfaces}
use Rattle.wl_surface.specs.Trees.{committed_in}
use Rattle.spec_desktop.specs.Changing.{effect_placing, placement_now, tree_committed}
use Rattle.spec_desktop.specs.Demand.{CommitTree}
use Rattle.spec_desktop.specs.Desktop.{Resident, unpointed}
use Rattle.spec_desktop.specs.Replies.{is_same_buffer, own_answers, releases}
use Rattle.spec_desktop.specs.Stacked.{all_windows}
use Rattle.spec_desktop.specs.Step.{with_surfaces}
use Rattle.spec_desktop.specs.WlSurface.{will_show}
use Rattle.law_desktop.specs.Freed.{AreFreedOf, freed_of}
use Rattle.law_desktop.specs.Owning.{IsOwned, Names, effect_by}
use Rattle.law_desktop.specs.OwnedPopups.{act_told}
use Rattle.law_desktop.specs.RoleNames.{names_of}
use Rattle.law_desktop.proofs.Keeping.Freeing.{releases-freed}
use Rattle.law_desktop.proofs.Keeping.Ids.{waits-committed}
use Rattle.law_desktop.proofs.OwnedPopups.Committing.{popups-commit}
use Rattle.law_desktop.proofs.Keeping.Trees.{once-freed}
use Rattle.wl_requests.specs.Residents.{IsLeft, drawn_by}
use Rattle.wl_requests.specs.Touching.{Commits, IsMade}
use Rattle.wl_requests.proofs.Calls.{commit-called}
use Rattle.wl_requests.proofs.Committing.{commit-peer, drawn-status, effect-buffers, effect-callbacks, effect-requests, effect-subsurfaces, effect-surfaces}
use Rattle.wl_requests.proofs.Doing.{lacked}
use Rattle.wl_requests.proofs.Numbers.{keeps-same}
use Rattle.wl_requests.proofs.Shelling.{owns-told}
use Rattle.wl_requests.proofs.Meeting.{meets-as}
use Rattle.wl_requests.proofs.Trees.{are-one, lived, told-all, tree-lets-go}
use Rattle.wl_requests.proofs.Holding.{holds-same}
use Rattle.wl_requests.proofs.residents.Resident.apply.Goals as goal

pub returns-in_default-clause-applies : goal.returns-in_default-clause-applies
returns-in_default-clause-applies g c = λ client r on names object kept bounds at only comes lives is owned framed subs names_are named within there answer serial shell.
    meets-as _ _ client on (CommitTree object) r refl false (
    let lacks = lacked c.args.self.now _ _ r (c.lack_memory.ensures.lacks r.peer is) c.lack_memory.ensures.ended in
    (refl, lacks.0, lacks.1, lacks.2))

pub returns-in_default-let_go_of_told-clause-applies : goal.returns-in_default-let_go_of_told-clause-applies
returns-in_default-let_go_of_told-clause-applies g c = λ client r on names object kept bounds at only comes lives is owned framed subs names_are named within there answer serial shell.
    meets-as _ _ client on (CommitTree object) r refl false (
    let lacks = lacked c.args.self.now _ _ r (c.in_default-let_go_of_told.ensures.lacks r.peer is) c.in_default-let_go_of_told.ensures.ended in
    (refl, lacks.0, lacks.1, lacks.2))

pub returns-clause-applies : goal.returns-clause-applies
returns-clause-applies g c = λ client r on names object kept bounds at only comes lives is owned framed subs names_are named within there answer serial shell.
    let v = c.args.self.now in
    let number = c.args.surface in
    let act = c.args.act in
    let slots = v.owned.surfaces.states in
    let tied = v.owned.surfaces.family in
    let all = committed_in object r.owned.surfaces in
    let then = with_surfaces all r in
    let after = tree_committed object r in
    let freed = c.in-Ok.told.freed.items in
    let shown = map buffer_of c.in-Ok.told.shown.items in
    let called = commit-called names.surfaces slots c.commit.new.self.states tied c.commit.new.self.family r owned.surfaces object number named freed shown
    c.in-Ok.ensures.among c.in-Ok.ensures.ok c.in-Ok.ensures.waits c.in-Ok.ensures.freed c.in-Ok.ensures.shown in
    let stores = c.in-Some.ensures.lets_go.stores in
    let peer_then = subst (λ (x : Resident). IsPeer c.let_go_of_told.new.self.client x.peer) (tree-lets-go r then freed shown only.order.buffers called.frees (waits-committed object r.owned.surfaces))
    (stores then names.surfaces is called.are (once-freed freed shown r.owned.surfaces all called.frees)) in
    let told = c.tell_act.ensures.told after.peer peer_then in
    let o = xdg_of object r.owned.shell in
    let where_to = placement_now client r (unpointed on) in
    let made = effect_placing where_to object (effect_by act) o after in
    let same : kept_of c.let_go_of_told.new.self.owned.shell number ≡ changing number (kept_after c.args.serial act) kept number =
    ap (λ o. kept_of o.shell number) c.let_go_of_told.ensures.owned ∙ ap (λ (k : ℕ → Option Kept). k number) (shell ∙ ap (λ n. changing number (kept_after n act) kept) (sym serial)) in
    let events : act_told act c.args.serial (kept_of c.let_go_of_told.new.self.owned.shell number) ≡ own_answers client (CommitTree object) r (all_windows on) (unpointed on) =
    ap (act_told act c.args.serial) same ∙ ap (λ n. act_told act n (changing number (kept_after c.args.serial act) kept number)) serial
    ∙ ap (λ n. act_told act r.peer.serial (changing number (kept_after n act) kept number)) serial
    ∙ sym (popups-commit.told names slots tied kept r client object number bounds at act (unpointed on) (all_windows on) (changing number (kept_after r.peer.serial act) kept) owned named within there
    answer refl) in
    let surfaces : made.owned.surfaces ≡ all = effect-surfaces where_to object (effect_by act) o after in
    let buffers : made.peer.buffers ≡ r.peer.buffers = effect-buffers where_to object (effect_by act) o after in
    let ids = c.in-Some.released.items in
    let releasing = map (λ object. said object (says WlBuffer 0 [])) ids in
    let telling = act_told act c.args.serial (kept_of c.let_go_of_told.new.self.owned.shell number) in
    let those = c.in-Some.ensures.lets_go.those in
    let rel = releases-freed r made freed shown (are-one r only.order.buffers) (subst (λ (x : Surfaces). AreFreedOf freed shown r.owned.surfaces x) (sym surfaces) called.frees)
    ids c.in-Some.ensures.lets_go.rising
    (λ thing. those r is thing
    ∙ ap (λ (f : ById Made). list_any (λ b. (b.object == thing) && is_same_buffer b.number (option_map (λ (m : Made). m.number) (f b.object))) (freed_of freed shown)) (sym buffers)) in
    let queues = rw c.deref.ensures.value at c.tell_releases.ensures.queues in
    let next = told-all c.tell_act.new.self.client c.tell_releases.new.self.client telling releasing (drawn_by act after.peer) told.0 (drawn-status act after.peer ∙ lives) told.1 told.2
    queues c.tell_releases.ensures.ended in
    let kept_owned = c.tell_releases.ensures.owned ∙ c.tell_act.ensures.owned ∙ c.let_go_of_told.ensures.owned in
    let table = λ (alive : c.tell_releases.new.self.client.ended ≡ None).
    c.tell_releases.ensures.table alive ∙ c.tell_act.ensures.table (lived c.tell_act.new.self.client c.tell_releases.new.self.client c.tell_releases.ensures.ended alive)
    ∙ ap (λ (w : ClientView). w.objects) c.in-Some.ensures.lets_go.only in
    meets-as _ _ client on (CommitTree object) r refl true (
    subst (λ (f : Effect). (q : Peer)
    × Queues (own_answers client (CommitTree object) r (all_windows on) (unpointed on) ++ releases r (effect_placing where_to object f o after)) (effect_placing where_to object f o after).peer q
    × IsLeft v c.tell_releases.new.self (effect_placing where_to object f o after) q)
    (sym comes) (
      next.0,
      subst (λ (p : Peer). Queues (own_answers client (CommitTree object) r (all_windows on) (unpointed on) ++ releases r made) p next.0)
          (sym (commit-peer names slots tied kept r owned object number named where_to (will_show r object) bounds at act after answer))
          (subst (λ (es : List Said). Queues es (drawn_by act after.peer) next.0)
          (ap (λ (es : List Said). es ++ releasing) events ∙ ap (λ (es : List Said). own_answers client (CommitTree object) r (all_windows on) (unpointed on) ++ es) (sym rel)) next.1),
      record {
        peer = next.2;
        owns = λ alive. owns-told c.tell_releases.new.self _ names made.owned (ap names_of (table alive) ∙ names_are) kept_owned
            (subst (λ (f : Effect). IsOwned names c.commit.new.self.states c.commit.new.self.family (kept_of v.owned.shell) (effect_placing where_to object f o after).owned) comes
            (popups-commit.committed names slots tied kept r client object number bounds at act (unpointed on) c.commit.new.self.states c.commit.new.self.family (kept_of v.owned.shell) owned
            only.order.once only.order.numbered only.order.roots named c.in-Ok.ensures.ok within there answer shell));
        frames = λ alive. rw (
          kept_owned,
          table alive,
          ap (λ (n : Names). n.surfaces) names_are,
          surfaces,
          effect-requests where_to object (effect_by act) o after,
          effect-callbacks where_to object (effect_by act) o after,
        ) (called.framed framed);
        subsurfaces = λ alive.
            rw (
              c.tell_releases.ensures.subsurfaces,
              c.tell_act.ensures.subsurfaces,
              c.let_go_of_told.ensures.subsurfaces,
              table alive,
              ap (λ (n : Names). n.surfaces) names_are,
              effect-subsurfaces where_to object (effect_by act) o after,
            ) subs;
        numbers = λ alive. keeps-same v.client.objects c.tell_releases.new.self.client.objects (table alive);
      },
    ))

pub returns-clause-touched : goal.returns-clause-touched
returns-clause-touched g c = (
  subst (λ (o : Lent _). IsMade (Commits c.args.surface) c.args.self.now.owned.surfaces o.surfaces) (sym (c.tell_releases.ensures.owned ∙ c.tell_act.ensures.owned ∙ c.let_go_of_told.ensures.owned))
      c.in-Ok.ensures.ok,
  c.in-Ok.ensures.changes,
)

-- ---- what is kept stands by the numbers from before

pub returns-in_default-clause-holds : goal.returns-in_default-clause-holds
returns-in_default-clause-holds g c = λ client r on names object kept bounds at only owned names_are named within there answer shell done. absurd (cc)

pub returns-in_default-let_go_of_told-clause-holds : goal.returns-in_default-let_go_of_told-clause-holds
returns-in_default-let_go_of_told-clause-holds g c = λ client r on names object kept bounds at only owned names_are named within there answer shell done. absurd (cc)

pub returns-clause-holds : goal.returns-clause-holds
returns-clause-holds g c = λ client r on names object kept bounds at only owned names_are named within there answer shell done.
    let v = c.args.self.now in
    holds-same v c.tell_releases.new.self names _ (ap (λ (n : Names). n.surfaces) names_are) (rw (c.tell_releases.ensures.owned ∙ c.tell_act.ensures.owned ∙ c.let_go_of_told.ensures.owned)
    (popups-commit.committed names v.owned.surfaces.states v.owned.surfaces.family kept r client object c.args.surface bounds at c.args.act (unpointed on) c.commit.new.self.states
    c.commit.new.self.family (kept_of v.owned.shell) owned only.order.once only.order.numbered only.order.roots named c.in-Ok.ensures.ok within there answer shell))

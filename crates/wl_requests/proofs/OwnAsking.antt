-- A message of a client's own interfaces, as the desk takes it.
use Rattle.std.proofs.Common.{◌≡◌, ℕ, ◌-◌, take, drop, Bool, true, false, Option, Some, None, Result, refl, ap, subst, sym, ◌∙◌, ◌≤◌, arith}
use Rattle.std.specs.Prelude.{Ok, Err}
use Rattle.std.specs.Option.{option_and_then}
use Rattle.std.proofs.Math.Path.{fun_ext}
use Rattle.wl_wire.specs.declared.header.Split.{Split}
use Rattle.wl_wire.specs.declared.header.Split.TheVariants.{Message as Whole}
use Rattle.wl_wire.specs.Wire.{split_of}
use Rattle.wl_proto.specs.declared.interface.Interface.{Interface}
use Rattle.wl_proto.specs.declared.interface.Interface.TheVariants.{WlDisplay, WlRegistry, WlRegion, WlSurface, WlShm, WlShmPool, WlBuffer, XdgPositioner, XdgSurface}
use Rattle.wl_proto.specs.Messages.{Message, request_message}
use Rattle.wl_client.specs.Agreement.{IsPeer}
use Rattle.spec_desktop.specs.Judgement.{action_of, judge as judge_own}
use Rattle.spec_desktop.specs.Requests.{request_of}
use Rattle.spec_desktop.specs.Peer.{Peer, known_of, with_rest, changed, counted}
use Rattle.wl_client.specs.Serving.{AnswersWith, AreUsed, IsOwnMessage, KeepsSurfaces, PassesTo, ServesWith, TakesWith, is_own, of_surface}
use Rattle.spec_desktop.specs.Used.{has_used, keeps_store}
use Rattle.wl_client.specs.View.{ClientView}
use Rattle.spec_desktop.specs.declared.actions.Action.{Action}
use Rattle.spec_desktop.specs.declared.refusals.Refusal.{Refusal}
use Rattle.spec_desktop.specs.declared.actions.Action.TheVariants.{DestroyBuffer}
use Rattle.wl_surface.specs.Slots.{has_at}
use Rattle.wl_surface.specs.Surface.{has}
use Rattle.wl_surface.specs.Surfaces.{is_used}
use Rattle.wl_table.specs.Objects.{Held, entry_of}
use Rattle.wl_table.specs.declared.entry.Entry.{Entry}
use Rattle.wl_requests.specs.declared.residents.Resident.{Resident as Kept}
use Rattle.wl_requests.specs.declared.residents.Stacking.TheVariants.{Stays}
use Rattle.spec_desktop.specs.Ask.{owns, Own}
use Rattle.spec_desktop.specs.Demand.{Demand}
use Rattle.spec_desktop.specs.Demanding.{demand_of, demands, judge_all}
use Rattle.spec_desktop.specs.Desktop.{Desktop, Resident}
use Rattle.law_desktop.specs.Ordered.{OwnsOrdered}
use Rattle.law_desktop.specs.Owning.{Names, by_number, target_as, targets_in}
use Rattle.law_desktop.specs.RoleNames.{names_of, role_target, roles_in}
use Rattle.wl_requests.specs.Residents.{AnswersSo as AnswersWhole, IsLeft, IsResident, StacksSo as StacksWhole, TakesSo}
use Rattle.spec_desktop.specs.Step.{with_peer, changed_by}
use Rattle.wl_requests.proofs.Asking.{demanded-first, judged-by, whole-first}
use Rattle.wl_requests.proofs.Meeting.{AnswersSo, asks-stay, as-asked, ordered-peer}
use Rattle.wl_requests.proofs.Numbers.{keeps-names}
use Rattle.wl_requests.proofs.Framing.{IsFramed, framed-names, no-more}
use Rattle.wl_requests.proofs.Roles.{names-with}
use Rattle.law_desktop.proofs.Keeping.OwningSurfaces.{any-is}
use Rattle.wl_store.specs.Stores.{Stock}
use Rattle.spec_desktop.specs.Stacking.{Owned}
use Rattle.wl_scene.specs.declared.owned.Owned.{Owned as Lent}

-- a message that is judged so passes, and is one of the client's own
pub passes-own : (v : ClientView) (size : ℕ) (judged : Result Action Refusal) → IsOwnMessage v size judged → PassesTo true v
passes-own v size judged own = (own.object, own.version, size, own.target, request_message own.request, own.passes, own.own)

-- ---- what names surfaces stays

seen-surface : (i : Interface) (version target : ℕ) → option_and_then (target_as WlSurface) (of_surface (Some (record { interface = i; version = version; target = target }))) ≡ target_as WlSurface
    (record { interface = i; version = version; target = target })
seen-surface WlSurface version target = refl
seen-surface i version target = refl

seen-xdg : (i : Interface) (version target : ℕ) → option_and_then (target_as XdgSurface) (of_surface (Some (record { interface = i; version = version; target = target }))) ≡ target_as XdgSurface
    (record { interface = i; version = version; target = target })
seen-xdg WlSurface version target = refl
seen-xdg i version target = refl

seen-role : (i : Interface) (version target : ℕ) → option_and_then role_target (of_surface (Some (record { interface = i; version = version; target = target }))) ≡ role_target
    (record { interface = i; version = version; target = target })
seen-role WlSurface version target = refl
seen-role i version target = refl

-- what objects name that are seen so
abbrev Seen : (Entry → Option ℕ) → Type 0
Seen by = (o : Option Entry) → option_and_then by (of_surface o) ≡ option_and_then by o

surface-seen : Seen (target_as WlSurface)
surface-seen None = refl
surface-seen (Some entry) = seen-surface entry.interface entry.version entry.target

xdg-seen : Seen (target_as XdgSurface)
xdg-seen None = refl
xdg-seen (Some entry) = seen-xdg entry.interface entry.version entry.target

role-seen : Seen role_target
role-seen None = refl
role-seen (Some entry) = seen-role entry.interface entry.version entry.target

named-kept : (by : Entry → Option ℕ) (old new : Held) → Seen by → KeepsSurfaces old new
    → ◌≡◌ {A = ℕ → Option ℕ} (λ id. option_and_then by (entry_of new id)) (λ id. option_and_then by (entry_of old id))
named-kept by old new seen keeps = fun_ext (λ id. sym (seen (entry_of new id)) ∙ ap (option_and_then by) (keeps id) ∙ seen (entry_of old id))

names-kept : (old new : Held) → KeepsSurfaces old new → names_of new ≡ names_of old
names-kept old new keeps =
    names-with old new (targets_in WlSurface old) (targets_in XdgSurface old) (roles_in old) (named-kept (target_as WlSurface) old new surface-seen keeps)
    (named-kept (target_as XdgSurface) old new xdg-seen keeps) (named-kept role_target old new role-seen keeps)

-- ---- it is answered

-- one of the client's own interfaces
own-asked : (interface : Interface) (r : Resident) (object version : ℕ) (m : Message) → is_own interface ≡ true
    → m.interface ≡ interface → demand_of r object version m ≡ demands (owns (action_of (known_of r.peer) object version (request_of m)))
own-asked WlDisplay r object version m own is = rw is refl
own-asked WlRegistry r object version m own is = rw is refl
own-asked WlRegion r object version m own is = rw is refl
own-asked WlShm r object version m own is = rw is refl
own-asked WlShmPool r object version m own is = rw is refl
own-asked WlBuffer r object version m own is = rw is refl
own-asked XdgPositioner r object version m own is = rw is refl
own-asked interface r object version m own is = absurd (cc)

pub own-demand-of : (r : Resident) (object version : ℕ) (m : Message) → is_own m.interface ≡ true
    → demand_of r object version m ≡ demands (owns (action_of (known_of r.peer) object version (request_of m)))
own-demand-of r object version m own = own-asked m.interface r object version m own refl

-- what it leaves
own-left : {A : Type 0} (old new : Kept A) (r then : Resident) (q : Peer) → IsResident old r → then.owned ≡ r.owned → then.callbacks ≡ r.callbacks → then.subsurfaces ≡ r.subsurfaces
    → r.peer.requests ≤ then.peer.requests → new.owned ≡ old.owned → new.subsurfaces ≡ old.subsurfaces → (new.client.ended ≡ None → KeepsSurfaces old.client.objects new.client.objects)
    → IsPeer new.client q → IsLeft old new then q
own-left {A} old new r then q is owned callbacks subsurfaces more same kept keeps peer = record {
  peer = peer;
  owns = λ alive. rw (names-kept old.client.objects new.client.objects (keeps alive), same, owned) is.owns;
  frames = λ alive.
      subst (λ (o : Lent A). IsFramed o.surfaces.states.frames new.client.objects then) (sym same)
      (framed-names old.owned.surfaces.states.frames old.client.objects new.client.objects r then callbacks more is.frames (names-kept old.client.objects new.client.objects (keeps alive))
      (ap (λ (o : Owned). o.surfaces) owned));
  subsurfaces = λ alive.
      rw (ap (λ (n : Names). n.surfaces) (names-kept old.client.objects new.client.objects (keeps alive)), kept, subsurfaces) is.subsurfaces;
  numbers = λ alive. keeps-names old.client.objects new.client.objects (names-kept old.client.objects new.client.objects (keeps alive));
}

kept-requests : (b : Bool) (stores : Stock) (p : Peer) → (keeps_store b stores p).requests ≡ p.requests
kept-requests true stores p = refl
kept-requests false stores p = refl

own-requests : (action : Action) (left : Resident) (n : ℕ) → n ≤ left.peer.requests → n ≤ (changed_by (Own action) (with_peer (counted left.peer) left)).peer.requests
own-requests (DestroyBuffer id store) left n le =
    subst (λ (m : ℕ). n ≤ m)
    (sym (kept-requests (has_used (λ number. is_used number left.owned.surfaces) (left.peer.buffers id)) left.peer.stores (changed (DestroyBuffer id store) (counted left.peer))))
    (omega (arith, le))
own-requests action left n le = omega (arith, le)

own-answered : {A : Type 0} (old new : Kept A) (r left : Resident) (judged : Result Action Refusal) (q : Peer) → IsResident old r → left.owned ≡ r.owned → left.callbacks ≡ r.callbacks
    → left.subsurfaces ≡ r.subsurfaces → r.peer.requests ≤ left.peer.requests → new.owned ≡ old.owned → new.subsurfaces ≡ old.subsurfaces → (new.client.ended ≡ None
    → KeepsSurfaces old.client.objects new.client.objects)
    → AnswersWith (λ number. is_used number left.owned.surfaces) judged left.peer q → IsPeer new.client q → AnswersSo (owns judged) left old new
own-answered old new r left (Ok action) q is owned callbacks subsurfaces more same kept keeps acts peer =
    (q, acts, own-left old new r (changed_by (Own action) (with_peer (counted left.peer) left)) q is owned callbacks subsurfaces (own-requests action left r.peer.requests more) same kept keeps peer)
own-answered old new r left (Err refusal) q is owned callbacks subsurfaces more same kept keeps errs peer =
    (q, errs, own-left old new r left q is owned callbacks subsurfaces more same kept keeps peer)

-- the buffers that its surfaces use
pub used-of : {A : Type 0} (old : Kept A) (r : Resident) → IsResident old r → AreUsed old.owned.surfaces.states (λ number. is_used number r.owned.surfaces)
used-of old r is =
    let numbers = (names_of old.client.objects).surfaces in
    let slots = old.owned.surfaces.states in
    (by_number numbers r.owned.surfaces, is.owns.surfaces.stand, λ number. any-is numbers slots _ r.owned.surfaces is.owns.surfaces (λ s. has number s.history) (has_at number) refl (λ s. refl))

pub own-served : {A : Type 0} (old new : Kept A) (r : Resident) (q : Peer) → IsResident old r → PassesTo true old.client → new.owned ≡ old.owned → new.subsurfaces ≡ old.subsurfaces
    → (new.client.ended ≡ None → KeepsSurfaces old.client.objects new.client.objects)
    → ServesWith (λ number. is_used number r.owned.surfaces) r.peer q → IsPeer new.client q → (c : ℕ) (d : Desktop) → OwnsOrdered r → TakesSo (split_of r.peer.rest) c r d old new Stays
own-served old new r q is (object, version, size, target, m, passes, own) same kept keeps serves peer c d only =
    let whole = whole-first old r object version size target m passes is in
    let body = take (size - 8) (drop 8 r.peer.rest) in
    let left : Resident = with_peer (with_rest (drop size r.peer.rest) r.peer) r in
    let action : Result Action Refusal = action_of (known_of r.peer) object version (request_of m) in
    let used : ℕ → Bool = λ number. is_used number r.owned.surfaces in
    let judged : judge_all r object m.opcode body ≡ demands (owns action) = demanded-first old r object version size target m passes is ∙ own-demand-of left object version m own in
    let judged_own : judge_own (known_of r.peer) object m.opcode body ≡ action =
    judged-by old r object version size target m passes is (λ version m. action_of (known_of r.peer) object version (request_of m)) in
    let taken : TakesWith used (Whole object m.opcode size) r.peer q = subst (λ (s : Split). TakesWith used s r.peer q) whole serves.1 in
    let answers : AnswersWith used action left.peer q = subst (λ (j : Result Action Refusal). AnswersWith used j left.peer q) judged_own taken in
    subst (λ (s : Split). TakesSo s c r d old new Stays) (sym whole) (
      subst (λ (j : Result Demand Refusal). AnswersWhole j c left d old new) (sym judged)
          (as-asked old new c d left (ordered-peer r left.peer refl refl (no-more r.peer.requests) only) (owns action) (own-answered old new r left action q is refl refl refl
          (no-more r.peer.requests) same kept keeps answers peer)),
      subst (λ (j : Result Demand Refusal). StacksWhole old r j Stays) (sym judged) (asks-stay old r (owns action)),
    )

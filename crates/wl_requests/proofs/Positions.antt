-- What is asked of a wl_subsurface is answered: its place is asked of its parent, and its mode is set.
use Rattle.std.proofs.Common.{◌≡◌, ℕ, Bool, true, false, Option, Some, None, Result, refl, ap, sym, subst, ◌∙◌, inl, inr, [], ◌∷◌, List}
use Rattle.std.specs.Prelude.{Ok, is_some}
use Rattle.wl_links.specs.declared.placed.Side.{Side}
use Rattle.wl_links.specs.declared.placed.Side.TheVariants.{Above, Below}
use Rattle.wl_client.specs.Agreement.{IsPeer}
use Rattle.wl_client.specs.View.{ClientView}
use Rattle.wl_proto.specs.declared.interface.Interface.TheVariants.{WlSurface}
use Rattle.wl_surface.specs.Linked.{IsLink, Stand}
use Rattle.law_desktop.specs.Ordered.{OwnsOrdered}
use Rattle.law_desktop.specs.Owning.{IsOwned, targets_in}
use Rattle.law_desktop.specs.RoleNames.{names_of}
use Rattle.law_desktop.proofs.Keeping.Letting.{asked-keeps}
use Rattle.law_desktop.proofs.Keeping.OwningLinks.{owned-synchronised}
use Rattle.law_desktop.proofs.Keeping.OwningSurfaces.{surface-named, surface-read}
use Rattle.spec_desktop.specs.Peer.{Errs, LacksMemory, Peer, Queues, counted}
use Rattle.spec_desktop.specs.Told.{Said}
use Rattle.spec_desktop.specs.declared.refusals.ErrorCode.TheVariants.{BadSurface}
use Rattle.spec_desktop.specs.declared.refusals.Refusal.{Refusal}
use Rattle.spec_desktop.specs.Ask.{AskSurface, Ignore}
use Rattle.spec_desktop.specs.Demand.{Demand, Asks, SetMode}
use Rattle.spec_desktop.specs.Desktop.{Desktop, Resident}
use Rattle.spec_desktop.specs.Step.{asked_of, changed_by, with_peer, with_surfaces}
use Rattle.spec_desktop.specs.WlSubsurface.{beside, demand_by_link, placed_beside}
use Rattle.law_desktop.proofs.KeptRecords.Toplevels.Releases.{none-released, requested-still}
use Rattle.wl_shell.specs.Kept.{kept_of}
use Rattle.wl_surface.specs.FrameRequests.{frames_of}
use Rattle.wl_surface.specs.Request.{Member, PlaceAbove, PlaceBelow, Request}
use Rattle.wl_surface.specs.State.{Values, asked, is_commit}
use Rattle.wl_surface.specs.Surface.{Surface, asking}
use Rattle.wl_surface.specs.Slots.{StandsAt, kept_at}
use Rattle.wl_surface.specs.Surfaces.{Link, Surfaces, with_change}
use Rattle.wl_surface.specs.Trees.{synchronised_in}
use Rattle.wl_surface.specs.Stacks.{place_request}
use Rattle.wl_requests.specs.declared.residents.Resident.{Resident as Kept}
use Rattle.wl_requests.specs.Linking.{place_asked}
use Rattle.wl_requests.specs.Residents.{AnswersSo, IsLeft, IsResident}
use Rattle.wl_requests.proofs.Beside.{PlacedBy}
use Rattle.wl_requests.proofs.Doing.{cut-bounds, lacked}
use Rattle.wl_requests.proofs.Framing.{IsFramed, framed-asked, framed-left, one-more}
use Rattle.wl_requests.proofs.Linking.{IsLinkOf}
use Rattle.wl_requests.proofs.Numbers.{keeps-same}
use Rattle.wl_requests.proofs.Shelling.{counted-on, refused-whole}
use Rattle.wl_requests.proofs.Meeting.{counted-ordered, meets-so, as-asked}

-- nothing is done but that the request is counted
pub ignored-so : {A : Type 0} (old new : Kept A) (c : ℕ) (r : Resident) (d : Desktop) (judged : Result Demand Refusal) → IsResident old r → OwnsOrdered r → judged ≡ Ok (Asks Ignore)
    → new.client ≡ record old.client { requests = new.client.requests } → new.owned ≡ old.owned → new.subsurfaces ≡ old.subsurfaces → IsPeer new.client (counted r.peer)
    → AnswersSo judged c r d old new
ignored-so {A} old new c r d judged is orderly demand only same subs peer =
    let on = counted-on old new r is only same subs peer in
    subst (λ (j : Result Demand Refusal). AnswersSo j c r d old new) (sym demand)
    (as-asked old new c d r orderly (Ok Ignore) (
      counted r.peer,
      refl,
      record {
        peer = peer;
        owns = λ alive. on.owns;
        frames = λ alive. on.frames;
        subsurfaces = λ alive. on.subsurfaces;
        numbers = λ alive. keeps-same old.client.objects new.client.objects (ap (λ (v : ClientView). v.objects) only);
      },
    ))

-- there was no memory for what is asked of a surface
pub lacked-so : {A : Type 0} (old new : Kept A) (c : ℕ) (r : Resident) (d : Desktop) (judged : Result Demand Refusal) (id : ℕ) (request : Request) → OwnsOrdered r
    → judged ≡ Ok (Asks (AskSurface id request)) → is_some new.client.ended ≡ true → (q : Peer) × LacksMemory (counted r.peer) q × IsPeer new.client q → AnswersSo judged c r d old new
lacked-so old new c r d judged id request orderly demand ended lacks =
    let one_more = with_peer (counted r.peer) r in
    let done = lacked old new (changed_by (AskSurface id request) one_more) one_more lacks ended in
    subst (λ (j : Result Demand Refusal). AnswersSo j c r d old new) (sym demand) (as-asked old new c d r orderly (Ok (AskSurface id request)) (done.0, inl done.1, done.2))

-- ---- a child that is placed above or below

pub place-inert : (side : Side) (r : Resident) (object sibling : ℕ) → demand_by_link r object None (place_asked side sibling) ≡ Ok (Asks Ignore)
place-inert Above r object sibling = refl
place-inert Below r object sibling = refl

pub place-linked : (side : Side) (r : Resident) (object sibling : ℕ) (l : Link)
    → demand_by_link r object (Some l) (place_asked side sibling) ≡ placed_beside object l.parent (place_request side l.number) (beside r.owned.surfaces l sibling)
place-linked Above r object sibling l = refl
place-linked Below r object sibling l = refl

-- A child isn't placed: its sibling is no sibling, or there was no memory.
pub unplaced-so : {A : Type 0} (old new : Kept A) (c : ℕ) (r : Resident) (d : Desktop) (judged : Result Demand Refusal) (object child sibling : ℕ) (its : IsLinkOf old r object child)
    (request : Member → Request) → OwnsOrdered r → (bad : Bool) → PlacedBy bad r.owned.surfaces its.link sibling
    → judged ≡ placed_beside object its.link.parent request (beside r.owned.surfaces its.link sibling) → is_some new.client.ended ≡ true
    → (bad ≡ true → (q : Peer) × Errs (record { object = object; code = BadSurface }) r.peer q × IsPeer new.client q)
    → (bad ≡ false → (q : Peer) × LacksMemory (counted r.peer) q × IsPeer new.client q) → AnswersSo judged c r d old new
unplaced-so old new c r d judged object child sibling its request orderly true placed e ended errs lacks =
    refused-whole old new c r d judged (record { object = object; code = BadSurface }) (e ∙ ap (placed_beside object its.link.parent request) placed) ended (errs refl)
unplaced-so old new c r d judged object child sibling its request orderly false placed e ended errs lacks =
    lacked-so old new c r d judged its.link.parent (request placed.0) orderly (e ∙ ap (placed_beside object its.link.parent request) placed.1) ended (lacks refl)

module _ {A : Type 0} (old new : Kept A) (c : ℕ) (r : Resident) (d : Desktop) (is : IsResident old r) (orderly : OwnsOrdered r)
    (only : new.client ≡ record old.client { requests = new.client.requests }) (peer : IsPeer new.client (counted r.peer))
    (shell : new.owned.shell ≡ old.owned.shell) (subs : new.subsurfaces ≡ old.subsurfaces)
    (slots : new.owned.surfaces.states ≡ old.owned.surfaces.states) where
  abbrev counted_of : Resident
  counted_of = with_peer (counted r.peer) r

  objects : new.client.objects ≡ old.client.objects
  objects = ap (λ (v : ClientView). v.objects) only

  left-so : (after : Resident) → IsOwned (names_of old.client.objects) new.owned.surfaces.states new.owned.surfaces.family (kept_of old.owned.shell) after.owned
      → IsFramed old.owned.surfaces.states.frames old.client.objects after → after.subsurfaces ≡ r.subsurfaces → IsLeft old new after (counted r.peer)
  left-so after owned framed same = record {
    peer = peer;
    owns = λ alive. rw (objects, shell) owned;
    frames = λ alive. rw (objects, slots) framed;
    subsurfaces = λ alive. rw (objects, subs, same) is.subsurfaces;
    numbers = λ alive. keeps-same old.client.objects new.client.objects objects;
  }

  -- wl_subsurface.set_sync
  pub synchronised-so : (judged : Result Demand Refusal) (object child : ℕ) (its : IsLinkOf old r object child) → judged ≡ Ok (SetMode its.link.number true)
      → ((all : Surfaces) (number : ℕ) (link : Link) → IsLink all number child link → Stand old.owned.surfaces.states old.owned.surfaces.family all
      → Stand new.owned.surfaces.states new.owned.surfaces.family (synchronised_in number all))
      → AnswersSo judged c r d old new
  synchronised-so judged object child its demand makes =
      let names = names_of old.client.objects in
      let after = with_surfaces (synchronised_in its.link.number r.owned.surfaces) counted_of in
      let none = none-released counted_of after (λ n busy. busy) in
      subst (λ (j : Result Demand Refusal). AnswersSo j c r d old new) (sym demand)
      (meets-so old new c d (SetMode its.link.number true) counted_of refl (
        counted r.peer,
        inr (subst (λ (es : List Said). Queues es (counted r.peer) (counted r.peer)) (sym none) refl),
        left-so after
            (owned-synchronised names old.owned.surfaces.states old.owned.surfaces.family (kept_of old.owned.shell) r.owned is.owns its.link.number child its.link its.here its.lives its.named
            new.owned.surfaces.states new.owned.surfaces.family makes)
            (framed-left old.owned.surfaces.states.frames old.client.objects old.client.objects r after refl (one-more r.peer.requests) is.frames (λ number. refl) (λ number. refl))
            refl,
      ))

  -- what is asked of the parent
  pub asked-so : (judged : Result Demand Refusal) (object child : ℕ) (its : IsLinkOf old r object child) (request : Request) → judged ≡ Ok (Asks (AskSurface its.link.parent request))
      → is_commit request ≡ false → ((v : Values) → (asked v request).buffer ≡ v.buffer) → frames_of (request ∷ []) ≡ []
      → IsOwned (names_of old.client.objects) new.owned.surfaces.states new.owned.surfaces.family (kept_of old.owned.shell)
      (record r.owned { surfaces = with_change its.link.parent (asking request) r.owned.surfaces })
      → AnswersSo judged c r d old new
  asked-so judged object child its request demand plain keeps no_frames owned =
      let numbers = targets_in WlSurface old.client.objects in
      let kept = old.owned.surfaces in
      let there = surface-named numbers kept.states kept.family r.owned.surfaces is.owns.surfaces its.link.parent its.above its.parent in
      let read = surface-read numbers kept.states kept.family r.owned.surfaces is.owns.surfaces its.link.parent its.above its.parent ∙ there.1 in
      let bounds = cut-bounds (kept_at kept.states its.above) there.0 (subst (λ (o : Option Surface). StandsAt (kept_at kept.states its.above) o) read (is.owns.surfaces.stand its.above)) in
      let none = asked-keeps request plain keeps its.link.parent counted_of there.0 there.1 bounds.0 bounds.1 in
      let after = asked_of its.link.parent request counted_of in
      let untold = requested-still its.link.parent request plain counted_of there.0 (counted-ordered r orderly).order.known.apart there.1 bounds.0 bounds.1 in
      subst (λ (j : Result Demand Refusal). AnswersSo j c r d old new) (sym demand)
      (as-asked old new c d r orderly (Ok (AskSurface its.link.parent request)) (
        counted r.peer,
        inr (subst (λ (es : List Said). Queues es (changed_by (AskSurface its.link.parent request) counted_of).peer (counted r.peer)) (sym untold) (sym (ap (λ (q : Resident). q.peer) none))),
        subst (λ (x : Resident). IsLeft old new x (counted r.peer)) (sym none)
            (left-so after owned
            (framed-asked kept.states.frames old.client.objects old.client.objects r after refl
            (one-more r.peer.requests) is.frames kept.states kept.family is.owns.surfaces its.link.parent its.above
            request no_frames plain its.parent refl refl)
            refl),
      ))

  -- wl_subsurface.place_above and place_below
  pub placed-so : (side : Side) (judged : Result Demand Refusal) (object child : ℕ) (its : IsLinkOf old r object child) (at : Member)
      → judged ≡ Ok (Asks (AskSurface its.link.parent (place_request side its.link.number at)))
      → IsOwned (names_of old.client.objects) new.owned.surfaces.states new.owned.surfaces.family (kept_of old.owned.shell)
      (record r.owned { surfaces = with_change its.link.parent (asking (place_request side its.link.number at)) r.owned.surfaces })
      → AnswersSo judged c r d old new
  placed-so Above judged object child its at demand owned = asked-so judged object child its (PlaceAbove its.link.number at) demand refl (λ v. refl) refl owned
  placed-so Below judged object child its at demand owned = asked-so judged object child its (PlaceBelow its.link.number at) demand refl (λ v. refl) refl owned

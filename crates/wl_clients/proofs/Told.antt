-- A client in the middle of a step is told something by its wl_pointers: what that leaves of it and of the desktop.
use Rattle.std.proofs.Common.{◌≡◌, ◌≢◌, ℕ, List, [], ◌∷◌, Bool, true, false, Option, Some, None, refl, ap, subst, sym, ◌∙◌, inl, inr, ◌⊎◌, arith}
use Rattle.std.proofs.lemmas.Bool.{true≢false}
use Rattle.std.proofs.lemmas.Option.{same_Some}
use Rattle.std.specs.Prelude.{is_some}
use Rattle.wl_client.specs.Agreement.{IsPeer}
use Rattle.wl_client.specs.Pointers.{TellsPointers}
use Rattle.wl_client.specs.declared.pointers.PointerEvent.{PointerEvent}
use Rattle.wl_clients.specs.Pointing.{IsToldBy}
use Rattle.wl_client.specs.View.{ClientView, opened}
use Rattle.spec_desktop.specs.declared.cause.Cause.{Cause}
use Rattle.spec_desktop.specs.Objects.{ById}
use Rattle.spec_desktop.specs.Peer.{Peer, QueuesFirst, QueuesTo, has_room, queued}
use Rattle.spec_desktop.specs.Told.{Said}
use Rattle.wl_proto.specs.declared.interface.Interface.TheVariants.{WlSurface}
use Rattle.law_desktop.specs.Owning.{targets_in}
use Rattle.spec_desktop.specs.Windows.{Window}
use Rattle.wl_scene.specs.StackedAgreement.{AreStacked}
use Rattle.spec_desktop.specs.Desktop.{Desktop, Resident, client_at, owned_of, toplevels_of, with_client, with_number}
use Rattle.spec_desktop.specs.Stacked.{all_windows}
use Rattle.spec_desktop.specs.Step.{with_peer}
use Rattle.law_desktop.proofs.Runs.Fates.{same-or}
use Rattle.law_desktop.proofs.Runs.Places.{number-other, number-same, number-twice}
use Rattle.law_desktop.specs.InOrder.{InOrderAt, InOrderBy, OwnsInOrder}
use Rattle.law_desktop.specs.Ordered.{Ordered, OwnsOrdered}
use Rattle.law_desktop.specs.Roots.{AreOwnSubsurfaces, HasSubsurface}
use Rattle.law_desktop.specs.Shown.{ShownStand}
use Rattle.law_desktop.proofs.KeptInOrder.Laws.{peers_keep_ordered}
use Rattle.wl_requests.specs.declared.residents.Resident.{Resident as Kept}
use Rattle.wl_clients.specs.Agreement.{with_numbers}
use Rattle.wl_clients.specs.Seats.{IsSeated}
use Rattle.wl_clients.specs.View.{Pile}
use Rattle.wl_clients.proofs.Still.{IsStill, put-still, still-stands, still-windows}

-- ---- what is queued

-- to queue events changes no more than what waits
pub queues-only : (events : List Said) (p q : Peer) (why : Option Cause) → QueuesTo events p q why → q ≡ record p { unsent = q.unsent }
queues-only [] p q why h = same-peer p q h.0
  where
    same-peer : (p q : Peer) → q ≡ p → q ≡ record p { unsent = q.unsent }
    same-peer p q e = subst (λ (x : Peer). x ≡ record p { unsent = x.unsent }) (sym e) refl
queues-only (event ∷ events) p q why h = at (has_room p.unsent event) (queues-only events (queued event p) q why) h
  where
    same-peer : q ≡ p → q ≡ record p { unsent = q.unsent }
    same-peer e = subst (λ (x : Peer). x ≡ record p { unsent = x.unsent }) (sym e) refl

    at : (b : Bool) → (QueuesTo events (queued event p) q why → q ≡ record p { unsent = q.unsent }) → QueuesFirst b (QueuesTo events (queued event p) q why) p q why
        → q ≡ record p { unsent = q.unsent }
    at false later h = same-peer h.0
    at true later (inl h) = same-peer h.0
    at true later (inr queued) = later queued

-- ---- the client is in order

-- the client with these serials of its latest press and release
abbrev pub noting : Option ℕ → Option ℕ → Resident → Resident
noting press release r = record r { press = press; release = release }

noting-own : (press release : Option ℕ) (r : Resident) → AreOwnSubsurfaces r → AreOwnSubsurfaces (noting press release r)
noting-own press release r own = record { ids = own.ids; links = own.links; surfaces = own.surfaces; early = own.early; there = own.there }

noting-has : (press release : Option ℕ) (r : Resident) (number child : ℕ) → HasSubsurface r number child → HasSubsurface (noting press release r) number child
noting-has press release r number child has = record { subsurface = has.subsurface; here = has.here; lives = has.lives; link = has.link; surface = has.surface }

noting-order : (press release : Option ℕ) (r : Resident) → OwnsInOrder r → OwnsInOrder (noting press release r)
noting-order press release r o = record {
  known = record {
    apart = o.known.apart;
    known = o.known.known;
    subsurfaces = o.known.subsurfaces;
    children = o.known.children;
    callbacks = o.known.callbacks;
  };
  buffers = o.buffers;
  tied = o.tied;
  trees = o.trees;
  numbered = o.numbered;
  once = o.once;
  early = o.early;
  members = o.members;
  own = noting-own press release r o.own;
  links = λ number link lives. noting-has press release r number link.child (o.links number link lives);
  roles = o.roles;
  bare = o.bare;
  roots = o.roots;
  surfaces = o.surfaces;
  xdg_surfaces = o.xdg_surfaces;
  toplevels = o.toplevels;
  popups = o.popups;
  xdg_apart = o.xdg_apart;
  popups_apart = o.popups_apart;
  popups_early = o.popups_early;
}

noting-ordered : (press release : Option ℕ) (r : Resident) → OwnsOrdered r → OwnsOrdered (noting press release r)
noting-ordered press release r o = record {
  order = noting-order press release r o.order;
  younger = o.younger;
  released = o.released;
  few = o.few;
  parents = o.parents;
  placed = o.placed;
  surfaces = o.surfaces;
}

-- ---- the desktop

-- The client is this peer now, which has all but a serial and what waits as before, with these serials of its latest press and release.
module _ (c : ℕ) (d : Desktop) (s : Resident) (q : Peer) (press release : Option ℕ) (there : client_at c d ≡ Some s) (alive : s.peer.status ≡ None) (serial : ℕ) (unsent : List ℕ)
    (only : q ≡ record s.peer { serial = serial; unsent = unsent }) where
  abbrev pub then_told : Resident
  then_told = noting press release (with_peer q s)

  abbrev pub told_desktop : Desktop
  told_desktop = with_client c (Some then_told) d

  pub still-alive : q.status ≡ None
  still-alive = ap (λ (p : Peer). p.status) only ∙ alive

  told-owns : Ordered d → OwnsOrdered then_told
  told-owns ordered =
      let requests : q.requests ≡ s.peer.requests = ap (λ (p : Peer). p.requests) only in
      noting-ordered press release (with_peer q s)
      (peers_keep_ordered s q (ap (λ (p : Peer). p.objects) only) (ap (λ (p : Peer). p.buffers) only) (omega (arith, requests))
      (ordered.each c s there alive))

  pub told-ordered : Ordered d → Ordered told_desktop
  told-ordered ordered = record { in_order = record { pointer = ordered.in_order.pointer; each = each }; each = owns }
    where
      its : (k : ℕ) (r : Resident) → client_at k told_desktop ≡ Some r → r.peer.status ≡ None → (c ≡ k) ⊎ (c ≢ k) → OwnsOrdered r
      its k r here lives (inl e) =
          let its_own : client_at k told_desktop ≡ Some then_told = subst (λ (n : ℕ). client_at n told_desktop ≡ Some then_told) e (number-same d.clients c (Some then_told) s there) in
          subst OwnsOrdered (same_Some then_told r (sym its_own ∙ here)) (told-owns ordered)
      its k r here lives (inr apart) = ordered.each k r (sym (number-other d.clients c k (Some then_told) apart) ∙ here) lives

      owns : (k : ℕ) (r : Resident) → client_at k told_desktop ≡ Some r → r.peer.status ≡ None → OwnsOrdered r
      owns k r here lives = its k r here lives (same-or c k)

      tops : InOrderBy None s (toplevels_of c d)
      tops = subst (λ (o : Option Cause). InOrderBy o s (toplevels_of c d)) alive (subst (λ (o : Option Resident). InOrderAt o (toplevels_of c d)) there (ordered.in_order.each c))

      own : InOrderAt (client_at c told_desktop) (toplevels_of c d)
      own =
          subst (λ (o : Option Resident). InOrderAt o (toplevels_of c d)) (sym (number-same d.clients c (Some then_told) s there))
          (subst (λ (o : Option Cause). InOrderBy o then_told (toplevels_of c d)) (sym still-alive) ((told-owns ordered).order, record { apart = tops.1.apart; mapped = tops.1.mapped }))

      each : (k : ℕ) → InOrderAt (client_at k told_desktop) (toplevels_of k told_desktop)
      each k = at (same-or c k)
        where
          at : (c ≡ k) ⊎ (c ≢ k) → InOrderAt (client_at k told_desktop) (toplevels_of k told_desktop)
          at (inl e) = subst (λ (n : ℕ). InOrderAt (client_at n told_desktop) (toplevels_of n told_desktop)) e own
          at (inr apart) =
              subst (λ (o : Option Resident). InOrderAt o (toplevels_of k d)) (sym (number-other d.clients c k (Some then_told) apart)) (ordered.in_order.each k)

  told-still : IsStill d told_desktop
  told-still = put-still c (Some then_told) d (sym (ap owned_of there))

  told-stand : ShownStand d → ShownStand told_desktop
  told-stand stand = still-stands d told_desktop told-still stand

  pub told-windows : all_windows told_desktop ≡ all_windows d
  told-windows = still-windows d told_desktop told-still

  -- what is kept of the client stands for it
  pub told-seated : {A : Type 0} (others : ℕ → ById ℕ) (base : Desktop) (old new : Kept A) (pile : Pile) → IsSeated c others base old pile d s → IsPeer new.client q → new.owned ≡ old.owned
      → new.subsurfaces ≡ old.subsurfaces → new.client.objects ≡ old.client.objects → IsSeated c others base new pile told_desktop then_told
  told-seated others base old new pile is peer owned subsurfaces objects =
      record {
        based = record {
          there = number-same d.clients c (Some then_told) s there;
          output = is.based.output;
          clients = ap (λ clients. with_number c (Some then_told) clients) is.based.clients ∙ number-twice base.clients c (Some then_told) (Some s);
        };
        seat = record {
          peer = peer;
          owns = rw (owned, objects) is.seat.owns;
          frames = rw (owned, objects, ap (λ (p : Peer). p.requests) only) is.seat.frames;
          subsurfaces = rw (subsurfaces, objects) is.seat.subsurfaces;
          ended = λ over. absurd (true≢false (sym over ∙ ap (λ (o : Option Cause). is_some o) still-alive));
        };
        scene = rw objects (record { standing = is.scene.standing; next = is.scene.next });
        windows = subst (λ (ws : List Window). AreStacked (with_numbers c (targets_in WlSurface new.client.objects) others) pile.windows ws) (sym told-windows) (rw objects is.windows);
        mapped = told-stand is.mapped;
      }

-- ---- who is told

-- one that ended isn't told
pub told-ended : (event : PointerEvent) (pointers : List ℕ) (e f : Option Cause) (v : ClientView) → is_some e ≡ true → IsToldBy event pointers e f v v
told-ended event pointers None f v over = absurd (cc)
told-ended event pointers (Some cause) None v over = refl
told-ended event pointers (Some cause) (Some other) v over = refl

-- nor is one that is to end
pub told-refused : (event : PointerEvent) (pointers : List ℕ) (e f : Option Cause) (v : ClientView) → is_some f ≡ true → IsToldBy event pointers e f v v
told-refused event pointers e None v over = absurd (cc)
told-refused event pointers None (Some cause) v over = refl
told-refused event pointers (Some other) (Some cause) v over = refl

pub told-lives : (event : PointerEvent) (pointers : List ℕ) (e f : Option Cause) (v w : ClientView) → e ≡ None → f ≡ None
    → ((p : Peer) → IsPeer v p → (q : Peer) × TellsPointers event pointers p q w.refused × IsPeer (opened w) q)
    × (w ≡ record v { unsent = w.unsent; refused = w.refused; serial = w.serial })
    → IsToldBy event pointers e f v w
told-lives event pointers e f v w lives free h =
    subst (λ (o : Option Cause). IsToldBy event pointers o f v w) (sym lives) (subst (λ (o : Option Cause). IsToldBy event pointers None o v w) (sym free) h)

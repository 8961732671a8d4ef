-- A client whose popups with a grab are dismissed is at its seat, with the windows that are left; and what is marked of those that went is what
-- has to be.
use Rattle.std.proofs.Common.{◌≡◌, ◌<◌, ℕ, Bool, true, false, cond, List, Option, Some, None, [], ◌∷◌, refl, ap, ap₂, sym, subst, ◌∙◌, inl, inr}
use Rattle.std.specs.Prelude.{ℤ, ◌+◌, ◌==◌, ◌&&◌, ◌||◌, filter, not, pos}
use Rattle.std.specs.List.{list_any}
use Rattle.std.specs.Option.{option_and_then}
use Rattle.std.proofs.lemmas.Bool.{eqb-true, true≢false}
use Rattle.wl_client.specs.View.{ClientView, opened}
use Rattle.wl_proto.specs.declared.interface.Interface.TheVariants.{WlSurface}
use Rattle.wl_scene.specs.StackedAgreement.{AreStacked, IsStacked}
use Rattle.wl_scene.proofs.Standing.{any-same}
use Rattle.law_desktop.specs.Ordered.{Ordered, OwnsOrdered}
use Rattle.wl_surface.specs.Linked.{SurfacesView}
use Rattle.law_desktop.specs.Owning.{IsOwned, by_number, targets_in}
use Rattle.law_desktop.specs.RoleNames.{names_of}
use Rattle.law_desktop.specs.Subsurfaces.{AreOfSurfaces}
use Rattle.wl_paint.specs.Damage.{Damaged, has}
use Rattle.spec_desktop.specs.declared.cause.Cause.{Cause}
use Rattle.spec_desktop.specs.Objects.{ById}
use Rattle.spec_desktop.specs.Peer.{Peer, has_room, queued}
use Rattle.spec_desktop.specs.Told.{Said}
use Rattle.spec_desktop.specs.Desktop.{Desktop, Resident, owned_in}
use Rattle.spec_desktop.specs.Framing.{AreFramed}
use Rattle.spec_desktop.specs.Replies.{popups_done}
use Rattle.spec_desktop.specs.Settling.{QueuesFirst, QueuesTo, without_grabs}
use Rattle.spec_desktop.specs.Stacked.{all_windows}
use Rattle.wl_scene.specs.Repaint.{window_has}
use Rattle.wl_requests.specs.Dismissing.{GrabsAreReleased, ReleasesGrabs}
use Rattle.wl_requests.specs.declared.residents.Resident.{Resident as Kept}
use Rattle.wl_requests.proofs.ReleasedDone.{released-done}
use Rattle.wl_scene.specs.Kept.{Stack}
use Rattle.wl_shell.specs.Agreement.{IsKept}
use Rattle.wl_scene.specs.declared.stacked.Stacked.{Stacked}
use Rattle.spec_desktop.specs.Stacking.{Owned}
use Rattle.spec_desktop.specs.Windows.{Window, contains}
use Rattle.wl_surface.specs.State.{History}
use Rattle.wl_surface.specs.Surfaces.{history_in}
use Rattle.wl_table.specs.Objects.{Held}
use Rattle.law_desktop.specs.Changes.{HasTrees}
use Rattle.wl_shell.specs.Kept.{Book, Kept as KeptXdg, kept_of}
use Rattle.wl_shell.specs.Popups.{dismissing, is_dismissed_in}
use Rattle.wl_shell.specs.Shell.{XdgSurface, xdg_of}
use Rattle.law_windows.specs.Grabs.Dismissed.{Dismisses, is_dismissed_at, is_of_dismissed, is_of_others}
use Rattle.law_windows.proofs.PopupsDismissed.Pressed.{grabs-go, own-released}
use Rattle.wl_clients.specs.Agreement.{IsScene, IsSeat, with_numbers}
use Rattle.wl_clients.specs.Gone.{gone_has, is_dismissed_kept, is_gone, is_left}
use Rattle.wl_clients.specs.Laws.{ReleaseLaws}
use Rattle.wl_clients.specs.Releasing.{MarksJust, released_as, with_released}
use Rattle.wl_clients.specs.Seats.{IsSeated, opened_kept}
use Rattle.wl_clients.specs.View.{Pile, owned_view}
use Rattle.wl_clients.proofs.OnScreen.Numbers as seat
use Rattle.wl_clients.proofs.OnScreen.Rising.{inside-so}
use Rattle.wl_clients.proofs.OnScreen.Sitting.{based-at, none-is, numbers}
use Rattle.wl_clients.proofs.OnScreen.Standings.{whole-so}

-- ---- events

-- what is told changes neither whether the client lives nor how many requests it made
queues-so : (events : List Said) (p q : Peer) (why : Option Cause) → QueuesTo events p q why → (q.status ≡ p.status) × (q.requests ≡ p.requests)
queues-so [] p q why h = (ap (λ (x : Peer). x.status) h.0, ap (λ (x : Peer). x.requests) h.0)
queues-so (event ∷ events) p q why h = at (has_room p.unsent event) (queues-so events (queued event p) q why) h
  where
    same : q ≡ p → (q.status ≡ p.status) × (q.requests ≡ p.requests)
    same e = (ap (λ (x : Peer). x.status) e, ap (λ (x : Peer). x.requests) e)

    at : (b : Bool) → (QueuesTo events (queued event p) q why → (q.status ≡ p.status) × (q.requests ≡ p.requests))
        → QueuesFirst b (QueuesTo events (queued event p) q why) p q why → (q.status ≡ p.status) × (q.requests ≡ p.requests)
    at false next h = same h.0
    at true next (inl h) = same h.0
    at true next (inr h) = next h

-- ---- windows that are left

-- those that are left stand for those that are left where a test agrees on what is kept and what it stands for
stacked-left : (numbers : ℕ → ById ℕ) (p : Stacked → Bool) (q : Window → Bool) → ((s : Stacked) (w : Window) → IsStacked numbers s w → p s ≡ q w)
    → (ss : List Stacked) (ws : List Window) → AreStacked numbers ss ws → AreStacked numbers (filter p ss) (filter q ws)
stacked-left numbers p q same [] [] are = tt
stacked-left numbers p q same [] (w ∷ ws) are = absurd are
stacked-left numbers p q same (s ∷ ss) [] are = absurd are
stacked-left numbers p q same (s ∷ ss) (w ∷ ws) are = at (p s) (q w) (same s w are.0) (stacked-left numbers p q same ss ws are.1)
  where
    at : (a b : Bool) → a ≡ b → AreStacked numbers (filter p ss) (filter q ws) → AreStacked numbers (cond a (s ∷ filter p ss) (filter p ss)) (cond b (w ∷ filter q ws) (filter q ws))
    at true true e rest = (are.0, rest)
    at false false e rest = rest
    at true false e rest = absurd (cc)
    at false true e rest = absurd (cc)

and-turned : (a b : Bool) → (a && b) ≡ (b && a)
and-turned true true = refl
and-turned true false = refl
and-turned false true = refl
and-turned false false = refl

-- what is kept of an xdg_surface tells whether its popup was dismissed
dismissed-kept : (k : Option KeptXdg) (x : Option XdgSurface) (h : Option History) → IsKept k x h
    → is_dismissed_in (option_and_then (λ (k : KeptXdg). k.role) k) ≡ is_dismissed_in (option_and_then (λ (x : XdgSurface). x.role) x)
dismissed-kept None None h is = refl
dismissed-kept None (Some x) h is = absurd is
dismissed-kept (Some k) None h is = absurd is
dismissed-kept (Some k) (Some x) None is = absurd is
dismissed-kept (Some k) (Some x) (Some h) is = ap is_dismissed_in is.role

-- ---- a client that lives and isn't to end

module _ {A : Type 0} (laws : ReleaseLaws) (c : ℕ) (others : ℕ → ById ℕ) (base d : Desktop) (r : Resident) (old new : Kept A) (was : Pile) (before : IsSeated c others base old was d r)
    (ordered : Ordered d) (lives : old.client.ended ≡ None) (releases : ReleasesGrabs old new) where
  alive : r.peer.status ≡ None
  alive = seat.alive c others base d r old was before ordered lives

  owns : OwnsOrdered r
  owns = seat.owns c others base d r old was before ordered lives

  trees : HasTrees d
  trees = (whole-so d ordered before.mapped).trees

  abbrev book : Book
  book = new.owned.shell

  released : (q : Peer) × GrabsAreReleased (names_of old.client.objects) r.owned r.peer q new
  released = releases (names_of old.client.objects) r.owned r.peer before.seat.owns (laws.order r owns) before.seat.peer alive before.seat.peer.open

  abbrev nums : ℕ → ById ℕ
  nums = with_numbers c (numbers old) others

  nums-own : with_numbers c (numbers old) others c ≡ numbers old
  nums-own = seat.nums-own c others base d r old was before

  -- whatever it was told
  module _ (told : Peer) where
    abbrev e : Desktop
    e = with_released c told r d

    goes : Dismisses (λ p. p.popup.has_grab) c d (with_released c told r d)
    goes = grabs-go c d (with_released c told r d) r before.based.there told refl

    dismissed-same : (surface number : ℕ) → numbers old surface ≡ Some number
        → is_dismissed_kept new.owned.shell number ≡ is_dismissed_at surface (owned_in (with_released c told r d) c).shell
    dismissed-same surface number named =
        let shell = dismissing (λ p. p.popup.has_grab) r.owned.shell in
        dismissed-kept (kept_of book number) (xdg_of surface shell) (history_in surface r.owned.surfaces)
        (subst (λ (k : Option KeptXdg). IsKept k (xdg_of surface shell) (history_in surface r.owned.surfaces)) (ap (option_and_then (kept_of book)) named)
        (released.1.owns.shell.each surface))
        ∙ ap (λ (o : Owned). is_dismissed_at surface o.shell) (sym (own-released c d e r before.based.there told refl))

    gone-same : (s : Stacked) (w : Window) → IsStacked (with_numbers c (numbers old) others) s w → is_gone c new.owned.shell s ≡ is_of_dismissed c (with_released c told r d) w
    gone-same s w is = ap (λ (n : ℕ). (n == c) && is_dismissed_kept book s.window.root) is.client ∙ at (w.owner.client == c) refl
      where
        at : (b : Bool) → (w.owner.client == c) ≡ b
            → (b && is_dismissed_kept new.owned.shell s.window.root) ≡ (b && is_dismissed_at w.owner.root (owned_in (with_released c told r d) c).shell)
        at true own =
            dismissed-same w.owner.root s.window.root
            (sym (ap (λ (n : ℕ). nums n w.owner.root) (is.client ∙ eqb-true w.owner.client c own) ∙ ap (λ (n : ById ℕ). n w.owner.root) nums-own) ∙ is.root)
        at false own = refl

    -- the windows that are left
    windows-left : AreStacked (with_numbers c (numbers old) others) (filter (is_left c new.owned.shell) was.windows) (all_windows (with_released c told r d))
    windows-left =
        subst (λ (ws : List Window). AreStacked nums (filter (is_left c book) was.windows) ws) (sym (laws.windows (λ p. p.popup.has_grab) c d e trees goes))
        (stacked-left nums (is_left c book) (λ w. is_of_others c e w) (λ s w is. ap not (gone-same s w is)) was.windows (all_windows d) before.windows)

    points-same : (x y : ℤ) → gone_has c new.owned.shell x y was.windows ≡ list_any (λ w. contains w x y && is_of_dismissed c (with_released c told r d) w) (all_windows d)
    points-same x y =
        any-same nums (λ s. is_gone c book s && window_has x y s.window) (λ w. contains w x y && is_of_dismissed c e w)
        (λ s w is. ap₂ (λ a b. a && b) (gone-same s w is) (ap (window_has x y) is.told) ∙ and-turned (is_of_dismissed c e w) (contains w x y)) was.windows (all_windows d)
        before.windows

    -- What is marked is what has to be.
    pub released-marks : (old new : Damaged) → old.width ≡ d.output.width → old.height ≡ d.output.height
        → ((x y : ℕ) → x < old.width → y < old.height → has new x y ≡ (has old x y || gone_has c book (pos x) (pos y) was.windows))
        → MarksJust d (with_released c told r d) old new
    released-marks old new width height points x y wide high =
        points x y wide high
        ∙ ap (λ b. has old x y || b)
        (points-same (pos x) (pos y)
        ∙ sym (laws.marks (λ p. p.popup.has_grab) c d e trees goes (pos x) (pos y)
        ∙ ap (λ b. b && list_any (λ w. contains w (pos x) (pos y) && is_of_dismissed c e w) (all_windows d)) (inside-so d old width height x y wide high)))

  -- told of each
  module _ (same : new.client ≡ record old.client { unsent = new.client.unsent; refused = new.client.refused }) (linked : new.owned.surfaces ≡ old.owned.surfaces)
      (subsurfaces : new.subsurfaces ≡ old.subsurfaces) where
    objects : new.client.objects ≡ old.client.objects
    objects = ap (λ (v : ClientView). v.objects) same

    queues : QueuesTo (popups_done r (without_grabs r)) (without_grabs r).peer released.0 new.client.refused
    queues =
        subst (λ (es : List Said). QueuesTo es r.peer released.0 new.client.refused)
        (sym (released-done (names_of old.client.objects) old.owned.surfaces.states old.owned.surfaces.family (kept_of old.owned.shell) r before.seat.owns)) released.1.told

    stays : (released.0.status ≡ r.peer.status) × (released.0.requests ≡ r.peer.requests)
    stays = queues-so (popups_done r (without_grabs r)) r.peer released.0 new.client.refused queues

    framed : AreFramed new.owned.surfaces.states.frames (by_number (targets_in WlSurface new.client.objects) r.owned.surfaces) (released.0.requests + 1) r.callbacks
    framed =
        subst (λ (held : Held). AreFramed new.owned.surfaces.states.frames (by_number (targets_in WlSurface held) r.owned.surfaces) (released.0.requests + 1) r.callbacks) (sym objects)
        (subst (λ (n : ℕ). AreFramed new.owned.surfaces.states.frames (by_number (targets_in WlSurface old.client.objects) r.owned.surfaces) (n + 1) r.callbacks) (sym stays.1)
        (subst (λ (l : SurfacesView). AreFramed l.states.frames (by_number (targets_in WlSurface old.client.objects) r.owned.surfaces) (r.peer.requests + 1) r.callbacks) (sym linked)
        before.seat.frames))

    sits : IsSeat (opened new.client) (owned_view (opened_kept new)) (released_as released.0 r)
    sits = record {
      peer = released.1.peer;
      owns = subst (λ (held : Held). IsOwned (names_of held) new.owned.surfaces.states new.owned.surfaces.family (kept_of new.owned.shell) (released_as released.0 r).owned) (sym objects)
          released.1.owns;
      frames = framed;
      subsurfaces = subst (λ (held : Held). AreOfSurfaces new.subsurfaces (targets_in WlSurface held) r.subsurfaces) (sym objects)
          (subst (λ (ids : List (Option ℕ)). AreOfSurfaces ids (targets_in WlSurface old.client.objects) r.subsurfaces) (sym subsurfaces) before.seat.subsurfaces);
      ended = λ some. absurd (true≢false (none-is released.0.status (stays.0 ∙ alive) some));
    }

    seated : IsSeated c others base (opened_kept new) (record { scene = was.scene; windows = filter (is_left c new.owned.shell) was.windows }) (with_released c released.0 r d)
        (released_as released.0 r)
    seated = record {
      based = based-at None c base d d r (without_grabs r) released.0 before.based refl refl;
      seat = sits;
      scene = subst (λ (held : Held). IsScene (with_numbers c (targets_in WlSurface held) others) was.scene (with_released c released.0 r d)) (sym objects)
          (record { standing = before.scene.standing; next = before.scene.next });
      windows = subst (λ (held : Held). AreStacked (with_numbers c (targets_in WlSurface held) others) (filter (is_left c book) was.windows) (all_windows (with_released c released.0 r d)))
          (sym objects) (windows-left released.0);
      mapped = laws.shown (λ p. p.popup.has_grab) c d (with_released c released.0 r d) trees (goes released.0) before.mapped;
    }

    -- So it is at its seat, with the toplevels that stood and the windows that are left.
    pub released-seated : (scene : Stack) (windows : List Stacked) → scene ≡ was.scene → windows ≡ filter (is_left c book) was.windows
        → (q : Peer) × QueuesTo (popups_done r (without_grabs r)) (without_grabs r).peer q new.client.refused
        × IsSeated c others base (opened_kept new) (record { scene = scene; windows = windows }) (with_released c q r d) (released_as q r)
    released-seated scene windows stands left = (
      released.0,
      queues,
      subst (λ (p : Pile). IsSeated c others base (opened_kept new) p (with_released c released.0 r d) (released_as released.0 r))
          (sym (ap₂ (λ (s : Stack) (ws : List Stacked). let p : Pile = record { scene = s; windows = ws } in p) stands left)) seated,
    )

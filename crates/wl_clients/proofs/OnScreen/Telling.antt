-- What is told to one client of the desk, and a piece of its stream: the toplevels and their windows stay.
use Rattle.std.proofs.Common.{◌≡◌, ℕ, List, length, Bool, true, false, Option, Some, None, refl, ap, sym, subst, ◌∙◌, inl, inr, ◌⊎◌, map}
use Rattle.std.proofs.Math.Path.{fun_ext}
use Rattle.std.proofs.lemmas.Bool.{true≢false}
use Rattle.std.specs.List.{list_any}
use Rattle.std.specs.Prelude.{is_some, nat_le, drop, filter, if◌then◌else◌, not, ◌==◌, ◌≢◌}
use Rattle.wl_store.specs.Stores.{write_refusal}
use Rattle.wl_store.specs.declared.stores.StoreError.{StoreError}
use Rattle.wl_client.specs.Agreement.{IsPeer}
use Rattle.wl_client.specs.View.{ClientView}
use Rattle.spec_desktop.specs.Objects.{ById}
use Rattle.spec_desktop.specs.Peer.{Peer, Queues, ended, left_by as gone_by, sent_by, stored_at, stored_by}
use Rattle.spec_desktop.specs.declared.cause.Cause.{Cause}
use Rattle.spec_desktop.specs.declared.cause.Cause.TheVariants.{Gone}
use Rattle.wl_table.specs.Objects.{Held}
use Rattle.wl_shell.specs.Kept.{kept_of}
use Rattle.spec_desktop.specs.Stacking.{Owned as Owns, Standing, nothing_owned, root_of, without_client}
use Rattle.spec_desktop.specs.Windows.{Window, windows}
use Rattle.wl_scene.specs.declared.owned.Owned.{Owned as Keeps}
use Rattle.spec_desktop.specs.Desktop.{Desktop, Resident, become, become_by, client_at, owned_in, owned_of, resident_of, with_client, with_number}
use Rattle.spec_desktop.specs.Framing.{FramesToldAt, FramesToldBy, done_due}
use Rattle.spec_desktop.specs.Happens.{callbacks_due, frames_told}
use Rattle.spec_desktop.specs.Popups.{stacked_popups}
use Rattle.spec_desktop.specs.Stacked.{all_windows}
use Rattle.law_desktop.specs.Laws.{OwnsNothing}
use Rattle.law_desktop.proofs.Runs.Fates.{same-or}
use Rattle.law_desktop.proofs.Runs.Moves.{callbacks-status}
use Rattle.law_desktop.proofs.Runs.Places.{left_by, number-other, number-same}
use Rattle.law_desktop.specs.Shown.{AreShown, ShownStand}
use Rattle.wl_scene.specs.StackedAgreement.{AreStacked}
use Rattle.law_desktop.specs.Owning.{IsOwned, Names, targets_in}
use Rattle.law_desktop.specs.RoleNames.{names_of}
use Rattle.wl_scene.specs.declared.stacked.Stacked.{Stacked}
use Rattle.wl_requests.proofs.Framing.{told-requests}
use Rattle.wl_requests.specs.Residents.{IsLeft}
use Rattle.wl_proto.specs.declared.interface.Interface.TheVariants.{WlSurface}
use Rattle.wl_requests.specs.declared.residents.Resident.{Resident as Kept}
use Rattle.wl_clients.specs.Agreement.{IsScene, IsSeat, with_numbers}
use Rattle.wl_clients.specs.Seats.{IsClearedBy, IsSeated, ended_by}
use Rattle.wl_clients.specs.View.{Pile, owned_view}
use Rattle.wl_clients.proofs.OnScreen.Scenes.{none-standing, others-all}
use Rattle.wl_clients.proofs.OnScreen.Ends.{AreNameless, IsOver, nameless-over, nameless-same, nameless-seat, queues-over}
use Rattle.wl_clients.proofs.OnScreen.Leaving.{left-stacked, left-windows}
use Rattle.wl_clients.proofs.OnScreen.ShownDesks.{become-shown}
use Rattle.wl_clients.proofs.OnScreen.Seating.{sits-seated}
use Rattle.wl_clients.proofs.OnScreen.Sitting.{based-at, itself, none-is, numbers, sits-gone}

-- ---- the windows stay

-- what each client owns where one becomes another that owns the same
put-owned : (c k : ℕ) (r x : Resident) (d : Desktop) → client_at c d ≡ Some r → x.owned ≡ r.owned → owned_in (with_client c (Some x) d) k ≡ owned_in d k
put-owned c k r x d there same = at (same-or c k)
  where
    own : owned_in (with_client c (Some x) d) c ≡ owned_in d c
    own = ap owned_of (number-same d.clients c (Some x) r there) ∙ same ∙ sym (ap owned_of there)

    at : (c ≡ k) ⊎ (c ≢ k) → owned_in (with_client c (Some x) d) k ≡ owned_in d k
    at (inl e) = subst (λ (n : ℕ). owned_in (with_client c (Some x) d) n ≡ owned_in d n) e own
    at (inr apart) = ap owned_of (number-other d.clients c k (Some x) apart)

abbrev windows_by : (ℕ → Owns) → List Standing → List Window
windows_by owned standing = windows (λ c. (owned c).surfaces) (λ c. stacked_popups (owned c)) (map (root_of owned) standing)

-- the windows where each client owns what it did and the same toplevels stand
put-windows : (c : ℕ) (r x : Resident) (d : Desktop) → client_at c d ≡ Some r → x.owned ≡ r.owned → all_windows (with_client c (Some x) d) ≡ all_windows d
put-windows c r x d there same = ap (λ (owned : ℕ → Owns). windows_by owned d.standing) (fun_ext (λ k. put-owned c k r x d there same))

-- ---- what is told

-- the desktop has the client as it was but for that, whether it lives or had ended
pub become-kept : (s : Option Cause) (c : ℕ) (r : Resident) (q : Peer) (d : Desktop) → client_at c d ≡ Some r → ShownStand d → (is_some s ≡ true → OwnsNothing r)
    → (become_by s c r q d ≡ become_by None c r q d) × (left_by s r q ≡ record r { peer = q })
become-kept None c r q d there stand nothing = (refl, refl)
become-kept (Some cause) c r q d there stand nothing =
    let same : resident_of q ≡ record r { peer = q } = ap (λ (x : Resident). record x { peer = q }) (sym (nothing refl)) in
    let bare : owned_in d c ≡ nothing_owned = ap owned_of there ∙ ap (λ (x : Resident). x.owned) (nothing refl) in
    let none : list_any (λ s. s.client == c) d.standing ≡ false = none-standing c d.standing (λ surface. (subst (λ (o : Owns). AreShown c o d.standing) bare (stand.each c)).stands surface) in (
      ap (λ (x : Resident). record d { clients = with_number c (Some x) d.clients; standing = without_client c d.standing }) same
          ∙ ap (λ (ss : List Standing). record d { clients = with_number c (Some (record r { peer = q })) d.clients; standing = ss }) (others-all c d.standing none),
      same,
    )

-- A client is told what leaves its table, its count of requests and whether it lives as they were.
module _ {A : Type 0} (c : ℕ) (others : ℕ → ById ℕ) (base d : Desktop) (r : Resident) (q : Peer) (old mid : Kept A) (pile : Pile) (is : IsSeated c others base old pile d r) where
  pub kept-seated : IsPeer mid.client q → mid.owned ≡ old.owned → mid.subsurfaces ≡ old.subsurfaces → mid.client.objects ≡ old.client.objects → q.status ≡ r.peer.status
      → q.requests ≡ r.peer.requests → IsSeated c others base mid pile (become c r q d) (left_by q.status r q)
  kept-seated peer owned subsurfaces table status requests =
      subst (λ (e : Desktop). IsSeated c others base mid pile e (left_by q.status r q)) (sym kept.0)
      (subst (λ (s : Resident). IsSeated c others base mid pile (become_by None c r q d) s) (sym kept.1) (record {
        based = based-at None c base d d r r q is.based refl refl;
        seat = record {
          peer = peer;
          owns = owns;
          frames = rw (table, owned, requests) is.seat.frames;
          subsurfaces = rw (table, subsurfaces) is.seat.subsurfaces;
          ended = λ some. ap (λ (x : Resident). record x { peer = q }) (nothing some);
        };
        scene = subst (λ (held : Held). IsScene (with_numbers c (targets_in WlSurface held) others) pile.scene (become_by None c r q d)) (sym table)
            (record { standing = is.scene.standing; next = is.scene.next });
        windows = subst (λ (held : Held). AreStacked (with_numbers c (targets_in WlSurface held) others) pile.windows (all_windows (become_by None c r q d))) (sym table)
            (subst (λ (ws : List Window). AreStacked (with_numbers c (targets_in WlSurface old.client.objects) others) pile.windows ws)
            (sym (put-windows c r (record r { peer = q }) d is.based.there refl)) is.windows);
        mapped = subst (λ (e : Desktop). ShownStand e) kept.0 (become-shown c r r q d is.based.there refl is.mapped);
      }))
    where
      nothing : is_some q.status ≡ true → OwnsNothing r
      nothing some = is.seat.ended (ap (λ (o : Option Cause). is_some o) (sym status) ∙ some)

      kept : (become_by q.status c r q d ≡ become_by None c r q d) × (left_by q.status r q ≡ record r { peer = q })
      kept = become-kept q.status c r q d is.based.there is.mapped nothing

      owns : IsOwned (names_of mid.client.objects) mid.owned.surfaces.states mid.owned.surfaces.family (kept_of mid.owned.shell) r.owned
      owns =
          subst (λ (held : Held). IsOwned (names_of held) mid.owned.surfaces.states mid.owned.surfaces.family (kept_of mid.owned.shell) r.owned) (sym table)
          (subst (λ (o : Keeps A). IsOwned (names_of old.client.objects) o.surfaces.states o.surfaces.family (kept_of o.shell) r.owned) (sym owned) is.seat.owns)

pub sent-so : (n : ℕ) (p : Peer) → ((sent_by n p).status ≡ p.status) × ((sent_by n p).requests ≡ p.requests)
sent-so n p = at (nat_le n (length p.unsent))
  where
    at : (b : Bool) → ((if b then record p { unsent = drop n p.unsent } else p).status ≡ p.status) × ((if b then record p { unsent = drop n p.unsent } else p).requests ≡ p.requests)
    at true = (refl, refl)
    at false = (refl, refl)

pub stored-so : (s : Option Cause) (store at : ℕ) (bytes : List ℕ) (p : Peer) → ((stored_at s store at bytes p).status ≡ p.status) × ((stored_at s store at bytes p).requests ≡ p.requests)
stored-so (Some cause) store at bytes p = (refl, refl)
stored-so None store at bytes p = by (write_refusal store at (length bytes) p.stores)
  where
    by : (o : Option StoreError) → ((stored_by store at bytes o p).status ≡ p.status) × ((stored_by store at bytes o p).requests ≡ p.requests)
    by None = (refl, refl)
    by (Some error) = (refl, refl)

-- ---- an end, or a leave

-- What is told makes of a client's peer another: its table, its count of requests and what it owns stay where it lives on, and where it
-- doesn't, it ends so or had ended.
pub record Told {A : Type 0} (old mid : Kept A) (r : Resident) (q : Peer) : Type 0 where
  pub peer : IsPeer mid.client q
  pub owned : mid.owned ≡ old.owned
  pub subsurfaces : mid.subsurfaces ≡ old.subsurfaces
  pub lives : q.status ≡ None → mid.client.objects ≡ old.client.objects
  pub requests : q.status ≡ None → q.requests ≡ r.peer.requests
  pub gone : is_some q.status ≡ true → IsOver q ⊎ ((is_some r.peer.status ≡ true) × (q.objects ≡ r.peer.objects))

-- a client that is told something agrees, with what is left of it: where it lives it stays as it is, and so do the toplevels
module _ {A : Type 0} (c : ℕ) (others : ℕ → ById ℕ) (base d : Desktop) (r x : Resident) (old mid new : Kept A) (was now : Pile) (is : IsSeated c others base old was d r)
    (same : x.owned ≡ r.owned) (q : Peer) (peer : IsPeer mid.client q) where
  abbrev After : Type 0
  After = IsSeated c others base new now (become c x q d) (left_by q.status x q)

  becomes-by : (s : Option Cause) → q.status ≡ s → IsSeated c others base new now (become_by s c x q d) (left_by s x q) → After
  becomes-by s e seated = subst (λ (o : Option Cause). IsSeated c others base new now (become_by o c x q d) (left_by o x q)) (sym e) seated

  stands-by : (s : Option Cause) → q.status ≡ s → ShownStand (become_by s c x q d)
  stands-by s e = subst (λ (o : Option Cause). ShownStand (become_by o c x q d)) e (become-shown c x r q d is.based.there same is.mapped)

  lives-seated : q.status ≡ None → numbers mid ≡ numbers old → IsSeat mid.client (owned_view mid) (record x { peer = q }) → new ≡ mid → now ≡ was → After
  lives-seated none known seat kept stays =
      becomes-by None none
      (subst (λ (k : Kept A). IsSeated c others base k now (become_by None c x q d) (record x { peer = q })) (sym kept)
      (subst (λ (k : Pile). IsSeated c others base mid k (become_by None c x q d) (record x { peer = q })) (sym stays) (record {
        based = based-at None c base d d r x q is.based refl refl;
        seat = seat;
        scene = subst (λ (ids : ById ℕ). IsScene (with_numbers c ids others) was.scene (become_by None c x q d)) (sym known)
            (record { standing = is.scene.standing; next = is.scene.next });
        windows = subst (λ (ids : ById ℕ). AreStacked (with_numbers c ids others) was.windows (all_windows (become_by None c x q d))) (sym known)
            (subst (λ (ws : List Window). AreStacked (with_numbers c (numbers old) others) was.windows ws) (sym (put-windows c r (record x { peer = q }) d is.based.there same)) is.windows);
        mapped = stands-by None none;
      })))

  gone-seated : (s : Cause) → q.status ≡ Some s → AreNameless mid.client.objects → IsClearedBy (Some s) c mid new was now → After
  gone-seated s status none left =
      let sits = sits-gone s c (numbers old) others base d d r x q mid new was.scene now.scene is.based (itself c d) is.scene peer none
      (record { client = left.0; bare = left.1; subsurfaces = left.2; standing = left.3; next = left.4 }) in
      becomes-by (Some s) status
      (sits-seated c others base new now.scene now.windows (become_by (Some s) c x q d) (resident_of q) sits (stands-by (Some s) status)
      (subst (λ (ws : List Window). AreStacked (with_numbers c (numbers new) others) now.windows ws) (sym (left-windows s c x q d))
      (subst (λ (all : List Stacked). AreStacked (with_numbers c (numbers new) others) all (filter (λ w. not (w.owner.client == c)) (all_windows d))) (sym left.5)
      (left-stacked c (numbers old) (numbers new) others was.windows (all_windows d) is.windows))))

module _ {A : Type 0} (c : ℕ) (others : ℕ → ById ℕ) (base d : Desktop) (r : Resident) (old mid new : Kept A) (was now : Pile) (is : IsSeated c others base old was d r) (q : Peer)
    (told : Told old mid r q) where
  lives-on : q.status ≡ None → new ≡ mid → now ≡ was → IsSeated c others base new now (become c r q d) (left_by q.status r q)
  lives-on none kept stays =
      lives-seated c others base d r r old mid new was now is refl q told.peer none (ap (λ (held : Held). targets_in WlSurface held) (told.lives none)) (record {
        peer = told.peer;
        owns = rw (told.lives none, told.owned) is.seat.owns;
        frames = rw (told.lives none, told.owned, told.requests none) is.seat.frames;
        subsurfaces = rw (told.lives none, told.subsurfaces) is.seat.subsurfaces;
        ended = λ some. absurd (true≢false (none-is q.status none some));
      }) kept stays

  nameless : is_some q.status ≡ true → AreNameless mid.client.objects
  nameless some = at (told.gone some)
    where
      at : IsOver q ⊎ ((is_some r.peer.status ≡ true) × (q.objects ≡ r.peer.objects)) → AreNameless mid.client.objects
      at (inl over) = nameless-over mid.client q told.peer over
      at (inr had) =
          nameless-same old.client.objects mid.client.objects (is.seat.peer.objects ∙ (sym had.1 ∙ sym told.peer.objects)) (nameless-seat old.client (owned_view old) r is.seat had.0)

  -- the desktop's client becomes so
  pub told-seated : IsClearedBy mid.client.ended c mid new was now → IsSeated c others base new now (become c r q d) (left_by q.status r q)
  told-seated left = at mid.client.ended refl left
    where
      at : (o : Option Cause) → mid.client.ended ≡ o → IsClearedBy o c mid new was now → IsSeated c others base new now (become c r q d) (left_by q.status r q)
      at None e left = lives-on (sym told.peer.status ∙ e) left.0 left.1
      at (Some s) e left =
          let status : q.status ≡ Some s = sym told.peer.status ∙ e in
          gone-seated c others base d r r old mid new was now is refl q told.peer s status (nameless (ap (λ (o : Option Cause). is_some o) status)) left

ended-so : (s : Option Cause) (cause : Cause) (p : Peer) → p.status ≡ s → is_some (ended_by s cause p).status ≡ true
ended-so None cause p e = refl
ended-so (Some was) cause p e = ap (λ (o : Option Cause). is_some o) e

ended-over : (s : Option Cause) (cause : Cause) (p : Peer) → p.status ≡ s → IsOver (ended_by s cause p) ⊎ ((is_some p.status ≡ true) × ((ended_by s cause p).objects ≡ p.objects))
ended-over None cause p e = inl (cause, p, refl)
ended-over (Some was) cause p e = inr (ap (λ (o : Option Cause). is_some o) e, refl)

pub told-ended : {A : Type 0} (cause : Cause) (old mid : Kept A) (r : Resident) → IsPeer mid.client (ended_by r.peer.status cause r.peer) → mid.owned ≡ old.owned
    → mid.subsurfaces ≡ old.subsurfaces → Told old mid r (ended_by r.peer.status cause r.peer)
told-ended cause old mid r peer owned subsurfaces =
    record {
      peer = peer;
      owned = owned;
      subsurfaces = subsurfaces;
      lives = λ none. absurd (true≢false (none-is (ended_by r.peer.status cause r.peer).status none (ended-so r.peer.status cause r.peer refl)));
      requests = λ none. absurd (true≢false (none-is (ended_by r.peer.status cause r.peer).status none (ended-so r.peer.status cause r.peer refl)));
      gone = λ some. ended-over r.peer.status cause r.peer refl;
    }

goes-so : (s : Option Cause) (p : Peer) → ended_by s Gone p ≡ gone_by s p
goes-so None p = refl
goes-so (Some was) p = refl

pub told-gone : {A : Type 0} (old mid : Kept A) (r : Resident) → IsPeer mid.client (gone_by r.peer.status r.peer) → mid.owned ≡ old.owned → mid.subsurfaces ≡ old.subsurfaces
    → Told old mid r (gone_by r.peer.status r.peer)
told-gone old mid r peer owned subsurfaces =
    let so = goes-so r.peer.status r.peer in
    subst (λ (q : Peer). Told old mid r q) so (told-ended Gone old mid r (subst (λ (q : Peer). IsPeer mid.client q) (sym so) peer) owned subsurfaces)

-- one that lives ends by this, and one that ended stays so
pub ends-lives : (v : ClientView) (cause : Cause) (p : Peer) → v.ended ≡ p.status → is_some v.ended ≡ false → (w : ClientView) → IsPeer w (ended cause p) → IsPeer w (ended_by p.status cause p)
ends-lives v cause p status lives w is = at p.status (ap (λ (o : Option Cause). is_some o) (sym status) ∙ lives)
  where
    at : (s : Option Cause) → is_some s ≡ false → IsPeer w (ended_by s cause p)
    at None e = is
    at (Some was) e = absurd (true≢false e)

pub ends-ended : (v : ClientView) (cause : Cause) (p : Peer) → is_some v.ended ≡ true → IsPeer v p → IsPeer v (ended_by p.status cause p)
ends-ended v cause p ended is = at p.status (ap (λ (o : Option Cause). is_some o) (sym is.status) ∙ ended)
  where
    at : (s : Option Cause) → is_some s ≡ true → IsPeer v (ended_by s cause p)
    at None e = absurd (true≢false (sym e))
    at (Some was) e = is

-- ---- a frame

-- A client that was told of a frame agrees with what becomes of the desktop's.
module _ {A : Type 0} (c : ℕ) (others : ℕ → ById ℕ) (base d : Desktop) (r : Resident) (time : ℕ) (old mid new : Kept A) (was now : Pile) (is : IsSeated c others base old was d r)
    (alive : r.peer.status ≡ None) (q : Peer)
    (told : Queues (frames_told time r) (done_due r).peer q) (left : IsLeft old mid (done_due r) q) (names : mid.client.ended ≡ None → names_of mid.client.objects ≡ names_of old.client.objects) where
  done-alive : (done_due r).peer.status ≡ None
  done-alive = callbacks-status (callbacks_due r) r ∙ alive

  frames-live : q.status ≡ None → new ≡ mid → now ≡ was → IsSeated c others base new now (become c (done_due r) q d) (left_by q.status (done_due r) q)
  frames-live none kept stays =
      let ended : mid.client.ended ≡ None = left.peer.status ∙ none in
      lives-seated c others base d r (done_due r) old mid new was now is refl q left.peer none (ap (λ (n : Names). n.surfaces) (names ended)) (record {
        peer = left.peer;
        owns = left.owns ended;
        frames = rw (told-requests (frames_told time r) (done_due r).peer q told none) (left.frames ended);
        subsurfaces = left.subsurfaces ended;
        ended = λ some. absurd (true≢false (none-is q.status none some));
      }) kept stays

  pub frames-seated : IsClearedBy mid.client.ended c mid new was now → IsSeated c others base new now (become c (done_due r) q d) (left_by q.status (done_due r) q)
  frames-seated cleared = at mid.client.ended refl cleared
    where
      at : (o : Option Cause) → mid.client.ended ≡ o → IsClearedBy o c mid new was now → IsSeated c others base new now (become c (done_due r) q d) (left_by q.status (done_due r) q)
      at None e cleared = frames-live (sym left.peer.status ∙ e) cleared.0 cleared.1
      at (Some s) e cleared =
          let status : q.status ≡ Some s = sym left.peer.status ∙ e in
          gone-seated c others base d r (done_due r) old mid new was now is refl q left.peer s status
          (nameless-over mid.client q left.peer (queues-over (frames_told time r) (done_due r).peer q done-alive told (ap (λ (o : Option Cause). is_some o) status))) cleared

-- one that ended is told nothing
pub frames-untold : (time c : ℕ) (r : Resident) (d : Desktop) → is_some r.peer.status ≡ true → FramesToldAt time c (Some r) d d
frames-untold time c r d over = at r.peer.status over
  where
    at : (s : Option Cause) → is_some s ≡ true → FramesToldBy s time c r d d
    at None e = absurd (true≢false (sym e))
    at (Some cause) e = refl

-- ---- a piece

pub lives-of : (o : Option Cause) → is_some o ≡ false → o ≡ None
lives-of None e = refl
lives-of (Some cause) e = absurd (true≢false e)

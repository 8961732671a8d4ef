-- The calls of the desk: one client is taken out and put back, comes, or goes.
use Rattle.std.proofs.Common.{◌≡◌, ℕ, ◌+◌, suc, zero, ◌<◌, List, [], ◌∷◌, Bool, true, false, length, Option, Some, None, set, refl, subst, sym, ◌∙◌, ap, arith, inl, inr}
use Rattle.std.proofs.lemmas.Bool.{true≢false}
use Rattle.std.proofs.lemmas.Option.{same_Some}
use Rattle.std.specs.Option.{option_map}
use Rattle.std.specs.Prelude.{◌==◌, ◌%◌, if◌then◌else◌, is_some, replicate, Ok, Err}
use Rattle.std.specs.List.{list_any}
use Rattle.wl_client.specs.Agreement.{IsPeer, output_of}
use Rattle.spec_desktop.specs.Objects.{ById, nothing}
use Rattle.spec_desktop.specs.Peer.{Peer, newcomer}
use Rattle.spec_desktop.specs.Told.{Output as Shown}
use Rattle.wl_client.specs.View.{ClientView}
use Rattle.spec_desktop.specs.declared.cause.Cause.{Cause}
use Rattle.wl_client.specs.declared.outputs.Output.{Output}
use Rattle.wl_paint.specs.Damage.{Damaged}
use Rattle.spec_desktop.specs.Stacking.{Standing, without_client}
use Rattle.wl_scene.specs.Kept.{Stack}
use Rattle.spec_desktop.specs.Windows.{Window}
use Rattle.wl_scene.specs.declared.stacked.Stacked.{Stacked}
use Rattle.wl_scene.specs.Stacked.{without_client as without_client_of}
use Rattle.wl_scene.specs.StackedAgreement.{AreStacked}
use Rattle.wl_scene.proofs.Standing.{stacked-client-gone}
use Rattle.spec_desktop.specs.Act.{Close, IsClosed, closed_by, lowest, next_of, peer_at, peer_of}
use Rattle.spec_desktop.specs.Desktop.{Desktop, Resident, arrival, become, become_by, client_at, empty, place, status_of, with_client, with_number}
use Rattle.spec_desktop.specs.Stacked.{all_windows}
use Rattle.spec_desktop.specs.declared.answers.ConnectError.TheVariants.{Full, Memory}
use Rattle.spec_desktop.specs.declared.answers.Done.{Done}
use Rattle.spec_desktop.specs.declared.answers.Done.TheVariants as gave
use Rattle.law_desktop.proofs.Runs.Forms.{ConnectsAt}
use Rattle.law_desktop.proofs.Runs.Places.{client-kept}
use Rattle.law_desktop.specs.Ordered.{Ordered}
use Rattle.law_desktop.proofs.ShownSurfaces.Laws.{empty_is_shown}
use Rattle.law_desktop.proofs.Truth.{or-left, or-right}
use Rattle.wl_requests.specs.declared.residents.Resident.{Resident as Kept}
use Rattle.wl_clients.specs.Agreement.{Matches, IsPlace, IsScene, IsStack, numbers_in, numbers_of, with_numbers}
use Rattle.wl_clients.specs.Seats.{IsBare, IsChangedSo, IsSeated, ended_by}
use Rattle.wl_clients.specs.View.{DeskView, MarkedDesk, OwnedView, Pile, owned_view}
use Rattle.wl_clients.proofs.OnScreen.Ends.{nameless-newcomer, seat-bare}
use Rattle.wl_clients.proofs.OnScreen.Scenes.{none-stands, numbers-by, stack-by, stack-without}
use Rattle.wl_clients.specs.Agreeing.{Agrees}
use Rattle.wl_clients.specs.Feeding.{IsIdleIn, IsIdleOf, kept_at, kept_of}
use Rattle.wl_clients.specs.Residents.{client_views, owned_views, resident_at}
use Rattle.wl_clients.proofs.Altering.{Changes, ChangesAt, alters-whole, left_so}
use Rattle.wl_clients.proofs.Away.{away-windowless, others-left}
use Rattle.wl_clients.proofs.Desktops.{agrees-put, at, at-map, map-length, scene-out, seated-back, seated-out, stacked-by, windows-out}
use Rattle.wl_clients.proofs.Seats.{IsHere, client-here, client-put, clients-within, here-of, lowest-map, marked, owned-here, owned-put, view_of}
use Rattle.wl_clients.proofs.Still.{IsStill, closed-still, connects-still, still-stands, still-windows}

-- a client ends by this, where it lives
abbrev pub ended_of : ℕ → Cause → Option Resident → Desktop → Desktop
ended_of c cause None d = d
ended_of c cause (Some r) d = become c r (ended_by r.peer.status cause r.peer) d

abbrev pub ended_at : ℕ → Cause → Desktop → Desktop
ended_at c cause d = ended_of c cause (client_at c d) d

place-some : (x : Option ClientView) (o : Option OwnedView) (r : Option Resident) → IsPlace x o r → is_some x ≡ is_some r
place-some None None None here = refl
place-some (Some v) (Some o) (Some s) here = refl
place-some None None (Some s) here = absurd here
place-some None (Some o) None here = absurd here
place-some None (Some o) (Some s) here = absurd here
place-some (Some v) None None here = absurd here
place-some (Some v) None (Some s) here = absurd here
place-some (Some v) (Some o) None here = absurd here

pub lives-of : (o : Option Cause) → is_some o ≡ false → o ≡ None
lives-of None e = refl
lives-of (Some cause) e = absurd (true≢false e)

pub closed-none : (s : Option Cause) (p : Peer) → is_some s ≡ true → closed_by s p ≡ None
closed-none None p e = absurd (true≢false (sym e))
closed-none (Some cause) p e = refl

-- ---- what is left where a client's toplevels and windows go

closed-scene : (c : ℕ) (old : ById ℕ) (others : ℕ → ById ℕ) (d e : Desktop) (was is : Stack) → IsScene (with_numbers c old others) was d → e.standing ≡ without_client c d.standing
    → e.mappings ≡ d.mappings → is.standing ≡ without_client c was.standing → is.next ≡ was.next → IsScene (with_numbers c nothing others) is e
closed-scene c old others d e was is scene standing mappings kept next =
    record {
      standing = subst (λ (ks : List Standing). IsStack (with_numbers c nothing others) ks e.standing) (sym kept)
          (subst (λ (ss : List Standing). IsStack (with_numbers c nothing others) (without_client c was.standing) ss) (sym standing)
          (stack-by (with_numbers c old others) (with_numbers c nothing others) (without_client c was.standing) (without_client c d.standing)
          (numbers-by c old nothing others (without_client c d.standing) (λ surface n has is. absurd (true≢false (sym has ∙ none-stands c surface d.standing))))
          (stack-without (with_numbers c old others) c was.standing d.standing scene.standing)));
      next = next ∙ (scene.next ∙ ap (λ (m : ℕ). m % 8) (sym mappings));
    }

-- windows of other clients stand for the desktop's whatever numbers one client has
stacked-others : (c : ℕ) (old new : ById ℕ) (others : ℕ → ById ℕ) (ss : List Stacked) (ws : List Window) → list_any (λ (w : Window). w.owner.client == c) ws ≡ false
    → AreStacked (with_numbers c old others) ss ws → AreStacked (with_numbers c new others) ss ws
stacked-others c old new others [] [] none are = tt
stacked-others c old new others [] (w ∷ ws) none are = absurd are
stacked-others c old new others (s ∷ ss) [] none are = absurd are
stacked-others c old new others (s ∷ ss) (w ∷ ws) none are =
    let other : (s.client == c) ≡ false = ap (λ (n : ℕ). n == c) are.0.client ∙ or-left (w.owner.client == c) (list_any (λ (w : Window). w.owner.client == c) ws) none in
    let same : with_numbers c new others s.client ≡ with_numbers c old others s.client =
    ap (λ (b : Bool). if b then new else others s.client) other ∙ sym (ap (λ (b : Bool). if b then old else others s.client) other) in (
      record {
        client = are.0.client;
        toplevel = ap (λ (numbers : ById ℕ). numbers w.owner.toplevel) same ∙ are.0.toplevel;
        root = ap (λ (numbers : ById ℕ). numbers w.owner.root) same ∙ are.0.root;
        surface = ap (λ (numbers : ById ℕ). numbers w.surface) same ∙ are.0.surface;
        told = are.0.told;
      },
      stacked-others c old new others ss ws (or-right (w.owner.client == c) (list_any (λ (w : Window). w.owner.client == c) ws) none) are.1,
    )

-- none of a client's windows is kept where it has none
closed-windows : (c : ℕ) (old : ById ℕ) (others : ℕ → ById ℕ) (was is : List Stacked) (ws : List Window) → list_any (λ (w : Window). w.owner.client == c) ws ≡ false
    → AreStacked (with_numbers c old others) was ws → is ≡ without_client_of c was → AreStacked (with_numbers c nothing others) is ws
closed-windows c old others was is ws none are same =
    stacked-others c old nothing others is ws none
    (subst (λ (ss : List Stacked). AreStacked (with_numbers c old others) ss ws) (sym same)
    (subst (λ (vs : List Window). AreStacked (with_numbers c old others) (without_client_of c was) vs) (others-left (λ (w : Window). w.owner.client == c) ws none)
    (stacked-client-gone (with_numbers c old others) was ws c are)))

module _ {A : Type 0} (output : Output) (rs : List (Option (Kept A))) (pile : Pile) (c k : ℕ) (v : Kept A) (is : IsHere rs c k v) (d : Desktop)
    (a : Matches (view_of output rs pile) d) where
  -- the desktop's client stands for it
  pub out : (s : Resident) × (client_at c d ≡ Some s) × IsSeated c (numbers_in (client_views rs)) d v pile d s
  out = rw is.number (seated-out (view_of output rs pile) d k v (client-here rs k v is.here) (owned-here rs k v is.here) a)

  pub back : (new : Kept A) (now : Pile) (e : Desktop) (s : Resident) → IsSeated c (numbers_in (client_views rs)) d new now e s
      → Matches (view_of output (set rs k (Some new)) now) e
  back new now e s seated =
      seated-back (view_of output rs pile) k new s _ _ now d e a (clients-within rs k is.within) (client-put rs k (Some new) is.within)
      (owned-put rs k (Some new) is.within) (rw is.number at seated)

  -- a client that is told something
  pub changes : (R : Peer → Done → Option Peer → Type 0) (absent done : Done) (new : Kept A) (now : Pile) → IsChangedSo c R done v new pile now
      → (e : Desktop) × Changes c R absent d done e × Matches (view_of output (set rs k (Some new)) now) e
  changes R absent done new now changed =
      let s = out in
      let n = changed (numbers_in (client_views rs)) d d s.0 s.2 in (
        left_so c s.0 (Some n.0) d,
        subst (λ (o : Option Resident). ChangesAt R absent c o d done (left_so c s.0 (Some n.0) d)) (sym s.1) (Some n.0, n.2, refl),
        back new now (left_so c s.0 (Some n.0) d) n.1 n.3,
      )

  -- ---- what is read

  pub peer-here : (p : Peer) × (peer_at c d ≡ Some p) × IsPeer v.client p
  peer-here = (out.0.peer, ap (λ (o : Option Resident). peer_of o) out.1, out.2.seat.peer)

  -- ---- a number is given back

  -- the client lives
  pub unclosed : is_some v.client.ended ≡ false → (e : Desktop) × Changes c IsClosed (gave.Close false) d (gave.Close false) e × Matches (view_of output rs pile) e
  unclosed alive =
      let s = out in
      let status : s.0.peer.status ≡ None = sym s.2.seat.peer.status ∙ lives-of v.client.ended alive in (
        d,
        subst (λ (o : Option Resident). ChangesAt IsClosed (gave.Close false) c o d (gave.Close false) d) (sym s.1) (
          Some s.0.peer,
          (sym (ap (λ (z : Option Cause). closed_by z s.0.peer) status), ap (λ (z : Option Cause). gave.Close (is_some z)) (sym status)),
          sym (ap (λ (z : Option Cause). become_by z c s.0 s.0.peer d) status
              ∙ (ap (λ (o : Option Resident). with_client c o d) (sym s.1) ∙ client-kept c d)),
        ),
        a,
      )

  -- the client ended: it goes, and its toplevels with their windows go with it
  module _ (now : Pile) (over : is_some v.client.ended ≡ true) (ordered : Ordered d) where
    abbrev after : Desktop
    after = record d { clients = with_number c None d.clients; standing = without_client c d.standing }

    ended : is_some out.0.peer.status ≡ true
    ended = ap (λ (z : Option Cause). is_some z) (sym out.2.seat.peer.status) ∙ over

    closes : Changes c IsClosed (gave.Close false) d (gave.Close true) after
    closes =
        subst (λ (o : Option Resident). ChangesAt IsClosed (gave.Close false) c o d (gave.Close true) after) (sym out.1)
        (None, (sym (closed-none out.0.peer.status out.0.peer ended), ap (λ (b : Bool). gave.Close b) (sym ended)), refl)

    pub closed : now.scene.standing ≡ without_client c pile.scene.standing → now.scene.next ≡ pile.scene.next → now.windows ≡ without_client_of c pile.windows
        → (e : Desktop) × Changes c IsClosed (gave.Close false) d (gave.Close true) e × Matches (view_of output (set rs k None) now) e
    closed standing next windows =
        let us = client_views rs in
        let s = out in
        let happens = alters-whole (Close c) d after (gave.Close true) ordered closes in
        let away = away-windowless c d ordered (inr (ap (λ (o : Option Resident). is_some (status_of o)) s.1 ∙ ended)) in
        let still : IsStill d after = closed-still c (gave.Close true) d after ordered happens in
        let shown : all_windows after ≡ all_windows d = still-windows d after still in
        let numbers = numbers_of (Some v.client) in
        let scene = closed-scene c numbers (numbers_in us) d after pile.scene now.scene s.2.scene refl refl standing next in
        let kept = subst (λ (ws : List Window). AreStacked (with_numbers c nothing (numbers_in us)) now.windows ws) (sym shown)
        (closed-windows c numbers (numbers_in us) pile.windows now.windows (all_windows d) away s.2.windows windows) in (
          after,
          closes,
          agrees-put (view_of output rs pile) k None None None (client_views (set rs k None)) (owned_views (set rs k None)) now d after a (clients-within rs k is.within)
              (client-put rs k None is.within) (owned-put rs k None is.within) refl (rw is.number refl) tt
              (subst (λ (n : ℕ). IsScene (with_numbers n nothing (numbers_in us)) now.scene after) is.number scene)
              (subst (λ (n : ℕ). AreStacked (with_numbers n nothing (numbers_in us)) now.windows (all_windows after)) is.number kept)
              (still-stands d after still a.mapped),
        )

-- ---- nobody is there

pub Changes-none : (R : Peer → Done → Option Peer → Type 0) (absent : Done) (w : DeskView) (d : Desktop) (c : ℕ) → client_at c d ≡ None → Matches w d
    → (e : Desktop) × Changes c R absent d absent e × Matches w e
Changes-none R absent w d c free a = (d, subst (λ (o : Option Resident). ChangesAt R absent c o d absent d) (sym free) (refl, refl), a)

pub Kept-none : (piece : List ℕ) (w : DeskView) (d : Desktop) (c : ℕ) → client_at c d ≡ None → Matches w d → Matches w (kept_at c piece d)
Kept-none piece w d c free a = subst (λ o. Matches w (kept_of c piece o d)) (sym free) a

pub Idle-none : (w : DeskView) (d : Desktop) (c : ℕ) → client_at c d ≡ None → Matches w d → Matches w d × IsIdleIn c d
Idle-none w d c free a = (a, subst IsIdleOf (sym free) tt)

pub Ended-none : (cause : Cause) (w : DeskView) (d : Desktop) (c : ℕ) → client_at c d ≡ None → Matches w d → Matches w (ended_at c cause d)
Ended-none cause w d c free a = subst (λ o. Matches w (ended_of c cause o d)) (sym free) a

-- ---- what is read of a client, by its number

pub peer-read : {A : Type 0} (output : Output) (rs : List (Option (Kept A))) (pile : Pile) (damage : Damaged) (ws : List (Option (Kept A))) (w : MarkedDesk) (c : ℕ) (v : Kept A) (d : Desktop)
    → ws ≡ rs → Some v ≡ resident_at ws c → marked (view_of output rs pile) damage ≡ w → Matches w.desk d → (p : Peer) × (peer_at c d ≡ Some p) × IsPeer v.client p
peer-read {A} output rs pile damage ws w c v d same is view a =
    let here = here-of rs c v (is ∙ ap (λ (xs : List (Option (Kept A))). resident_at xs c) same) in
    peer-here output rs pile c here.0 v here.1 d (subst (λ (m : MarkedDesk). Matches m.desk d) (sym view) a)

-- ---- a client comes

lowest-same : (us : List (Option ClientView)) (rs : List (Option Resident)) → length us ≡ length rs → ((k : ℕ) → is_some (at us k) ≡ is_some (place rs k)) → lowest us ≡ lowest rs
lowest-same [] [] count same = refl
lowest-same (None ∷ us) (None ∷ rs) count same = refl
lowest-same (Some v ∷ us) (Some r ∷ rs) count same = ap (λ (o : Option ℕ). next_of o) (lowest-same us rs (omega (arith, count)) (λ k. same (suc k)))
lowest-same (None ∷ us) (Some r ∷ rs) count same = absurd (true≢false (sym (same zero)))
lowest-same (Some v ∷ us) (None ∷ rs) count same = absurd (true≢false (same zero))
lowest-same [] (r ∷ rs) count same = absurd (omega (arith, count))
lowest-same (v ∷ us) [] count same = absurd (omega (arith, count))

-- the lowest free number is free in both
lowest-agrees : {A : Type 0} (output : Output) (rs : List (Option (Kept A))) (pile : Pile) (d : Desktop) → Matches (view_of output rs pile) d → lowest d.clients ≡ lowest rs
lowest-agrees {A} output rs pile d a =
    let w = view_of output rs pile in
    sym (lowest-same w.clients d.clients a.count (λ k. place-some (at w.clients k) (at w.owned k) (place d.clients k) (a.clients k)))
    ∙ lowest-map (λ (r : Kept A). r.client) rs

pub Connects-full : {A : Type 0} (output : Output) (rs : List (Option (Kept A))) (pile : Pile) (d : Desktop) → None ≡ lowest rs → Matches (view_of output rs pile) d
    → (e : Desktop) × ConnectsAt (lowest d.clients) d (gave.Connect (Err Full)) e × Matches (view_of output rs pile) e
Connects-full output rs pile d none a = let free : lowest d.clients ≡ None = lowest-agrees output rs pile d a ∙ sym none in (d, rw free (refl, refl), a)

pub Connects-refused : {A : Type 0} (output : Output) (rs : List (Option (Kept A))) (pile : Pile) (d : Desktop) (k : ℕ) → Some k ≡ lowest rs → Matches (view_of output rs pile) d
    → (e : Desktop) × ConnectsAt (lowest d.clients) d (gave.Connect (Err Memory)) e × Matches (view_of output rs pile) e
Connects-refused output rs pile d k found a =
    let free : lowest d.clients ≡ Some k = lowest-agrees output rs pile d a ∙ sym found in (d, rw free (inl (refl, refl)), a)

pub lowest-at : {X : Type 0} (xs : List (Option X)) (k : ℕ) → lowest xs ≡ Some k → at xs k ≡ None
lowest-at [] k e = absurd (cc)
lowest-at (None ∷ xs) zero e = refl
lowest-at (None ∷ xs) (suc k) e = absurd (cc)
lowest-at (Some x ∷ xs) k e = by (lowest xs) (lowest-at xs) e
  where
    by : (o : Option ℕ) → ((j : ℕ) → o ≡ Some j → at xs j ≡ None) → next_of o ≡ Some k → at (Some x ∷ xs) k ≡ None
    by None later e = absurd (cc)
    by (Some j) later e =
        let next : suc j ≡ k = let same = same_Some (j + 1) k e in omega (arith, same) in
        subst (λ (n : ℕ). at (Some x ∷ xs) n ≡ None) next (later j refl)

-- a client's numbers come where it had none
numbers-more : (c : ℕ) (new : ById ℕ) (others : ℕ → ById ℕ) (other surface n : ℕ) → with_numbers c nothing others other surface ≡ Some n → with_numbers c new others other surface ≡ Some n
numbers-more c new others other surface n is = at (other == c) is
  where
    at : (b : Bool) → (if b then nothing else others other) surface ≡ Some n → (if b then new else others other) surface ≡ Some n
    at true is = absurd (cc)
    at false is = is

-- the client that came has the place
pub Connects-new : {A : Type 0} (output : Output) (rs : List (Option (Kept A))) (pile : Pile) (k : ℕ) (new : Kept A) (d : Desktop) → Some k ≡ lowest rs → k < length rs
    → IsPeer new.client (newcomer (output_of output)) → IsBare new.owned → new.subsurfaces ≡ [] → Agrees (view_of output rs pile) d
    → (e : Desktop) × ConnectsAt (lowest d.clients) d (gave.Connect (Ok (k + 1))) e × Matches (view_of output (set rs k (Some new)) pile) e
Connects-new {A} output rs pile k new d found within is bare none agrees =
    let a = agrees.matches in
    let us = client_views rs in
    let v = new.client in
    let free : lowest d.clients ≡ Some k = lowest-agrees output rs pile d a ∙ sym found in
    let next : IsPeer v (newcomer d.output) = subst (λ (o : Shown). IsPeer v (newcomer o)) a.output is in
    let after = with_client (k + 1) (Some (arrival d.output)) d in
    let connects : ConnectsAt (lowest d.clients) d (gave.Connect (Ok (k + 1))) after = rw free (inr (refl, refl)) in
    let number : k + 1 ≡ suc k = omega arith in
    let nobody : at us k ≡ None = at-map (λ (r : Kept A). r.client) rs k ∙ ap (λ (o : Option (Kept A)). option_map (λ (r : Kept A). r.client) o) (lowest-at rs k (sym found)) in
    let scene = scene-out k None us pile.scene d nobody a.scene in
    let windows = windows-out k None us pile.windows (all_windows d) nobody a.windows in
    let still : IsStill d after = connects-still d after (gave.Connect (Ok (k + 1))) connects in
    let shown : all_windows after ≡ all_windows d = still-windows d after still in (
      after,
      connects,
      agrees-put (view_of output rs pile) k (Some v) (Some (owned_view new)) (Some (arrival d.output)) (client_views (set rs k (Some new)))
          (owned_views (set rs k (Some new))) pile d after a (clients-within rs k within) (client-put rs k (Some new) within) (owned-put rs k (Some new) within) refl
          (ap (λ (n : ℕ). with_number n (Some (arrival d.output)) d.clients) number)
          (seat-bare new (newcomer d.output) next (nameless-newcomer v d.output next) bare none)
          (record {
            standing = stack-by (with_numbers (suc k) nothing (numbers_in us)) (with_numbers (suc k) (numbers_of (Some v)) (numbers_in us)) pile.scene.standing d.standing
                (numbers-by (suc k) nothing (numbers_of (Some v)) (numbers_in us) d.standing (λ surface n has e. absurd (cc))) scene.standing;
            next = scene.next;
          })
          (subst (λ (ws : List Window). AreStacked (with_numbers (suc k) (numbers_of (Some v)) (numbers_in us)) pile.windows ws) (sym shown)
          (stacked-by (with_numbers (suc k) nothing (numbers_in us)) (with_numbers (suc k) (numbers_of (Some v)) (numbers_in us)) pile.windows (all_windows d)
          (numbers-more (suc k) (numbers_of (Some v)) (numbers_in us)) windows))
          (still-stands d after still a.mapped),
    )

-- ---- no client

at-none : {X : Type 0} (n k : ℕ) → at {X = X} (replicate n None) k ≡ None
at-none zero k = refl
at-none (suc n) zero = refl
at-none (suc n) (suc k) = at-none n k

place-nobody : (n k : ℕ) → place (replicate n None) k ≡ None
place-nobody zero k = refl
place-nobody (suc n) zero = refl
place-nobody (suc n) (suc k) = place-nobody n k

pub Agrees-empty : {A : Type 0} (output : Output) (rs : List (Option (Kept A))) (pile : Pile) → rs ≡ replicate 32 None → pile.scene ≡ record { standing = []; next = 0 } → pile.windows ≡ []
    → Matches (view_of output rs pile) (empty (output_of output))
Agrees-empty {A} output rs pile nobody scene windows =
    let here : (k : ℕ) → at rs k ≡ None = λ k. ap (λ (xs : List (Option (Kept A))). at xs k) nobody ∙ at-none 32 k in
    record {
      output = refl;
      count = map-length (option_map (λ (r : Kept A). r.client)) rs ∙ ap (λ (xs : List (Option (Kept A))). length xs) nobody;
      clients = λ k. each k (at (client_views rs) k) (at (owned_views rs) k)
          (at-map (λ (r : Kept A). r.client) rs k ∙ ap (λ (o : Option (Kept A)). option_map (λ (r : Kept A). r.client) o) (here k))
          (at-map (λ (r : Kept A). owned_view r) rs k ∙ ap (λ (o : Option (Kept A)). option_map (λ (r : Kept A). owned_view r) o) (here k));
      scene = subst (λ (s : Stack). IsScene (numbers_in (client_views rs)) s (empty (output_of output))) (sym scene) (record { standing = tt; next = refl });
      windows = subst (λ (ss : List Stacked). AreStacked (numbers_in (client_views rs)) ss []) (sym windows) tt;
      mapped = empty_is_shown (output_of output);
    }
  where
    each : (k : ℕ) (x : Option ClientView) (o : Option OwnedView) → x ≡ None → o ≡ None → IsPlace x o (place (replicate 32 None) k)
    each k x o e f = rw (e, f, place-nobody 32 k) tt

-- More bytes of a client's stream come behind the others: the client then is so, and no other, and all windows are as they were.
use Rattle.std.proofs.Common.{◌≡◌, ◌≢◌, ℕ, zero, suc, List, [], ◌∷◌, ◌++◌, Bool, true, false, Option, Some, None, refl, ap, subst, sym, ◌∙◌, map}
use Rattle.std.specs.Prelude.{◌==◌, flat_map, if◌then◌else◌}
use Rattle.std.proofs.lemmas.Bool.{eqb-false, eqb-true}
use Rattle.spec_desktop.specs.declared.cause.Cause.{Cause}
use Rattle.spec_desktop.specs.Peer.{Peer, with_rest}
use Rattle.spec_desktop.specs.Stacking.{Owned, Standing, geometry_in, root_of}
use Rattle.spec_desktop.specs.Windows.{Root, Window, owner_of, roots_of, tree, windows}
use Rattle.spec_desktop.specs.Changing.{grab_holder, holder_from, holds_grab}
use Rattle.spec_desktop.specs.Desktop.{Desktop, Resident, client_at, client_in, owned_in, owned_of, place, with_client, with_number, with_place}
use Rattle.spec_desktop.specs.Popups.{stacked_popups}
use Rattle.spec_desktop.specs.Settling.{Midstep}
use Rattle.spec_desktop.specs.Stacked.{all_windows}
use Rattle.spec_desktop.specs.Step.{with_peer}
use Rattle.law_desktop.proofs.Runs.Places.{client-twice, number-kept, number-other, number-same}

-- ---- more bytes come behind

-- they come to this client, where it lives, or they are another's
abbrev pub behind : Bool → Option Cause → List ℕ → List ℕ → List ℕ
behind true None rest more = rest ++ more
behind true (Some cause) rest more = rest
behind false s rest more = rest

abbrev pub longer : Bool → List ℕ → Peer → Peer
longer b more p = with_rest (behind b p.status p.rest more) p

abbrev pub longer_client : Bool → List ℕ → Option Resident → Option Resident
longer_client b more None = None
longer_client b more (Some r) = Some (with_peer (longer b more r.peer) r)

abbrev pub longer_in : ℕ → List ℕ → Desktop → Desktop
longer_in c more d = with_client c (longer_client true more (client_at c d)) d

abbrev pub longer_moving : ℕ → List ℕ → Midstep → Midstep
longer_moving c more m = record m { desktop = longer_in c more m.desktop }

other-client : (more : List ℕ) (o : Option Resident) → longer_client false more o ≡ o
other-client more None = refl
other-client more (Some r) = refl

-- ---- who is where

place-swap : (rs : List (Option Resident)) (k j : ℕ) (x y : Option Resident) → k ≢ j → with_place k x (with_place j y rs) ≡ with_place j y (with_place k x rs)
place-swap (r ∷ rs) zero zero x y differ = absurd (differ refl)
place-swap (r ∷ rs) (suc k) (suc j) x y differ = ap (λ (qs : List (Option Resident)). r ∷ qs) (place-swap rs k j x y (λ e. differ (ap (λ (n : ℕ). suc n) e)))
place-swap rs k j x y differ = refl

number-swap : (clients : List (Option Resident)) (c k : ℕ) (x y : Option Resident) → c ≢ k → with_number c x (with_number k y clients) ≡ with_number k y (with_number c x clients)
number-swap clients zero k x y differ = refl
number-swap clients (suc j) zero x y differ = refl
number-swap clients (suc j) (suc k) x y differ = place-swap clients j k x y (λ e. differ (ap (λ (n : ℕ). suc n) e))

pub here-longer : (c : ℕ) (more : List ℕ) (clients : List (Option Resident))
    → client_in (with_number c (longer_client true more (client_in clients c)) clients) c ≡ longer_client true more (client_in clients c)
here-longer c more clients = at (client_in clients c) refl
  where
    at : (o : Option Resident) → client_in clients c ≡ o → client_in (with_number c (longer_client true more o) clients) c ≡ longer_client true more o
    at None e = ap (λ (o : Option Resident). client_in (with_number c o clients) c) (sym e) ∙ ap (λ (rs : List (Option Resident)). client_in rs c) (number-kept clients c) ∙ e
    at (Some r) e = number-same clients c (Some (with_peer (longer true more r.peer) r)) r e

module _ (c : ℕ) (more : List ℕ) where
  -- each client, with the bytes that came to it
  pub at-longer : (k : ℕ) (d : Desktop) → client_at k (longer_in c more d) ≡ longer_client (k == c) more (client_at k d)
  at-longer k d = at (k == c) refl
    where
      at : (b : Bool) → (k == c) ≡ b → client_at k (longer_in c more d) ≡ longer_client b more (client_at k d)
      at true e =
          let same : k ≡ c = eqb-true k c e in
          subst (λ (n : ℕ). client_at n (longer_in c more d) ≡ longer_client true more (client_at n d)) (sym same) (here-longer c more d.clients)
      at false e =
          number-other d.clients c k (longer_client true more (client_at c d)) (λ same. eqb-false k c e (sym same)) ∙ sym (other-client more (client_at k d))

  pub put-here : (x there : Resident) (d : Desktop) → client_at c d ≡ Some there → longer_in c more (with_client c (Some x) d) ≡ with_client c (longer_client true more (Some x)) (longer_in c more d)
  put-here x there d is =
      ap (λ (o : Option Resident). with_client c (longer_client true more o) (with_client c (Some x) d)) (number-same d.clients c (Some x) there is)
      ∙ client-twice c (longer_client true more (Some x)) (Some x) d
      ∙ sym (client-twice c (longer_client true more (Some x)) (longer_client true more (client_at c d)) d)

  put-there : (k : ℕ) (x : Resident) (d : Desktop) → c ≢ k → longer_in c more (with_client k (Some x) d) ≡ with_client k (Some x) (longer_in c more d)
  put-there k x d differ =
      ap (λ (o : Option Resident). with_client c (longer_client true more o) (with_client k (Some x) d)) (number-other d.clients k c (Some x) (λ same. differ (sym same)))
      ∙ ap (λ (rs : List (Option Resident)). record d { clients = rs }) (number-swap d.clients c k (longer_client true more (client_at c d)) (Some x) differ)

  -- what a client becomes, with those bytes
  pub put-longer : (k : ℕ) (x there : Resident) (d : Desktop) → client_at k d ≡ Some there
      → longer_in c more (with_client k (Some x) d) ≡ with_client k (longer_client (k == c) more (Some x)) (longer_in c more d)
  put-longer k x there d is = at (k == c) refl
    where
      at : (b : Bool) → (k == c) ≡ b → longer_in c more (with_client k (Some x) d) ≡ with_client k (longer_client b more (Some x)) (longer_in c more d)
      at true e =
          let same : k ≡ c = eqb-true k c e in
          subst (λ (n : ℕ). longer_in c more (with_client n (Some x) d) ≡ with_client n (longer_client true more (Some x)) (longer_in c more d)) (sym same)
          (put-here x there d (subst (λ (n : ℕ). client_at n d ≡ Some there) same is))
      at false e = put-there k x d (λ same. eqb-false k c e (sym same))

-- ---- the windows are the same

flat-same : {X Y : Type 0} (f g : X → List Y) (xs : List X) → ((x : X) → f x ≡ g x) → flat_map f xs ≡ flat_map g xs
flat-same f g [] e = refl
flat-same f g (x ∷ xs) e = ap (λ ys. ys ++ flat_map f xs) (e x) ∙ ap (λ ys. g x ++ ys) (flat-same f g xs e)

windows-owned : (f g : ℕ → Owned) (standing : List Standing) → ((k : ℕ) → f k ≡ g k)
    → windows (λ k. (f k).surfaces) (λ k. stacked_popups (f k)) (map (root_of f) standing) ≡ windows (λ k. (g k).surfaces) (λ k. stacked_popups (g k)) (map (root_of g) standing)
windows-owned f g [] e = refl
windows-owned f g (s ∷ ss) e =
    let root : Owned → Root = λ o. record { client = s.client; surface = s.surface; toplevel = s.surface; geometry = geometry_in o s.surface; place = s.place } in
    let roots : Owned → List Root = λ o. roots_of o.surfaces (root o) (stacked_popups o) in
    let shown : (ℕ → Owned) → Root → List Window = λ h r. tree 17 (owner_of r) (h r.client).surfaces r.surface r.place in
    let rest : (ℕ → Owned) → List Window = λ h. windows (λ k. (h k).surfaces) (λ k. stacked_popups (h k)) (map (root_of h) ss) in
    ap (λ (o : Owned). flat_map (shown f) (roots o) ++ rest f) (e s.client)
    ∙ ap (λ (ws : List Window). ws ++ rest f)
    (flat-same (shown f) (shown g) (roots (g s.client)) (λ r. ap (λ (o : Owned). tree 17 (owner_of r) o.surfaces r.surface r.place) (e r.client)))
    ∙ ap (λ (ws : List Window). flat_map (shown g) (roots (g s.client)) ++ ws) (windows-owned f g ss e)

owned-client : (b : Bool) (more : List ℕ) (o : Option Resident) → owned_of (longer_client b more o) ≡ owned_of o
owned-client b more None = refl
owned-client b more (Some r) = refl

pub windows-longer : (c : ℕ) (more : List ℕ) (d : Desktop) → all_windows (longer_in c more d) ≡ all_windows d
windows-longer c more d =
    windows-owned (owned_in (longer_in c more d)) (owned_in d) d.standing
    (λ k. ap (λ (o : Option Resident). owned_of o) (at-longer c more k d) ∙ owned-client (k == c) more (client_at k d))

-- ---- and so is who holds a grab

holder-put : (rs : List (Option Resident)) (k n : ℕ) (x : Option Resident) → holds_grab x ≡ holds_grab (place rs k) → holder_from n (with_place k x rs) ≡ holder_from n rs
holder-put [] k n x e = refl
holder-put (r ∷ rs) zero n x e = ap (λ (b : Bool). if b then Some n else holder_from (suc n) rs) e
holder-put (r ∷ rs) (suc k) n x e = ap (λ (o : Option ℕ). if holds_grab r then Some n else o) (holder-put rs k (suc n) x e)

holds-client : (b : Bool) (more : List ℕ) (o : Option Resident) → holds_grab (longer_client b more o) ≡ holds_grab o
holds-client b more None = refl
holds-client b more (Some r) = refl

pub holder-longer : (c : ℕ) (more : List ℕ) (d : Desktop) → grab_holder (longer_in c more d) ≡ grab_holder d
holder-longer zero more d = refl
holder-longer (suc k) more d = holder-put d.clients k 1 (longer_client true more (place d.clients k)) (holds-client true more (place d.clients k))

-- The clients of a desk by their places and numbers: who is here, what is kept of it, and the same with another at its place.
use Rattle.std.proofs.Common.{◌≡◌, ℕ, ◌+◌, ◌-◌, suc, zero, ◌<◌, List, [], ◌∷◌, Bool, true, length, map, Option, Some, None, get_or, set, refl, subst, sym, ◌∙◌, ap, arith, ◌⊎◌, inl, inr}
use Rattle.std.specs.Prelude.{◌||◌}
use Rattle.std.specs.Option.{option_map}
use Rattle.std.proofs.lemmas.List.{set-get_or}
use Rattle.std.proofs.lemmas.Option.{same_Some}
use Rattle.wl_client.specs.View.{ClientView}
use Rattle.wl_client.specs.declared.outputs.Output.{Output}
use Rattle.wl_paint.specs.Damage.{Damaged, has}
use Rattle.wl_clients.specs.Agreement.{IsPlace, Matches}
use Rattle.wl_scene.specs.Marking.{IsAsLarge}
use Rattle.wl_clients.specs.View.{DeskView, MarkedDesk, OwnedView, Pile, owned_view}
use Rattle.wl_requests.specs.declared.residents.Resident.{Resident as Kept}
use Rattle.spec_desktop.specs.Act.{lowest, next_of}
use Rattle.spec_desktop.specs.Desktop.{Desktop, Resident, client_at}
use Rattle.wl_clients.specs.Agreeing.{MarksNothing}
use Rattle.wl_clients.specs.Residents.{client_views, owned_views, resident_at}
use Rattle.wl_clients.proofs.Desktops.{IsPut, at, at-map, at-past, at-within, map-length, place-at, put-map, put-set}

-- what the desk is seen as
abbrev pub view_of : {A : Type 0} → Output → List (Option (Kept A)) → Pile → DeskView
view_of output rs pile = record { output = output; clients = client_views rs; owned = owned_views rs; pile = pile }

-- client c is here, at the place k
pub record IsHere {A : Type 0} (rs : List (Option (Kept A))) (c k : ℕ) (v : Kept A) : Type 0 where
  pub number : c ≡ suc k
  pub within : k < length rs
  pub here : at rs k ≡ Some v

at-some : {X : Type 0} (xs : List (Option X)) (k : ℕ) (x : X) → at xs k ≡ Some x → k < length xs
at-some [] k x e = absurd (cc)
at-some (y ∷ xs) zero x e = omega arith
at-some (y ∷ xs) (suc k) x e = let less = at-some xs k x e in omega (arith, less)

-- client c is here, by a look at its place
pub found : {A : Type 0} (rs ws : List (Option (Kept A))) (c k : ℕ) (slot : Option (Kept A)) (v : Kept A) → ws ≡ rs → (c ≡ k + 1) × (k < length ws)
    → slot ≡ get_or rs k slot → slot ≡ Some v → IsHere rs c k v
found rs ws c k slot v same place look is =
    let less : k < length rs = rw (← same) place.1 in
    record { number = omega (arith, place.0); within = less; here = sym (at-within rs k slot less) ∙ sym look ∙ is }

-- client c is here, by its number
pub here-of : {A : Type 0} (rs : List (Option (Kept A))) (c : ℕ) (v : Kept A) → Some v ≡ resident_at rs c → (k : ℕ) × IsHere rs c k v
here-of rs zero v e = absurd (cc)
here-of rs (suc k) v e = (k, record { number = refl; within = at-some rs k v (sym e); here = sym e })

pub here-at : {A : Type 0} (rs : List (Option (Kept A))) (c : ℕ) (v : Kept A) → Some v ≡ resident_at rs c → IsHere rs c (c - 1) v
here-at rs zero v e = absurd (cc)
here-at rs (suc k) v e =
    let same : suc k - 1 ≡ k = omega arith in
    subst (λ n. IsHere rs (suc k) n v) (sym same) (record { number = refl; within = at-some rs k v (sym e); here = sym e })

-- it is the one with its number
pub here-is : {A : Type 0} (rs : List (Option (Kept A))) (c k : ℕ) (v w : Kept A) → IsHere rs c k v → Some w ≡ resident_at rs c → w ≡ v
here-is rs c k v w is e = same_Some w v (e ∙ ap (λ (n : ℕ). resident_at rs n) is.number ∙ is.here)

-- a client put at a place is here
pub put-here : {A : Type 0} (rs : List (Option (Kept A))) (c k : ℕ) (v new : Kept A) → IsHere rs c k v → IsHere (set rs k (Some new)) c k new
put-here rs c k v new is =
    let put = put-set k (Some new) rs is.within in
    record { number = is.number; within = rw put.count is.within; here = put.here }

-- ---- nobody

place-none : (x : Option ClientView) (o : Option OwnedView) (r : Option Resident) → IsPlace x o r → x ≡ None → r ≡ None
place-none None None None here none = refl
place-none (Some v) o r here none = absurd (cc)
place-none None None (Some s) here none = absurd here
place-none None (Some o) None here none = absurd here
place-none None (Some o) (Some s) here none = absurd here

pub nobody : {A : Type 0} (output : Output) (rs : List (Option (Kept A))) (pile : Pile) (c : ℕ) (d : Desktop) → resident_at rs c ≡ None
    → Matches (view_of output rs pile) d → client_at c d ≡ None
nobody output rs pile zero d none a = refl
nobody {A} output rs pile (suc k) d none a =
    let w = view_of output rs pile in
    place-none (at w.clients k) (at w.owned k) (client_at (suc k) d) (place-at w d k a)
    (at-map (λ (r : Kept A). r.client) rs k ∙ ap (λ (o : Option (Kept A)). option_map (λ (r : Kept A). r.client) o) none)

-- 0 is no number, and there are as many as places
pub past : {A : Type 0} (rs : List (Option (Kept A))) (c : ℕ) → (c ≡ 0) ⊎ (length rs < c) → resident_at rs c ≡ None
past rs zero h = refl
past rs (suc k) (inl h) = absurd (omega (arith, h))
past rs (suc k) (inr h) = at-past rs k (omega (arith, h))

-- there is nobody, by a look at the place, and what is put there changes nothing
pub empty-slot : {A : Type 0} (rs ws : List (Option (Kept A))) (c k : ℕ) (slot : Option (Kept A)) → ws ≡ rs → (c ≡ k + 1) × (k < length ws)
    → slot ≡ get_or rs k slot → slot ≡ None → (resident_at rs c ≡ None) × (set rs k slot ≡ rs)
empty-slot {A} rs ws c k slot same place look none =
    let less : k < length rs = rw (← same) place.1 in
    let number : c ≡ suc k = omega (arith, place.0) in (
      ap (λ (n : ℕ). resident_at rs n) number ∙ sym (at-within rs k slot less) ∙ sym look ∙ none,
      ap (λ (x : Option (Kept A)). set rs k x) look ∙ set-get_or rs k slot,
    )

-- whatever desktop agrees has no client c
abbrev pub IsMissing : ℕ → MarkedDesk → Type 0
IsMissing c v = (d : Desktop) → Matches v.desk d → client_at c d ≡ None

abbrev pub marked : DeskView → Damaged → MarkedDesk
marked v damage = record { desk = v; damage = damage }

pub missing : {A : Type 0} (output : Output) (rs : List (Option (Kept A))) (pile : Pile) (damage : Damaged) (ws : List (Option (Kept A))) (v : MarkedDesk) (c : ℕ) → ws ≡ rs
    → resident_at ws c ≡ None → marked (view_of output rs pile) damage ≡ v → IsMissing c v
missing {A} output rs pile damage ws v c same none view d a =
    nobody output rs pile c d (subst (λ (xs : List (Option (Kept A))). resident_at xs c ≡ None) same none) (subst (λ (m : MarkedDesk). Matches m.desk d) (sym view) a)

-- the view stays where the places do
pub still : {A : Type 0} (output : Output) (rs : List (Option (Kept A))) (pile : Pile) (damage : Damaged) (vs : List (Option (Kept A))) (v : MarkedDesk) → vs ≡ rs
    → marked (view_of output rs pile) damage ≡ v → marked (view_of output vs pile) damage ≡ v
still {A} output rs pile damage vs v same view = ap (λ (xs : List (Option (Kept A))). marked (view_of output xs pile) damage) same ∙ view

-- ---- what is to be painted stays

pub as-large : (new old : MarkedDesk) → new ≡ old → IsAsLarge old.damage new.damage
as-large new old same = record { width = ap (λ (m : MarkedDesk). m.damage.width) same; height = ap (λ (m : MarkedDesk). m.damage.height) same }

pub none-marked : (new old : MarkedDesk) → new ≡ old → MarksNothing old new
none-marked new old same d a x y wide high = ap (λ (m : MarkedDesk). has m.damage x y) same

pub was-marked : (new old : MarkedDesk) (b : Bool) (x y : ℕ) → new ≡ old → has new.damage x y ≡ true → (has old.damage x y || b) ≡ true
was-marked new old b x y same marked = ap (λ t. t || b) (sym (ap (λ (m : MarkedDesk). has m.damage x y) same) ∙ marked)

-- ---- one place

module _ {A : Type 0} (rs : List (Option (Kept A))) (k : ℕ) where
  pub client-here : (v : Kept A) → at rs k ≡ Some v → at (client_views rs) k ≡ Some v.client
  client-here v e = at-map (λ (r : Kept A). r.client) rs k ∙ ap (λ (o : Option (Kept A)). option_map (λ (r : Kept A). r.client) o) e

  pub owned-here : (v : Kept A) → at rs k ≡ Some v → at (owned_views rs) k ≡ Some (owned_view v)
  owned-here v e =
      at-map (λ (r : Kept A). owned_view r) rs k ∙ ap (λ (o : Option (Kept A)). option_map (λ (r : Kept A). owned_view r) o) e

  pub clients-within : k < length rs → k < length (client_views rs)
  clients-within h = rw (map-length (option_map (λ (r : Kept A). r.client)) rs) h

  pub client-put : (x : Option (Kept A)) → k < length rs
      → IsPut k (option_map (λ (r : Kept A). r.client) x) (client_views rs) (client_views (set rs k x))
  client-put x h = put-map (λ (r : Kept A). r.client) k x rs (set rs k x) (put-set k x rs h)

  pub owned-put : (x : Option (Kept A)) → k < length rs
      → IsPut k (option_map (λ (r : Kept A). owned_view r) x) (owned_views rs) (owned_views (set rs k x))
  owned-put x h = put-map (λ (r : Kept A). owned_view r) k x rs (set rs k x) (put-set k x rs h)

-- ---- free places

pub lowest-map : {X Y : Type 0} (f : X → Y) (xs : List (Option X)) → lowest (map (option_map f) xs) ≡ lowest xs
lowest-map f [] = refl
lowest-map f (None ∷ xs) = refl
lowest-map f (Some x ∷ xs) = ap (λ (o : Option ℕ). next_of o) (lowest-map f xs)

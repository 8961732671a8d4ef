-- What is kept of a client, and the window that is lent of one of the output.
use Rattle.std.proofs.Common.{◌≡◌, ℕ, zero, suc, ◌<◌, ◌≤◌, ◌-◌, List, Option, Some, None, true, false, refl, ap, sym, subst, ◌∙◌, map, length, get_or, set, Vec, arith}
use Rattle.std.specs.Prelude.{nat_lt, slice_get}
use Rattle.std.specs.Option.{option_map}
use Rattle.std.specs.Vec.{with_item}
use Rattle.std.proofs.Math.Nat.{ℕ_set}
use Rattle.std.proofs.lemmas.Bool.Decides.{nat_tests}
use Rattle.std.proofs.lemmas.List.{length-map, set-get_or}
use Rattle.std.proofs.lemmas.Option.{slice_get-get_or, slice_get-map}
use Rattle.wl_geom.specs.Region.{Area}
use Rattle.wl_surface.specs.Kept.{counting_of}
use Rattle.wl_surface.specs.Slots.{Slots, kept_at}
use Rattle.wl_paint.specs.Window.{Window}
use Rattle.wl_scene.specs.declared.stacked.Stacked.{Stacked}
use Rattle.wl_clients.specs.LentPictures.{window_kept, window_lent}
use Rattle.wl_scene.specs.Hit.{slots_or_none}
use Rattle.wl_requests.specs.declared.residents.Resident.{Resident as Kept}
use Rattle.wl_clients.specs.View.{OwnedView, owned_view}
use Rattle.wl_clients.specs.Lent.{client_lent, slots_lent}
use Rattle.wl_clients.specs.Residents.{client_views, owned_views, resident_at}
use Rattle.wl_clients.proofs.Desktops.{at, at-map, at-past, at-within}

-- there is no client 0
pub at-zero : {A : Type 0} (rs : List (Option (Kept A))) (c : ℕ) → (1 ≤ c → ⊥) → None ≡ resident_at rs c
at-zero rs zero none = refl
at-zero rs (suc n) none = absurd (none (omega arith))

-- a client, by a look at its place
pub at-place : {A : Type 0} (rs : List (Option (Kept A))) (c index : ℕ) (slot : Option (Kept A)) → 1 ≤ c → index ≡ c - 1 → true ≡ nat_lt index (length rs)
    → slot ≡ get_or rs index slot → slot ≡ resident_at rs c
at-place rs zero index slot some is within e = absurd (omega (arith, some))
at-place rs (suc n) index slot some is within e =
    let same : index ≡ n = omega (arith, is) in
    let less : index < length rs = grind (arith, nat_tests) in
    e ∙ (at-within rs index slot less ∙ ap (λ (i : ℕ). at rs i) same)

-- there is no client whose place lies past the end
pub past-end : {A : Type 0} (rs : List (Option (Kept A))) (c index : ℕ) → 1 ≤ c → index ≡ c - 1 → false ≡ nat_lt index (length rs) → None ≡ resident_at rs c
past-end rs zero index some is past = absurd (omega (arith, some))
past-end rs (suc n) index some is past =
    let same : index ≡ n = omega (arith, is) in
    let more : length rs ≤ index = grind (arith, nat_tests) in
    sym (at-past rs index more) ∙ ap (λ (i : ℕ). at rs i) same

-- what is lent of the clients is what each has
lends-client : {A : Type 0} (rs : List (Option (Kept A))) (c : ℕ) → client_lent (client_views rs) c ≡ option_map (λ (r : Kept A). r.client) (resident_at rs c)
lends-client rs zero = refl
lends-client {A} rs (suc n) = at-map (λ (r : Kept A). r.client) rs n

-- and of its surfaces
abbrev surfaces_of : {A : Type 0} → Option (Kept A) → Option Slots
surfaces_of {A} o = option_map (λ (r : Kept A). r.owned.surfaces.states) o

seen-surfaces : {A : Type 0} (o : Option (Kept A)) → option_map (λ (v : OwnedView). v.surfaces) (option_map (λ (r : Kept A). owned_view r) o) ≡ surfaces_of o
seen-surfaces None = refl
seen-surfaces (Some r) = refl

lends-owned : {A : Type 0} (rs : List (Option (Kept A))) (c : ℕ) → slots_lent (owned_views rs) c ≡ slots_or_none (surfaces_of (resident_at rs c))
lends-owned rs zero = refl
lends-owned {A} rs (suc n) =
    ap (λ (o : Option OwnedView). slots_or_none (option_map (λ (v : OwnedView). v.surfaces) o)) (at-map (λ (r : Kept A). owned_view r) rs n)
    ∙ ap slots_or_none (seen-surfaces (at rs n))

-- the surfaces of a client are those of the one that is found
pub lends-surfaces : {A : Type 0} (rs : List (Option (Kept A))) (c : ℕ) (o : Option (Kept A)) → o ≡ resident_at rs c → slots_or_none (surfaces_of o) ≡ slots_lent (owned_views rs) c
lends-surfaces rs c o is = ap (λ (x : Option (Kept _)). slots_or_none (surfaces_of x)) is ∙ sym (lends-owned rs c)

-- the window of one of the output, by its client
pub window-of : {A : Type 0} (rs : List (Option (Kept A))) (nowhere : Area) (s : Stacked) (o : Option (Kept A)) → o ≡ resident_at rs s.client
    → window_kept (option_map (λ (r : Kept A). r.client) o) nowhere s.window (option_map counting_of (kept_at (slots_or_none (surfaces_of o)) s.window.surface))
    ≡ window_lent (client_lent (client_views rs)) (slots_lent (owned_views rs)) nowhere s
window-of rs nowhere s o is = rw (lends-client, lends-owned, ← is) refl

-- the window of one, by a look at its place
pub lent-at : (lent : Stacked → Window) (all : List Stacked) (k : ℕ) (stacked : Stacked) (window : Window) → k < length (map lent all) → window ≡ lent (get_or all k stacked)
    → slice_get (map lent all) k ≡ Some window
lent-at lent all k stacked window within e =
    let less : k < length all = rw length-map at within in
    slice_get-map lent all k ∙ ap (λ (o : Option Stacked). option_map lent o) (slice_get-get_or all k stacked less) ∙ ap Some (sym e)

-- ---- a client is lent to be changed

abbrev of-items : {X Z : Type 0} (v : Vec X Z) (xs : List X) → v.len ≡ length xs → Vec X Z
of-items v xs e = record { ptr = v.ptr; len = v.len; cap = v.cap; alloc = v.alloc; items = xs; ok = (e, v.ok.1); small = v.small }

same-items : {X Z : Type 0} (v : Vec X Z) (xs ys : List X) → xs ≡ ys → (e : v.len ≡ length xs) (f : v.len ≡ length ys) → of-items v xs e ≡ of-items v ys f
same-items {X} v xs ys same e f =
    subst (λ (zs : List X). (g : v.len ≡ length zs) → of-items v xs e ≡ of-items v zs g) same
    (λ g. ap (λ (h : v.len ≡ length xs). of-items v xs h) (ℕ_set v.len (length xs) e g)) f

-- an element put in its own place changes nothing
pub put-same : {X Z : Type 0} (v : Vec X Z) (k : ℕ) (x : X) → x ≡ get_or v.items k x → with_item v k x ≡ v
put-same v k x same =
    same-items v (set v.items k x) v.items (ap (λ y. set v.items k y) same ∙ set-get_or v.items k x) (with_item v k x).ok.0 v.ok.0

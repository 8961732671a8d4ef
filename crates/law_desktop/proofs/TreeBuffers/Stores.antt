-- Two stores have one use less each, in either order.
use Rattle.std.proofs.Common.{◌≡◌, ℕ, ◌-◌, List, ◌∷◌, Bool, true, false, Option, Some, cond, refl, ap, sym, ◌∙◌, map, []}
use Rattle.std.proofs.lemmas.Bool.{eqb-true}
use Rattle.std.specs.Prelude.{◌==◌, not, filter, find, is_some, nat_le}
use Rattle.std.specs.Option.{option_map_or}
use Rattle.spec_desktop.specs.Peer.{released}
use Rattle.wl_store.specs.Stores.{Held, Stock, store_at, with_change, without_store}
use Rattle.law_desktop.proofs.Lists.Left.{filter-swap, find-filter}

-- ---- lists

filter-map : {X : Type 0} (p : X → Bool) (f : X → X) (xs : List X) → ((x : X) → p (f x) ≡ p x)
    → filter p (map f xs) ≡ map f (filter p xs)
filter-map p f [] keeps = refl
filter-map {X} p f (x ∷ xs) keeps = at (p x) (keeps x) (filter-map p f xs keeps)
  where
    at : (b : Bool) → p (f x) ≡ b → filter p (map f xs) ≡ map f (filter p xs)
        → cond (p (f x)) (f x ∷ filter p (map f xs)) (filter p (map f xs)) ≡ map f (cond b (x ∷ filter p xs) (filter p xs))
    at true e same = ap (λ c. cond c (f x ∷ filter p (map f xs)) (filter p (map f xs))) e ∙ ap (λ ys. f x ∷ ys) same
    at false e same = ap (λ c. cond c (f x ∷ filter p (map f xs)) (filter p (map f xs))) e ∙ same

map-swap : {X : Type 0} (f g : X → X) (xs : List X) → ((x : X) → f (g x) ≡ g (f x)) → map f (map g xs) ≡ map g (map f xs)
map-swap f g [] same = refl
map-swap f g (x ∷ xs) same = ap (λ y. y ∷ map f (map g xs)) (same x) ∙ ap (λ ys. g (f x) ∷ ys) (map-swap f g xs same)

-- what is found doesn't change
find-map : {X : Type 0} (p : X → Bool) (f : X → X) (xs : List X) → ((x : X) → p (f x) ≡ p x) → ((x : X) → p x ≡ true → f x ≡ x)
    → find p (map f xs) ≡ find p xs
find-map p f [] keeps stays = refl
find-map {X} p f (x ∷ xs) keeps stays = at (p x) refl (keeps x) (find-map p f xs keeps stays)
  where
    at : (b : Bool) → p x ≡ b → p (f x) ≡ b → find p (map f xs) ≡ find p xs
        → cond (p (f x)) (Some (f x)) (find p (map f xs)) ≡ cond b (Some x) (find p xs)
    at true e passes same = ap (λ c. cond c (Some (f x)) (find p (map f xs))) passes ∙ ap (λ y. Some y) (stays x e)
    at false e fails same = ap (λ c. cond c (Some (f x)) (find p (map f xs))) fails ∙ same

-- ---- a store has one use less

abbrev one : ℕ → Held → Held
one a s = cond (s.number == a) (record s { uses = s.uses - 1 }) s

-- it isn't there, or it goes, or it has one use less
abbrev acting : Bool → Bool → ℕ → Stock → Stock
acting there last a s = cond there (cond last (without_store a s) (with_change a (λ s. record s { uses = s.uses - 1 }) s)) s

abbrev acting_on : Option Held → ℕ → Stock → Stock
acting_on o a s = acting (is_some o) (nat_le (option_map_or (λ s. s.uses) o 0) 1) a s

one-number : (c : Bool) (x : Held) → (cond c (record x { uses = x.uses - 1 }) x).number ≡ x.number
one-number true x = refl
one-number false x = refl

abbrev when : Bool → Held → Held
when c x = cond c (record x { uses = x.uses - 1 }) x

both : (c d : Bool) (x : Held) → when c (when d x) ≡ when d (when c x)
both true true x = refl
both true false x = refl
both false true x = refl
both false false x = refl

one-swap : (a b : ℕ) (x : Held) → one a (one b x) ≡ one b (one a x)
one-swap a b x =
    ap (λ n. when (n == a) (one b x)) (one-number (x.number == b) x)
    ∙ both (x.number == a) (x.number == b) x
    ∙ sym (ap (λ n. when (n == b) (one a x)) (one-number (x.number == a) x))

kept : (a b : ℕ) (x : Held) → not ((one b x).number == a) ≡ not (x.number == a)
kept a b x = ap (λ n. not (n == a)) (one-number (x.number == b) x)

abbrev holding : Stock → List Held → Stock
holding s held = record s { held = held }

acting-swap : (t l u m : Bool) (a b : ℕ) (s : Stock) → acting t l a (acting u m b s) ≡ acting u m b (acting t l a s)
acting-swap false l u m a b s = refl
acting-swap true l false m a b s = refl
acting-swap true true true true a b s =
    ap (holding s) (filter-swap (λ (x : Held). not (x.number == a)) (λ x. not (x.number == b)) s.held)
acting-swap true true true false a b s = ap (holding s) (filter-map (λ x. not (x.number == a)) (one b) s.held (kept a b))
acting-swap true false true true a b s = ap (holding s) (sym (filter-map (λ x. not (x.number == b)) (one a) s.held (kept b a)))
acting-swap true false true false a b s = ap (holding s) (map-swap (one a) (one b) s.held (one-swap a b))

-- another is found as before
other-found : (a b : ℕ) → (a == b) ≡ false → (u m : Bool) (s : Stock) → store_at a (acting u m b s) ≡ store_at a s
other-found a b other false m s = refl
other-found a b other true true s =
    find-filter (λ (x : Held). x.number == a) (λ x. not (x.number == b)) s.held
    (λ x e. ap (λ n. not (n == b)) (eqb-true x.number a e) ∙ ap not other)
other-found a b other true false s =
    find-map (λ (x : Held). x.number == a) (one b) s.held (λ x. ap (λ n. n == a) (one-number (x.number == b) x))
    (λ x e. ap (λ c. when c x) (ap (λ n. n == b) (eqb-true x.number a e) ∙ other))

apart-commute : (a b : ℕ) (s : Stock) → (a == b) ≡ false → (b == a) ≡ false → released a (released b s) ≡ released b (released a s)
apart-commute a b s e f =
    let t : Bool = is_some (store_at a s) in
    let l : Bool = nat_le (option_map_or (λ (s : Held). s.uses) (store_at a s) 0) 1 in
    let u : Bool = is_some (store_at b s) in
    let m : Bool = nat_le (option_map_or (λ (s : Held). s.uses) (store_at b s) 0) 1 in
    ap (λ o. acting_on o a (acting u m b s)) (other-found a b e u m s)
    ∙ acting-swap t l u m a b s
    ∙ sym (ap (λ o. acting_on o b (acting t l a s)) (other-found b a f t l s))

pub commute : (a b : ℕ) (s : Stock) → released a (released b s) ≡ released b (released a s)
commute a b s = at (a == b) (b == a) refl refl
  where
    same-one : a ≡ b → released a (released b s) ≡ released b (released a s)
    same-one e = ap (λ n. released n (released b s)) e ∙ ap (λ n. released b (released n s)) (sym e)

    at : (c d : Bool) → (a == b) ≡ c → (b == a) ≡ d → released a (released b s) ≡ released b (released a s)
    at true d e f = same-one (eqb-true a b e)
    at false true e f = same-one (sym (eqb-true b a f))
    at false false e f = apart-commute a b s e f

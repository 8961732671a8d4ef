-- Lists of which some or all elements pass a test.
use Rattle.std.proofs.Common.{Bool, List, [], ap, cond, false, inl, inr, map, refl, true, ◌++◌, ◌∙◌, ◌∷◌, ◌≡◌}
use Rattle.std.specs.Prelude.{◌&&◌, ◌||◌, filter}
use Rattle.std.specs.List.{AllByRecursion, list_all, list_any}
use Rattle.std.proofs.lemmas.Bool.{and_from, and_parts, or_left, or_right}
use Rattle.law_desktop.proofs.RootsOf.Away.{IsIn}
use Rattle.law_desktop.proofs.Truth.{differ}

pub all-first : {X : Type 0} (p : X → Bool) (xs ys : List X) → list_all p (xs ++ ys) ≡ true → list_all p xs ≡ true
all-first p [] ys e = refl
all-first p (x ∷ xs) ys e =
    let parts = and_parts (p x) (list_all p (xs ++ ys)) e in and_from (p x) (list_all p xs) parts.0 (all-first p xs ys parts.1)

pub all-second : {X : Type 0} (p : X → Bool) (xs ys : List X) → list_all p (xs ++ ys) ≡ true → list_all p ys ≡ true
all-second p [] ys e = e
all-second p (x ∷ xs) ys e = all-second p xs ys (and_parts (p x) (list_all p (xs ++ ys)) e).1

pub any-mapped : {X Y : Type 0} (f : X → Y) (p : Y → Bool) (xs : List X) → list_any p (map f xs) ≡ list_any (λ x. p (f x)) xs
any-mapped f p [] = refl
any-mapped f p (x ∷ xs) = ap (λ b. p (f x) || b) (any-mapped f p xs)

-- tests that agree on each of a list agree on it
pub any-as : {X : Type 0} (p q : X → Bool) (xs : List X) → AllByRecursion (λ x. p x ≡ q x) xs → list_any p xs ≡ list_any q xs
any-as p q [] each = refl
any-as p q (x ∷ xs) each = ap (λ b. b || list_any p xs) each.0 ∙ ap (λ b. q x || b) (any-as p q xs each.1)

pub each-map : {X : Type 0} (P Q : X → Type 0) → ((x : X) → P x → Q x) → (xs : List X) → AllByRecursion P xs → AllByRecursion Q xs
each-map P Q f [] each = tt
each-map P Q f (x ∷ xs) each = (f x each.0, each-map P Q f xs each.1)

-- one that passes two tests, of which the first doesn't look at it
pub any-and : {X : Type 0} (b : Bool) (p q : X → Bool) (xs : List X) → list_any (λ x. p x && (b && q x)) xs ≡ (b && list_any (λ x. p x && q x) xs)
any-and true p q xs = refl
any-and false p q [] = refl
any-and false p q (x ∷ xs) = ap (λ b. b || list_any (λ x. p x && false) xs) (never (p x)) ∙ any-and false p q xs
  where
    never : (b : Bool) → (b && false) ≡ false
    never true = refl
    never false = refl

none-of : {X : Type 0} (xs : List X) → false ≡ list_any (λ x. false) xs
none-of [] = refl
none-of (x ∷ xs) = none-of xs

any-or : {X : Type 0} (p q : X → Bool) (xs : List X) → (list_any p xs || list_any q xs) ≡ list_any (λ x. p x || q x) xs
any-or p q [] = refl
any-or p q (x ∷ xs) = four (p x) (list_any p xs) (q x) (list_any q xs) ∙ ap (λ b. (p x || q x) || b) (any-or p q xs)
  where
    four : (a b c d : Bool) → ((a || b) || (c || d)) ≡ ((a || c) || (b || d))
    four true b c d = refl
    four false true true d = refl
    four false true false d = refl
    four false false c d = refl

-- one of a list passes with one of another, as one of the other with one of it
pub any-turned : {X Y : Type 0} (p : X → Y → Bool) (xs : List X) (ys : List Y)
    → list_any (λ x. list_any (p x) ys) xs ≡ list_any (λ y. list_any (λ x. p x y) xs) ys
any-turned p [] ys = none-of ys
any-turned p (x ∷ xs) ys = ap (λ b. list_any (p x) ys || b) (any-turned p xs ys) ∙ any-or (p x) (λ y. list_any (λ x. p x y) xs) ys

-- ---- what is left of a list

-- all that are left pass, where all that pass two tests do
pub all-left : {X : Type 0} (p f q : X → Bool) → ((x : X) → p x ≡ true → f x ≡ true → q x ≡ true) → (xs : List X) → list_all p xs ≡ true
    → list_all q (filter f xs) ≡ true
all-left p f q g [] every = refl
all-left p f q g (x ∷ xs) every =
    let parts = and_parts (p x) (list_all p xs) every in at (f x) refl (g x parts.0) (all-left p f q g xs parts.1)
  where
    at : (b : Bool) → f x ≡ b → (f x ≡ true → q x ≡ true) → list_all q (filter f xs) ≡ true → list_all q (cond b (x ∷ filter f xs) (filter f xs)) ≡ true
    at true here own more = and_from (q x) (list_all q (filter f xs)) (own here) more
    at false here own more = more

pub each-left : {X : Type 0} (P : X → Type 0) (f : X → Bool) (xs : List X) → AllByRecursion P xs → AllByRecursion P (filter f xs)
each-left P f [] each = tt
each-left P f (x ∷ xs) each = at (f x) (each-left P f xs each.1)
  where
    at : (b : Bool) → AllByRecursion P (filter f xs) → AllByRecursion P (cond b (x ∷ filter f xs) (filter f xs))
    at true more = (each.0, more)
    at false more = more

pub any-in : {X : Type 0} (p : X → Bool) (x : X) (xs : List X) → IsIn x xs → p x ≡ true → list_any p xs ≡ true
any-in p x [] among is = absurd among
any-in p x (y ∷ ys) (inl same) is = or_left (p y) (list_any p ys) (ap p same ∙ is)
any-in p x (y ∷ ys) (inr among) is = or_right (p y) (list_any p ys) (any-in p x ys among is)

pub is-left : {X : Type 0} (p q : X → Bool) (x : X) (xs : List X) → IsIn x xs → q x ≡ true → p x ≡ true → list_any p (filter q xs) ≡ true
is-left p q x [] among keeps is = absurd among
is-left p q x (y ∷ ys) (inl same) keeps is =
    ap (λ b. list_any p (cond b (y ∷ filter q ys) (filter q ys))) (ap q same ∙ keeps) ∙ or_left (p y) (list_any p (filter q ys)) (ap p same ∙ is)
is-left p q x (y ∷ ys) (inr among) keeps is = at (q y) (is-left p q x ys among keeps is)
  where
    at : (b : Bool) → list_any p (filter q ys) ≡ true → list_any p (cond b (y ∷ filter q ys) (filter q ys)) ≡ true
    at true later = or_right (p y) (list_any p (filter q ys)) later
    at false later = later

-- one of a list that passes is among it
pub one-that : {X : Type 0} (P : Type 0) (p : X → Bool) (xs : List X) → list_any p xs ≡ true → ((x : X) → IsIn x xs → p x ≡ true → P) → P
one-that P p [] e f = absurd (differ e)
one-that P p (x ∷ xs) e f = at (p x) refl e (λ more. one-that P p xs more (λ y among is. f y (inr among) is))
  where
    at : (b : Bool) → p x ≡ b → (b || list_any p xs) ≡ true → (list_any p xs ≡ true → P) → P
    at true is g later = f x (inl refl) is
    at false is g later = later g

-- Lists of which some or all elements pass a test.
use Rattle.std.proofs.Common.{Bool, List, None, Some, [], ap, cond, false, refl, sym, true, ◌++◌, ◌∙◌, ◌∷◌, ◌≡◌}
use Rattle.std.specs.Prelude.{filter, find, ◌&&◌, ◌||◌}
use Rattle.std.specs.List.{list_all, list_any}
use Rattle.std.proofs.lemmas.Bool.{or_left, or_right}
use Rattle.std.proofs.lemmas.List.Folds.{list_any-append}
use Rattle.law_desktop.proofs.Truth.{and-left, and-right, differ, either-more, either-none, either-of, or-false, or-left, or-right}
use Rattle.law_desktop.proofs.Lists.Each.{Each, each-map}

-- ---- one of a list

-- what follows from each of a list that passes
pub any-of : {X : Type 0} (P : Type 0) (p : X → Bool) (xs : List X) → list_any p xs ≡ true → ((x : X) → p x ≡ true → P) → P
any-of P p [] e f = absurd (differ e)
any-of P p (x ∷ xs) e f = either-of P (p x) (list_any p xs) e (f x) (λ g. any-of P p xs g f)

pub any-more : {X : Type 0} (p q : X → Bool) → ((x : X) → p x ≡ true → q x ≡ true) → (xs : List X) → list_any p xs ≡ true → list_any q xs ≡ true
any-more p q f [] e = e
any-more p q f (x ∷ xs) e = either-more (p x) (list_any p xs) (q x) (list_any q xs) e (f x) (any-more p q f xs)

-- one that has it, and all that don't
pub any-each : {X : Type 0} (q P : X → Bool) (xs : List X) → list_any q xs ≡ true → Each (λ x. P x ≡ false) xs → ((x : X) → q x ≡ true → P x ≡ true) → ⊥
any-each q P [] e none f = differ e
any-each q P (x ∷ xs) e none f = either-none (q x) (list_any q xs) e (λ g. differ (sym none.0 ∙ f x g)) (λ g. any-each q P xs g none.1 f)

-- one that passes a first test passes a second, where that follows for each that has something more
pub any-each-more : {X : Type 0} (p q : X → Bool) (P : X → Type 0) → ((x : X) → P x → p x ≡ true → q x ≡ true) → (xs : List X)
    → Each P xs → list_any p xs ≡ true → list_any q xs ≡ true
any-each-more p q P f [] each e = e
any-each-more p q P f (x ∷ xs) each e =
    either-of ((q x || list_any q xs) ≡ true) (p x) (list_any p xs) e (λ g. or_left (q x) (list_any q xs) (f x each.0 g))
    (λ g. or_right (q x) (list_any q xs) (any-each-more p q P f xs each.1 g))

-- tests that agree on each of a list agree on it
pub any-as : {X : Type 0} (p q : X → Bool) (xs : List X) → Each (λ x. p x ≡ q x) xs → list_any p xs ≡ list_any q xs
any-as p q [] each = refl
any-as p q (x ∷ xs) each = ap (λ b. b || list_any p xs) each.0 ∙ ap (λ b. q x || b) (any-as p q xs each.1)

pub any-none : {X : Type 0} (p : X → Bool) (xs : List X) → Each (λ x. p x ≡ false) xs → list_any p xs ≡ false
any-none p [] each = refl
any-none p (x ∷ xs) each = ap (λ b. b || list_any p xs) each.0 ∙ any-none p xs each.1

-- ---- what is found

pub none-any : {X : Type 0} (p : X → Bool) (xs : List X) → find p xs ≡ None → list_any p xs ≡ false
none-any p [] e = refl
none-any p (y ∷ ys) e = at (p y) (none-any p ys) e
  where
    at : (b : Bool) → (find p ys ≡ None → list_any p ys ≡ false) → cond b (Some y) (find p ys) ≡ None → (b || list_any p ys) ≡ false
    at true later e = absurd (cc)
    at false later e = later e

pub find-none : {X : Type 0} (p : X → Bool) (xs : List X) → list_any p xs ≡ false → find p xs ≡ None
find-none p [] none = refl
find-none p (x ∷ xs) none = ap (λ b. cond b (Some x) (find p xs)) (or-left (p x) (list_any p xs) none) ∙ find-none p xs (or-right (p x) (list_any p xs) none)

-- ---- all of a list

pub each-false : {X : Type 0} (p : X → Bool) (xs : List X) → list_any p xs ≡ false → Each (λ x. p x ≡ false) xs
each-false p [] e = tt
each-false p (x ∷ xs) e = (or-left (p x) (list_any p xs) e, each-false p xs (or-right (p x) (list_any p xs) e))

pub each-all : {X : Type 0} (p : X → Bool) (xs : List X) → list_all p xs ≡ true → Each (λ x. p x ≡ true) xs
each-all p [] e = tt
each-all p (x ∷ xs) e = (and-left (p x) (list_all p xs) e, each-all p xs (and-right (p x) (list_all p xs) e))

pub all-each : {X : Type 0} (p : X → Bool) (xs : List X) → Each (λ x. p x ≡ true) xs → list_all p xs ≡ true
all-each p [] each = refl
all-each p (x ∷ xs) each = ap (λ b. b && list_all p xs) each.0 ∙ all-each p xs each.1

-- ---- one list after the other

pub any-first : {X : Type 0} (p : X → Bool) (xs ys : List X) → list_any p xs ≡ true → list_any p (xs ++ ys) ≡ true
any-first p xs ys e = list_any-append p xs ys ∙ or_left (list_any p xs) (list_any p ys) e

pub any-second : {X : Type 0} (p : X → Bool) (xs ys : List X) → list_any p ys ≡ true → list_any p (xs ++ ys) ≡ true
any-second p xs ys e = list_any-append p xs ys ∙ or_right (list_any p xs) (list_any p ys) e

pub none-first : {X : Type 0} (p : X → Bool) (xs ys : List X) → list_any p (xs ++ ys) ≡ false → list_any p xs ≡ false
none-first p xs ys e = or-left (list_any p xs) (list_any p ys) (sym (list_any-append p xs ys) ∙ e)

pub none-second : {X : Type 0} (p : X → Bool) (xs ys : List X) → list_any p (xs ++ ys) ≡ false → list_any p ys ≡ false
none-second p xs ys e = or-right (list_any p xs) (list_any p ys) (sym (list_any-append p xs ys) ∙ e)

-- one of three lists, one after the other
pub any-three : {X : Type 0} (P : Type 0) (p : X → Bool) (xs ys zs : List X) → list_any p (xs ++ (ys ++ zs)) ≡ true
    → (list_any p xs ≡ true → P) → (list_any p ys ≡ true → P) → (list_any p zs ≡ true → P) → P
any-three P p xs ys zs e f g h =
    either-of P (list_any p xs) (list_any p (ys ++ zs)) (sym (list_any-append p xs (ys ++ zs)) ∙ e) f
    (λ rest. either-of P (list_any p ys) (list_any p zs) (sym (list_any-append p ys zs) ∙ rest) g h)

-- where the outer two have none
pub any-middle : {X : Type 0} (p : X → Bool) (xs ys zs : List X) → list_any p xs ≡ false → list_any p zs ≡ false
    → list_any p (xs ++ (ys ++ zs)) ≡ list_any p ys
any-middle p xs ys zs e f =
    list_any-append p xs (ys ++ zs) ∙ ap (λ b. b || list_any p (ys ++ zs)) e ∙ list_any-append p ys zs ∙ ap (λ b. list_any p ys || b) f ∙ or-false (list_any p ys)

-- ---- what is left of a list

pub filter-all : {X : Type 0} (p : X → Bool) (xs : List X) → Each (λ x. p x ≡ true) xs → filter p xs ≡ xs
filter-all p [] each = refl
filter-all p (x ∷ xs) each = ap (λ b. cond b (x ∷ filter p xs) (filter p xs)) each.0 ∙ ap (λ ys. x ∷ ys) (filter-all p xs each.1)

pub filter-none : {X : Type 0} (p : X → Bool) (xs : List X) → list_any p xs ≡ false → filter p xs ≡ []
filter-none p [] none = refl
filter-none p (x ∷ xs) none =
    ap (λ b. cond b (x ∷ filter p xs) (filter p xs)) (or-left (p x) (list_any p xs) none)
    ∙ filter-none p xs (or-right (p x) (list_any p xs) none)

-- ---- tests of two

-- where none of one list passes with any of another, none of the other passes with any of it
pub none-turned : {X : Type 0} (p : X → X → Bool) (xs ys : List X) → Each (λ x. list_any (p x) ys ≡ false) xs
    → Each (λ y. list_any (λ x. p x y) xs ≡ false) ys
none-turned p xs [] each = tt
none-turned p xs (y ∷ ys) each = (
  any-none (λ x. p x y) xs
      (each-map (λ x. (p x y || list_any (p x) ys) ≡ false) (λ x. p x y ≡ false) (λ x e. or-left (p x y) (list_any (p x) ys) e) xs each),
  none-turned p xs ys
      (each-map (λ x. (p x y || list_any (p x) ys) ≡ false) (λ x. list_any (p x) ys ≡ false) (λ x e. or-right (p x y) (list_any (p x) ys) e) xs
      each),
)

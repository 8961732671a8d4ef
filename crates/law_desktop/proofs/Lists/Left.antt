-- Lists of which some elements are left, and those of which some pass a test.
use Rattle.std.proofs.Common.{Bool, List, Some, [], ap, cond, false, refl, sym, true, ◌++◌, ◌∙◌, ◌∷◌, ◌≡◌}
use Rattle.std.specs.Prelude.{filter, find, ◌&&◌, ◌||◌}
use Rattle.std.specs.List.{AllByRecursion, list_any}
use Rattle.std.proofs.lemmas.Bool.{or_left, or_right}
use Rattle.law_desktop.proofs.Truth.{differ, either-of}
use Rattle.law_desktop.proofs.Lists.Each.{Each}

pub each-recursive : {X : Type 0} (P : X → Type 0) (xs : List X) → AllByRecursion P xs → Each P xs
each-recursive P [] each = tt
each-recursive P (x ∷ xs) each = (each.0, each-recursive P xs each.1)

-- what follows from one that passes and has something more
pub any-each-of : {X : Type 0} (P : Type 0) (p : X → Bool) (Q : X → Type 0) (xs : List X) → list_any p xs ≡ true → Each Q xs
    → ((x : X) → p x ≡ true → Q x → P) → P
any-each-of P p Q [] e each f = absurd (differ e)
any-each-of P p Q (x ∷ xs) e each f =
    either-of P (p x) (list_any p xs) e (λ g. f x g each.0) (λ g. any-each-of P p Q xs g each.1 f)

-- ---- what is left

-- where all that pass are left, one passes of those that are left as of all
pub any-left : {X : Type 0} (p f : X → Bool) (xs : List X) → Each (λ x. p x ≡ true → f x ≡ true) xs → list_any p (filter f xs) ≡ list_any p xs
any-left p f [] each = refl
any-left p f (x ∷ xs) each = at (p x) (f x) refl (each.0) (any-left p f xs each.1)
  where
    at : (b c : Bool) → p x ≡ b → (p x ≡ true → c ≡ true) → list_any p (filter f xs) ≡ list_any p xs
        → list_any p (cond c (x ∷ filter f xs) (filter f xs)) ≡ (p x || list_any p xs)
    at b true here left more = ap (λ d. p x || d) more
    at false false here left more = more ∙ ap (λ d. d || list_any p xs) (sym here)
    at true false here left more = absurd (differ (left here))

-- where all that pass go, none is left that does
pub none-left : {X : Type 0} (p f : X → Bool) (xs : List X) → Each (λ x. p x ≡ true → f x ≡ false) xs → list_any p (filter f xs) ≡ false
none-left p f [] each = refl
none-left p f (x ∷ xs) each = at (p x) (f x) refl each.0 (none-left p f xs each.1)
  where
    at : (b c : Bool) → p x ≡ b → (p x ≡ true → c ≡ false) → list_any p (filter f xs) ≡ false
        → list_any p (cond c (x ∷ filter f xs) (filter f xs)) ≡ false
    at b false here gone more = more
    at false true here gone more = ap (λ d. d || list_any p (filter f xs)) here ∙ more
    at true true here gone more = absurd (differ (sym (gone here)))

-- one that is left was there
pub any-there : {X : Type 0} (p f : X → Bool) (xs : List X) → list_any p (filter f xs) ≡ true → list_any p xs ≡ true
any-there p f [] e = e
any-there p f (x ∷ xs) e = at (f x) e (any-there p f xs)
  where
    at : (c : Bool) → list_any p (cond c (x ∷ filter f xs) (filter f xs)) ≡ true → (list_any p (filter f xs) ≡ true → list_any p xs ≡ true)
        → (p x || list_any p xs) ≡ true
    at false g more = or_right (p x) (list_any p xs) (more g)
    at true g more =
        either-of ((p x || list_any p xs) ≡ true) (p x) (list_any p (filter f xs)) g (or_left (p x) (list_any p xs))
        (λ h. or_right (p x) (list_any p xs) (more h))

pub any-filtered : {X : Type 0} (p f : X → Bool) (xs : List X) → list_any p (filter f xs) ≡ list_any (λ x. f x && p x) xs
any-filtered p f [] = refl
any-filtered p f (x ∷ xs) = at (f x) (any-filtered p f xs)
  where
    at : (c : Bool) → list_any p (filter f xs) ≡ list_any (λ z. f z && p z) xs
        → list_any p (cond c (x ∷ filter f xs) (filter f xs)) ≡ ((c && p x) || list_any (λ z. f z && p z) xs)
    at true more = ap (λ d. p x || d) more
    at false more = more

-- all that are left have what all had, and pass the test
pub each-left : {X : Type 0} (P Q : X → Type 0) (f : X → Bool) → ((x : X) → P x → f x ≡ true → Q x) → (xs : List X) → Each P xs → Each Q (filter f xs)
each-left P Q f g [] each = tt
each-left P Q f g (x ∷ xs) each = at (f x) refl (each-left P Q f g xs each.1)
  where
    at : (c : Bool) → f x ≡ c → Each Q (filter f xs) → Each Q (cond c (x ∷ filter f xs) (filter f xs))
    at true here more = (g x each.0 here, more)
    at false here more = more

-- tests that agree on each leave the same
pub filter-as : {X : Type 0} (p q : X → Bool) (xs : List X) → Each (λ x. p x ≡ q x) xs → filter p xs ≡ filter q xs
filter-as p q [] each = refl
filter-as p q (x ∷ xs) each =
    ap (λ b. cond b (x ∷ filter p xs) (filter p xs)) each.0 ∙ ap (λ ys. cond (q x) (x ∷ ys) ys) (filter-as p q xs each.1)

-- one of a list that passes, with what it is of the list
pub any-one : {X : Type 0} (P : Type 0) (p : X → Bool) (xs : List X) → list_any p xs ≡ true
    → ((x : X) → p x ≡ true → ((q : X → Bool) → q x ≡ true → list_any q xs ≡ true) → P) → P
any-one P p [] e f = absurd (differ e)
any-one P p (x ∷ xs) e f =
    either-of P (p x) (list_any p xs) e (λ g. f x g (λ q h. or_left (q x) (list_any q xs) h))
    (λ g. any-one P p xs g (λ z h more. f z h (λ q k. or_right (q x) (list_any q xs) (more q k))))

pub filter-none-each : {X : Type 0} (q : X → Bool) (xs : List X) → Each (λ x. q x ≡ false) xs → filter q xs ≡ []
filter-none-each q [] a = refl
filter-none-each q (x ∷ xs) a = ap (λ b. cond b (x ∷ filter q xs) (filter q xs)) a.0 ∙ filter-none-each q xs a.1

pub filter-swap : {X : Type 0} (p q : X → Bool) (xs : List X) → filter p (filter q xs) ≡ filter q (filter p xs)
filter-swap p q [] = refl
filter-swap {X} p q (x ∷ xs) = at (p x) (q x) refl refl (filter-swap p q xs)
  where
    at : (a b : Bool) → p x ≡ a → q x ≡ b → filter p (filter q xs) ≡ filter q (filter p xs)
        → filter p (cond b (x ∷ filter q xs) (filter q xs)) ≡ filter q (cond a (x ∷ filter p xs) (filter p xs))
    at true true e f same =
        ap (λ c. cond c (x ∷ filter p (filter q xs)) (filter p (filter q xs))) e ∙ ap (λ ys. x ∷ ys) same
        ∙ sym (ap (λ c. cond c (x ∷ filter q (filter p xs)) (filter q (filter p xs))) f)
    at true false e f same = same ∙ sym (ap (λ c. cond c (x ∷ filter q (filter p xs)) (filter q (filter p xs))) f)
    at false true e f same = ap (λ c. cond c (x ∷ filter p (filter q xs)) (filter p (filter q xs))) e ∙ same
    at false false e f same = same

-- what is found is left where the filter lets it pass
pub find-filter : {X : Type 0} (p q : X → Bool) (xs : List X) → ((x : X) → p x ≡ true → q x ≡ true) → find p (filter q xs) ≡ find p xs
find-filter p q [] passes = refl
find-filter {X} p q (x ∷ xs) passes = at (p x) (q x) refl refl (find-filter p q xs passes)
  where
    at : (a b : Bool) → p x ≡ a → q x ≡ b → find p (filter q xs) ≡ find p xs
        → find p (cond b (x ∷ filter q xs) (filter q xs)) ≡ cond a (Some x) (find p xs)
    at true true e f same = ap (λ c. cond c (Some x) (find p (filter q xs))) e
    at true false e f same = absurd (cc (passes x e))
    at false true e f same = ap (λ c. cond c (Some x) (find p (filter q xs))) e ∙ same
    at false false e f same = same

pub filter-append : {X : Type 0} (k : X → Bool) (xs ys : List X) → filter k (xs ++ ys) ≡ filter k xs ++ filter k ys
filter-append k [] ys = refl
filter-append k (x ∷ xs) ys = at (k x) (filter-append k xs ys)
  where
    at : (b : Bool) → filter k (xs ++ ys) ≡ filter k xs ++ filter k ys → cond b (x ∷ filter k (xs ++ ys)) (filter k (xs ++ ys)) ≡ cond b (x ∷ filter k xs) (filter k xs) ++ filter k ys
    at true e = ap (λ zs. x ∷ zs) e
    at false e = e

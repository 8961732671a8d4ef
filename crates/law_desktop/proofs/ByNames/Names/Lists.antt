-- Lists of which each element is another one.
use Rattle.std.proofs.Common.{◌≡◌, Bool, true, false, cond, Some, List, [], ◌∷◌, ◌++◌, map, refl, ap, ap₂, sym, subst, ◌∙◌}
use Rattle.std.specs.Prelude.{filter, find, fold}
use Rattle.std.specs.List.{AllByRecursion as Each}
use Rattle.std.specs.Option.{option_map}

-- ---- what is true of each element

pub each-from : {X : Type 0} (P : X → Type 0) → ((x : X) → P x) → (xs : List X) → Each P xs
each-from P all [] = tt
each-from P all (x ∷ xs) = (all x, each-from P all xs)

pub each-weaker : {X : Type 0} (P Q : X → Type 0) → ((x : X) → P x → Q x) → (xs : List X) → Each P xs → Each Q xs
each-weaker P Q weaker [] each = tt
each-weaker P Q weaker (x ∷ xs) each = (weaker x each.0, each-weaker P Q weaker xs each.1)

pub each-mapped : {X Y : Type 0} (P : Y → Type 0) (h : X → Y) (xs : List X) → Each (λ x. P (h x)) xs → Each P (map h xs)
each-mapped P h [] each = tt
each-mapped P h (x ∷ xs) each = (each.0, each-mapped P h xs each.1)

pub each-append : {X : Type 0} (P : X → Type 0) (xs ys : List X) → Each P xs → Each P ys → Each P (xs ++ ys)
each-append P [] ys each more = more
each-append P (x ∷ xs) ys each more = (each.0, each-append P xs ys each.1 more)

pub each-both : {X : Type 0} (P Q : X → Type 0) (xs : List X) → Each P xs → Each Q xs → Each (λ x. P x × Q x) xs
each-both P Q [] these those = tt
each-both P Q (x ∷ xs) these those = ((these.0, those.0), each-both P Q xs these.1 those.1)

-- of what a filter keeps, its test is true too
pub each-filtered : {X : Type 0} (p : X → Bool) (P : X → Type 0) (xs : List X) → Each P xs → Each (λ x. P x × (p x ≡ true)) (filter p xs)
each-filtered p P [] each = tt
each-filtered {X} p P (x ∷ xs) each = at (p x) refl (each-filtered p P xs each.1)
  where
    at : (b : Bool) → p x ≡ b → Each (λ (y : X). P y × (p y ≡ true)) (filter p xs) → Each (λ (y : X). P y × (p y ≡ true)) (cond b (x ∷ filter p xs) (filter p xs))
    at true is rest = ((each.0, is), rest)
    at false is rest = rest

-- what is found is one of them, and passes the test
pub found : {X : Type 0} (p : X → Bool) (P : X → Type 0) (xs : List X) → Each P xs → (y : X) → find p xs ≡ Some y → P y × (p y ≡ true)
found p P [] each y e = absurd (cc)
found p P (x ∷ xs) each y e = at (p x) refl (found p P xs each.1 y) e
  where
    at : (b : Bool) → p x ≡ b → (find p xs ≡ Some y → P y × (p y ≡ true)) → cond b (Some x) (find p xs) ≡ Some y → P y × (p y ≡ true)
    at true is later e = let same : x ≡ y = cc in (subst P same each.0, ap p (sym same) ∙ is)
    at false is later e = later e

-- ---- what is made of a list of other elements

pub find-mapped : {X Y : Type 0} (p : X → Bool) (q : Y → Bool) (g : X → Y) (xs : List X) → Each (λ x. q (g x) ≡ p x) xs
    → find q (map g xs) ≡ option_map g (find p xs)
find-mapped p q g [] each = refl
find-mapped p q g (x ∷ xs) each = at (p x) (q (g x)) each.0 (find-mapped p q g xs each.1)
  where
    at : (b c : Bool) → c ≡ b → find q (map g xs) ≡ option_map g (find p xs)
        → cond c (Some (g x)) (find q (map g xs)) ≡ option_map g (cond b (Some x) (find p xs))
    at true c e next = rw e refl
    at false c e next = rw e next

pub filter-mapped : {X Y : Type 0} (p : X → Bool) (q : Y → Bool) (g : X → Y) (xs : List X) → Each (λ x. q (g x) ≡ p x) xs
    → filter q (map g xs) ≡ map g (filter p xs)
filter-mapped p q g [] each = refl
filter-mapped p q g (x ∷ xs) each = at (p x) (q (g x)) each.0 (filter-mapped p q g xs each.1)
  where
    at : (b c : Bool) → c ≡ b → filter q (map g xs) ≡ map g (filter p xs)
        → cond c (g x ∷ filter q (map g xs)) (filter q (map g xs)) ≡ map g (cond b (x ∷ filter p xs) (filter p xs))
    at true c e next = rw e (ap (λ ys. g x ∷ ys) next)
    at false c e next = rw e next

-- two ways around a square
pub map-both : {X Y Z W : Type 0} (g : X → Y) (k : Y → W) (h : X → Z) (m : Z → W) (xs : List X) → Each (λ x. k (g x) ≡ m (h x)) xs
    → map k (map g xs) ≡ map m (map h xs)
map-both g k h m [] each = refl
map-both {W = W} g k h m (x ∷ xs) each = ap₂ (λ (y : W) (ys : List W). y ∷ ys) each.0 (map-both g k h m xs each.1)

-- what each step of a fold keeps is kept, and so is what a change makes of each step
pub fold-mapped : {S X Y : Type 0} (step : S → X → S) (other : S → Y → S) (change : S → S) (g : X → Y) (Good : S → Type 0) (P : X → Type 0)
    → ((s : S) (x : X) → Good s → P x → Good (step s x) × (other (change s) (g x) ≡ change (step s x)))
    → (xs : List X) → Each P xs → (s : S) → Good s → Good (fold step s xs) × (fold other (change s) (map g xs) ≡ change (fold step s xs))
fold-mapped step other change g Good P one [] each s good = (good, refl)
fold-mapped {S} step other change g Good P one (x ∷ xs) each s good =
    let next = one s x good each.0 in
    let rest = fold-mapped step other change g Good P one xs each.1 (step s x) next.0 in
    (rest.0, ap (λ (t : S). fold other t (map g xs)) next.1 ∙ rest.1)

-- two ways to make one list
pub map-same : {X Y : Type 0} (g h : X → Y) (xs : List X) → Each (λ x. g x ≡ h x) xs → map g xs ≡ map h xs
map-same g h [] same = refl
map-same {Y = Y} g h (x ∷ xs) same = ap₂ (λ (y : Y) (ys : List Y). y ∷ ys) same.0 (map-same g h xs same.1)

-- a filter that keeps what is sought
pub find-kept : {X : Type 0} (p q : X → Bool) → ((x : X) → p x ≡ true → q x ≡ true) → (xs : List X) → find p (filter q xs) ≡ find p xs
find-kept p q keeps [] = refl
find-kept p q keeps (x ∷ xs) = at (q x) (p x) refl refl (find-kept p q keeps xs)
  where
    at : (b c : Bool) → q x ≡ b → p x ≡ c → find p (filter q xs) ≡ find p xs → find p (cond b (x ∷ filter q xs) (filter q xs)) ≡ cond c (Some x) (find p xs)
    at true c e g next = rw g (ap (cond c (Some x)) next)
    at false true e g next = absurd (let is = keeps x g in cc)
    at false false e g next = next

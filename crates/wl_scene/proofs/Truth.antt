-- Truth values, and lists of which all have a property.
use Rattle.std.proofs.Common.{◌≡◌, ℕ, ◌==◌, Bool, true, false, List, [], ◌∷◌, ◌++◌, Some, cond, flat_map, refl, ap, sym, ◌∙◌, eqb-true, eq-eqb}
use Rattle.std.specs.Prelude.{◌&&◌, ◌||◌, find}
use Rattle.std.specs.List.{AllByRecursion as Each}

pub differ : false ≡ true → ⊥
differ e = absurd (cc)

pub and-left : (a b : Bool) → (a && b) ≡ true → a ≡ true
and-left true b e = refl
and-left false b e = e

pub and-right : (a b : Bool) → (a && b) ≡ true → b ≡ true
and-right true b e = e
and-right false b e = absurd (cc)

pub or-left : (a b : Bool) → (a || b) ≡ false → a ≡ false
or-left true b e = e
or-left false b e = refl

pub or-right : (a b : Bool) → (a || b) ≡ false → b ≡ false
or-right true b e = absurd (cc)
or-right false b e = e

-- tests that are passed together are the same
pub same-test : (a b : Bool) → (a ≡ true → b ≡ true) → (b ≡ true → a ≡ true) → a ≡ b
same-test true b f g = sym (f refl)
same-test false true f g = absurd (differ (g refl))
same-test false false f g = refl

pub same-equal : (a b c d : ℕ) → (a ≡ b → c ≡ d) → (c ≡ d → a ≡ b) → (a == b) ≡ (c == d)
same-equal a b c d f g = same-test (a == b) (c == d) (λ e. eq-eqb c d (f (eqb-true a b e))) (λ e. eq-eqb a b (g (eqb-true c d e)))

pub some-same : {X : Type 0} (x y : X) → Some x ≡ Some y → x ≡ y
some-same x y e = cc

-- the first that passes one test is the first that passes another
pub find-as : {X : Type 0} (p q : X → Bool) → ((x : X) → p x ≡ q x) → (xs : List X) → find p xs ≡ find q xs
find-as p q same [] = refl
find-as p q same (x ∷ xs) = ap (λ b. cond b (Some x) (find p xs)) (same x) ∙ ap (cond (q x) (Some x)) (find-as p q same xs)

-- ---- all of a list

pub each-append : {X : Type 0} (P : X → Type 0) (xs ys : List X) → Each P xs → Each P ys → Each P (xs ++ ys)
each-append P [] ys e f = f
each-append P (x ∷ xs) ys e f = (e.0, each-append P xs ys e.1 f)

-- of those that have a property themselves
pub each-flat-of : {X Y : Type 0} (Q : X → Type 0) (P : Y → Type 0) (g : X → List Y) → ((x : X) → Q x → Each P (g x)) → (xs : List X) → Each Q xs → Each P (flat_map g xs)
each-flat-of Q P g each [] have = tt
each-flat-of Q P g each (x ∷ xs) have = each-append P (g x) (flat_map g xs) (each x have.0) (each-flat-of Q P g each xs have.1)

pub each-flat : {X Y : Type 0} (P : Y → Type 0) (g : X → List Y) → ((x : X) → Each P (g x)) → (xs : List X) → Each P (flat_map g xs)
each-flat P g each [] = tt
each-flat P g each (x ∷ xs) = each-append P (g x) (flat_map g xs) (each x) (each-flat P g each xs)

-- What is so of each element of a list, and of those that pass a test.
use Rattle.std.proofs.Common.{Bool, List, [], cond, false, true, ◌++◌, ◌∷◌}
use Rattle.std.specs.Prelude.{filter}

abbrev pub Each : {X : Type 0} → (X → Type 0) → List X → Type 0
Each P [] = Unit {0}
Each P (x ∷ xs) = P x × Each P xs

pub each-of : {X : Type 0} (P : X → Type 0) → ((x : X) → P x) → (xs : List X) → Each P xs
each-of P f [] = tt
each-of P f (x ∷ xs) = (f x, each-of P f xs)

pub each-map : {X : Type 0} (P Q : X → Type 0) → ((x : X) → P x → Q x) → (xs : List X) → Each P xs → Each Q xs
each-map P Q f [] e = tt
each-map P Q f (x ∷ xs) e = (f x e.0, each-map P Q f xs e.1)

pub each-both : {X : Type 0} (P Q R : X → Type 0) → ((x : X) → P x → Q x → R x) → (xs : List X) → Each P xs → Each Q xs → Each R xs
each-both P Q R f [] e g = tt
each-both P Q R f (x ∷ xs) e g = (f x e.0 g.0, each-both P Q R f xs e.1 g.1)

pub each-first : {X : Type 0} (P : X → Type 0) (xs ys : List X) → Each P (xs ++ ys) → Each P xs
each-first P [] ys e = tt
each-first P (x ∷ xs) ys e = (e.0, each-first P xs ys e.1)

pub each-second : {X : Type 0} (P : X → Type 0) (xs ys : List X) → Each P (xs ++ ys) → Each P ys
each-second P [] ys e = e
each-second P (x ∷ xs) ys e = each-second P xs ys e.1

pub each-append : {X : Type 0} (P : X → Type 0) (xs ys : List X) → Each P xs → Each P ys → Each P (xs ++ ys)
each-append P [] ys e f = f
each-append P (x ∷ xs) ys e f = (e.0, each-append P xs ys e.1 f)

pub left-if : {X : Type 0} (P : X → Type 0) (b : Bool) (x : X) (ys : List X) → P x → Each P ys → Each P (cond b (x ∷ ys) ys)
left-if P true x ys p a = (p, a)
left-if P false x ys p a = a

pub each-left : {X : Type 0} (P : X → Type 0) (q : X → Bool) (xs : List X) → Each P xs → Each P (filter q xs)
each-left P q [] a = a
each-left P q (x ∷ xs) a = left-if P (q x) x (filter q xs) a.0 (each-left P q xs a.1)

-- What is so of each element of a list, and of those that pass a test.
use Rattle.std.proofs.Common.{◌≡◌, ◌<◌, suc, List, [], ◌∷◌, Bool, true, length, refl, arith}
use Rattle.std.proofs.lemmas.List.Folds.{Any-from_list_any, list_any-from_Any}
use Rattle.std.specs.List.{Contains, list_any}
use Rattle.law_desktop.proofs.Lists.Each.{Each}

pub first-in : {X : Type 0} (x : X) (xs : List X) → Contains (x ∷ xs) x
first-in x xs = (0, omega arith, refl)

pub later-in : {X : Type 0} (x : X) (xs : List X) (y : X) → Contains xs y → Contains (x ∷ xs) y
later-in x xs y c = let within : c.0 < length xs = c.1 in (suc c.0, omega arith, c.2)

-- what is so of all that it contains
pub each-in : {X : Type 0} (P : X → Type 0) (xs : List X) → ((x : X) → Contains xs x → P x) → Each P xs
each-in P [] f = tt
each-in P (x ∷ xs) f = (f x (first-in x xs), each-in P xs (λ y c. f y (later-in x xs y c)))

pub in-any : {X : Type 0} (p : X → Bool) (xs : List X) (x : X) → Contains xs x → p x ≡ true → list_any p xs ≡ true
in-any p xs x c e = list_any-from_Any p xs (c.0, x, c.1, c.2, e)

-- an element that passes
pub record Passing {X : Type 0} (p : X → Bool) (xs : List X) : Type 0 where
  pub item : X
  pub within : Contains xs item
  pub passes : p item ≡ true

pub any-in : {X : Type 0} (p : X → Bool) (xs : List X) → list_any p xs ≡ true → Passing p xs
any-in p xs any =
    let found = Any-from_list_any p xs any in
    record { item = found.1; within = (found.0, found.2, found.3); passes = found.4 }

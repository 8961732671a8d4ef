-- The wl_pointers of one client are cleared.
use Rattle.std.proofs.Common.{◌≡◌, ◌≢◌, ℕ, zero, suc, ◌+◌, List, [], ◌∷◌, map, set, refl, ap, subst, sym, ◌∙◌, arith, length, ◌<◌, ◌≤◌, inl, inr}
use Rattle.std.specs.Prelude.{◌⊎◌, slice_index_or}
use Rattle.wl_desk.specs.View.{seat_of}

one-more : (k : ℕ) → suc k ≡ k + 1
one-more k = omega arith

at-cleared : {X : Type 0} (f : X → List ℕ) (xs : List X) (k : ℕ) (x : X) → f x ≡ [] → slice_index_or (map f (set xs k x)) k [] ≡ []
at-cleared f [] k x e = refl
at-cleared f (y ∷ ys) zero x e = e
at-cleared f (y ∷ ys) (suc k) x e = at-cleared f ys k x e

at-other : {X : Type 0} (f : X → List ℕ) (xs : List X) (k j : ℕ) (x : X) → j ≢ k → slice_index_or (map f (set xs k x)) j [] ≡ slice_index_or (map f xs) j []
at-other f [] k j x differ = refl
at-other f (y ∷ ys) zero zero x differ = absurd (differ refl)
at-other f (y ∷ ys) zero (suc j) x differ = refl
at-other f (y ∷ ys) (suc k) zero x differ = refl
at-other f (y ∷ ys) (suc k) (suc j) x differ = at-other f ys k j x (λ e. differ (ap (λ (n : ℕ). suc n) e))

pub seat-cleared : {X : Type 0} (f : X → List ℕ) (xs : List X) (c k : ℕ) (x : X) → c ≡ k + 1 → f x ≡ [] → seat_of (map f (set xs k x)) c ≡ []
seat-cleared f xs c k x number e = subst (λ (n : ℕ). seat_of (map f (set xs k x)) n ≡ []) (one-more k ∙ sym number) (at-cleared f xs k x e)

pub seat-other : {X : Type 0} (f : X → List ℕ) (xs : List X) (c k : ℕ) (x : X) → c ≡ k + 1 → (i : ℕ) → i ≢ c → seat_of (map f (set xs k x)) i ≡ seat_of (map f xs) i
seat-other f xs c k x number zero differ = refl
seat-other f xs c k x number (suc i) differ = at-other f xs k i x (λ e. differ (ap (λ (n : ℕ). suc n) e ∙ one-more k ∙ sym number))

at-beyond : (xs : List (List ℕ)) (k : ℕ) → length xs ≤ k → slice_index_or xs k [] ≡ []
at-beyond [] k beyond = refl
at-beyond (x ∷ xs) zero beyond = absurd (omega (arith, beyond))
at-beyond (x ∷ xs) (suc k) beyond = at-beyond xs k (omega (arith, beyond))

-- a number that is of no place has none
pub seat-none : (xs : List (List ℕ)) (c : ℕ) → (c ≡ 0) ⊎ (length xs < c) → seat_of xs c ≡ []
seat-none xs zero beyond = refl
seat-none xs (suc k) (inl e) = absurd (omega (arith, e))
seat-none xs (suc k) (inr beyond) = at-beyond xs k (omega (arith, beyond))

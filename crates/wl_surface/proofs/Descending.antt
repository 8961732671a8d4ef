-- What stands below a surface after some links are gone.
use Rattle.std.proofs.Common.{◌≡◌, ℕ, zero, suc, ◌⊎◌, inl, inr, ◌||◌, ◌==◌, Bool, true, false, cond, Option, Some, None, refl, ap, sym, subst, ◌∙◌, eq-eqb}
use Rattle.std.specs.Option.{option_map_or}
use Rattle.std.proofs.lemmas.Bool.{eqb-true}
use Rattle.wl_links.proofs.Depths.{under-here}
use Rattle.wl_links.specs.Trees.{Parents, is_under, without}

pub under-zero : (parents : Parents) (top surface : ℕ) → is_under zero parents top surface ≡ true → surface ≡ top
unfolding is_under
under-zero parents top surface under = eqb-true surface top under

pub under-step : (n : ℕ) (parents : Parents) (top surface parent : ℕ) → parents surface ≡ Some parent → is_under n parents top parent ≡ true → is_under (suc n) parents top surface ≡ true
unfolding is_under
under-step n parents top surface parent is under = ap (λ (o : Option ℕ). surface == top || option_map_or (λ parent. is_under n parents top parent) o false) is ∙ at (surface == top)
  where
    at : (b : Bool) → (b || is_under n parents top parent) ≡ true
    at true = refl
    at false = under

-- it is the surface, or its parent stands below it
abbrev pub IsByParent : ℕ → Parents → ℕ → ℕ → Type 0
IsByParent n parents top surface = (surface ≡ top) ⊎ ((parent : ℕ) × (parents surface ≡ Some parent) × (is_under n parents top parent ≡ true))

pub under-cases : (n : ℕ) (parents : Parents) (top surface : ℕ) → is_under (suc n) parents top surface ≡ true → IsByParent n parents top surface
unfolding is_under
under-cases n parents top surface under = at (surface == top) refl (parents surface) refl under
  where
    at : (b : Bool) → (surface == top) ≡ b → (o : Option ℕ) → parents surface ≡ o → (b || option_map_or (λ parent. is_under n parents top parent) o false) ≡ true
        → IsByParent n parents top surface
    at true e o f is = inl (eqb-true surface top e)
    at false e None f is = absurd (cc)
    at false e (Some parent) f is = inr (parent, f, is)

-- Each surface has the same parent as by the other links, or none.
abbrev pub AreFewer : Parents → Parents → Type 0
AreFewer fewer parents = (surface : ℕ) → (fewer surface ≡ None) ⊎ (fewer surface ≡ parents surface)

-- By more links no fewer surfaces stand below.
pub under-fewer : (n : ℕ) (fewer parents : Parents) (top surface : ℕ) → AreFewer fewer parents → is_under n fewer top surface ≡ true → is_under n parents top surface ≡ true
under-fewer zero fewer parents top surface are under =
    subst (λ s. is_under zero parents top s ≡ true) (sym (under-zero fewer top surface under)) (under-here zero parents top)
under-fewer (suc n) fewer parents top surface are under =
    at (under-cases n fewer top surface under) (are surface) (λ s. under-fewer n fewer parents top s are)
  where
    at : IsByParent n fewer top surface → (fewer surface ≡ None) ⊎ (fewer surface ≡ parents surface)
        → ((s : ℕ) → is_under n fewer top s ≡ true → is_under n parents top s ≡ true) → is_under (suc n) parents top surface ≡ true
    at (inl e) are next = subst (λ s. is_under (suc n) parents top s ≡ true) (sym e) (under-here (suc n) parents top)
    at (inr q) (inl none) next = absurd (let both = sym none ∙ q.1 in cc)
    at (inr q) (inr same) next = under-step n parents top surface q.0 (sym same ∙ q.1) (next q.0 q.2)

-- By more levels no fewer do.
pub under-more : (n : ℕ) (parents : Parents) (top surface : ℕ) → is_under n parents top surface ≡ true → is_under (suc n) parents top surface ≡ true
under-more zero parents top surface under = subst (λ s. is_under 1 parents top s ≡ true) (sym (under-zero parents top surface under)) (under-here 1 parents top)
under-more (suc n) parents top surface under = at (under-cases n parents top surface under) (λ s. under-more n parents top s)
  where
    at : IsByParent n parents top surface → ((s : ℕ) → is_under n parents top s ≡ true → is_under (suc n) parents top s ≡ true) → is_under (suc (suc n)) parents top surface ≡ true
    at (inl e) next = subst (λ s. is_under (suc (suc n)) parents top s ≡ true) (sym e) (under-here (suc (suc n)) parents top)
    at (inr q) next = under-step (suc n) parents top surface q.0 q.1 (next q.0 q.2)

-- What stands below a child stands below its parent, by one more link.
pub under-parent : (n : ℕ) (parents : Parents) (child top surface : ℕ) → parents child ≡ Some top → is_under n parents child surface ≡ true → is_under (suc n) parents top surface ≡ true
under-parent zero parents child top surface is under =
    under-step zero parents top surface top (ap parents (under-zero parents child surface under) ∙ is) (under-here zero parents top)
under-parent (suc n) parents child top surface is under = at (under-cases n parents child surface under) (λ s. under-parent n parents child top s is)
  where
    at : IsByParent n parents child surface → ((s : ℕ) → is_under n parents child s ≡ true → is_under (suc n) parents top s ≡ true) → is_under (suc (suc n)) parents top surface ≡ true
    at (inl e) next = under-step (suc n) parents top surface top (ap parents e ∙ is) (under-here (suc n) parents top)
    at (inr q) next = under-step (suc n) parents top surface q.0 q.1 (next q.0 q.2)

-- What stands below a surface stands below a child of it, by links without the surface.
pub record IsByChild (n : ℕ) (parents : Parents) (top surface : ℕ) : Type 0 where
  pub child : ℕ
  pub up : parents child ≡ Some top
  pub under : is_under n (without top parents) child surface ≡ true

-- a link to another parent stays
stays : (parents : Parents) (top surface parent : ℕ) → (surface == top) ≡ false → parents surface ≡ Some parent → (parent == top) ≡ false → without top parents surface ≡ Some parent
stays parents top surface parent other is apart =
    ap (λ (b : Bool). option_map_or (λ parent. cond (parent == top) None (Some parent)) (cond b None (parents surface)) None) other
    ∙ (ap (λ (o : Option ℕ). option_map_or (λ parent. cond (parent == top) None (Some parent)) o None) is ∙ ap (λ (b : Bool). cond b None (Some parent)) apart)

not-itself : {X : Type 0} (surface top : ℕ) → (surface == top) ≡ false → surface ≡ top → X
not-itself surface top other e = absurd (let both = sym (eq-eqb surface top e) ∙ other in cc)

pub under-child : (n : ℕ) (parents : Parents) (top surface : ℕ) → (surface == top) ≡ false → is_under (suc n) parents top surface ≡ true → IsByChild n parents top surface
under-child zero parents top surface other under = at (under-cases zero parents top surface under)
  where
    at : IsByParent zero parents top surface → IsByChild zero parents top surface
    at (inl e) = not-itself surface top other e
    at (inr q) = record {
      child = surface;
      up = q.1 ∙ ap (λ p. Some p) (under-zero parents top q.0 q.2);
      under = under-here zero (without top parents) surface;
    }
under-child (suc n) parents top surface other under = at (under-cases (suc n) parents top surface under) (λ s. under-child n parents top s)
  where
    above : (parent : ℕ) → parents surface ≡ Some parent → (b : Bool) → (parent == top) ≡ b → is_under (suc n) parents top parent ≡ true
        → ((s : ℕ) → (s == top) ≡ false → is_under (suc n) parents top s ≡ true → IsByChild n parents top s) → IsByChild (suc n) parents top surface
    above parent is true e under next = record {
      child = surface;
      up = is ∙ ap (λ p. Some p) (eqb-true parent top e);
      under = under-here (suc n) (without top parents) surface;
    }
    above parent is false e under next =
        let far = next parent e under in
        record { child = far.child; up = far.up; under = under-step n (without top parents) far.child surface parent (stays parents top surface parent other is e) far.under }

    at : IsByParent (suc n) parents top surface
        → ((s : ℕ) → (s == top) ≡ false → is_under (suc n) parents top s ≡ true → IsByChild n parents top s) → IsByChild (suc n) parents top surface
    at (inl e) next = not-itself surface top other e
    at (inr q) next = above q.0 q.1 (q.0 == top) refl q.2 next

-- Names that are told apart.
use Rattle.std.proofs.Common.{◌≡◌, ℕ, ◌==◌, Bool, true, false, refl, ap, sym, ◌∙◌, eqb-true, eq-eqb, ne_eqb}
use Rattle.std.proofs.lemmas.Bool.{eqb-false}

-- two ids are the same where their names are
pub same-name : (f : ℕ → ℕ) (a b : ℕ) → (f a ≡ f b → a ≡ b) → (f a == f b) ≡ (a == b)
same-name f a b apart = at (a == b) refl
  where
    at : (c : Bool) → (a == b) ≡ c → (f a == f b) ≡ (a == b)
    at true e = eq-eqb (f a) (f b) (ap f (eqb-true a b e)) ∙ sym e
    at false e = ne_eqb (f a) (f b) (λ same. eqb-false a b e (apart same)) ∙ sym e

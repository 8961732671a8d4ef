-- What is done place by place, from a first place on.
use Rattle.std.proofs.Common.{◌≡◌, ◌≢◌, ℕ, ◌<◌, ◌≤◌, ◌+◌, ◌∙◌, arith, inl, inr}
use Rattle.std.proofs.lemmas.Bool.{cases_eq}

-- one place more is done
pub done-more : {X : Type 0} (first k : ℕ) (new now want : ℕ → X) → ((i : ℕ) → first ≤ i → i < k → now i ≡ want i) → new k ≡ want k → ((i : ℕ) → i ≢ k → new i ≡ now i)
    → (i : ℕ) → first ≤ i → i < k + 1 → new i ≡ want i
done-more first k new now want done here others i from h =
    elim (cases_eq i k) [
      | inl e ↦ rw e here
      | inr n ↦ (others i n ∙ done i from (omega arith))
    ]

-- the places behind it are left
pub left-less : {X : Type 0} (k : ℕ) (new now was : ℕ → X) → ((i : ℕ) → k ≤ i → now i ≡ was i) → ((i : ℕ) → i ≢ k → new i ≡ now i) → (i : ℕ) → k + 1 ≤ i → new i ≡ was i
left-less k new now was left others i h = others i (λ e. absurd (omega arith)) ∙ left i (omega arith)

-- and so are those before the first
pub kept-before : {X : Type 0} (first k : ℕ) (new now was : ℕ → X) → first ≤ k → ((i : ℕ) → i < first → now i ≡ was i) → ((i : ℕ) → i ≢ k → new i ≡ now i) → (i : ℕ) → i < first → new i ≡ was i
kept-before first k new now was from kept others i h = others i (λ e. absurd (omega arith)) ∙ kept i h

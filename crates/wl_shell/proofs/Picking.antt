-- The popup that is found is the best of those that pass.
use Rattle.std.proofs.Common.{◌≡◌, ℕ, suc, ◌≤◌, [], ◌∷◌, Bool, true, false, Option, Some, None, refl, subst, sym, arith}
use Rattle.std.specs.Prelude.{All, IfSome, IsSomeAnd, MatchOption, nat_lt, cond, if◌then◌else◌}
use Rattle.std.specs.Option.{option_map}
use Rattle.std.specs.Ordering.{nat_cmp, is_eq}
use Rattle.std.proofs.lemmas.Bool.Decides.{nat_tests}
use Rattle.wl_shell.specs.Kept.{Book, Kept, kept_of}
use Rattle.wl_shell.specs.declared.popups.Wanted.{Wanted}
use Rattle.wl_shell.specs.declared.popups.Wanted.TheVariants.{After, First, Grabbing, Under}
use Rattle.wl_shell.specs.Picking.{better_of, is_better, next_found, passes, picked}
use Rattle.wl_shell.specs.PopupsKept.{IsFound, IsNewest, number_of}

-- none is better than itself, and what is better than one that isn't beaten isn't beaten
unbeaten-itself : (wanted : Wanted) (n : ℕ) → is_better wanted n n ≡ false
unbeaten-itself (After number) n = grind (arith, nat_tests)
unbeaten-itself (Under id) n = grind (arith, nat_tests)
unbeaten-itself Grabbing n = grind (arith, nat_tests)
unbeaten-itself First n = grind (arith, nat_tests)

unbeaten-by : (wanted : Wanted) (one found n : ℕ) → is_better wanted one found ≡ true → is_better wanted n found ≡ false → is_better wanted n one ≡ false
unbeaten-by (After number) one found n better not = grind (arith, nat_tests)
unbeaten-by (Under id) one found n better not = grind (arith, nat_tests)
unbeaten-by Grabbing one found n better not = grind (arith, nat_tests)
unbeaten-by First one found n better not = grind (arith, nat_tests)

pub least-by : (other this : ℕ) → nat_lt other this ≡ false → this ≤ other
least-by other this not = grind (arith, nat_tests)

pub greatest-by : (other this : ℕ) → nat_lt this other ≡ false → other ≤ this
greatest-by other this not = grind (arith, nat_tests)

module _ (book : Book) (wanted : Wanted) where
  -- it is as good as this number
  abbrev Beats : Option (ℕ × ℕ) → ℕ → Type 0
  Beats found n = MatchOption found ⊥ (λ f. is_better wanted n f.0 ≡ false)

  abbrev IsOne : ℕ × ℕ → Type 0
  IsOne one = IsSomeAnd (kept_of book one.1) (λ k. (passes book wanted k ≡ true) × (one.0 ≡ number_of k))

  -- ---- what is found is one that passes

  one-of : (e : ℕ × Kept) → kept_of book e.0 ≡ Some e.1 → passes book wanted e.1 ≡ true → IsOne (number_of e.1, e.0)
  one-of e here is = subst (λ (o : Option Kept). IsSomeAnd o (λ k. (passes book wanted k ≡ true) × (number_of e.1 ≡ number_of k))) (sym here) (is, refl)

  better-one : (found : Option (ℕ × ℕ)) (one : ℕ × ℕ) → IfSome found IsOne → IsOne one → IfSome (better_of wanted found one) IsOne
  better-one None one old new = new
  better-one (Some f) one old new = at (is_better wanted one.0 f.0)
    where
      at : (b : Bool) → IfSome (if b then Some one else Some f) IsOne
      at true = new
      at false = old

  next-one : (found : Option (ℕ × ℕ)) (e : ℕ × Kept) → kept_of book e.0 ≡ Some e.1 → IfSome found IsOne → IfSome (next_found book wanted found e) IsOne
  next-one found e here old = at (passes book wanted e.1) refl
    where
      at : (b : Bool) → passes book wanted e.1 ≡ b → IfSome (if b then better_of wanted found (number_of e.1, e.0) else found) IsOne
      at true is = better-one found (number_of e.1, e.0) old (one-of e here is)
      at false is = old

  picked-one : (es : Book) (found : Option (ℕ × ℕ)) → All (λ e. kept_of book e.0 ≡ Some e.1) es → IfSome found IsOne → IfSome (picked book wanted found es) IsOne
  picked-one [] found each old = old
  picked-one (e ∷ es) found each old =
      picked-one es (next_found book wanted found e) (λ k d less. each (suc k) d (omega arith)) (next-one found e (each 0 e (omega arith)) old)

  -- ---- and none that passes is better

  better-beats : (found : Option (ℕ × ℕ)) (one : ℕ × ℕ) (n : ℕ) → Beats found n → Beats (better_of wanted found one) n
  better-beats None one n beats = absurd beats
  better-beats (Some f) one n beats = at (is_better wanted one.0 f.0) refl
    where
      at : (b : Bool) → is_better wanted one.0 f.0 ≡ b → Beats (if b then Some one else Some f) n
      at true is = unbeaten-by wanted one.0 f.0 n is beats
      at false is = beats

  better-itself : (found : Option (ℕ × ℕ)) (one : ℕ × ℕ) → Beats (better_of wanted found one) one.0
  better-itself None one = unbeaten-itself wanted one.0
  better-itself (Some f) one = at (is_better wanted one.0 f.0) refl
    where
      at : (b : Bool) → is_better wanted one.0 f.0 ≡ b → Beats (if b then Some one else Some f) one.0
      at true is = unbeaten-itself wanted one.0
      at false is = is

  next-beats : (found : Option (ℕ × ℕ)) (e : ℕ × Kept) (n : ℕ) → Beats found n → Beats (next_found book wanted found e) n
  next-beats found e n beats = at (passes book wanted e.1)
    where
      at : (b : Bool) → Beats (if b then better_of wanted found (number_of e.1, e.0) else found) n
      at true = better-beats found (number_of e.1, e.0) n beats
      at false = beats

  next-itself : (found : Option (ℕ × ℕ)) (e : ℕ × Kept) → passes book wanted e.1 ≡ true → Beats (next_found book wanted found e) (number_of e.1)
  next-itself found e is = subst (λ (b : Bool). Beats (if b then better_of wanted found (number_of e.1, e.0) else found) (number_of e.1)) (sym is) (better-itself found (number_of e.1, e.0))

  picked-beats : (es : Book) (found : Option (ℕ × ℕ)) (n : ℕ) → Beats found n → Beats (picked book wanted found es) n
  picked-beats [] found n beats = beats
  picked-beats (e ∷ es) found n beats = picked-beats es (next_found book wanted found e) n (next-beats found e n beats)

  beats-all : (es : Book) (found : Option (ℕ × ℕ)) (other : ℕ) → IfSome (kept_of es other) (λ o. passes book wanted o ≡ true → Beats (picked book wanted found es) (number_of o))
  beats-all [] found other = tt
  beats-all (e ∷ es) found other = at (is_eq (nat_cmp other e.0)) (beats-all es (next_found book wanted found e) other)
    where
      last : Option (ℕ × ℕ)
      last = picked book wanted (next_found book wanted found e) es

      at : (b : Bool) → IfSome (kept_of es other) (λ o. passes book wanted o ≡ true → Beats last (number_of o))
          → IfSome (cond b (Some e.1) (kept_of es other)) (λ o. passes book wanted o ≡ true → Beats last (number_of o))
      at true rest = λ is. picked-beats es (next_found book wanted found e) (number_of e.1) (next-itself found e is)
      at false rest = rest

  -- ---- together

  no-other : (o : Option Kept) → IfSome o (λ k. passes book wanted k ≡ true → ⊥) → IfSome o (λ k. passes book wanted k ≡ false)
  no-other None none = tt
  no-other (Some k) none = at (passes book wanted k) refl
    where
      at : (b : Bool) → passes book wanted k ≡ b → b ≡ false
      at true is = absurd (none is)
      at false is = refl

  pub is-found : (result : Option ℕ) → All (λ e. kept_of book e.0 ≡ Some e.1) book → result ≡ option_map (λ (one : ℕ × ℕ). one.1) (picked book wanted None book)
      → IsFound (λ other this. is_better wanted other this ≡ false) (passes book wanted) (kept_of book) result
  is-found result each same =
      subst (λ (o : Option ℕ). IsFound (λ other this. is_better wanted other this ≡ false) (passes book wanted) (kept_of book) o) (sym same)
      (at (picked book wanted None book) (picked-one book None each tt) (beats-all book None))
    where
      at : (found : Option (ℕ × ℕ)) → IfSome found IsOne → ((other : ℕ) → IfSome (kept_of book other) (λ o. passes book wanted o ≡ true → Beats found (number_of o)))
          → IsFound (λ other this. is_better wanted other this ≡ false) (passes book wanted) (kept_of book) (option_map (λ (one : ℕ × ℕ). one.1) found)
      at None one beats = λ surface. no-other (kept_of book surface) (beats surface)
      at (Some f) one beats = here (kept_of book f.1) one
        where
          here : (o : Option Kept) → IsSomeAnd o (λ k. (passes book wanted k ≡ true) × (f.0 ≡ number_of k))
              → IsSomeAnd o (λ k. (passes book wanted k ≡ true) × ((other : ℕ) → IfSome (kept_of book other) (λ o. passes book wanted o ≡ true → is_better wanted (number_of o) (number_of k) ≡ false)))
          here None is = is
          here (Some k) is = (
            is.0,
            subst (λ (n : ℕ). (other : ℕ) → IfSome (kept_of book other) (λ o. passes book wanted o ≡ true → is_better wanted (number_of o) n ≡ false)) is.1 beats,
          )

-- by another measure of what is better
pub found-as : (A B : ℕ → ℕ → Type 0) (test : Kept → Bool) (kept : ℕ → Option Kept) (result : Option ℕ) → ((other this : ℕ) → A other this → B other this) → IsFound A test kept result
    → IsFound B test kept result
found-as A B test kept None to is = is
found-as A B test kept (Some surface) to is = here (kept surface) is
  where
    each : (n : ℕ) (o : Option Kept) → IfSome o (λ o. test o ≡ true → A (number_of o) n) → IfSome o (λ o. test o ≡ true → B (number_of o) n)
    each n None is = tt
    each n (Some o) is = λ passes. to (number_of o) n (is passes)

    here : (o : Option Kept) → IsSomeAnd o (λ k. (test k ≡ true) × ((other : ℕ) → IfSome (kept other) (λ o. test o ≡ true → A (number_of o) (number_of k))))
        → IsSomeAnd o (λ k. (test k ≡ true) × ((other : ℕ) → IfSome (kept other) (λ o. test o ≡ true → B (number_of o) (number_of k))))
    here None is = is
    here (Some k) is = (is.0, λ other. each (number_of k) (kept other) (is.1 other))

-- where none passes
pub none-found : (kept : ℕ → Option Kept) → IsNewest (λ k. false) kept None
none-found kept = λ surface. at (kept surface)
  where
    at : (o : Option Kept) → IfSome o (λ k. false ≡ false)
    at None = tt
    at (Some k) = refl

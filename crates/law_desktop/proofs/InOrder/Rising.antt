-- The popups of a client in order of creation have rising numbers.
use Rattle.std.proofs.Common.{◌≡◌, ◌≢◌, ◌≤◌, ◌<◌, ℕ, List, [], ◌∷◌, Bool, true, false, refl, ap, sym, ◌∙◌, inl, inr, arith}
use Rattle.std.specs.Prelude.{◌==◌, ◌||◌, ◌⊎◌, flat_map, fold, if◌then◌else◌, nat_lt}
use Rattle.std.specs.List.{list_any}
use Rattle.std.proofs.lemmas.Bool.{eqb-true, ltb-false, ltb-true, or_cases, true≢false}
use Rattle.wl_shell.specs.Popups.{Popped, by_number, popped_of, popups_of}
use Rattle.law_desktop.specs.Apart.{AreApartBy}
use Rattle.law_desktop.proofs.Marks.Stacks.{equal-numbers}
use Rattle.law_desktop.specs.InOrder.{AreRising}
use Rattle.law_desktop.specs.InOrderLaws.{PopupsRise}
use Rattle.law_desktop.proofs.InOrder.Numbered.{numbers-apart}
use Rattle.law_desktop.proofs.Lists.Tests.{none-any}

abbrev numbered : ℕ → Popped → Bool
numbered number p = p.popup.number == number

-- none has a higher number than those after it
abbrev AreSorted : List Popped → Type 0
AreSorted [] = Unit {0}
AreSorted (p ∷ ps) = ((number : ℕ) → list_any (numbered number) ps ≡ true → p.popup.number ≤ number) × AreSorted ps

-- a number among these and one more is that of this one or of these
any-among : (number : ℕ) (p : Popped) (ps : List Popped) → list_any (numbered number) (by_number p ps) ≡ true → (numbered number p ≡ true) ⊎ (list_any (numbered number) ps ≡ true)
any-among number p [] any = or_cases (numbered number p) false any
any-among number p (q ∷ qs) any = at (nat_lt p.popup.number q.popup.number) any (any-among number p qs)
  where
    after : (a : Bool) {b : Bool} → b ≡ true → (a || b) ≡ true
    after true e = refl
    after false e = e

    later : (numbered number q ≡ true) ⊎ (list_any (numbered number) (by_number p qs) ≡ true)
        → (list_any (numbered number) (by_number p qs) ≡ true → (numbered number p ≡ true) ⊎ (list_any (numbered number) qs ≡ true))
        → (numbered number p ≡ true) ⊎ ((numbered number q || list_any (numbered number) qs) ≡ true)
    later (inl is) rest = inr (ap (λ (b : Bool). b || list_any (numbered number) qs) is)
    later (inr any) rest = over (rest any)
      where
        over : (numbered number p ≡ true) ⊎ (list_any (numbered number) qs ≡ true) → (numbered number p ≡ true) ⊎ ((numbered number q || list_any (numbered number) qs) ≡ true)
        over (inl is) = inl is
        over (inr any) = inr (after (numbered number q) any)

    at : (b : Bool) → list_any (numbered number) (if b then p ∷ q ∷ qs else q ∷ by_number p qs) ≡ true
        → (list_any (numbered number) (by_number p qs) ≡ true → (numbered number p ≡ true) ⊎ (list_any (numbered number) qs ≡ true))
        → (numbered number p ≡ true) ⊎ ((numbered number q || list_any (numbered number) qs) ≡ true)
    at true any rest = or_cases (numbered number p) (numbered number q || list_any (numbered number) qs) any
    at false any rest = later (or_cases (numbered number q) (list_any (numbered number) (by_number p qs)) any) rest

below : (a b n : ℕ) → a < b → b ≤ n → a ≤ n
below a b n lower least = omega (arith, lower, least)

at-most : (a b n : ℕ) → b ≡ n → a ≤ b → a ≤ n
at-most a b n same least = omega (arith, same, least)

less-least : (a b : ℕ) → a < b → a ≤ b
less-least a b lower = omega (arith, lower)

sorted-among : (p : Popped) (ps : List Popped) → AreSorted ps → AreSorted (by_number p ps)
sorted-among p [] sorted = (λ number any. absurd (true≢false (sym any)), tt)
sorted-among p (q ∷ qs) sorted = at (nat_lt p.popup.number q.popup.number) refl (sorted-among p qs sorted.1)
  where
    first : p.popup.number < q.popup.number → (number : ℕ) → (numbered number q ≡ true) ⊎ (list_any (numbered number) qs ≡ true) → p.popup.number ≤ number
    first lower number (inl is) = at-most p.popup.number q.popup.number number (eqb-true q.popup.number number is) (less-least p.popup.number q.popup.number lower)
    first lower number (inr any) = below p.popup.number q.popup.number number lower (sorted.0 number any)

    second : q.popup.number ≤ p.popup.number → (number : ℕ) → (numbered number p ≡ true) ⊎ (list_any (numbered number) qs ≡ true) → q.popup.number ≤ number
    second least number (inl is) = at-most q.popup.number p.popup.number number (eqb-true p.popup.number number is) least
    second least number (inr any) = sorted.0 number any

    at : (b : Bool) → nat_lt p.popup.number q.popup.number ≡ b → AreSorted (by_number p qs) → AreSorted (if b then p ∷ q ∷ qs else q ∷ by_number p qs)
    at true is later =
        (λ number any. first (ltb-true p.popup.number q.popup.number is) number (or_cases (numbered number q) (list_any (numbered number) qs) any), sorted)
    at false is later = (λ number any. second (ltb-false p.popup.number q.popup.number is) number (any-among number p qs any), later)

sorted-ordered : (acc ps : List Popped) → AreSorted acc → AreSorted (fold (λ qs p. by_number p qs) acc ps)
sorted-ordered acc [] sorted = sorted
sorted-ordered acc (p ∷ ps) sorted = sorted-ordered (by_number p acc) ps (sorted-among p acc sorted)

both : (a n : ℕ) → a ≤ n → n ≤ a → a ≡ n
both a n least most = omega (arith, least, most)

strictly : (a n : ℕ) → a ≢ n → a ≤ n → a < n
strictly a n other least = at (nat_lt a n) refl
  where
    at : (b : Bool) → nat_lt a n ≡ b → a < n
    at true is = ltb-true a n is
    at false is = absurd (other (both a n least (ltb-false a n is)))

rising : (ps : List Popped) → AreSorted ps → AreApartBy numbered ps → AreRising ps
rising [] sorted apart = tt
rising (p ∷ ps) sorted apart = (λ number any. strictly p.popup.number number (other number any) (sorted.0 number any), rising ps sorted.1 apart.1)
  where
    none : list_any (numbered p.popup.number) ps ≡ false
    none = none-any (numbered p.popup.number) ps (apart.0 p.popup.number (equal-numbers p.popup.number p.popup.number refl))

    other : (number : ℕ) → list_any (numbered number) ps ≡ true → p.popup.number ≢ number
    other number any same = true≢false (sym any ∙ ap (λ n. list_any (numbered n) ps) (sym same) ∙ none)

pub popups_rise : PopupsRise
popups_rise r owns =
    rising (popups_of r.owned.shell) (sorted-ordered [] (flat_map popped_of r.owned.shell) tt) (numbers-apart r.owned.shell owns.popups_apart)

-- The stack of toplevels that is kept, by the numbers of their surfaces.
use Rattle.std.proofs.Common.{◌≡◌, ℕ, ◌+◌, List, [], ◌∷◌, ◌++◌, Bool, true, false, cond, Some, refl, ap, sym, subst, ◌∙◌, arith}
use Rattle.std.specs.Prelude.{◌==◌, ◌&&◌, ◌||◌, ◌%◌, not, filter}
use Rattle.std.specs.List.{list_any}
use Rattle.std.proofs.lemmas.Bool.{and_from, eqb-true, true≢false}
use Rattle.spec_desktop.specs.Objects.{ById}
use Rattle.spec_desktop.specs.Stacking.{Standing, is_of, with_mapped, without_client, without_surface_of}
use Rattle.spec_desktop.specs.Windows.{mapping_place}
use Rattle.wl_clients.specs.Agreement.{IsStack, IsStanding, with_numbers}
use Rattle.law_desktop.proofs.Marks.Stacks.{equal-numbers, same-number}
use Rattle.law_desktop.proofs.Truth.{or-left, or-right}

-- ---- other numbers

-- this surface stands
abbrev pub Has : List Standing → ℕ → ℕ → Type 0
Has ss c surface = list_any (is_of c surface) ss ≡ true

or-true : (a b : Bool) → b ≡ true → (a || b) ≡ true
or-true true b h = refl
or-true false b h = h

first-has : (s : Standing) (ss : List Standing) → Has (s ∷ ss) s.client s.surface
first-has s ss =
    rw (and_from (s.client == s.client) (s.surface == s.surface) (same-number s.client) (same-number s.surface)) refl

-- the numbers of the surfaces that stand are all that counts
pub stack-by : (numbers others : ℕ → ById ℕ) (ks ss : List Standing) → ((c surface n : ℕ) → Has ss c surface → numbers c surface ≡ Some n → others c surface ≡ Some n) → IsStack numbers ks ss
    → IsStack others ks ss
stack-by numbers others [] [] same is = tt
stack-by numbers others (k ∷ ks) (s ∷ ss) same is = (
  record { client = is.0.client; place = is.0.place; surface = same s.client s.surface k.surface (first-has s ss) is.0.surface },
  stack-by numbers others ks ss (λ c surface n has. same c surface n (or-true (is_of c surface s) (list_any (is_of c surface) ss) has)) is.1,
)
stack-by numbers others [] (s ∷ ss) same is = absurd is
stack-by numbers others (k ∷ ks) [] same is = absurd is

-- ---- toplevels go

-- What is left out by one test of what is kept, and by another of what is meant, agrees where the tests do.
pub stack-left : (numbers : ℕ → ById ℕ) (p q : Standing → Bool) → ((k s : Standing) → IsStanding numbers k s → p k ≡ q s) → (ks ss : List Standing) → IsStack numbers ks ss
    → IsStack numbers (filter p ks) (filter q ss)
stack-left numbers p q same [] [] is = tt
stack-left numbers p q same (k ∷ ks) (s ∷ ss) is = at (p k) (q s) (same k s is.0) (stack-left numbers p q same ks ss is.1)
  where
    at : (a b : Bool) → a ≡ b → IsStack numbers (filter p ks) (filter q ss) → IsStack numbers (cond a (k ∷ filter p ks) (filter p ks)) (cond b (s ∷ filter q ss) (filter q ss))
    at true true e rest = (is.0, rest)
    at false false e rest = rest
    at true false e rest = absurd (true≢false e)
    at false true e rest = absurd (true≢false (sym e))
stack-left numbers p q same [] (s ∷ ss) is = absurd is
stack-left numbers p q same (k ∷ ks) [] is = absurd is

-- those of a client
pub stack-without : (numbers : ℕ → ById ℕ) (c : ℕ) (ks ss : List Standing) → IsStack numbers ks ss → IsStack numbers (without_client c ks) (without_client c ss)
stack-without numbers c ks ss is =
    stack-left numbers (λ s. not (s.client == c)) (λ s. not (s.client == c)) (λ k s one. ap (λ (a : ℕ). not (a == c)) one.client) ks ss is

same-test : (a b : Bool) → (a ≡ true → b ≡ true) → (b ≡ true → a ≡ true) → a ≡ b
same-test true b f g = sym (f refl)
same-test false true f g = absurd (true≢false (sym (g refl)))
same-test false false f g = refl

-- a client's number of a surface is that of no other of its surfaces
abbrev pub AreOnce : ById ℕ → Type 0
AreOnce numbers = (a b n : ℕ) → numbers a ≡ Some n → numbers b ≡ Some n → a ≡ b

some-same : (a b : ℕ) → Some a ≡ Some b → a ≡ b
some-same a b e = grind (arith)

pub number-is : (numbers : ℕ → ById ℕ) (c surface n : ℕ) (k s : Standing) → AreOnce (numbers c) → numbers c surface ≡ Some n → IsStanding numbers k s → is_of c n k ≡ is_of c surface s
number-is numbers c surface n k s once is one = at (s.client == c) refl
  where
    named : s.client ≡ c → numbers c s.surface ≡ Some k.surface
    named e = subst (λ (a : ℕ). numbers a s.surface ≡ Some k.surface) e one.surface

    tests : s.client ≡ c → (k.surface == n) ≡ (s.surface == surface)
    tests e =
        same-test (k.surface == n) (s.surface == surface)
        (λ h. equal-numbers s.surface surface (once s.surface surface n (named e ∙ ap (λ (m : ℕ). Some m) (eqb-true k.surface n h)) is))
        (λ h. equal-numbers k.surface n (some-same k.surface n (sym (named e) ∙ (ap (λ (m : ℕ). numbers c m) (eqb-true s.surface surface h) ∙ is))))

    at : (b : Bool) → (s.client == c) ≡ b → ((k.client == c) && (k.surface == n)) ≡ ((s.client == c) && (s.surface == surface))
    at true e = rw (one.client, e) (tests (eqb-true s.client c e))
    at false e = rw (one.client, e) refl

-- that of a surface
pub stack-out : (numbers : ℕ → ById ℕ) (c surface n : ℕ) (ks ss : List Standing) → AreOnce (numbers c) → numbers c surface ≡ Some n → IsStack numbers ks ss
    → IsStack numbers (without_surface_of c n ks) (without_surface_of c surface ss)
stack-out numbers c surface n ks ss once is stack =
    stack-left numbers (λ s. not (is_of c n s)) (λ s. not (is_of c surface s)) (λ k s one. ap (λ (b : Bool). not b) (number-is numbers c surface n k s once is one)) ks ss stack

-- ---- a toplevel comes

eight : (m : ℕ) → (m % 8) % 8 ≡ m % 8
eight m = omega (arith)

place-of : (next mappings : ℕ) → next ≡ mappings % 8 → mapping_place next ≡ mapping_place mappings
place-of next mappings e = rw (e, eight mappings) refl

pub next-of : (next mappings : ℕ) → next ≡ mappings % 8 → (next + 1) % 8 ≡ (mappings + 1) % 8
next-of next mappings e = omega (arith)

pub stack-more : (numbers : ℕ → ById ℕ) (ks ss : List Standing) (k s : Standing) → IsStanding numbers k s → IsStack numbers ks ss → IsStack numbers (ks ++ k ∷ []) (ss ++ s ∷ [])
stack-more numbers [] [] k s one is = (one, tt)
stack-more numbers (x ∷ ks) (y ∷ ss) k s one is = (is.0, stack-more numbers ks ss k s one is.1)
stack-more numbers [] (y ∷ ss) k s one is = absurd is
stack-more numbers (x ∷ ks) [] k s one is = absurd is

pub stack-mapped : (numbers : ℕ → ById ℕ) (c surface n next mappings : ℕ) (ks ss : List Standing) → numbers c surface ≡ Some n → next ≡ mappings % 8 → IsStack numbers ks ss
    → IsStack numbers (with_mapped next c n ks) (with_mapped mappings c surface ss)
stack-mapped numbers c surface n next mappings ks ss is at stack =
    stack-more numbers ks ss _ _ (record { client = refl; place = place-of next mappings at; surface = is }) stack

-- ---- a client by itself

pub numbers-same : (c : ℕ) (numbers : ById ℕ) (others : ℕ → ById ℕ) → with_numbers c numbers others c ≡ numbers
numbers-same c numbers others = rw (same-number c) refl

-- from one client's numbers to others
pub numbers-by : (c : ℕ) (old new : ById ℕ) (others : ℕ → ById ℕ) (ss : List Standing) → ((surface n : ℕ) → Has ss c surface → old surface ≡ Some n → new surface ≡ Some n)
    → (a surface n : ℕ) → Has ss a surface → with_numbers c old others a surface ≡ Some n → with_numbers c new others a surface ≡ Some n
numbers-by c old new others ss same a surface n has is = at (a == c) refl
  where
    at : (b : Bool) → (a == c) ≡ b → with_numbers c new others a surface ≡ Some n
    at true e =
        let here : a ≡ c = eqb-true a c e in
        let old-is : old surface ≡ Some n = subst (λ (b : Bool). (cond b old (others a)) surface ≡ Some n) e is in
        subst (λ (b : Bool). (cond b new (others a)) surface ≡ Some n) (sym e) (same surface n (subst (λ (x : ℕ). Has ss x surface) here has) old-is)
    at false e =
        let other-is : others a surface ≡ Some n = subst (λ (b : Bool). (cond b old (others a)) surface ≡ Some n) e is in
        subst (λ (b : Bool). (cond b new (others a)) surface ≡ Some n) (sym e) other-is

-- none of a client's toplevels is left
pub none-stands : (c surface : ℕ) (ss : List Standing) → list_any (is_of c surface) (without_client c ss) ≡ false
none-stands c surface [] = refl
none-stands c surface (s ∷ ss) = at (s.client == c) refl (none-stands c surface ss)
  where
    at : (b : Bool) → (s.client == c) ≡ b → list_any (is_of c surface) (without_client c ss) ≡ false
        → list_any (is_of c surface) (cond (not b) (s ∷ without_client c ss) (without_client c ss)) ≡ false
    at true e rest = rest
    at false e rest = rw (e, rest) refl

-- those that aren't a client's are all, where it has none
pub others-all : (c : ℕ) (ss : List Standing) → list_any (λ s. s.client == c) ss ≡ false → without_client c ss ≡ ss
others-all c [] none = refl
others-all c (s ∷ ss) none =
    rw (or-left (s.client == c) _ none) (ap (λ (rest : List Standing). s ∷ rest) (others-all c ss (or-right (s.client == c) _ none)))

-- one of whose surfaces none stands has no toplevel
pub none-standing : (c : ℕ) (ss : List Standing) → ((surface : ℕ) → list_any (is_of c surface) ss ≡ false) → list_any (λ s. s.client == c) ss ≡ false
none-standing c [] none = refl
none-standing c (s ∷ ss) none = at (s.client == c) refl (none-standing c ss (λ surface. or-right (is_of c surface s) (list_any (is_of c surface) ss) (none surface)))
  where
    at : (b : Bool) → (s.client == c) ≡ b → list_any (λ s. s.client == c) ss ≡ false → (b || list_any (λ s. s.client == c) ss) ≡ false
    at true e rest =
        absurd (true≢false (sym (and_from (s.client == c) (s.surface == s.surface) e (same-number s.surface)) ∙ or-left (is_of c s.surface s) (list_any (is_of c s.surface) ss) (none s.surface)))
    at false e rest = rest

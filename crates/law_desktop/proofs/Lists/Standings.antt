-- Toplevels that stand: what is found among them when some go or one comes.
use Rattle.std.proofs.Common.{◌≡◌, ◌≢◌, ℕ, List, [], ◌∷◌, ◌++◌, Bool, true, false, cond, refl, ap, sym, ◌∙◌}
use Rattle.std.specs.Prelude.{◌==◌, ◌||◌, not, filter}
use Rattle.std.specs.List.{list_any}
use Rattle.std.proofs.lemmas.Bool.{and_from, eqb-true, false_from_ne_true, true≢false}
use Rattle.spec_desktop.specs.Stacking.{Standing, is_of, with_mapped, without_client, without_surface_of}
use Rattle.spec_desktop.specs.Windows.{mapping_place}
use Rattle.law_desktop.specs.Laws.{AreApart}
use Rattle.law_desktop.proofs.Marks.Stacks.{equal-numbers}
use Rattle.law_desktop.proofs.Truth.{and-left, and-right, or-assoc, or-false, or-left, or-right, or-true}

-- ---- lists

-- what passes is left
pub any-left : {X : Type 0} (p q : X → Bool) → ((x : X) → p x ≡ true → q x ≡ true) → (xs : List X) → list_any p (filter q xs) ≡ list_any p xs
any-left p q keeps [] = refl
any-left p q keeps (x ∷ xs) = at (p x) (q x) refl refl (any-left p q keeps xs)
  where
    at : (a b : Bool) → p x ≡ a → q x ≡ b → list_any p (filter q xs) ≡ list_any p xs → list_any p (cond b (x ∷ filter q xs) (filter q xs)) ≡ (a || list_any p xs)
    at true true e f rest = ap (λ c. c || list_any p (filter q xs)) e
    at false true e f rest = ap (λ c. c || list_any p (filter q xs)) e ∙ rest
    at true false e f rest = absurd (true≢false (sym (keeps x e) ∙ f))
    at false false e f rest = rest

-- what passes is left out
pub any-gone : {X : Type 0} (p q : X → Bool) → ((x : X) → p x ≡ true → q x ≡ false) → (xs : List X) → list_any p (filter q xs) ≡ false
any-gone p q goes [] = refl
any-gone p q goes (x ∷ xs) = at (p x) (q x) refl refl (any-gone p q goes xs)
  where
    at : (a b : Bool) → p x ≡ a → q x ≡ b → list_any p (filter q xs) ≡ false → list_any p (cond b (x ∷ filter q xs) (filter q xs)) ≡ false
    at true true e f rest = absurd (true≢false (sym f ∙ goes x e))
    at false true e f rest = ap (λ c. c || list_any p (filter q xs)) e ∙ rest
    at a false e f rest = rest

-- where nothing passes, nothing that is left does
pub none-left : {X : Type 0} (p q : X → Bool) (xs : List X) → list_any p xs ≡ false → list_any p (filter q xs) ≡ false
none-left p q [] none = refl
none-left p q (x ∷ xs) none = at (q x) (none-left p q xs (or-right (p x) (list_any p xs) none))
  where
    at : (b : Bool) → list_any p (filter q xs) ≡ false → list_any p (cond b (x ∷ filter q xs) (filter q xs)) ≡ false
    at true rest = ap (λ c. c || list_any p (filter q xs)) (or-left (p x) (list_any p xs) none) ∙ rest
    at false rest = rest

pub any-last : {X : Type 0} (p : X → Bool) (xs : List X) (x : X) → list_any p (xs ++ x ∷ []) ≡ (list_any p xs || p x)
any-last p [] x = or-false (p x)
any-last p (y ∷ ys) x = ap (λ b. p y || b) (any-last p ys x) ∙ or-assoc (p y) (list_any p ys) (p x)

-- ---- toplevels of a surface

pub of-client : (c surface : ℕ) (s : Standing) → is_of c surface s ≡ true → s.client ≡ c
of-client c surface s is = eqb-true s.client c (and-left (s.client == c) (s.surface == surface) is)

pub of-surface : (c surface : ℕ) (s : Standing) → is_of c surface s ≡ true → s.surface ≡ surface
of-surface c surface s is = eqb-true s.surface surface (and-right (s.client == c) (s.surface == surface) is)

pub of-it : (c surface : ℕ) (s : Standing) → s.client ≡ c → s.surface ≡ surface → is_of c surface s ≡ true
of-it c surface s is here = and_from (s.client == c) (s.surface == surface) (equal-numbers s.client c is) (equal-numbers s.surface surface here)

-- it isn't of another surface
pub of-another : (c surface : ℕ) (s : Standing) → s.surface ≢ surface → is_of c surface s ≡ false
of-another c surface s other = false_from_ne_true (is_of c surface s) (λ is. other (of-surface c surface s is))

-- ---- none stands twice

pub apart-left : (q : Standing → Bool) (ss : List Standing) → AreApart ss → AreApart (filter q ss)
apart-left q [] apart = tt
apart-left q (s ∷ ss) apart = at (q s) (apart-left q ss apart.1)
  where
    at : (b : Bool) → AreApart (filter q ss) → AreApart (cond b (s ∷ filter q ss) (filter q ss))
    at true rest = (none-left (is_of s.client s.surface) q ss apart.0, rest)
    at false rest = rest

pub apart-last : (ss : List Standing) (t : Standing) → AreApart ss → list_any (is_of t.client t.surface) ss ≡ false → AreApart (ss ++ t ∷ [])
apart-last [] t apart none = (refl, tt)
apart-last (s ∷ ss) t apart none = (
  any-last (is_of s.client s.surface) ss t ∙ ap (λ b. b || is_of s.client s.surface t) apart.0 ∙ false_from_ne_true (is_of s.client s.surface t) turned,
  apart-last ss t apart.1 (or-right (is_of t.client t.surface s) (list_any (is_of t.client t.surface) ss) none),
)
  where
    turned : is_of s.client s.surface t ≡ true → ⊥
    turned is =
        true≢false (sym (of-it t.client t.surface s (sym (of-client s.client s.surface t is)) (sym (of-surface s.client s.surface t is)))
        ∙ or-left (is_of t.client t.surface s) (list_any (is_of t.client t.surface) ss) none)

-- ---- one is mapped

-- the toplevel that is mapped
abbrev newest : ℕ → ℕ → ℕ → Standing
newest m c surface = record { client = c; surface = surface; place = mapping_place m }

pub mapped-apart : (m c surface : ℕ) (ss : List Standing) → AreApart ss → list_any (is_of c surface) ss ≡ false → AreApart (with_mapped m c surface ss)
mapped-apart m c surface ss apart none = apart-last ss (newest m c surface) apart none

pub mapped-here : (m c surface : ℕ) (ss : List Standing) → list_any (is_of c surface) (with_mapped m c surface ss) ≡ true
mapped-here m c surface ss =
    any-last (is_of c surface) ss (newest m c surface)
    ∙ ap (λ b. list_any (is_of c surface) ss || b) (of-it c surface (newest m c surface) refl refl)
    ∙ or-true (list_any (is_of c surface) ss)

-- what is found but the newest
mapped-else : (m c surface client other : ℕ) (ss : List Standing) → is_of client other (newest m c surface) ≡ false
    → list_any (is_of client other) (with_mapped m c surface ss) ≡ list_any (is_of client other) ss
mapped-else m c surface client other ss not_it =
    any-last (is_of client other) ss (newest m c surface) ∙ ap (λ b. list_any (is_of client other) ss || b) not_it ∙ or-false (list_any (is_of client other) ss)

pub mapped-another : (m c surface other : ℕ) (ss : List Standing) → surface ≢ other → list_any (is_of c other) (with_mapped m c surface ss) ≡ list_any (is_of c other) ss
mapped-another m c surface other ss apart = mapped-else m c surface c other ss (of-another c other (newest m c surface) apart)

-- ---- one is taken out

pub without-here : (c surface : ℕ) (ss : List Standing) → list_any (is_of c surface) (without_surface_of c surface ss) ≡ false
without-here c surface ss = any-gone (is_of c surface) (λ s. not (is_of c surface s)) (λ s is. ap (λ b. not b) is) ss

pub without-another : (c surface other : ℕ) (ss : List Standing) → surface ≢ other → list_any (is_of c other) (without_surface_of c surface ss) ≡ list_any (is_of c other) ss
without-another c surface other ss apart =
    any-left (is_of c other) (λ s. not (is_of c surface s)) (λ s is. ap (λ b. not b) (of-another c surface s (λ e. apart (sym e ∙ of-surface c other s is)))) ss

-- ---- all of a client are

pub ended-here : (c surface : ℕ) (ss : List Standing) → list_any (is_of c surface) (without_client c ss) ≡ false
ended-here c surface ss = any-gone (is_of c surface) (λ s. not (s.client == c)) (λ s is. ap (λ b. not b) (and-left (s.client == c) (s.surface == surface) is)) ss

pub ended-other : (c client surface : ℕ) (ss : List Standing) → c ≢ client → list_any (is_of client surface) (without_client c ss) ≡ list_any (is_of client surface) ss
ended-other c client surface ss apart =
    any-left (is_of client surface) (λ s. not (s.client == c)) (λ s is. ap (λ b. not b) (false_from_ne_true (s.client == c) (λ e. apart (sym (eqb-true s.client c e) ∙ of-client client surface s is)))) ss

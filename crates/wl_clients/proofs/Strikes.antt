-- The clients that are to end, by what is kept of all clients.
use Rattle.std.proofs.Common.{◌≡◌, ℕ, ◌+◌, suc, zero, ◌<◌, ◌≤◌, List, [], ◌∷◌, ◌++◌, Bool, true, false, Option, Some, None, length, set, eq-eqb, refl, ap, subst, sym, ◌∙◌, arith}
use Rattle.std.specs.List.{list_any}
use Rattle.std.specs.Prelude.{◌==◌, ◌||◌, if◌then◌else◌, is_some}
use Rattle.std.proofs.lemmas.List.Folds.{list_any-append}
use Rattle.std.proofs.lemmas.Bool.{eqb-true, le-ltb, lt-ltb}
use Rattle.wl_client.specs.View.{ClientView}
use Rattle.spec_desktop.specs.declared.cause.Cause.{Cause}
use Rattle.spec_desktop.specs.Settling.{Strike, in_order, is_struck, struck_by}
use Rattle.wl_clients.specs.Midway.{strike_for, strike_of, strikes_from}
use Rattle.wl_clients.proofs.Desktops.{at}

-- why an event for a client wasn't queued, if one wasn't
abbrev pub refused_in : Option ClientView → Option Cause
refused_in None = None
refused_in (Some v) = v.refused

pub of-refused : (c : ℕ) (o : Option ClientView) → strike_of c o ≡ strike_for c (refused_in o)
of-refused c None = refl
of-refused c (Some v) = refl

none-less : (c : ℕ) → (c == c) ≡ true
none-less c = eq-eqb c c refl

apart-less : (a b : ℕ) → a < b → (b == a) ≡ false
apart-less a b less = at (b == a) refl
  where
    at : (t : Bool) → (b == a) ≡ t → (b == a) ≡ false
    at false e = e
    at true e = let same = eqb-true b a e in absurd (omega (arith, same, less))

-- no strike from this number on is of a lower one
pub none-struck : (c start : ℕ) (vs : List (Option ClientView)) → c < start → is_struck c (strikes_from start vs) ≡ false
none-struck c start [] less = refl
none-struck c start (v ∷ vs) less =
    list_any-append (λ (s : Strike). s.client == c) (strike_of start v) (strikes_from (suc start) vs)
    ∙ ap (λ (b : Bool). b || is_struck c (strikes_from (suc start) vs))
    (ap (λ (ss : List Strike). list_any (λ (s : Strike). s.client == c) ss) (of-refused start v) ∙ by (refused_in v))
    ∙ none-struck c (suc start) vs (omega (arith, less))
  where
    by : (o : Option Cause) → list_any (λ (s : Strike). s.client == c) (strike_for start o) ≡ false
    by None = refl
    by (Some cause) = ap (λ (b : Bool). b || false) (apart-less c start less)

-- a client is to end where an event for it wasn't queued
pub struck-at : (c start k : ℕ) (vs : List (Option ClientView)) → c ≡ start + k → is_struck c (strikes_from start vs) ≡ is_some (refused_in (at vs k))
struck-at c start k [] e = refl
struck-at c start zero (v ∷ vs) e =
    let same : c ≡ start = omega (arith, e) in
    list_any-append (λ (s : Strike). s.client == c) (strike_of start v) (strikes_from (suc start) vs)
    ∙ ap (λ (ss : List Strike). list_any (λ (s : Strike). s.client == c) ss || is_struck c (strikes_from (suc start) vs)) (of-refused start v)
    ∙ here same (refused_in v)
  where
    here : c ≡ start → (o : Option Cause) → (list_any (λ (s : Strike). s.client == c) (strike_for start o) || is_struck c (strikes_from (suc start) vs)) ≡ is_some o
    here same None = none-struck c (suc start) vs (omega (arith, same))
    here same (Some cause) = ap (λ (b : Bool). (b || false) || is_struck c (strikes_from (suc start) vs)) (subst (λ (n : ℕ). (n == c) ≡ true) same (none-less c))
struck-at c start (suc k) (v ∷ vs) e =
    list_any-append (λ (s : Strike). s.client == c) (strike_of start v) (strikes_from (suc start) vs)
    ∙ ap (λ (ss : List Strike). list_any (λ (s : Strike). s.client == c) ss || is_struck c (strikes_from (suc start) vs)) (of-refused start v)
    ∙ ap (λ (b : Bool). b || is_struck c (strikes_from (suc start) vs)) (other (refused_in v))
    ∙ struck-at c (suc start) k vs (omega (arith, e))
  where
    apart : (start == c) ≡ false
    apart = at-b (start == c) refl
      where
        at-b : (t : Bool) → (start == c) ≡ t → (start == c) ≡ false
        at-b false f = f
        at-b true f = let same = eqb-true start c f in absurd (omega (arith, same, e))

    other : (o : Option Cause) → list_any (λ (s : Strike). s.client == c) (strike_for start o) ≡ false
    other None = refl
    other (Some cause) = ap (λ (b : Bool). b || false) apart

-- ---- one more is to end

-- one of a lower number comes first
first-in : (s : Strike) (start : ℕ) (vs : List (Option ClientView)) → s.client < start → in_order s (strikes_from start vs) ≡ s ∷ strikes_from start vs
first-in s start [] less = refl
first-in s start (v ∷ vs) less =
    subst (λ (ts : List Strike). in_order s (ts ++ strikes_from (suc start) vs) ≡ s ∷ (ts ++ strikes_from (suc start) vs)) (sym (of-refused start v))
    (by (refused_in v) (first-in s (suc start) vs (omega (arith, less))))
  where
    by : (o : Option Cause) → in_order s (strikes_from (suc start) vs) ≡ s ∷ strikes_from (suc start) vs
        → in_order s (strike_for start o ++ strikes_from (suc start) vs) ≡ s ∷ (strike_for start o ++ strikes_from (suc start) vs)
    by None later = later
    by (Some cause) later =
        ap (λ (b : Bool). if b then s ∷ record { client = start; cause = cause } ∷ strikes_from (suc start) vs
        else record { client = start; cause = cause } ∷ in_order s (strikes_from (suc start) vs)) (lt-ltb s.client start less)

struck-by : (c : ℕ) (why : Option Cause) (start : ℕ) (vs : List (Option ClientView)) → c < start → struck_by c why (strikes_from start vs) ≡ strike_for c why ++ strikes_from start vs
struck-by c None start vs less = refl
struck-by c (Some cause) start vs less = first-in (record { client = c; cause = cause }) start vs less

past-by : (c : ℕ) (why : Option Cause) (t : Strike) (ts : List Strike) → t.client ≤ c → struck_by c why (t ∷ ts) ≡ t ∷ struck_by c why ts
past-by c None t ts more = refl
past-by c (Some cause) t ts more =
    let s : Strike = record { client = c; cause = cause } in
    ap (λ (b : Bool). if b then s ∷ t ∷ ts else t ∷ in_order s ts) (le-ltb c t.client more)

-- A client for which no event was refused so far is to end, or isn't: it takes its place among those.
pub struck-more : (c start k : ℕ) (vs : List (Option ClientView)) (x : Option ClientView) → c ≡ start + k → k < length vs → refused_in (at vs k) ≡ None
    → strikes_from start (set vs k x) ≡ struck_by c (refused_in x) (strikes_from start vs)
struck-more c start k [] x e within free = absurd (omega (arith, within))
struck-more c start zero (v ∷ vs) x e within free =
    let same : c ≡ start = omega (arith, e) in
    ap (λ (ts : List Strike). ts ++ strikes_from (suc start) vs) (of-refused start x ∙ ap (λ (n : ℕ). strike_for n (refused_in x)) (sym same))
    ∙ sym (struck-by c (refused_in x) (suc start) vs (omega (arith, same)))
    ∙ ap (λ (ts : List Strike). struck_by c (refused_in x) (ts ++ strikes_from (suc start) vs)) (sym (of-refused start v ∙ ap (strike_for start) free))
struck-more c start (suc k) (v ∷ vs) x e within free =
    ap (λ (ts : List Strike). strike_of start v ++ ts) (struck-more c (suc start) k vs x (omega (arith, e)) (omega (arith, within)) free)
    ∙ subst (λ (ts : List Strike). ts ++ struck_by c (refused_in x) (strikes_from (suc start) vs) ≡ struck_by c (refused_in x) (ts ++ strikes_from (suc start) vs)) (sym (of-refused start v))
    (by (refused_in v))
  where
    by : (o : Option Cause) → strike_for start o ++ struck_by c (refused_in x) (strikes_from (suc start) vs) ≡ struck_by c (refused_in x) (strike_for start o ++ strikes_from (suc start) vs)
    by None = refl
    by (Some cause) = sym (past-by c (refused_in x) (record { client = start; cause = cause }) (strikes_from (suc start) vs) (omega (arith, e)))

-- ---- the first that is to end does

strikes-late : (start : ℕ) (vs : List (Option ClientView)) (s : Strike) (ss : List Strike) → strikes_from start vs ≡ s ∷ ss → start ≤ s.client
strikes-late start [] s ss e = absurd (cc)
strikes-late start (v ∷ vs) s ss e =
    by (refused_in v) (strikes-late (suc start) vs s ss) (ap (λ (ts : List Strike). ts ++ strikes_from (suc start) vs) (sym (of-refused start v)) ∙ e)
  where
    by : (o : Option Cause) → (strikes_from (suc start) vs ≡ s ∷ ss → suc start ≤ s.client) → strike_for start o ++ strikes_from (suc start) vs ≡ s ∷ ss → start ≤ s.client
    by None later f = let late = later f in omega (arith, late)
    by (Some cause) later f = let same : start ≡ s.client = ap first-client f in omega (arith, same)
      where
        first-client : List Strike → ℕ
        first-client [] = start
        first-client (t ∷ ts) = t.client

-- The first of those that are to end is refused for its cause; and once nothing is refused to it the others are left.
pub struck-first : (start k : ℕ) (vs : List (Option ClientView)) (x : Option ClientView) (s : Strike) (ss : List Strike) → s.client ≡ start + k → refused_in x ≡ None
    → strikes_from start vs ≡ s ∷ ss → (refused_in (at vs k) ≡ Some s.cause) × (strikes_from start (set vs k x) ≡ ss)
struck-first start k [] x s ss e free is = absurd (cc)
struck-first start k (v ∷ vs) x s ss e free is =
    by (refused_in v) refl (ap (λ (ts : List Strike). ts ++ strikes_from (suc start) vs) (sym (of-refused start v)) ∙ is) k e
    (λ (j : ℕ) (ts : List Strike). struck-first (suc start) j vs x s ts)
  where
    head-or : List Strike → Strike
    head-or [] = s
    head-or (t ∷ ts) = t

    tail-of : List Strike → List Strike
    tail-of [] = []
    tail-of (t ∷ ts) = ts

    by : (o : Option Cause) → refused_in v ≡ o → strike_for start o ++ strikes_from (suc start) vs ≡ s ∷ ss → (j : ℕ) → s.client ≡ start + j
        → ((i : ℕ) (ts : List Strike) → s.client ≡ suc start + i → refused_in x ≡ None → strikes_from (suc start) vs ≡ s ∷ ts
        → (refused_in (at vs i) ≡ Some s.cause) × (strikes_from (suc start) (set vs i x) ≡ ts))
        → (refused_in (at (v ∷ vs) j) ≡ Some s.cause) × (strikes_from start (set (v ∷ vs) j x) ≡ ss)
    by None r f zero g later = let late = strikes-late (suc start) vs s ss f in absurd (omega (arith, late, g))
    by None r f (suc j) g later =
        let next = later j ss (omega (arith, g)) free f in
        (next.0, ap (λ (ts : List Strike). ts ++ strikes_from (suc start) (set vs j x)) (of-refused start v ∙ ap (strike_for start) r) ∙ next.1)
    by (Some cause) r f zero g later = (
      r ∙ ap (λ (t : Strike). Some t.cause) (ap head-or f),
      ap (λ (ts : List Strike). ts ++ strikes_from (suc start) vs) (of-refused start x ∙ ap (strike_for start) free) ∙ ap tail-of f,
    )
    by (Some cause) r f (suc j) g later = let same : start ≡ s.client = ap (λ (t : Strike). t.client) (ap head-or f) in absurd (omega (arith, same, g))

-- A store at its place: what changes of the whole list with it. The numbers rise there.
use Rattle.std.proofs.Common.{◌≡◌, ℕ, zero, suc, ◌<◌, ◌≤◌, Bool, true, false, cond, not, List, [], ◌∷◌, Option, Some, None, length, get_or, set, map, arith, refl, ap, sym, eqb, ◌∙◌}
use Rattle.std.specs.List.{filter, find, remove, position, position_or_len, slice_get}
use Rattle.std.specs.Prelude.{nat_lt, IfSome, IfNone}
use Rattle.std.proofs.lemmas.Bool.{eqb-true}
use Rattle.std.proofs.lemmas.Bool.Decides.{nat_tests}
use Rattle.std.proofs.lemmas.List.Folds.{find_at}
use Rattle.std.proofs.lemmas.List.Quantifiers.{position-Some}
use Rattle.std.proofs.lemmas.List.Sums.{position_or_len_is}
use Rattle.std.proofs.lemmas.Option.{slice_get_past, slice_get_read}
use Rattle.wl_store.specs.Stores.{Held, IsNumbered, IsPlace}

pub has-number : (s : Held) (number : ℕ) → s.number ≡ number → eqb s.number number ≡ true
has-number s number e = grind (arith, nat_tests)

pub above-number : (s : Held) (number : ℕ) → number < s.number → eqb s.number number ≡ false
above-number s number h = grind (arith, nat_tests)

pub below-number : (s : Held) (number : ℕ) → s.number < number → eqb s.number number ≡ false
below-number s number h = grind (arith, nat_tests)

numbered-made : (low made : ℕ) (held : List Held) → IsNumbered low made held → low ≤ made
numbered-made low made [] n = n
numbered-made low made (s ∷ ss) n = let given = numbered-made s.number made ss n.1 in omega (arith, n.0, given)

-- The numbers from a place on are above those before it.
pub numbered-above : (low made : ℕ) (held : List Held) (place : ℕ) (d : Held) → IsNumbered low made held → place < length held → low < (get_or held place d).number
numbered-above low made [] place d n h = absurd (omega arith)
numbered-above low made (s ∷ ss) zero d n h = n.0
numbered-above low made (s ∷ ss) (suc place) d n h =
    let rest = numbered-above s.number made ss place d n.1 (omega arith) in
    omega (arith, n.0, rest)

-- A change of a number that isn't there changes nothing.
map-miss : (number low made : ℕ) (f : Held → Held) (held : List Held) → number ≤ low → IsNumbered low made held → map (λ s. cond (eqb s.number number) (f s) s) held ≡ held
map-miss number low made f [] h n = refl
map-miss number low made f (s ∷ ss) h n =
    rw (above-number s number (omega (arith, n.0))) (ap (λ t. s ∷ t) (map-miss number s.number made f ss (omega (arith, n.0)) n.1))

-- A change at the place changes the store of that number.
pub set-map : (number low made : ℕ) (f : Held → Held) (held : List Held) (place : ℕ) (x d : Held) → IsNumbered low made held → place < length held → (get_or held place d).number ≡ number
    → x ≡ f (get_or held place d)
    → set held place x ≡ map (λ s. cond (eqb s.number number) (f s) s) held
set-map number low made f [] place x d n h e q = absurd (omega arith)
set-map number low made f (s ∷ ss) zero x d n h e q =
    rw (has-number s number e, q, map-miss number s.number made f ss (omega (arith, e)) n.1)
set-map number low made f (s ∷ ss) (suc place) x d n h e q =
    let above = numbered-above s.number made ss place d n.1 (omega arith) in
    rw (below-number s number (omega (arith, above, e))) (ap (λ t. s ∷ t) (set-map number s.number made f ss place x d n.1 (omega arith) e q))

filter-miss : (number low made : ℕ) (held : List Held) → number ≤ low → IsNumbered low made held → filter (λ s. not (eqb s.number number)) held ≡ held
filter-miss number low made [] h n = refl
filter-miss number low made (s ∷ ss) h n =
    rw (above-number s number (omega (arith, n.0))) (ap (λ t. s ∷ t) (filter-miss number s.number made ss (omega (arith, n.0)) n.1))

-- Taking out the place takes out the store of that number.
pub remove-filter : (number low made : ℕ) (held : List Held) (place : ℕ) (d : Held) → IsNumbered low made held → place < length held → (get_or held place d).number ≡ number
    → remove held place ≡ filter (λ s. not (eqb s.number number)) held
remove-filter number low made [] place d n h e = absurd (omega arith)
remove-filter number low made (s ∷ ss) zero d n h e =
    rw (has-number s number e, filter-miss number s.number made ss (omega (arith, e)) n.1)
remove-filter number low made (s ∷ ss) (suc place) d n h e =
    let above = numbered-above s.number made ss place d n.1 (omega arith) in
    rw (below-number s number (omega (arith, above, e))) (ap (λ t. s ∷ t) (remove-filter number s.number made ss place d n.1 (omega arith) e))

pub no-store : Held
no-store = record { number = 0; bytes = []; uses = 0 }

-- The place of the first store of the number is found by looking for it.
pub place-found : (held : List Held) (number : ℕ) (place : Option ℕ) → place ≡ position (λ s. eqb s.number number) held → IfSome place (IsPlace held number)
place-found held number None e = tt
place-found held number (Some place) e =
    let has : Held → Bool = λ s. eqb s.number number in
    let at = position-Some has held place no-store (sym e) in
    record {
      within = at.0;
      found = find_at has held ∙ ap (slice_get held) (position_or_len_is has held place no-store (omega (arith, at.0)) at.2 (λ _. at.1));
      numbered = λ d'. eqb-true _ number (position-Some has held place d' (sym e)).1;
    }

not-there : (b : Bool) (n : ℕ) → cond b (Some n) None ≡ None → b ≡ false
not-there true n e = cc
not-there false n e = refl

pub place-absent : (held : List Held) (number : ℕ) (place : Option ℕ) → place ≡ position (λ s. eqb s.number number) held → IfNone place (find (λ s. eqb s.number number) held ≡ None)
place-absent held number None e =
    let has : Held → Bool = λ s. eqb s.number number in
    let past : nat_lt (position_or_len has held) (length held) ≡ false = not-there _ _ (sym e) in
    let beyond : length held ≤ position_or_len has held = grind (arith, nat_tests) in
    find_at has held ∙ slice_get_past held (position_or_len has held) beyond
place-absent held number (Some place) e = tt

-- What is read at the place is the store of that number.
pub place-reads : (held : List Held) (number place : ℕ) (s : Held) → IsPlace held number place → s ≡ get_or held place s → find (λ s. eqb s.number number) held ≡ Some s
place-reads held number place s p e = p.found ∙ slice_get_read held (length held) place s refl p.within e

-- Two reads at one place are the same.
pub reads-same : (held : List Held) (place : ℕ) (s t : Held) → place < length held → s ≡ get_or held place s → t ≡ get_or held place t → s ≡ t
reads-same held place s t h e q =
    let both = sym (slice_get_read held (length held) place s refl h e) ∙ slice_get_read held (length held) place t refl h q in
    cc

-- A number above all that were given has no store.
pub fresh : (number low made : ℕ) (held : List Held) → made < number → IsNumbered low made held → find (λ s. eqb s.number number) held ≡ None
fresh number low made [] h n = refl
fresh number low made (s ∷ ss) h n =
    let given = numbered-made s.number made ss n.1 in
    rw (below-number s number (omega (arith, given))) (fresh number s.number made ss h n.1)

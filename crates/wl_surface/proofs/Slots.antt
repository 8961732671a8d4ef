-- The surfaces of a client by their numbers.
use Rattle.std.proofs.Common.{◌≡◌, ◌≢◌, ℕ, zero, suc, ◌+◌, ◌==◌, ◌<◌, length, ◌||◌, List, [], ◌∷◌, Bool, true, false, cond, Option, Some, None, slice_set, refl, ap, sym, subst, ◌∙◌, arith}
use Rattle.slab.specs.Slab.{entries_from}
use Rattle.std.specs.List.{list_any}
use Rattle.std.specs.Prelude.{count_by, is_some}
use Rattle.std.proofs.lemmas.Bool.{eqb-true, eqb-false}
use Rattle.std.proofs.lemmas.List.{get_or-set_other, get_or-set_same}
use Rattle.std.proofs.lemmas.List.Sums.{sum_by-set}
use Rattle.std.specs.Option.{option_map}
use Rattle.wl_surface.specs.Surface.{Surface}
use Rattle.wl_geom.specs.Region.{Area, Change}
use Rattle.wl_surface.specs.Kept.{IsInput, has_new_input, kept_has, kept_shows, latest, Kept, StandsFor}
use Rattle.wl_surface.specs.State.{applied, held, pending}
use Rattle.wl_surface.specs.Slots.{Changes, HasInputApplied, one_if_kept, IsAny, has_at, shows_at, with_at, Numbered, StandsAt, place_at}
use Rattle.wl_surface.specs.declared.frames.Waiting.{Waiting}

abbrev Places : Type 0
Places = List (Option Kept)

abbrev Stand : Places → Numbered → Type 0
Stand slots all = (number : ℕ) → StandsAt (place_at slots number) (all number)

abbrev places_counted : Places → ℕ
places_counted slots = count_by is_some slots

-- A number under which something is kept is that of a place.
within : (slots : Places) (number : ℕ) (k : Kept) → place_at slots number ≡ Some k → number < length slots
within [] number k e = absurd (cc)
within (slot ∷ slots) zero k e = omega arith
within (slot ∷ slots) (suc number) k e = let less = within slots number k e in omega (arith, less)

kept-here : (slots : Places) (number : ℕ) (k new : Kept) → place_at slots number ≡ Some k → place_at (slice_set slots number (Some new)) number ≡ Some new
kept-here slots number k new e = get_or-set_same slots number (Some new) None (within slots number k e)

kept-there : (slots : Places) (number other : ℕ) (slot : Option Kept) → (other == number) ≡ false → place_at (slice_set slots number slot) other ≡ place_at slots other
kept-there slots number other slot differs = get_or-set_other slots number other slot None (eqb-false other number differs)

counted-after : (slots : Places) (number : ℕ) (k new : Kept) → place_at slots number ≡ Some k → places_counted (slice_set slots number (Some new)) ≡ places_counted slots
counted-after slots number k new e =
    let sums = sum_by-set one_if_kept slots number (Some new) None (within slots number k e) in
    let was : one_if_kept (place_at slots number) ≡ 1 = ap one_if_kept e in
    omega (arith, sums, was)

-- What stands for a surface under its number is one.
standing : (k new : Kept) (change : Surface → Surface) (at : Option Surface) → StandsAt (Some k) at → ((s : Surface) → StandsFor k s → StandsFor new (change s))
    → StandsAt (Some new) (option_map change at)
standing k new change None s to = s
standing k new change (Some at) s to = to at s

standing-for : (slots : Places) (number other : ℕ) (k new : Kept) (change : Surface → Surface) (all : Numbered) (b : Bool) → (other == number) ≡ b → place_at slots number ≡ Some k
    → ((s : Surface) → StandsFor k s → StandsFor new (change s)) → Stand slots all
    → StandsAt (place_at (slice_set slots number (Some new)) other) (cond b (option_map change (all other)) (all other))
standing-for slots number other k new change all true same e to stand =
    let at = eqb-true other number same in
    let here = ap (place_at (slice_set slots number (Some new))) at ∙ kept-here slots number k new e in
    subst (λ (slot : Option Kept). StandsAt slot (option_map change (all other))) (sym here)
    (standing k new change (all other) (subst (λ (slot : Option Kept). StandsAt slot (all other)) (ap (place_at slots) at ∙ e) (stand other)) to)
standing-for slots number other k new change all false differs e to stand =
    subst (λ (slot : Option Kept). StandsAt slot (all other)) (sym (kept-there slots number other (Some new) differs)) (stand other)

pub Changes-at : (slots : Places) (frames after : List Waiting) (number : ℕ) (k new : Kept) (change : Surface → Surface) → place_at slots number ≡ Some k
    → ((s : Surface) → StandsFor k s → StandsFor new (change s))
    → Changes (record { places = slots; frames = frames }) (record { places = slice_set slots number (Some new); frames = after }) number change
Changes-at slots frames after number k new change e to = record {
  stand = λ all stand other. standing-for slots number other k new change all (other == number) refl e to stand;
  count = counted-after slots number k new e;
}

nobody-at : (change : Surface → Surface) (at : Option Surface) → StandsAt None at → option_map change at ≡ at
nobody-at change None s = refl
nobody-at change (Some at) s = absurd (s)

-- Without a surface, none changes.
pub Changes-none : (slots : Places) (frames after : List Waiting) (number : ℕ) (change : Surface → Surface) → place_at slots number ≡ None
    → Changes (record { places = slots; frames = frames }) (record { places = slots; frames = after }) number change
Changes-none slots frames after number change e = record {
  stand = λ all stand other. none-changes slots number other change all (other == number) refl e stand;
  count = refl;
} where
  none-changes : (slots : Places) (number other : ℕ) (change : Surface → Surface) (all : Numbered) (b : Bool) → (other == number) ≡ b → place_at slots number ≡ None → Stand slots all
      → StandsAt (place_at slots other) (cond b (option_map change (all other)) (all other))
  none-changes slots number other change all true same e stand =
      let at = eqb-true other number same in
      subst (λ (s : Option Surface). StandsAt (place_at slots other) s)
      (sym (nobody-at change (all other) (subst (λ (slot : Option Kept). StandsAt slot (all other)) (ap (place_at slots) at ∙ e) (stand other)))) (stand other)
  none-changes slots number other change all false differs e stand = stand other

-- one more surface, under a number that none had
pub with-new : (old new : Places) (number : ℕ) (k : Kept) (s : Surface) → place_at old number ≡ None → place_at new number ≡ Some k
    → ((other : ℕ) → other ≢ number → place_at new other ≡ place_at old other) → StandsFor k s
    → (all : Numbered) → Stand old all → (all number ≡ None) × Stand new (with_at number (Some s) all)
with-new old new number k s none here others t all stand = (
  no-surface (all number) (subst (λ (slot : Option Kept). StandsAt slot (all number)) none (stand number)),
  λ other. stands-new old new number other k s all (other == number) refl here others t stand,
) where
  no-surface : (at : Option Surface) → StandsAt None at → at ≡ None
  no-surface None s = refl
  no-surface (Some at) s = absurd (s)

  stands-new : (old new : Places) (number other : ℕ) (k : Kept) (s : Surface) (all : Numbered) (b : Bool) → (other == number) ≡ b → place_at new number ≡ Some k
      → ((other : ℕ) → other ≢ number → place_at new other ≡ place_at old other) → StandsFor k s → Stand old all
      → StandsAt (place_at new other) (cond b (Some s) (all other))
  stands-new old new number other k s all true same here others t stand =
      subst (λ (slot : Option Kept). StandsAt slot (Some s)) (sym (ap (place_at new) (eqb-true other number same) ∙ here)) t
  stands-new old new number other k s all false differs here others t stand =
      subst (λ (slot : Option Kept). StandsAt slot (all other)) (sym (others other (eqb-false other number differs))) (stand other)

-- ---- whether some surface has a property

abbrev Found : (Kept → Bool) → Places → Type 0
Found p slots = (number : ℕ) × (k : Kept) × (place_at slots number ≡ Some k) × (p k ≡ true)

found-later : (p : Kept → Bool) (slot : Option Kept) (slots : Places) → Found p slots → Found p (slot ∷ slots)
found-later p slot slots f = (suc f.0, f.1, f.2, f.3)

found-first : (p : Kept → Bool) (k : Kept) (slots : Places) (b rest : Bool) → p k ≡ b → (b || rest) ≡ true → (rest ≡ true → Found p slots) → Found p (Some k ∷ slots)
found-first p k slots true rest is e later = (zero, k, refl, is)
found-first p k slots false rest is e later = found-later p (Some k) slots (later e)

found-from : (p : Kept → Bool) (key : ℕ) (slots : Places) → list_any (λ e. p e.1) (entries_from key slots) ≡ true → Found p slots
found-from p key [] e = absurd (cc)
found-from p key (None ∷ slots) e = found-later p None slots (found-from p (key + 1) slots e)
found-from p key (Some k ∷ slots) e = found-first p k slots (p k) (list_any (λ x. p x.1) (entries_from (key + 1) slots)) refl e (found-from p (key + 1) slots)

first-lacks : (b rest : Bool) → (b || rest) ≡ false → b ≡ false
first-lacks true rest e = e
first-lacks false rest e = refl

rest-lacks : (b rest : Bool) → (b || rest) ≡ false → rest ≡ false
rest-lacks true rest e = absurd (cc)
rest-lacks false rest e = e

abbrev kept_or : Kept → Option Kept → Kept
kept_or k None = k
kept_or k (Some x) = x

none-from : (p : Kept → Bool) (key : ℕ) (slots : Places) → list_any (λ e. p e.1) (entries_from key slots) ≡ false → (number : ℕ) (k : Kept) → place_at slots number ≡ Some k → p k ≡ false
none-from p key [] e number k at = absurd (cc)
none-from p key (None ∷ slots) e zero k at = absurd (cc)
none-from p key (None ∷ slots) e (suc number) k at = none-from p (key + 1) slots e number k at
none-from p key (Some x ∷ slots) e zero k at = ap p (sym (ap (kept_or x) at)) ∙ first-lacks (p x) (list_any (λ y. p y.1) (entries_from (key + 1) slots)) e
none-from p key (Some x ∷ slots) e (suc number) k at = none-from p (key + 1) slots (rest-lacks (p x) (list_any (λ y. p y.1) (entries_from (key + 1) slots)) e) number k at

-- Some surface has the property exactly if one has it by what is kept.
pub IsAny-kept : (p : Kept → Bool) (q : Option Surface → Bool) → q None ≡ false → ((k : Kept) (s : Surface) → StandsFor k s → p k ≡ q (Some s)) → (slots : Places) (all : Numbered) → Stand slots all
    → (b : Bool) → list_any (λ e. p e.1) (entries_from 0 slots) ≡ b → IsAny q all b
IsAny-kept p q idle same slots all stand true e =
    let f = found-from p 0 slots e in (f.0, one (all f.0) f.1 (subst (λ (slot : Option Kept). StandsAt slot (all f.0)) f.2 (stand f.0)) f.3) where
      one : (at : Option Surface) (k : Kept) → StandsAt (Some k) at → p k ≡ true → q at ≡ true
      one None k s is = absurd (s)
      one (Some at) k s is = sym (same k at s) ∙ is
IsAny-kept p q idle same slots all stand false e = λ number. none (place_at slots number) (all number) (stand number) (none-from p 0 slots e number) where
  none : (slot : Option Kept) (at : Option Surface) → StandsAt slot at → ((k : Kept) → slot ≡ Some k → p k ≡ false) → q at ≡ false
  none None None s lacks = idle
  none None (Some at) s lacks = absurd (s)
  none (Some k) None s lacks = absurd (s)
  none (Some k) (Some at) s lacks = sym (same k at s) ∙ lacks k refl

pub shows-same : (b : ℕ) (k : Kept) (s : Surface) → StandsFor k s → kept_shows b k ≡ shows_at b (Some s)
shows-same b k s t = rw (t.history.current.buffer_is, t.history.held.buffer_is) refl

pub has-same : (b : ℕ) (k : Kept) (s : Surface) → StandsFor k s → kept_has b k ≡ has_at b (Some s)
has-same b k s t = rw (t.history.pending.buffer_is, t.history.current.buffer_is, t.history.held.buffer_is) refl

-- ---- input regions

-- a region stands for one list of changes
same-input : (area : Option Area) (a b : Option (List Change)) → IsInput area a → IsInput area b → a ≡ b
same-input None None None p q = refl
same-input (Some r) (Some xs) (Some ys) p q = ap Some (sym p.listed ∙ q.listed)
same-input None None (Some ys) p q = absurd q
same-input None (Some xs) b p q = absurd p
same-input (Some r) None b p q = absurd p
same-input (Some r) (Some xs) None p q = absurd q

input-applied : (k : Kept) (s : Surface) → StandsFor k s → has_new_input k ≡ false → HasInputApplied (Some s)
input-applied k s t none = by k.pending_input k.held_input refl refl none
  where
    by : (p h : Option (Option Area)) → k.pending_input ≡ p → k.held_input ≡ h → (is_some p || is_some h) ≡ false → HasInputApplied (Some s)
    by (Some p) h pends holds none = absurd (cc)
    by None (Some h) pends holds none = absurd (cc)
    by None None pends holds none =
        let now = t.history.current.input_is in
        let last : IsInput (latest k.held_input k.current_input) (pending s.history).input =
        subst (λ (o : Option (Option Area)). IsInput (latest o (latest k.held_input k.current_input)) (pending s.history).input) pends t.history.pending.input_is in (
          same-input k.current_input (pending s.history).input (applied s.history).input
              (subst (λ (o : Option (Option Area)). IsInput (latest o k.current_input) (pending s.history).input) holds last) now,
          same-input k.current_input (held s.history).input (applied s.history).input
              (subst (λ (o : Option (Option Area)). IsInput (latest o k.current_input) (held s.history).input) holds t.history.held.input_is) now,
        )

-- Where nothing is kept that isn't applied, each surface has its input region applied.
pub none-new : (slots : Places) (all : Numbered) → Stand slots all → list_any (λ e. has_new_input e.1) (entries_from 0 slots) ≡ false
    → (number : ℕ) → HasInputApplied (all number)
none-new slots all stand none number = at (place_at slots number) (all number) (stand number) (none-from has_new_input 0 slots none number)
  where
    at : (slot : Option Kept) (o : Option Surface) → StandsAt slot o → ((k : Kept) → slot ≡ Some k → has_new_input k ≡ false) → HasInputApplied o
    at None None s lacks = tt
    at (Some k) None s lacks = tt
    at None (Some t) s lacks = absurd s
    at (Some k) (Some t) s lacks = input-applied k t s (lacks k refl)

-- What is kept of a client's wl_subsurfaces goes on standing for them.
use Rattle.std.proofs.Common.{◌≡◌, ℕ, List, [], ◌∷◌, ◌++◌, Bool, true, false, Option, Some, None, cond, map, refl, ap, sym, ◌∙◌, eq-eqb}
use Rattle.std.specs.Prelude.{◌==◌, filter, find, not, slice_index_or}
use Rattle.std.specs.Option.{option_and_then}
use Rattle.std.proofs.lemmas.Bool.{eqb-false, eqb-true, ne_eqb}
use Rattle.std.proofs.lemmas.Option.{none-some, same_Some}
use Rattle.spec_desktop.specs.Objects.{ById, with_id}
use Rattle.spec_desktop.specs.Changing.{without_child}
use Rattle.spec_desktop.specs.Desktop.{Subsurface}
use Rattle.wl_links.specs.Subsurfaces.{IsSetAt}
use Rattle.law_desktop.specs.Subsurfaces.{AreOfSurfaces, child_of}
use Rattle.law_desktop.proofs.Keeping.OwningNames.{with_id-other}

-- ---- a surface comes

-- its number is nobody's wl_subsurface's
pub made-subsurfaces : (ids : List (Option ℕ)) (numbers : ById ℕ) (ss : List Subsurface) (id : ℕ) (number : Option ℕ) → numbers id ≡ None → AreOfSurfaces ids numbers ss
    → AreOfSurfaces ids (with_id id number numbers) ss
made-subsurfaces ids numbers ss id number free are = record {
  named = λ other child is. let it = are.named other child is in (it.0, with_id-other id child number numbers (away child it.0 it.1) ∙ it.1, it.2);
  known = λ n other is. let it = are.known n other is in (it.0, with_id-other id it.0 number numbers (away it.0 n it.1) ∙ it.1, it.2);
}
  where
    away : (child n : ℕ) → numbers child ≡ Some n → (child == id) ≡ false
    away child n named = ne_eqb child id (λ same. none-some n (sym free ∙ ap numbers (sym same) ∙ named))

-- ---- a surface goes

-- without a child no wl_subsurface has it
child-without : (surface id : ℕ) (ss : List Subsurface) → child_of id (map (without_child surface) ss) ≡ option_and_then (λ child. cond (child == surface) None (Some child)) (child_of id ss)
child-without surface id [] = refl
child-without surface id (s ∷ ss) = at s.surface refl (s.id == id) refl (child-without surface id ss)
  where
    at : (o : Option ℕ) → s.surface ≡ o → (b : Bool) → (s.id == id) ≡ b
        → child_of id (map (without_child surface) ss) ≡ option_and_then (λ child. cond (child == surface) None (Some child)) (child_of id ss)
        → child_of id (map (without_child surface) (s ∷ ss)) ≡ option_and_then (λ child. cond (child == surface) None (Some child)) (child_of id (s ∷ ss))
    at None is true here rest = rw (is, here) refl
    at None is false here rest = rw (is, here) rest
    at (Some child) is b here rest = by (child == surface) refl b here
      where
        by : (same : Bool) → (child == surface) ≡ same → (b : Bool) → (s.id == id) ≡ b
            → child_of id (map (without_child surface) (s ∷ ss)) ≡ option_and_then (λ child. cond (child == surface) None (Some child)) (child_of id (s ∷ ss))
        by true same true here = rw (is, same, here) (sym (ap (λ b. cond b None (Some child)) same))
        by true same false here = rw (is, same, here) rest
        by false same true here = rw (is, same, here) (sym (ap (λ b. cond b None (Some child)) same))
        by false same false here = rw (is, same, here) rest

still-child : (surface child : ℕ) (o : Option ℕ) → option_and_then (λ child. cond (child == surface) None (Some child)) o ≡ Some child → (o ≡ Some child) × ((child == surface) ≡ false)
still-child surface child None e = absurd (cc)
still-child surface child (Some other) e = at (other == surface) refl e
  where
    at : (b : Bool) → (other == surface) ≡ b → cond b None (Some other) ≡ Some child → (Some other ≡ Some child) × ((child == surface) ≡ false)
    at true here e = absurd (cc)
    at false here e = (e, ap (λ i. i == surface) (let same : child ≡ other = cc in same) ∙ here)

pub gone-subsurfaces : (ids left : List (Option ℕ)) (numbers : ById ℕ) (ss : List Subsurface) (id number : ℕ) → numbers id ≡ Some number
    → ((a b n : ℕ) → numbers a ≡ Some n → numbers b ≡ Some n → a ≡ b) → IsSetAt number None ids left → AreOfSurfaces ids numbers ss
    → AreOfSurfaces left (with_id id None numbers) (map (without_child id) ss)
gone-subsurfaces ids left numbers ss id number here once set are = record { named = named; known = known }
  where
    apart : (child n : ℕ) → numbers child ≡ Some n → (child == id) ≡ false → (n == number) ≡ false
    apart child n is away = ne_eqb n number (λ same. eqb-false child id away (once child id number (is ∙ ap Some same) here))

    named : (other child : ℕ) → child_of other (map (without_child id) ss) ≡ Some child → (n : ℕ) × (with_id id None numbers child ≡ Some n) × (slice_index_or left n None ≡ Some other)
    named other child is =
        let was = still-child id child (child_of other ss) (sym (child-without id other ss) ∙ is) in
        let it = are.named other child was.0 in (
          it.0,
          with_id-other id child None numbers was.1 ∙ it.1,
          set it.0 ∙ ap (λ b. cond b None (slice_index_or ids it.0 None)) (apart child it.0 it.1 was.1) ∙ it.2,
        )

    known : (n other : ℕ) → slice_index_or left n None ≡ Some other → (child : ℕ) × (with_id id None numbers child ≡ Some n) × (child_of other (map (without_child id) ss) ≡ Some child)
    known n other is = at (n == number) refl (sym (set n) ∙ is)
      where
        at : (b : Bool) → (n == number) ≡ b → cond b None (slice_index_or ids n None) ≡ Some other
            → (child : ℕ) × (with_id id None numbers child ≡ Some n) × (child_of other (map (without_child id) ss) ≡ Some child)
        at true same e = absurd (cc)
        at false same e =
            let it = are.known n other e in
            let away : (it.0 == id) ≡ false = ne_eqb it.0 id (λ same_id. eqb-false n number same (let both : Option.Some n ≡ Some number = sym it.1 ∙ ap numbers same_id ∙ here in cc)) in (
              it.0,
              with_id-other id it.0 None numbers away ∙ it.1,
              child-without id other ss ∙ ap (option_and_then (λ child. cond (child == id) None (Some child))) it.2 ∙ ap (λ b. cond b None (Some it.0)) away,
            )

-- ---- a wl_subsurface comes

find-last : (id other : ℕ) (ss : List Subsurface) (s : Subsurface) → find (λ t. t.id == other) ss ≡ None → s.id ≡ id
    → child_of other (ss ++ s ∷ []) ≡ cond (id == other) s.surface None
find-last id other [] s none same = ap (λ i. option_and_then (λ (t : Subsurface). t.surface) (cond (i == other) (Some s) None)) same ∙ at (id == other)
  where
    at : (b : Bool) → option_and_then (λ (t : Subsurface). t.surface) (cond b (Some s) None) ≡ cond b s.surface None
    at true = refl
    at false = refl
find-last id other (t ∷ ss) s none same = at (t.id == other) none (λ later. find-last id other ss s later same)
  where
    at : (b : Bool) → cond b (Some t) (find (λ t. t.id == other) ss) ≡ None → (find (λ t. t.id == other) ss ≡ None → child_of other (ss ++ s ∷ []) ≡ cond (id == other) s.surface None)
        → option_and_then (λ (t : Subsurface). t.surface) (cond b (Some t) (find (λ t. t.id == other) (ss ++ s ∷ []))) ≡ cond (id == other) s.surface None
    at true e rest = absurd (cc)
    at false e rest = rest e

find-first : (other : ℕ) (ss : List Subsurface) (s t : Subsurface) → find (λ t. t.id == other) ss ≡ Some t → find (λ t. t.id == other) (ss ++ s ∷ []) ≡ Some t
find-first other [] s t e = absurd (cc)
find-first other (u ∷ ss) s t e = at (u.id == other) e (λ later. find-first other ss s t later)
  where
    at : (b : Bool) → cond b (Some u) (find (λ t. t.id == other) ss) ≡ Some t → (find (λ t. t.id == other) ss ≡ Some t → find (λ t. t.id == other) (ss ++ s ∷ []) ≡ Some t)
        → cond b (Some u) (find (λ t. t.id == other) (ss ++ s ∷ [])) ≡ Some t
    at true e rest = e
    at false e rest = rest e

pub linked-subsurfaces : (ids left : List (Option ℕ)) (numbers : ById ℕ) (ss : List Subsurface) (id link child number : ℕ) → numbers child ≡ Some number
    → ((a b n : ℕ) → numbers a ≡ Some n → numbers b ≡ Some n → a ≡ b) → slice_index_or ids number None ≡ None → find (λ s. s.id == id) ss ≡ None
    → IsSetAt number (Some id) ids left → AreOfSurfaces ids numbers ss
    → AreOfSurfaces left numbers (ss ++ record { id = id; link = link; surface = Some child } ∷ [])
linked-subsurfaces ids left numbers ss id link child number here once free new set are = record { named = named; known = known }
  where
    made : Subsurface
    made = record { id = id; link = link; surface = Some child }

    -- an older one is found as it was
    older : (other : ℕ) (o : Option Subsurface) → find (λ s. s.id == other) ss ≡ o
        → child_of other (ss ++ made ∷ []) ≡ cond (id == other) (Some child) (child_of other ss)
    older other None e =
        find-last id other ss made e refl ∙ at (id == other) (ap (option_and_then (λ (t : Subsurface). t.surface)) e)
      where
        at : (b : Bool) → child_of other ss ≡ None → cond b (Some child) None ≡ cond b (Some child) (child_of other ss)
        at true none = refl
        at false none = sym none
    older other (Some t) e =
        ap (option_and_then (λ (t : Subsurface). t.surface)) (find-first other ss made t e)
        ∙ sym (ap (λ b. cond b (Some child) (child_of other ss)) apart ∙ ap (option_and_then (λ (t : Subsurface). t.surface)) e)
      where
        apart : (id == other) ≡ false
        apart = ne_eqb id other (λ same. none-some t (sym new ∙ ap (λ i. find (λ s. s.id == i) ss) same ∙ e))

    named : (other c : ℕ) → child_of other (ss ++ made ∷ []) ≡ Some c → (n : ℕ) × (numbers c ≡ Some n) × (slice_index_or left n None ≡ Some other)
    named other c is = at (id == other) refl (sym (older other (find (λ s. s.id == other) ss) refl) ∙ is)
      where
        at : (b : Bool) → (id == other) ≡ b → cond b (Some child) (child_of other ss) ≡ Some c → (n : ℕ) × (numbers c ≡ Some n) × (slice_index_or left n None ≡ Some other)
        at true same e =
            let c_is : child ≡ c = cc in
            (number, ap numbers (sym c_is) ∙ here, set number ∙ ap (λ b. cond b (Some id) (slice_index_or ids number None)) (eq-eqb number number refl) ∙ ap Some (eqb-true id other same))
        at false same e =
            let it = are.named other c e in
            let apart : (it.0 == number) ≡ false = ne_eqb it.0 number (λ n. none-some other (sym free ∙ ap (λ m. slice_index_or ids m None) (sym n) ∙ it.2)) in
            (it.0, it.1, set it.0 ∙ ap (λ b. cond b (Some id) (slice_index_or ids it.0 None)) apart ∙ it.2)

    known : (n other : ℕ) → slice_index_or left n None ≡ Some other → (c : ℕ) × (numbers c ≡ Some n) × (child_of other (ss ++ made ∷ []) ≡ Some c)
    known n other is = at (n == number) refl (sym (set n) ∙ is)
      where
        at : (b : Bool) → (n == number) ≡ b → cond b (Some id) (slice_index_or ids n None) ≡ Some other → (c : ℕ) × (numbers c ≡ Some n) × (child_of other (ss ++ made ∷ []) ≡ Some c)
        at true same e =
            let other_is : id ≡ other = cc in (
              child,
              here ∙ ap Some (sym (eqb-true n number same)),
              older other (find (λ s. s.id == other) ss) refl ∙ ap (λ b. cond b (Some child) (child_of other ss)) (eq-eqb id other other_is),
            )
        at false same e =
            let it = are.known n other e in
            (it.0, it.1, older other (find (λ s. s.id == other) ss) refl ∙ ap (λ b. cond b (Some child) (child_of other ss)) (apart it.0 it.2) ∙ it.2)
          where
            apart : (c : ℕ) → child_of other ss ≡ Some c → (id == other) ≡ false
            apart c e = ne_eqb id other (λ same_id. none-some c (sym (ap (option_and_then (λ (t : Subsurface). t.surface)) (sym (ap (λ i. find (λ s. s.id == i) ss) same_id) ∙ new)) ∙ e))

-- ---- a wl_subsurface goes

child-left : (id other : ℕ) (ss : List Subsurface) → child_of other (filter (λ s. not (s.id == id)) ss) ≡ cond (other == id) None (child_of other ss)
child-left id other [] = at (other == id)
  where
    at : (b : Bool) → ◌≡◌ {A = Option ℕ} None (cond b None None)
    at true = refl
    at false = refl
child-left id other (s ∷ ss) = at (s.id == id) (s.id == other) refl refl (child-left id other ss)
  where
    at : (p q : Bool) → (s.id == id) ≡ p → (s.id == other) ≡ q → child_of other (filter (λ s. not (s.id == id)) ss) ≡ cond (other == id) None (child_of other ss)
        → option_and_then (λ (t : Subsurface). t.surface) (find (λ t. t.id == other) (cond (not p) (s ∷ filter (λ s. not (s.id == id)) ss) (filter (λ s. not (s.id == id)) ss)))
        ≡ cond (other == id) None (option_and_then (λ (t : Subsurface). t.surface) (cond q (Some s) (find (λ t. t.id == other) ss)))
    at true true here there rest =
        let same : (other == id) ≡ true = ap (λ i. i == id) (sym (eqb-true s.id other there)) ∙ here in
        rest ∙ ap (λ b. cond b None (child_of other ss)) same ∙ sym (ap (λ b. cond b None s.surface) same)
    at true false here there rest = rest
    at false true here there rest =
        let apart : (other == id) ≡ false = ap (λ i. i == id) (sym (eqb-true s.id other there)) ∙ here in
        ap (λ b. option_and_then (λ (t : Subsurface). t.surface) (cond b (Some s) (find (λ t. t.id == other) (filter (λ s. not (s.id == id)) ss)))) there
        ∙ sym (ap (λ b. cond b None s.surface) apart)
    at false false here there rest =
        ap (λ b. option_and_then (λ (t : Subsurface). t.surface) (cond b (Some s) (find (λ t. t.id == other) (filter (λ s. not (s.id == id)) ss)))) there ∙ rest

left-child : (id other c : ℕ) (b : Bool) (o : Option ℕ) → (other == id) ≡ b → cond b None o ≡ Some c → ((other == id) ≡ false) × (o ≡ Some c)
left-child id other c true o here e = absurd (cc)
left-child id other c false o here e = (here, e)

-- one that had a surface
pub ended-subsurfaces : (ids left : List (Option ℕ)) (numbers : ById ℕ) (ss : List Subsurface) (id number : ℕ) → slice_index_or ids number None ≡ Some id
    → ((a b n : ℕ) → numbers a ≡ Some n → numbers b ≡ Some n → a ≡ b) → IsSetAt number None ids left → AreOfSurfaces ids numbers ss
    → AreOfSurfaces left numbers (filter (λ s. not (s.id == id)) ss)
ended-subsurfaces ids left numbers ss id number here once set are = record { named = named; known = known }
  where
    named : (other c : ℕ) → child_of other (filter (λ s. not (s.id == id)) ss) ≡ Some c → (n : ℕ) × (numbers c ≡ Some n) × (slice_index_or left n None ≡ Some other)
    named other c is =
        let was = left-child id other c (other == id) (child_of other ss) refl (sym (child-left id other ss) ∙ is) in
        let it = are.named other c was.1 in
        let apart : (it.0 == number) ≡ false = ne_eqb it.0 number (λ same. eqb-false other id was.0 (let both : Option.Some other ≡ Some id = sym it.2 ∙ ap (λ n. slice_index_or ids n None) same
        ∙ here in cc)) in
        (it.0, it.1, set it.0 ∙ ap (λ b. cond b None (slice_index_or ids it.0 None)) apart ∙ it.2)

    known : (n other : ℕ) → slice_index_or left n None ≡ Some other → (c : ℕ) × (numbers c ≡ Some n) × (child_of other (filter (λ s. not (s.id == id)) ss) ≡ Some c)
    known n other is = at (n == number) refl (sym (set n) ∙ is)
      where
        at : (b : Bool) → (n == number) ≡ b → cond b None (slice_index_or ids n None) ≡ Some other → (c : ℕ) × (numbers c ≡ Some n) × (child_of other (filter (λ s. not (s.id == id)) ss) ≡ Some c)
        at true same e = absurd (cc)
        at false same e =
            let it = are.known n other e in
            let mine = are.known number id here in
            let apart : (other == id) ≡ false = ne_eqb other id (λ same_id.
            eqb-false n number same
            (let one : Option.Some it.0 ≡ Some mine.0 = sym it.2 ∙ ap (λ i. child_of i ss) same_id ∙ mine.2 in
            let child : it.0 ≡ mine.0 = cc in
            let both : Option.Some n ≡ Some number = sym it.1 ∙ ap numbers child ∙ mine.1 in cc)) in
            (it.0, it.1, child-left id other ss ∙ ap (λ b. cond b None (child_of other ss)) apart ∙ it.2)

-- one that has none any more
pub inert-subsurfaces : (ids : List (Option ℕ)) (numbers : ById ℕ) (ss : List Subsurface) (id : ℕ) → ((number : ℕ) → slice_index_or ids number None ≡ Some id → ⊥)
    → AreOfSurfaces ids numbers ss → AreOfSurfaces ids numbers (filter (λ s. not (s.id == id)) ss)
inert-subsurfaces ids numbers ss id none are = record {
  named = λ other c is. are.named other c (left-child id other c (other == id) (child_of other ss) refl (sym (child-left id other ss) ∙ is)).1;
  known = λ n other is.
      let it = are.known n other is in
      let apart : (other == id) ≡ false = ne_eqb other id (λ same. none n (is ∙ ap Some same)) in
      (it.0, it.1, child-left id other ss ∙ ap (λ b. cond b None (child_of other ss)) apart ∙ it.2);
}

-- an id is kept under one number
pub only-number : (ids : List (Option ℕ)) (numbers : ById ℕ) (ss : List Subsurface) (id a b : ℕ) → AreOfSurfaces ids numbers ss → slice_index_or ids a None ≡ Some id
    → slice_index_or ids b None ≡ Some id → a ≡ b
only-number ids numbers ss id a b are here there =
    let one = are.known a id here in
    let other = are.known b id there in
    let same : one.0 ≡ other.0 = same_Some one.0 other.0 (sym one.2 ∙ other.2) in
    same_Some a b (sym one.1 ∙ ap numbers same ∙ other.1)

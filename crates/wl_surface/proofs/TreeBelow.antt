-- The numbers of a tree's places are those of the surface and of all that descend from it, each
-- once.
use Rattle.std.proofs.Common.{◌≡◌, ℕ, zero, suc, Bool, true, false, ◌||◌, ◌==◌, List, [], ◌∷◌, ◌++◌, ◌≤◌, map, take, drop, length, refl, ap, sym, ◌∙◌, eq-eqb}
use Rattle.std.proofs.lemmas.Bool.{eqb-true}
use Rattle.std.proofs.lemmas.List.{nil_from_length, take_all}
use Rattle.wl_links.specs.declared.trees.Place.{Place}
use Rattle.wl_links.specs.Trees.{AreOnce as HaveOnce, Parents, has_place, is_under, run_at}
use Rattle.wl_links.specs.Family.{HangTogether, Tied, is_there, links_in, parents_of}
use Rattle.wl_links.proofs.Depths.{alone-surface, alone-top, under-here}
use Rattle.wl_surface.specs.Tree.{AreOnce, is_among}

-- the numbers of these places
abbrev pub numbered_in : List Place → List ℕ
numbered_in places = map (λ (p : Place). p.surface) places

-- A number is among them if its surface has a place.
among-has : (number : ℕ) (places : List Place) → is_among (numbered_in places) number ≡ has_place number places
among-has number [] = refl
among-has number (p ∷ ps) = ap (λ b. (p.surface == number) || b) (among-has number ps)

-- What has no place among all has none among fewer.
or-rest : (a b : Bool) → (a || b) ≡ false → b ≡ false
or-rest true b e = absurd (cc)
or-rest false b e = e

none-taken : (n surface : ℕ) (places : List Place) → has_place surface places ≡ false → has_place surface (take n places) ≡ false
none-taken zero surface places none = refl
none-taken (suc n) surface [] none = refl
none-taken (suc n) surface (p ∷ ps) none = at (p.surface == surface) none (none-taken n surface ps)
  where
    at : (b : Bool) → (b || has_place surface ps) ≡ false → (has_place surface ps ≡ false → has_place surface (take n ps) ≡ false) → (b || has_place surface (take n ps)) ≡ false
    at true e rest = e
    at false e rest = rest e

-- It has none behind the first.
none-dropped : (n surface : ℕ) (places : List Place) → has_place surface places ≡ false → has_place surface (drop n places) ≡ false
none-dropped zero surface places none = none
none-dropped (suc n) surface [] none = refl
none-dropped (suc n) surface (p ∷ ps) none = none-dropped n surface ps (or-rest (p.surface == surface) (has_place surface ps) none)

-- It has none in a run.
none-run : (start count surface : ℕ) (places : List Place) → has_place surface places ≡ false → has_place surface (run_at start count places) ≡ false
none-run start count surface places none = none-taken count surface (drop start places) (none-dropped start surface places none)

-- Places that are there once are there once in a run.
once-dropped : (n : ℕ) (places : List Place) → HaveOnce places → HaveOnce (drop n places)
once-dropped zero places once = once
once-dropped (suc n) [] once = tt
once-dropped (suc n) (p ∷ ps) once = once-dropped n ps once.1

once-taken : (n : ℕ) (places : List Place) → HaveOnce places → HaveOnce (take n places)
once-taken zero places once = tt
once-taken (suc n) [] once = tt
once-taken (suc n) (p ∷ ps) once = (none-taken n p.surface ps once.0, once-taken n ps once.1)

-- So are their numbers.
once-numbered : (places : List Place) → HaveOnce places → AreOnce (numbered_in places)
once-numbered [] once = tt
once-numbered (p ∷ ps) once = (among-has p.surface ps ∙ once.0, once-numbered ps once.1)

-- All of a tree's places are numbered.
whole-tree : (tree : List Place) (numbers : List ℕ) (n : ℕ) → length tree ≤ n → numbers ≡ numbered_in (take n tree) → numbers ≡ numbered_in tree
whole-tree tree numbers n all is = is ∙ ap numbered_in (take_all n tree all)

pub once-run : (tied : Tied) → HangTogether tied → (tree : List Place) → ((start : ℕ) × (count : ℕ) × (tree ≡ run_at start count tied.places))
    → (numbers : List ℕ) (n : ℕ) → length tree ≤ n → numbers ≡ numbered_in (take n tree) → AreOnce numbers
once-run tied is tree run numbers n all so_far =
    rw (whole-tree tree numbers n all so_far, run.2) (once-numbered (run_at run.0 run.1 tied.places) (once-taken run.1 (drop run.0 tied.places) (once-dropped run.0 tied.places is.trees.once)))

-- A list without length is empty.
pub is-empty : (places : List Place) (b : Bool) → b ≡ (length places == 0) → b ≡ true → places ≡ []
is-empty places b e f = nil_from_length places (eqb-true (length places) 0 (sym e ∙ f))

pub isnt-empty : (places : List Place) (b : Bool) → b ≡ (length places == 0) → b ≡ false → places ≡ [] → ⊥
isnt-empty places b e f none = differ (sym (sym e ∙ f) ∙ ap (λ (ps : List Place). length ps == 0) none)
  where
    differ : false ≡ true → ⊥
    differ g = absurd (cc)

-- ---- what the tree tells

not-true : (b : Bool) → (b ≡ true → ⊥) → false ≡ b
not-true false never = refl
not-true true never = absurd (never refl)

differ : false ≡ true → ⊥
differ e = absurd (cc)

module _ (tied : Tied) (is : HangTogether tied) (top : ℕ) (tree : List Place)
    (told : is_there top tied ≡ true → (other : ℕ) → is_there other tied ≡ true → has_place other tree ≡ is_under 16 (parents_of (links_in tied)) top other)
    (run : (start : ℕ) × (count : ℕ) × (tree ≡ run_at start count tied.places))
    (none : is_there top tied ≡ false → tree ≡ []) where
  abbrev parents : Parents
  parents = parents_of (links_in tied)

  -- The tree of a surface that is there has those that are below it.
  has-below : (surface : ℕ) → is_there top tied ≡ true → has_place surface tree ≡ is_under 16 parents top surface
  has-below surface there = at (is_there surface tied) refl
    where
      apart : is_there surface tied ≡ false → surface ≡ top → ⊥
      apart gone same = differ (sym gone ∙ (ap (λ n. is_there n tied) same ∙ there))

      at : (b : Bool) → is_there surface tied ≡ b → has_place surface tree ≡ is_under 16 parents top surface
      at true e = told there surface e
      at false e =
          ap (λ (ps : List Place). has_place surface ps) run.2
          ∙ (none-run run.0 run.1 surface tied.places e
          ∙ not-true (is_under 16 parents top surface) (λ under. apart e (alone-surface parents tied.places is.trees is.within 16 top surface e under)))

  -- If the tree isn't empty, its numbers are those.
  pub among-tree : (tree ≡ [] → ⊥) → (numbers : List ℕ) (n : ℕ) → length tree ≤ n → numbers ≡ numbered_in (take n tree)
      → (surface : ℕ) → is_among numbers surface ≡ is_under 16 (parents_of (links_in tied)) top surface
  among-tree some numbers n all is surface = ap (λ (ns : List ℕ). is_among ns surface) (whole-tree tree numbers n all is) ∙ (among-has surface tree ∙ at (is_there top tied) refl)
    where
      at : (b : Bool) → is_there top tied ≡ b → has_place surface tree ≡ is_under 16 parents top surface
      at true e = has-below surface e
      at false e = absurd (some (none e))

  -- If it is empty, the surface isn't there, and no other is below it.
  pub among-none : tree ≡ [] → (before numbers : List ℕ) → before ≡ [] → numbers ≡ before ++ top ∷ []
      → (surface : ℕ) → is_among numbers surface ≡ is_under 16 (parents_of (links_in tied)) top surface
  among-none empty before numbers first one surface = ap (λ (ns : List ℕ). is_among ns surface) (one ∙ ap (λ (ns : List ℕ). ns ++ top ∷ []) first) ∙ at (top == surface) refl
    where
      gone : (b : Bool) → is_there top tied ≡ b → is_there top tied ≡ false
      gone false e = e
      gone true e = absurd (differ (sym (ap (λ (ps : List Place). has_place top ps) empty) ∙ (has-below top e ∙ under-here 16 parents top)))

      apart : (top == surface) ≡ false → surface ≡ top → ⊥
      apart e same = differ (sym e ∙ eq-eqb top surface (sym same))

      at : (b : Bool) → (top == surface) ≡ b → (b || false) ≡ is_under 16 parents top surface
      at true e = sym (ap (λ s. is_under 16 parents top s) (sym (eqb-true top surface e)) ∙ under-here 16 parents top)
      at false e =
          not-true (is_under 16 parents top surface)
          (λ under. apart e (alone-top parents tied.places is.trees is.within 16 top surface (gone (is_there top tied) refl) under))

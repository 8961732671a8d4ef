-- How many levels stand below a surface: by its children, and by the depths of what is under it.
use Rattle.std.proofs.Common.{◌≡◌, ℕ, zero, suc, ◌+◌, ◌≤◌, ◌⊎◌, inl, inr, ◌||◌, ◌==◌, Bool, true, false, Option, Some, None, List, [], ◌∷◌, refl, ap, sym, subst, ◌∙◌, arith, eq-eqb}
use Rattle.std.specs.Prelude.{fold, max, nat_lt}
use Rattle.std.specs.List.{list_any}
use Rattle.std.proofs.lemmas.Bool.{eqb-true}
use Rattle.std.proofs.Math.Nat.{le-max_left, le-max_right, max-eq_left, max-eq_right}
use Rattle.wl_surface.specs.Surfaces.{Link, Surfaces}
use Rattle.wl_surface.specs.Trees.{children_of, descends_from, height, is_bad_parent, is_too_deep, levels, link_of, of_parent}
use Rattle.wl_links.specs.Family.{IsHeightBelow, IsTooDeep, Links, parents_of}
use Rattle.wl_links.proofs.Depths.{deeper, depth-least, near, same-below, same-depths}
use Rattle.wl_links.specs.declared.trees.Place.{Place}
use Rattle.wl_links.specs.Trees.{Parents, StandFor, depth_by, is_under, level_at}
use Rattle.wl_surface.specs.TreeLaws.{AreOnceLinked, HaveSameHeight, HaveSameRefusals, links_of}
use Rattle.wl_surface.proofs.TreesApplying.{by_child, by_parent, descends-either, descends-once}
use Rattle.wl_surface.proofs.Parents.{same-depth, same-descent}

-- ---- the most of some numbers

abbrev most : (ℕ → ℕ) → ℕ → List ℕ → ℕ
most f a xs = fold (λ m x. max m (f x)) a xs

most-start : (f : ℕ → ℕ) (a : ℕ) (xs : List ℕ) → a ≤ most f a xs
most-start f a [] = omega arith
most-start f a (x ∷ xs) = omega (arith, le-max_left a (f x), most-start f (max a (f x)) xs)

most-each : (f : ℕ → ℕ) (a x : ℕ) (xs : List ℕ) → list_any (λ y. x == y) xs ≡ true → f x ≤ most f a xs
most-each f a x [] there = absurd (cc)
most-each f a x (y ∷ ys) there = at (x == y) refl there (most-start f (max a (f y)) ys) (most-each f (max a (f y)) x ys)
  where
    at : (b : Bool) → (x == y) ≡ b → (b || list_any (λ y. x == y) ys) ≡ true → max a (f y) ≤ most f (max a (f y)) ys
        → (list_any (λ y. x == y) ys ≡ true → f x ≤ most f (max a (f y)) ys) → f x ≤ most f (max a (f y)) ys
    at true e there start later = let same = eqb-true x y e in omega (arith, le-max_right a (f y), ap f same, start)
    at false e there start later = later there

either-most : (a b : ℕ) → (max a b ≡ a) ⊎ (max a b ≡ b)
either-most zero b = inr (max-eq_right (omega arith))
either-most (suc a) zero = inl (max-eq_left (omega arith))
either-most (suc a) (suc b) = at (either-most a b)
  where
    at : (max a b ≡ a) ⊎ (max a b ≡ b) → (max (suc a) (suc b) ≡ suc a) ⊎ (max (suc a) (suc b) ≡ suc b)
    at (inl e) = inl (max-eq_left (omega (arith, le-max_right a b, e)))
    at (inr e) = inr (max-eq_right (omega (arith, le-max_left a b, e)))

-- the number it was, or that of one of them
abbrev Reached : (ℕ → ℕ) → ℕ → List ℕ → ℕ → Type 0
Reached f a xs m = (m ≡ a) ⊎ ((x : ℕ) × (list_any (λ y. x == y) xs ≡ true) × (m ≡ f x))

here : (x : ℕ) (ys : List ℕ) → list_any (λ y. x == y) (x ∷ ys) ≡ true
here x ys = ap (λ b. b || list_any (λ y. x == y) ys) (eq-eqb x x refl)

later : (x y : ℕ) (ys : List ℕ) → list_any (λ y. x == y) ys ≡ true → list_any (λ y. x == y) (y ∷ ys) ≡ true
later x y ys e = ap (λ b. (x == y) || b) e ∙ or-true (x == y)
  where
    or-true : (b : Bool) → (b || true) ≡ true
    or-true true = refl
    or-true false = refl

most-reached : (f : ℕ → ℕ) (a : ℕ) (xs : List ℕ) → Reached f a xs (most f a xs)
most-reached f a [] = inl refl
most-reached f a (x ∷ xs) = at (most-reached f (max a (f x)) xs) (either-most a (f x))
  where
    at : Reached f (max a (f x)) xs (most f (max a (f x)) xs) → (max a (f x) ≡ a) ⊎ (max a (f x) ≡ f x) → Reached f a (x ∷ xs) (most f (max a (f x)) xs)
    at (inl e) (inl g) = inl (e ∙ g)
    at (inl e) (inr g) = inr (x, here x xs, e ∙ g)
    at (inr (y, there, e)) g = inr (y, later y x xs there, e)

-- ---- one of them has a property

any-found : (p : ℕ → Bool) (xs : List ℕ) → list_any p xs ≡ true → (x : ℕ) × (p x ≡ true) × (list_any (λ y. x == y) xs ≡ true)
any-found p [] e = absurd (cc)
any-found p (x ∷ xs) e = at (p x) refl e (any-found p xs)
  where
    at : (b : Bool) → p x ≡ b → (b || list_any p xs) ≡ true → (list_any p xs ≡ true → (x : ℕ) × (p x ≡ true) × (list_any (λ y. x == y) xs ≡ true))
        → (z : ℕ) × (p z ≡ true) × (list_any (λ y. z == y) (x ∷ xs) ≡ true)
    at true f e next = (x, f, here x xs)
    at false f e next = let found = next e in (found.0, found.1, later found.0 x xs found.2)

any-here : (p : ℕ → Bool) (x : ℕ) (xs : List ℕ) → p x ≡ true → list_any (λ y. x == y) xs ≡ true → list_any p xs ≡ true
any-here p x [] has there = absurd (cc)
any-here p x (y ∷ ys) has there = at (x == y) refl there (any-here p x ys has)
  where
    or-true : (b : Bool) → (b || true) ≡ true
    or-true true = refl
    or-true false = refl

    at : (b : Bool) → (x == y) ≡ b → (b || list_any (λ y. x == y) ys) ≡ true → (list_any (λ y. x == y) ys ≡ true → list_any p ys ≡ true) → (p y || list_any p ys) ≡ true
    at true e there next = ap (λ b. b || list_any p ys) (ap p (sym (eqb-true x y e)) ∙ has)
    at false e there next = ap (λ b. p y || b) (next there) ∙ or-true (p y)

-- ---- depths in trees

module _ (all : Surfaces) (places : List Place) (once : AreOnceLinked all.links) (stand : StandFor places (parents_of (links_of all)))
    (within : (index : ℕ) → level_at index places ≤ 16) where
  abbrev parents : Parents
  parents = parents_of (links_of all)

  abbrev deep : ℕ → ℕ
  deep surface = depth_by 16 parents surface

  child-deeper : (child parent : ℕ) → parents child ≡ Some parent → deep child ≡ suc (deep parent)
  child-deeper child parent is = deeper parents places stand within child parent is

  -- nothing is deeper than 16
  low : (surface : ℕ) → deep surface ≤ 16
  low surface = depth-least 16 parents surface

  -- each of a surface's children is one
  listed-child : (child top : ℕ) → list_any (λ c. child == c) (children_of top all) ≡ true → parents child ≡ Some top
  listed-child child top there = at (link_of child all) refl (sym (descends-once all once top child) ∙ there)
    where
      at : (o : Option Link) → link_of child all ≡ o → of_parent false (λ parent. parent == top) o ≡ true → parents child ≡ Some top
      at None e is = absurd (cc)
      at (Some l) e is = rw e (ap Some (eqb-true l.parent top is))

  -- ---- the height by children

  high : (n surface other : ℕ) → descends_from n all surface other ≡ true → deep other ≤ deep surface + height n all surface
  unfolding descends_from height
  high zero surface other under = let same = ap deep (eqb-true other surface under) in omega (arith, same)
  high (suc n) surface other under =
      at (other == surface) refl (ap (λ b. other == surface || b) (descends-either n all once surface other) ∙ under) (high n)
    where
      at : (b : Bool) → (other == surface) ≡ b → (b || by_child n all surface other) ≡ true
          → ((top x : ℕ) → descends_from n all top x ≡ true → deep x ≤ deep top + height n all top)
          → deep other ≤ deep surface + most (λ child. suc (height n all child)) 0 (children_of surface all)
      at true e under next = let same = ap deep (eqb-true other surface e) in omega (arith, same)
      at false e under next =
          let found = any-found (λ child. descends_from n all child other) (children_of surface all) under in
          let child = child-deeper found.0 surface (listed-child found.0 surface found.2) in
          let each = most-each (λ child. suc (height n all child)) 0 found.0 (children_of surface all) found.2 in
          omega (arith, child, next found.0 other found.1, each)

  -- one of those below is as deep
  record IsReached (n surface : ℕ) : Type 0 where
    other : ℕ
    under : descends_from n all surface other ≡ true
    as_deep : deep other ≡ deep surface + height n all surface

  itself : (n surface : ℕ) → descends_from n all surface surface ≡ true
  unfolding descends_from
  itself zero surface = eq-eqb surface surface refl
  itself (suc n) surface = ap (λ b. b || by_parent n all surface (link_of surface all)) (eq-eqb surface surface refl)

  below-child : (n surface other child : ℕ) → list_any (λ c. child == c) (children_of surface all) ≡ true → descends_from n all child other ≡ true
      → descends_from (suc n) all surface other ≡ true
  unfolding descends_from
  below-child n surface other child listed under =
      ap (λ b. other == surface || b)
      (sym (descends-either n all once surface other) ∙ any-here (λ child. descends_from n all child other) child (children_of surface all) under listed)
      ∙ or-true (other == surface)
    where
      or-true : (b : Bool) → (b || true) ≡ true
      or-true true = refl
      or-true false = refl

  reached : (n surface : ℕ) → IsReached n surface
  unfolding height
  reached zero surface = record { other = surface; under = itself zero surface; as_deep = omega arith }
  reached (suc n) surface = at (most-reached (λ child. suc (height n all child)) 0 (children_of surface all)) (reached n)
    where
      at : Reached (λ child. suc (height n all child)) 0 (children_of surface all) (height (suc n) all surface) → ((top : ℕ) → IsReached n top) → IsReached (suc n) surface
      at (inl e) next = record { other = surface; under = itself (suc n) surface; as_deep = omega (arith, e) }
      at (inr (child, listed, e)) next =
          let up = child-deeper child surface (listed-child child surface listed) in
          let far = next child in
          record {
            other = far.other;
            under = below-child n surface far.other child listed far.under;
            as_deep = let it = far.as_deep in omega (arith, e, it, up);
          }

  -- So many links are enough to reach it.
  within-links : (n m top surface : ℕ) → descends_from n all top surface ≡ true → deep surface ≤ deep top + m → descends_from m all top surface ≡ true
  within-links n m top surface under close =
      same-descent all m top surface ∙ near parents places stand within n m top surface (sym (same-descent all n top surface) ∙ under) close

  same-most : (surface kept : ℕ) → IsHeightBelow parents surface kept → height levels all surface ≡ kept
  same-most surface kept is =
      let far = reached levels surface in
      let under = within-links levels 16 surface far.other far.under (omega (arith, low far.other)) in
      let told = is.most far.other (sym (same-descent all 16 surface far.other) ∙ under) in
      let deepest = is.there in
      let inside = same-descent all 16 surface deepest.0 ∙ deepest.1 in
      let by_children = high levels surface deepest.0 (within-links 16 levels surface deepest.0 inside (omega (arith, low deepest.0))) in
      let as_deep = far.as_deep in
      omega (arith, as_deep, told, deepest.2, by_children)

  -- ---- which children are refused

  same-too-deep : (child parent : ℕ) (is : Bool) → IsTooDeep child parent (links_of all) is → is_too_deep all child parent ≡ is
  same-too-deep child parent is (height_kept, below, told) =
      ap (λ n. nat_lt 16 (n + 1 + height levels all child)) (same-depth all levels parent ∙ same-depths parents places stand within parent)
      ∙ (ap (λ n. nat_lt 16 (depth_by 16 parents parent + 1 + n)) (same-most child height_kept below) ∙ sym told)

  same-bad-parent : (child parent : ℕ) → is_bad_parent all child parent ≡ is_under 16 parents child parent
  same-bad-parent child parent = same-descent all levels child parent ∙ same-below parents places stand within child parent

pub same-height : HaveSameHeight
same-height all places once stand within surface kept is = same-most all places once stand within surface kept is

pub same-refusals : HaveSameRefusals
same-refusals all places once stand within links same child parent =
    subst (λ (ls : Links). ((is : Bool) → IsTooDeep child parent ls is → is_too_deep all child parent ≡ is) × (is_bad_parent all child parent ≡ is_under 16 (parents_of ls) child parent)) (sym same)
    (same-too-deep all places once stand within child parent, same-bad-parent all places once stand within child parent)

-- What is told of changes, once it is said which of them are whole.
use Rattle.std.proofs.Common.{◌≡◌, ℕ, suc, zero, ◌+◌, ◌<◌, ◌==◌, ◌||◌, Bool, true, false, Option, Some, None, List, [], ◌∷◌, ◌++◌, length, map, take}
use Rattle.std.proofs.Common.{refl, ap, sym, subst, ◌∙◌, arith}
use Rattle.std.specs.Prelude.{find, slice_index_or, slice_set, unwrap_or}
use Rattle.std.proofs.lemmas.Bool.{eqb-true}
use Rattle.wl_surface.specs.Applied.{AreApplied, AreGone, AreGoneIf, IsApplied, is_shown_at}
use Rattle.wl_surface.specs.declared.applied.Change.{Change}
use Rattle.wl_surface.specs.Seen.{AreOf, AreToldMarked, unmarked}
use Rattle.wl_surface.specs.Slots.{Numbered}
use Rattle.wl_surface.specs.Surface.{Surface}
use Rattle.wl_surface.specs.Surfaces.{Surfaces}
use Rattle.wl_surface.specs.Tree.{AreTold, AreToldAfter, is_among, listed}
use Rattle.wl_surface.specs.Whole.{AreWhole, is_whole}

-- ---- lists

some-same : {X : Type 0} (a b : X) → Some a ≡ Some b → a ≡ b
some-same a b e = ap (λ o. unwrap_or o a) e

first_or : {X : Type 0} → X → List X → X
first_or d [] = d
first_or d (x ∷ xs) = x

rest_of : {X : Type 0} → List X → List X
rest_of [] = []
rest_of (x ∷ xs) = xs

first-same : {X : Type 0} (a b : X) (xs ys : List X) → a ∷ xs ≡ b ∷ ys → a ≡ b
unfolding first_or
first-same a b xs ys e = ap (first_or a) e

rest-same : {X : Type 0} (a b : X) (xs ys : List X) → a ∷ xs ≡ b ∷ ys → xs ≡ ys
unfolding rest_of
rest-same a b xs ys e = ap rest_of e

-- ---- changes that say the same, but for what is whole

none-like : {A : Type 0} (now : List (Change A)) → map unmarked now ≡ [] → now ≡ []
none-like [] e = refl
none-like (c ∷ cs) e = absurd (cc)

applied-like : {A : Type 0} (n : ℕ) (at : Option Surface) (was now : Change A) → unmarked now ≡ unmarked was → AreApplied n at (Some was) → AreApplied n at (Some now)
applied-like n None was now e t = absurd (cc)
applied-like {A} n (Some s) was now e t =
    let told = subst (λ (c : Change A). IsApplied n s.history c) (sym (some-same was t.0 t.1)) t.2 in
    let marked = subst (λ (c : Change A). IsApplied n s.history c) (sym e) (record { surface = told.surface; damage = told.damage }) in
    (now, refl, record { surface = marked.surface; damage = marked.damage })

-- of them the same is told
pub told-like : {A : Type 0} (ns : List ℕ) (all : Numbered) (was now : List (Change A)) → map unmarked now ≡ map unmarked was → AreTold ns all was → AreTold ns all now
told-like [] all was now e t = none-like now (e ∙ ap (map unmarked) t)
told-like {A} (n ∷ ns) all was now e t =
    next t.0 t.1 t.2 t.3 (λ others late f u. told-like ns all others late f u) now (e ∙ ap (map unmarked) t.4)
  where
    next : (one : Option (Change A)) (others : List (Change A)) → AreApplied n (all n) one → AreTold ns all others
        → ((others late : List (Change A)) → map unmarked late ≡ map unmarked others → AreTold ns all others → AreTold ns all late)
        → (late : List (Change A)) → map unmarked late ≡ map unmarked (listed one ++ others) → AreTold (n ∷ ns) all late
    next None others a u more late f = (None, late, a, more others late f u, refl)
    next (Some c) others a u more [] f = absurd (cc)
    next (Some c) others a u more (d ∷ ds) f = (
      Some d,
      ds,
      applied-like n (all n) c d (first-same (unmarked d) (unmarked c) (map unmarked ds) (map unmarked others) f) a,
      more others ds (rest-same (unmarked d) (unmarked c) (map unmarked ds) (map unmarked others) f) u,
      refl,
    )

-- the changes that say the same as two parts are two such parts
pub record Parts {A : Type 0} (first second now : List (Change A)) : Type 0 where
  pub one : List (Change A)
  pub other : List (Change A)
  pub together : now ≡ one ++ other
  pub like_first : map unmarked one ≡ map unmarked first
  pub like_second : map unmarked other ≡ map unmarked second

pub parts-like : {A : Type 0} (first second now : List (Change A)) → map unmarked now ≡ map unmarked (first ++ second) → Parts first second now
parts-like [] second now e = record { one = []; other = now; together = refl; like_first = refl; like_second = e }
parts-like (c ∷ cs) second [] e = absurd (cc)
parts-like (c ∷ cs) second (d ∷ ds) e =
    let rest = parts-like cs second ds (rest-same (unmarked d) (unmarked c) (map unmarked ds) (map unmarked (cs ++ second)) e) in
    record {
      one = d ∷ rest.one;
      other = rest.other;
      together = ap (λ xs. d ∷ xs) rest.together;
      like_first =
          ap (λ x. x ∷ map unmarked rest.one) (first-same (unmarked d) (unmarked c) (map unmarked ds) (map unmarked (cs ++ second)) e)
          ∙ ap (λ xs. unmarked c ∷ xs) rest.like_first;
      like_second = rest.like_second;
    }

pub gone-like : {A : Type 0} (n : ℕ) (at : Option Surface) (was now : List (Change A)) → map unmarked now ≡ map unmarked was → AreGone n at was → AreGone n at now
gone-like {A} n at was now e t = by (is_shown_at at) t
  where
    one : (c : Change A) (now : List (Change A)) → map unmarked now ≡ unmarked c ∷ [] → c.surface ≡ n → c.rects.items ≡ [] → AreGoneIf true n now
    one c [] f of_it none = absurd (cc)
    one c (d ∷ ds) f of_it none =
        let same = first-same (unmarked d) (unmarked c) (map unmarked ds) [] f in (
          d,
          ap (λ xs. d ∷ xs) (none-like ds (rest-same (unmarked d) (unmarked c) (map unmarked ds) [] f)),
          ap (λ (x : Change A). x.surface) same ∙ of_it,
          ap (λ (x : Change A). x.rects.items) same ∙ none,
        )

    by : (b : Bool) → AreGoneIf b n was → AreGoneIf b n now
    by false t = none-like now (e ∙ ap (map unmarked) t)
    by true t = one t.0 now (e ∙ ap (map unmarked) t.1) t.2 t.3

-- behind nothing, and behind what was told before
pub told-marked : {A : Type 0} (numbers : List ℕ) (all : Numbered) (before changes : List (Change A)) → before ≡ [] → AreToldMarked before numbers all changes
    → AreTold numbers all changes
told-marked numbers all before changes none t =
    told-like numbers all t.2.0 changes (t.1 ∙ ap (map unmarked) (t.2.1 ∙ ap (λ cs. cs ++ t.2.0) none)) t.2.2

-- ---- whose changes they are

of-told : {A : Type 0} (big ns : List ℕ) (all : Numbered) (changes : List (Change A)) → ((n : ℕ) → is_among ns n ≡ true → is_among big n ≡ true)
    → AreTold ns all changes → AreOf big changes
of-told big [] all changes within t = subst (AreOf big) (sym t) tt
of-told {A} big (n ∷ ns) all changes within t =
    subst (AreOf big) (sym t.4) (next t.0 t.1 t.2 (of-told big ns all t.1 (λ m e. within m (later (n == m) (is_among ns m) e)) t.3))
  where
    later : (a b : Bool) → b ≡ true → (a || b) ≡ true
    later true b e = refl
    later false b e = e

    here : (a b : Bool) → a ≡ true → (a || b) ≡ true
    here true b e = refl
    here false b e = absurd (cc)

    number : (c : Change A) (at : Option Surface) → AreApplied n at (Some c) → c.surface ≡ n
    number c None a = absurd (cc)
    number c (Some s) a = ap (λ (x : Change A). x.surface) (some-same c a.0 a.1) ∙ a.2.surface

    next : (one : Option (Change A)) (others : List (Change A)) → AreApplied n (all n) one → AreOf big others → AreOf big (listed one ++ others)
    next None others a of_them = of_them
    next (Some c) others a of_them =
        (ap (is_among big) (number c (all n) a) ∙ within n (here (n == n) (is_among ns n) (grind (arith))), of_them)

of-both : {A : Type 0} (big : List ℕ) (xs ys : List (Change A)) → AreOf big xs → AreOf big ys → AreOf big (xs ++ ys)
of-both big [] ys a b = b
of-both big (x ∷ xs) ys a b = (a.0, of-both big xs ys a.1 b)

pub of-after : {A : Type 0} (numbers : List ℕ) (all : Numbered) (before changes : List (Change A)) → AreOf numbers before → AreToldAfter before numbers all changes → AreOf numbers changes
of-after numbers all before changes of_them t =
    subst (AreOf numbers) (sym t.1) (of-both numbers before t.0 of_them (of-told numbers numbers all t.0 (λ n e. e) t.2))

pub of-gone : {A : Type 0} (numbers : List ℕ) (n : ℕ) (at : Option Surface) (changes : List (Change A)) → is_among numbers n ≡ true → AreGone n at changes → AreOf numbers changes
of-gone {A} numbers n at changes among t = by (is_shown_at at) t
  where
    by : (b : Bool) → AreGoneIf b n changes → AreOf numbers changes
    by false t = subst (AreOf numbers) (sym t) tt
    by true t = subst (AreOf numbers) (sym t.1) (ap (is_among numbers) t.2 ∙ among, tt)

-- ---- the loop that marks them

-- one place more
pub kept-set : {A : Type 0} (changes initial : List (Change A)) (i : ℕ) (d c : Change A) → i < length changes → map unmarked changes ≡ map unmarked initial
    → unmarked c ≡ unmarked (slice_index_or changes i d) → map unmarked (slice_set changes i c) ≡ map unmarked initial
kept-set {A} changes initial i d c less kept same = at changes i less same ∙ kept
  where
    at : (xs : List (Change A)) (k : ℕ) → k < length xs → unmarked c ≡ unmarked (slice_index_or xs k d) → map unmarked (slice_set xs k c) ≡ map unmarked xs
    at [] k h e = absurd (omega (arith, h))
    at (x ∷ xs) zero h e = ap (λ y. y ∷ map unmarked xs) e
    at (x ∷ xs) (suc k) h e = ap (λ ys. unmarked x ∷ ys) (at xs k (omega (arith, h)) e)

pub whole-set : {A : Type 0} (old new : Surfaces) (changes : List (Change A)) (i : ℕ) (c : Change A) → i < length changes → AreWhole old new (take i changes)
    → c.whole ≡ is_whole old new c.surface → AreWhole old new (take (suc i) (slice_set changes i c))
whole-set old new [] i c less so_far is = absurd (omega (arith, less))
whole-set old new (x ∷ xs) zero c less so_far is = (is, tt)
whole-set old new (x ∷ xs) (suc i) c less so_far is = (so_far.0, whole-set old new xs i c (omega (arith, less)) so_far.1 is)

-- the surface of a change is one of them
pub of-at : {A : Type 0} (numbers : List ℕ) (changes initial : List (Change A)) (i : ℕ) (d : Change A) → i < length changes → map unmarked changes ≡ map unmarked initial
    → AreOf numbers initial → is_among numbers (slice_index_or changes i d).surface ≡ true
of-at numbers [] initial i d less kept of_them = absurd (omega (arith, less))
of-at numbers (x ∷ xs) [] i d less kept of_them = absurd (cc)
of-at {A} numbers (x ∷ xs) (y ∷ ys) zero d less kept of_them =
    ap (λ (c : Change A). is_among numbers c.surface) (first-same (unmarked x) (unmarked y) (map unmarked xs) (map unmarked ys) kept) ∙ of_them.0
of-at numbers (x ∷ xs) (y ∷ ys) (suc i) d less kept of_them =
    of-at numbers xs ys i d (omega (arith, less)) (rest-same (unmarked x) (unmarked y) (map unmarked xs) (map unmarked ys) kept) of_them.1

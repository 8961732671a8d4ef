-- Lists whose elements are told apart by keys: what is found of one that changes, comes or goes.
use Rattle.std.proofs.Common.{◌≡◌, ℕ, ◌+◌, List, ◌∷◌, ◌++◌, Bool, true, false, Option, Some, None, cond, length, refl, ap, sym, subst, ◌∙◌, map, arith, []}
use Rattle.std.proofs.lemmas.Bool.{false_from_ne_true, or_left, or_right, true≢false}
use Rattle.std.proofs.lemmas.Option.{none-some, same_Some}
use Rattle.std.specs.Prelude.{◌||◌, not, find, filter}
use Rattle.std.specs.List.{list_any}
use Rattle.std.specs.Option.{option_map}
use Rattle.law_desktop.specs.Apart.{AreApartBy}

pub none-first : {X : Type 0} (b : Bool) (x : X) (o : Option X) → cond b (Some x) o ≡ None → b ≡ false
none-first true x o e = absurd (cc)
none-first false x o e = refl

pub none-later : {X : Type 0} (b : Bool) (x : X) (o : Option X) → cond b (Some x) o ≡ None → o ≡ None
none-later true x o e = absurd (cc)
none-later false x o e = e

-- what is found passes
pub found-passes : {X : Type 0} (p : X → Bool) (xs : List X) (x : X) → find p xs ≡ Some x → p x ≡ true
found-passes p [] x e = absurd (cc)
found-passes p (y ∷ ys) x e = at (p y) refl e (found-passes p ys x)
  where
    at : (b : Bool) → p y ≡ b → cond b (Some y) (find p ys) ≡ Some x → (find p ys ≡ Some x → p x ≡ true) → p x ≡ true
    at true here e rest = ap p (sym (same_Some y x e)) ∙ here
    at false here e rest = rest e

-- what a test finds fails one that finds none
pub found-fails : {X : Type 0} (p q : X → Bool) (xs : List X) (x : X) → find q xs ≡ Some x → find p xs ≡ None → p x ≡ false
found-fails p q [] x found none = absurd (cc)
found-fails p q (y ∷ ys) x found none = at (q y) found (λ e. found-fails p q ys x e (none-later (p y) y (find p ys) none))
  where
    at : (b : Bool) → cond b (Some y) (find q ys) ≡ Some x → (find q ys ≡ Some x → p x ≡ false) → p x ≡ false
    at true e rest = ap p (sym (same_Some y x e)) ∙ none-first (p y) y (find p ys) none
    at false e rest = rest e

-- what is found by one test is found by another that tells it apart
pub found-by : {X : Type 0} (has : ℕ → X → Bool) (p : X → Bool) (key : ℕ) (xs : List X) (x : X) → AreApartBy has xs → find p xs ≡ Some x → has key x ≡ true → find (has key) xs ≡ Some x
found-by has p key [] x apart e is = absurd (cc)
found-by has p key (y ∷ ys) x apart e is = at (p y) (has key y) refl refl e (λ later. found-by has p key ys x apart.1 later is)
  where
    at : (b c : Bool) → p y ≡ b → has key y ≡ c → cond b (Some y) (find p ys) ≡ Some x → (find p ys ≡ Some x → find (has key) ys ≡ Some x) → cond c (Some y) (find (has key) ys) ≡ Some x
    at true true passes here e rest = e
    at true false passes here e rest = absurd (true≢false (sym is ∙ ap (has key) (sym (same_Some y x e)) ∙ here))
    at false true passes here e rest = absurd (none-some x (sym (apart.0 key here) ∙ rest e))
    at false false passes here e rest = rest e

-- where nothing could be found
pub found-none : {X : Type 0} (p : X → Bool) (xs : List X) → ((x : X) → find p xs ≡ Some x → ⊥) → find p xs ≡ None
found-none {X} p xs never = at (find p xs) never
  where
    at : (o : Option X) → ((x : X) → o ≡ Some x → ⊥) → o ≡ None
    at None never = refl
    at (Some x) never = absurd (never x refl)

-- what is found is one of them
pub found-any : {X : Type 0} (p r : X → Bool) (xs : List X) (x : X) → find p xs ≡ Some x → r x ≡ true → list_any r xs ≡ true
found-any p r [] x found is = absurd (cc)
found-any p r (y ∷ ys) x found is = at (p y) found (λ e. found-any p r ys x e is)
  where
    at : (b : Bool) → cond b (Some y) (find p ys) ≡ Some x → (find p ys ≡ Some x → list_any r ys ≡ true) → (r y || list_any r ys) ≡ true
    at true e rest = or_left (r y) (list_any r ys) (ap r (same_Some y x e) ∙ is)
    at false e rest = or_right (r y) (list_any r ys) (rest e)

-- one of them is found by its key
pub any-found : {X : Type 0} (has : ℕ → X → Bool) (r : X → Bool) (xs : List X) → AreApartBy has xs → list_any r xs ≡ true → (x : X) × (r x ≡ true)
    × ((key : ℕ) → has key x ≡ true → find (has key) xs ≡ Some x)
any-found has r [] apart any = absurd (cc)
any-found {X} has r (y ∷ ys) apart any = at (r y) refl any (λ e. any-found has r ys apart.1 e)
  where
    at : (b : Bool) → r y ≡ b → (b || list_any r ys) ≡ true → (list_any r ys ≡ true → (x : X) × (r x ≡ true) × ((key : ℕ) → has key x ≡ true → find (has key) ys ≡ Some x))
        → (x : X) × (r x ≡ true) × ((key : ℕ) → has key x ≡ true → find (has key) (y ∷ ys) ≡ Some x)
    at true here e rest = (y, here, λ key is. ap (λ b. cond b (Some y) (find (has key) ys)) is)
    at false here e rest =
        let later = rest e in (
          later.0,
          later.1,
          λ key is. ap (λ b. cond b (Some y) (find (has key) ys)) (false_from_ne_true (has key y) (λ same. none-some later.0 (sym (apart.0 key same) ∙ later.2 key is))) ∙ later.2 key is,
        )

-- a change that keeps what is tested
pub found-map : {X : Type 0} (p : X → Bool) (f : X → X) (xs : List X) → ((x : X) → p (f x) ≡ p x) → find p (map f xs) ≡ option_map f (find p xs)
found-map p f [] keeps = refl
found-map p f (x ∷ xs) keeps = ap (λ b. cond b (Some (f x)) (find p (map f xs))) (keeps x) ∙ at (p x) (found-map p f xs keeps)
  where
    at : (b : Bool) → find p (map f xs) ≡ option_map f (find p xs) → cond b (Some (f x)) (find p (map f xs)) ≡ option_map f (cond b (Some x) (find p xs))
    at true e = refl
    at false e = e

pub apart-map : {X : Type 0} (has : ℕ → X → Bool) (f : X → X) (xs : List X) → ((key : ℕ) (x : X) → has key (f x) ≡ has key x) → AreApartBy has xs → AreApartBy has (map f xs)
apart-map has f [] keeps apart = tt
apart-map has f (x ∷ xs) keeps apart = (
  λ key is. found-map (has key) f xs (keeps key) ∙ ap (option_map f) (apart.0 key (sym (keeps key x) ∙ is)),
  apart-map has f xs keeps apart.1,
)

-- ---- one more

pub new-elsewhere : {X : Type 0} (p : X → Bool) (xs : List X) (x : X) → p x ≡ false → find p (xs ++ x ∷ []) ≡ find p xs
new-elsewhere p [] x not_it = ap (λ b. cond b (Some x) None) not_it
new-elsewhere p (y ∷ ys) x not_it = ap (λ o. cond (p y) (Some y) o) (new-elsewhere p ys x not_it)

pub new-here : {X : Type 0} (p : X → Bool) (xs : List X) (x : X) → find p xs ≡ None → p x ≡ true → find p (xs ++ x ∷ []) ≡ Some x
new-here p [] x none is = ap (λ b. cond b (Some x) None) is
new-here p (y ∷ ys) x none is =
    ap (λ b. cond b (Some y) (find p (ys ++ x ∷ []))) (none-first (p y) y (find p ys) none) ∙ new-here p ys x (none-later (p y) y (find p ys) none) is

pub new-apart : {X : Type 0} (has : ℕ → X → Bool) (xs : List X) (x : X) → ((key : ℕ) → has key x ≡ true → find (has key) xs ≡ None) → AreApartBy has xs → AreApartBy has (xs ++ x ∷ [])
new-apart has [] x new apart = (λ key is. refl, tt)
new-apart has (y ∷ ys) x new apart = (
  λ key is. new-elsewhere (has key) ys x (another key is (has key x) refl) ∙ apart.0 key is,
  new-apart has ys x (λ key is. none-later (has key y) y (find (has key) ys) (new key is)) apart.1,
)
  where
    another : (key : ℕ) → has key y ≡ true → (b : Bool) → has key x ≡ b → has key x ≡ false
    another key is true e = absurd (true≢false (sym is ∙ none-first (has key y) y (find (has key) ys) (new key e)))
    another key is false e = e

pub length-new : {X : Type 0} (xs : List X) (x : X) → length (xs ++ x ∷ []) ≡ length xs + 1
length-new [] x = refl
length-new (y ∷ ys) x = let e = length-new ys x in omega (arith, e)

-- ---- one that changes, or goes: it is the only one of its key

pub unmapped : {X : Type 0} (q : X → Bool) (change : X → X) (xs : List X) → find q xs ≡ None → map (λ x. cond (q x) (change x) x) xs ≡ xs
unmapped q change [] none = refl
unmapped q change (x ∷ xs) none =
    ap (λ b. cond b (change x) x ∷ map (λ x. cond (q x) (change x) x) xs) (none-first (q x) x (find q xs) none)
    ∙ ap (λ ys. x ∷ ys) (unmapped q change xs (none-later (q x) x (find q xs) none))

pub unfiltered : {X : Type 0} (q : X → Bool) (xs : List X) → find q xs ≡ None → filter (λ x. not (q x)) xs ≡ xs
unfiltered q [] none = refl
unfiltered q (x ∷ xs) none =
    ap (λ b. cond (not b) (x ∷ filter (λ x. not (q x)) xs) (filter (λ x. not (q x)) xs)) (none-first (q x) x (find q xs) none)
    ∙ ap (λ ys. x ∷ ys) (unfiltered q xs (none-later (q x) x (find q xs) none))

pub none-left : {X : Type 0} (p q : X → Bool) (xs : List X) → find p xs ≡ None → find p (filter q xs) ≡ None
none-left p q [] none = refl
none-left p q (x ∷ xs) none = at (q x) (none-left p q xs (none-later (p x) x (find p xs) none))
  where
    at : (b : Bool) → find p (filter q xs) ≡ None → find p (cond b (x ∷ filter q xs) (filter q xs)) ≡ None
    at true rest = ap (λ c. cond c (Some x) (find p (filter q xs))) (none-first (p x) x (find p xs) none) ∙ rest
    at false rest = rest

pub apart-left : {X : Type 0} (has : ℕ → X → Bool) (q : X → Bool) (xs : List X) → AreApartBy has xs → AreApartBy has (filter q xs)
apart-left has q [] apart = tt
apart-left has q (x ∷ xs) apart = at (q x) (apart-left has q xs apart.1)
  where
    at : (b : Bool) → AreApartBy has (filter q xs) → AreApartBy has (cond b (x ∷ filter q xs) (filter q xs))
    at true rest = (λ key is. none-left (has key) q xs (apart.0 key is), rest)
    at false rest = rest

-- none of these is left
pub gone : {X : Type 0} (q : X → Bool) (xs : List X) → find q (filter (λ x. not (q x)) xs) ≡ None
gone q [] = refl
gone q (x ∷ xs) = at (q x) refl (gone q xs)
  where
    at : (b : Bool) → q x ≡ b → find q (filter (λ x. not (q x)) xs) ≡ None → find q (cond (not b) (x ∷ filter (λ x. not (q x)) xs) (filter (λ x. not (q x)) xs)) ≡ None
    at true e rest = rest
    at false e rest = ap (λ b. cond b (Some x) (find q (filter (λ x. not (q x)) xs))) e ∙ rest

module _ {X : Type 0} (ids : ℕ → X → Bool) (id : ℕ) (x : X) where
  -- by induction: it is first and no other has the id, or it comes later
  pub found-once : (P : List X → Type 0) (xs : List X) → AreApartBy ids xs → find (ids id) xs ≡ Some x → ((ys : List X) → ids id x ≡ true → find (ids id) ys ≡ None → P (x ∷ ys))
      → ((y : X) (ys : List X) → ids id y ≡ false → find (ids id) ys ≡ Some x → P ys → P (y ∷ ys)) → P xs
  found-once P [] apart found first later = absurd (cc)
  found-once P (y ∷ ys) apart found first later = at (ids id y) refl found (λ e. found-once P ys apart.1 e first later)
    where
      at : (b : Bool) → ids id y ≡ b → cond b (Some y) (find (ids id) ys) ≡ Some x → (find (ids id) ys ≡ Some x → P ys) → P (y ∷ ys)
      at true here e rest =
          let same = same_Some y x e in
          subst (λ (z : X). P (z ∷ ys)) (sym same) (first ys (ap (ids id) (sym same) ∙ here) (apart.0 id here))
      at false here e rest = later y ys here e (rest e)

  abbrev pub others : List X → List X
  others xs = filter (λ y. not (ids id y)) xs

  others-first : (ys : List X) → ids id x ≡ true → find (ids id) ys ≡ None → others (x ∷ ys) ≡ ys
  others-first ys is none = ap (λ b. cond (not b) (x ∷ others ys) (others ys)) is ∙ unfiltered (ids id) ys none

  others-later : (y : X) (ys : List X) → ids id y ≡ false → others (y ∷ ys) ≡ y ∷ others ys
  others-later y ys not_it = ap (λ b. cond (not b) (y ∷ others ys) (others ys)) not_it

  pub left-elsewhere : (p : X → Bool) (xs : List X) → AreApartBy ids xs → find (ids id) xs ≡ Some x → p x ≡ false → find p (others xs) ≡ find p xs
  left-elsewhere p xs apart found fails =
      found-once (λ xs. find p (others xs) ≡ find p xs) xs apart found
      (λ ys is none. ap (find p) (others-first ys is none) ∙ ap (λ b. cond b (Some x) (find p ys)) (sym fails))
      (λ y ys not_it found rest. ap (find p) (others-later y ys not_it) ∙ ap (cond (p y) (Some y)) rest)

  pub left-here : (has : ℕ → X → Bool) (key : ℕ) (xs : List X) → AreApartBy ids xs → AreApartBy has xs → find (ids id) xs ≡ Some x → has key x ≡ true → find (has key) (others xs) ≡ None
  left-here has key xs apart told found is =
      found-once (λ xs. AreApartBy has xs → find (has key) (others xs) ≡ None) xs apart found
      (λ ys here none told. ap (find (has key)) (others-first ys here none) ∙ told.0 key is)
      (λ y ys not_it found rest told.
      ap (find (has key)) (others-later y ys not_it)
      ∙ ap (λ b. cond b (Some y) (find (has key) (others ys))) (false_from_ne_true (has key y) (λ e. none-some x (sym (told.0 key e) ∙ found-by has (ids id) key ys x told.1 found is)))
      ∙ rest told.1) told

  pub length-left : (xs : List X) → AreApartBy ids xs → find (ids id) xs ≡ Some x → length (others xs) + 1 ≡ length xs
  length-left xs apart found =
      found-once (λ xs. length (others xs) + 1 ≡ length xs) xs apart found
      (λ ys is none. let e = ap length (others-first ys is none) in omega (arith, e))
      (λ y ys not_it found rest. let e = ap length (others-later y ys not_it) in omega (arith, e, rest))

  module _ (change : X → X) where
    abbrev pub changed : List X → List X
    changed xs = map (λ y. cond (ids id y) (change y) y) xs

    changed-first : (ys : List X) → ids id x ≡ true → find (ids id) ys ≡ None → changed (x ∷ ys) ≡ change x ∷ ys
    changed-first ys is none = ap (λ b. cond b (change x) x ∷ changed ys) is ∙ ap (λ zs. change x ∷ zs) (unmapped (ids id) change ys none)

    changed-later : (y : X) (ys : List X) → ids id y ≡ false → changed (y ∷ ys) ≡ y ∷ changed ys
    changed-later y ys not_it = ap (λ b. cond b (change y) y ∷ changed ys) not_it

    pub changed-elsewhere : (p : X → Bool) (xs : List X) → AreApartBy ids xs → find (ids id) xs ≡ Some x → p x ≡ false → p (change x) ≡ false → find p (changed xs) ≡ find p xs
    changed-elsewhere p xs apart found was is =
        found-once (λ xs. find p (changed xs) ≡ find p xs) xs apart found
        (λ ys here none. ap (find p) (changed-first ys here none) ∙ ap (λ b. cond b (Some (change x)) (find p ys)) is ∙ ap (λ b. cond b (Some x) (find p ys)) (sym was))
        (λ y ys not_it found rest. ap (find p) (changed-later y ys not_it) ∙ ap (cond (p y) (Some y)) rest)

    -- it passes now, and none did
    pub changed-here : (p : X → Bool) (xs : List X) → AreApartBy ids xs → find (ids id) xs ≡ Some x → find p xs ≡ None → p (change x) ≡ true → find p (changed xs) ≡ Some (change x)
    changed-here p xs apart found none is =
        found-once (λ xs. find p xs ≡ None → find p (changed xs) ≡ Some (change x)) xs apart found
        (λ ys here alone none. ap (find p) (changed-first ys here alone) ∙ ap (λ b. cond b (Some (change x)) (find p ys)) is)
        (λ y ys not_it found rest none.
        ap (find p) (changed-later y ys not_it)
        ∙ ap (λ b. cond b (Some y) (find p (changed ys))) (none-first (p y) y (find p ys) none)
        ∙ rest (none-later (p y) y (find p ys) none)) none

    -- it doesn't pass any more, and no other does
    pub changed-gone : (has : ℕ → X → Bool) (key : ℕ) (xs : List X) → AreApartBy ids xs → AreApartBy has xs → find (ids id) xs ≡ Some x → has key x ≡ true → has key (change x) ≡ false
        → find (has key) (changed xs) ≡ None
    changed-gone has key xs apart told found was is =
        found-once (λ xs. AreApartBy has xs → find (has key) (changed xs) ≡ None) xs apart found
        (λ ys here none told. ap (find (has key)) (changed-first ys here none) ∙ ap (λ b. cond b (Some (change x)) (find (has key) ys)) is ∙ told.0 key was)
        (λ y ys not_it found rest told.
        ap (find (has key)) (changed-later y ys not_it)
        ∙ ap (λ b. cond b (Some y) (find (has key) (changed ys))) (false_from_ne_true (has key y) (λ e. none-some x (sym (told.0 key e) ∙ found-by has (ids id) key ys x told.1 found was)))
        ∙ rest told.1) told

    -- its new keys are nobody's
    pub changed-apart : (has : ℕ → X → Bool) (xs : List X) → AreApartBy ids xs → find (ids id) xs ≡ Some x → AreApartBy has xs → ((key : ℕ) → has key (change x) ≡ true → find (has key) xs ≡ None)
        → AreApartBy has (changed xs)
    changed-apart has xs apart found told new =
        found-once (λ xs. AreApartBy ids xs → AreApartBy has xs → ((key : ℕ) → has key (change x) ≡ true → find (has key) xs ≡ None) → AreApartBy has (changed xs)) xs apart found
        (λ ys here none apart told new. subst (AreApartBy has) (sym (changed-first ys here none)) (λ key is. none-later (has key x) x (find (has key) ys) (new key is), told.1))
        (λ y ys not_it found rest apart told new.
        subst (AreApartBy has) (sym (changed-later y ys not_it)) (
          λ key is. mapped key ys apart.1 found (told.0 key is) (false_from_ne_true (has key (change x)) (λ e. true≢false (sym is ∙ none-first (has key y) y (find (has key) ys) (new key e)))),
          rest apart.1 told.1 (λ key is. none-later (has key y) y (find (has key) ys) (new key is)),
        )) apart told new
      where
        mapped : (key : ℕ) (ys : List X) → AreApartBy ids ys → find (ids id) ys ≡ Some x → find (has key) ys ≡ None → has key (change x) ≡ false → find (has key) (changed ys) ≡ None
        mapped key ys apart found none is =
            changed-elsewhere (has key) ys apart found (found-fails (has key) (ids id) ys x found none) is ∙ none

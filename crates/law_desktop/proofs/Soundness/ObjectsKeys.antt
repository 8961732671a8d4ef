-- Objects that are known by their ids go on being known as they come, change and go.
use Rattle.std.proofs.Common.{◌≡◌, ℕ, Bool, true, false, List, [], ◌∷◌, ◌++◌, Option, Some, None, cond, refl, ap, sym, ◌∙◌, map}
use Rattle.std.specs.Prelude.{◌==◌, ◌&&◌, ◌||◌, nat_le, not, is_some, find, filter}
use Rattle.std.specs.List.{list_any}
use Rattle.std.proofs.lemmas.Bool.{eqb-true, false_from_ne_true, true≢false}
use Rattle.wl_proto.specs.declared.interface.Interface.{Interface}
use Rattle.spec_desktop.specs.Judgement.{is_free}
use Rattle.spec_desktop.specs.Objects.{Object, Objects, interface_number, is_of, with_id}
use Rattle.law_desktop.specs.Apart.{AreApartBy, AreObjects}
use Rattle.law_desktop.proofs.Lists.Keys.{apart-left, new-apart, none-first, none-later}
use Rattle.law_desktop.proofs.Marks.Stacks.{equal-numbers}
use Rattle.law_desktop.proofs.Lists.Standings.{any-last}
use Rattle.law_desktop.proofs.Truth.{and-right}
use Rattle.law_desktop.proofs.Lists.Left.{any-there}
use Rattle.law_desktop.proofs.Lists.Tests.{find-none}

-- ---- lists

-- what passes after a change passed before
pub none-map : {X : Type 0} (p : X → Bool) (f : X → X) (xs : List X) → ((x : X) → p (f x) ≡ true → p x ≡ true) → find p xs ≡ None → find p (map f xs) ≡ None
none-map p f [] less none = refl
none-map p f (x ∷ xs) less none =
    ap (λ b. cond b (Some (f x)) (find p (map f xs))) (false_from_ne_true (p (f x)) (λ e. true≢false (sym (less x e) ∙ none-first (p x) x (find p xs) none)))
    ∙ none-map p f xs less (none-later (p x) x (find p xs) none)

pub apart-less : {X : Type 0} (has : ℕ → X → Bool) (f : X → X) (xs : List X) → ((key : ℕ) (x : X) → has key (f x) ≡ true → has key x ≡ true) → AreApartBy has xs → AreApartBy has (map f xs)
apart-less has f [] less apart = tt
apart-less has f (x ∷ xs) less apart = (λ key is. none-map (has key) f xs (less key) (apart.0 key (less key x is)), apart-less has f xs less apart.1)

pub any-map : {X : Type 0} (p : X → Bool) (f : X → X) (xs : List X) → list_any p (map f xs) ≡ list_any (λ x. p (f x)) xs
any-map p f [] = refl
any-map p f (x ∷ xs) = ap (λ b. p (f x) || b) (any-map p f xs)

pub any-less : {X : Type 0} (p : X → Bool) (f : X → X) (xs : List X) → ((x : X) → p (f x) ≡ true → p x ≡ true) → list_any p (map f xs) ≡ true → list_any p xs ≡ true
any-less p f [] less any = any
any-less p f (x ∷ xs) less any = at (p x) (p (f x)) (less x) any (any-less p f xs less)
  where
    at : (a b : Bool) → (b ≡ true → a ≡ true) → (b || list_any p (map f xs)) ≡ true → (list_any p (map f xs) ≡ true → list_any p xs ≡ true) → (a || list_any p xs) ≡ true
    at true b e any rest = refl
    at false true e any rest = absurd (true≢false (sym (e refl)))
    at false false e any rest = rest any

-- ---- objects by their ids

-- what is put in the place of an object of another interface, or of none, leaves those of this one
pub others-kept : (interface : Interface) (objects : Objects) (id : ℕ) (o : Option Object) → is_of interface (objects id) ≡ false → (other : ℕ) → is_of interface (objects other) ≡ true
    → is_of interface (with_id id o objects other) ≡ true
others-kept interface objects id o none other is = at (other == id) refl
  where
    at : (b : Bool) → (other == id) ≡ b → is_of interface (cond b o (objects other)) ≡ true
    at true e = absurd (true≢false (sym is ∙ ap (λ n. is_of interface (objects n)) (eqb-true other id e) ∙ none))
    at false e = is

-- a free id is of no object
pub free-none : (interface : Interface) (objects : Objects) (id : ℕ) → is_free objects id ≡ true → is_of interface (objects id) ≡ false
free-none interface objects id free =
    at (objects id) (and-right (nat_le id 4278190079) (not (is_some (objects id))) (and-right (nat_le 1 id) (nat_le id 4278190079 && not (is_some (objects id))) free))
  where
    at : (o : Option Object) → not (is_some o) ≡ true → is_of interface o ≡ false
    at None e = refl
    at (Some object) e = absurd (true≢false (sym e))

-- an object is of one interface
pub of-one : (one other : Interface) (o : Option Object) → (interface_number one == interface_number other) ≡ false → is_of one o ≡ true → is_of other o ≡ false
of-one one other None apart is = refl
of-one one other (Some object) apart is = ap (λ n. n == interface_number other) (eqb-true (interface_number object.interface) (interface_number one) is) ∙ apart

-- an object that is there after one was taken away was there before, and is another
pub none-of-gone : (interface : Interface) (objects : Objects) (id other : ℕ) → is_of interface (with_id id None objects other) ≡ true → (is_of interface (objects other) ≡ true)
    × ((other == id) ≡ false)
none-of-gone interface objects id other is = at (other == id) refl is
  where
    at : (b : Bool) → (other == id) ≡ b → is_of interface (cond b None (objects other)) ≡ true → (is_of interface (objects other) ≡ true) × ((other == id) ≡ false)
    at true e is = absurd (true≢false (sym is))
    at false e is = (is, e)

-- ---- those that are known by them

module _ {X : Type 0} (interface : Interface) (has : ℕ → X → Bool) where
  pub objects-more : (old new : Objects) (xs : List X) → ((id : ℕ) → is_of interface (old id) ≡ true → is_of interface (new id) ≡ true) → AreObjects interface old has xs
      → AreObjects interface new has xs
  objects-more old new xs more are = (are.0, λ id any. more id (are.1 id any))

  -- no key is that of an object of another interface
  pub no-key : (objects : Objects) (id : ℕ) (xs : List X) → is_of interface (objects id) ≡ false → AreObjects interface objects has xs → list_any (has id) xs ≡ false
  no-key objects id xs none are = false_from_ne_true (list_any (has id) xs) (λ any. true≢false (sym (are.1 id any) ∙ none))

  pub objects-gone : (objects : Objects) (id : ℕ) (xs : List X) → list_any (has id) xs ≡ false → AreObjects interface objects has xs → AreObjects interface (with_id id None objects) has xs
  objects-gone objects id xs none are = (are.0, λ other any. at other any (other == id) refl)
    where
      at : (other : ℕ) → list_any (has other) xs ≡ true → (b : Bool) → (other == id) ≡ b → is_of interface (cond b None (objects other)) ≡ true
      at other any true e = absurd (true≢false (sym any ∙ ap (λ n. list_any (has n) xs) (eqb-true other id e) ∙ none))
      at other any false e = are.1 other any

  pub objects-filter : (objects : Objects) (q : X → Bool) (xs : List X) → AreObjects interface objects has xs → AreObjects interface objects has (filter q xs)
  objects-filter objects q xs are = (apart-left has q xs are.0, λ id any. are.1 id (any-there (has id) q xs any))

  pub objects-map : (objects : Objects) (f : X → X) (xs : List X) → ((key : ℕ) (x : X) → has key (f x) ≡ true → has key x ≡ true) → AreObjects interface objects has xs
      → AreObjects interface objects has (map f xs)
  objects-map objects f xs less are = (apart-less has f xs less are.0, λ id any. are.1 id (any-less (has id) f xs (less id) any))

  -- one more, whose key is that of a new object
  pub objects-new : (objects : Objects) (id : ℕ) (object : Object) (xs : List X) (x : X) → is_of interface (objects id) ≡ false → is_of interface (Some object) ≡ true
      → ((key : ℕ) → has key x ≡ true → key ≡ id)
      → AreObjects interface objects has xs → AreObjects interface (with_id id (Some object) objects) has (xs ++ x ∷ [])
  objects-new objects id object xs x none is key-is are = (
    new-apart has xs x (λ key has-key. find-none (has key) xs (no-key objects key xs (ap (λ n. is_of interface (objects n)) (key-is key has-key) ∙ none) are)) are.0,
    λ key any. at key (key == id) refl (sym (any-last (has key) xs x) ∙ any),
  )
    where
      at : (key : ℕ) (b : Bool) → (key == id) ≡ b → (list_any (has key) xs || has key x) ≡ true → is_of interface (cond b (Some object) (objects key)) ≡ true
      at key true e any = is
      at key false e any = are.1 key (first (list_any (has key) xs) (has key x) any (λ has-key. true≢false (sym (same key (key-is key has-key)) ∙ e)))
        where
          same : (key : ℕ) → key ≡ id → (key == id) ≡ true
          same key e = equal-numbers key id e

          first : (a b : Bool) → (a || b) ≡ true → (b ≡ true → ⊥) → a ≡ true
          first true b e never = refl
          first false b e never = absurd (never e)

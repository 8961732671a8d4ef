-- What is said of each xdg_surface of a client, as they change, come and go.
use Rattle.std.proofs.Common.{◌≡◌, ◌≤◌, ℕ, ◌+◌, List, [], ◌∷◌, ◌++◌, Bool, true, false, Option, Some, None, cond, length, refl, ap, ap₂, sym, subst, ◌∙◌, map, arith}
use Rattle.std.specs.Prelude.{◌==◌, not, is_some, IfSome, find, filter}
use Rattle.std.proofs.lemmas.Bool.{eqb-true, true≢false}
use Rattle.wl_shell.specs.Popups.{popup_in}
use Rattle.wl_shell.specs.Shell.{Popup, Shell, XdgSurface as Xdg}
use Rattle.wl_shell.specs.InOrder.{AreReleased}
use Rattle.law_desktop.specs.Apart.{AreApartBy}
use Rattle.law_desktop.proofs.Lists.Keys.{none-first, none-later}
use Rattle.law_desktop.proofs.Marks.Stacks.{equal-numbers}
use Rattle.law_desktop.proofs.Lists.Left.{find-filter}
use Rattle.law_desktop.specs.Ordered.{OfEach}

-- `P` is said of the popup of an xdg_surface, if it has one
abbrev pub OfPopup : (Popup → Type 0) → Xdg → Type 0
OfPopup P x = IfSome (popup_in x.role) P

pub some-so : {X : Type 0} (P Q : X → Type 0) → ((x : X) → P x → Q x) → (o : Option X) → IfSome o P → IfSome o Q
some-so P Q so None is = tt
some-so P Q so (Some x) is = so x is

pub some-both : {X : Type 0} (P Q : X → Type 0) (o : Option X) → IfSome o P → IfSome o Q → IfSome o (λ x. P x × Q x)
some-both P Q None is also = tt
some-both P Q (Some x) is also = (is, also)

-- ---- of each

pub each-so : (P Q : Xdg → Type 0) → ((x : Xdg) → P x → Q x) → (xs : Shell) → OfEach P xs → OfEach Q xs
each-so P Q so [] all = tt
each-so P Q so (x ∷ xs) all = (so x all.0, each-so P Q so xs all.1)

pub each-both : (P Q : Xdg → Type 0) (xs : Shell) → OfEach P xs → OfEach Q xs → OfEach (λ x. P x × Q x) xs
each-both P Q [] all also = tt
each-both P Q (x ∷ xs) all also = ((all.0, also.0), each-both P Q xs all.1 also.1)

pub each-map : (P Q : Xdg → Type 0) (f : Xdg → Xdg) → ((x : Xdg) → P x → Q (f x)) → (xs : Shell) → OfEach P xs → OfEach Q (map f xs)
each-map P Q f so [] all = tt
each-map P Q f so (x ∷ xs) all = (so x all.0, each-map P Q f so xs all.1)

pub each-of : (P : Xdg → Type 0) → ((x : Xdg) → P x) → (xs : Shell) → OfEach P xs
each-of P so [] = tt
each-of P so (x ∷ xs) = (so x, each-of P so xs)

pub each-more : (P : Xdg → Type 0) (xs : Shell) (x : Xdg) → P x → OfEach P xs → OfEach P (xs ++ x ∷ [])
each-more P [] x new all = (new, tt)
each-more P (y ∷ ys) x new all = (all.0, each-more P ys x new all.1)

pub each-left : (P : Xdg → Type 0) (q : Xdg → Bool) (xs : Shell) → OfEach P xs → OfEach P (filter q xs)
each-left P q [] all = tt
each-left P q (x ∷ xs) all = at (q x) (each-left P q xs all.1)
  where
    at : (b : Bool) → OfEach P (filter q xs) → OfEach P (cond b (x ∷ filter q xs) (filter q xs))
    at true rest = (all.0, rest)
    at false rest = rest

-- none is found
pub each-unfound : (q : Xdg → Bool) (xs : Shell) → find q xs ≡ None → OfEach (λ x. q x ≡ false) xs
each-unfound q [] none = tt
each-unfound q (x ∷ xs) none = (none-first (q x) x (find q xs) none, each-unfound q xs (none-later (q x) x (find q xs) none))

-- what is found
pub each-found : (P : Xdg → Type 0) (q : Xdg → Bool) (x : Xdg) (xs : Shell) → find q xs ≡ Some x → OfEach P xs → P x
each-found P q x [] found all = absurd (cc)
each-found P q x (y ∷ ys) found all = at (q y) found (λ e. each-found P q x ys e all.1)
  where
    same : Some y ≡ Some x → y ≡ x
    same e = cc

    at : (b : Bool) → cond b (Some y) (find q ys) ≡ Some x → (find q ys ≡ Some x → P x) → P x
    at true e rest = subst P (same e) all.0
    at false e rest = rest e

-- where they are told apart by their ids, what is said of the one with this id is said of each that has it
pub each-only : (P : Xdg → Type 0) (id : ℕ) (x : Xdg) (xs : Shell) → AreApartBy (λ key y. y.id == key) xs → find (λ y. y.id == id) xs ≡ Some x → P x
    → OfEach (λ y. (y.id == id) ≡ true → P y) xs
each-only P id x [] apart found is = tt
each-only P id x (y ∷ ys) apart found is = at (y.id == id) refl found (λ e. each-only P id x ys apart.1 e is)
  where
    same : Some y ≡ Some x → y ≡ x
    same e = cc

    at : (b : Bool) → (y.id == id) ≡ b → cond b (Some y) (find (λ z. z.id == id) ys) ≡ Some x
        → (find (λ z. z.id == id) ys ≡ Some x → OfEach (λ z. (z.id == id) ≡ true → P z) ys) → OfEach (λ z. (z.id == id) ≡ true → P z) (y ∷ ys)
    at true here e later = (
      λ has. subst P (sym (same e)) is,
      each-so (λ z. (z.id == id) ≡ false) (λ z. (z.id == id) ≡ true → P z) (λ z away has. absurd (true≢false (sym has ∙ away))) ys
          (each-unfound (λ z. z.id == id) ys (apart.0 id here)),
    )
    at false away e later = (λ has. absurd (true≢false (sym has ∙ away)), later e)

-- two changes that come to the same for each
pub each-alike : (f g : Xdg → Xdg) (xs : Shell) → OfEach (λ x. f x ≡ g x) xs → map f xs ≡ map g xs
each-alike f g [] all = refl
each-alike f g (x ∷ xs) all = ap₂ (λ (y : Xdg) (ys : Shell). y ∷ ys) all.0 (each-alike f g xs all.1)

-- ---- grabs

-- one that was dismissed has none
abbrev pub IsReleased : Popup → Type 0
IsReleased popup = popup.is_dismissed ≡ true → popup.has_grab ≡ false

pub released-each : (xs : Shell) → AreReleased xs → OfEach (OfPopup IsReleased) xs
released-each [] all = tt
released-each (x ∷ xs) all = (all.0, released-each xs all.1)

pub each-released : (xs : Shell) → OfEach (OfPopup IsReleased) xs → AreReleased xs
each-released [] all = tt
each-released (x ∷ xs) all = (all.0, each-released xs all.1)

-- ---- no more than those that have their keys

-- each of these has its key among those
abbrev pub AreKeyed : {X Y : Type 0} → (X → ℕ) → (Y → ℕ) → List Y → List X → Type 0
AreKeyed key other ys [] = Unit {0}
AreKeyed key other ys (x ∷ xs) = (is_some (find (λ y. other y == key x) ys) ≡ true) × AreKeyed key other ys xs

one-less : {Y : Type 0} (q : Y → Bool) (ys : List Y) → is_some (find q ys) ≡ true → length (filter (λ y. not (q y)) ys) + 1 ≤ length ys
one-less q [] found = absurd (true≢false (sym found))
one-less {Y} q (y ∷ ys) found = at (q y) found (one-less q ys)
  where
    fewer : (zs : List Y) → length (filter (λ y. not (q y)) zs) ≤ length zs
    fewer [] = omega arith
    fewer (z ∷ zs) = by (q z) (fewer zs)
      where
        by : (b : Bool) → length (filter (λ y. not (q y)) zs) ≤ length zs → length (cond (not b) (z ∷ filter (λ y. not (q y)) zs) (filter (λ y. not (q y)) zs)) ≤ length (z ∷ zs)
        by true less = omega (arith, less)
        by false less = omega (arith, less)

    at : (b : Bool) → is_some (cond b (Some y) (find q ys)) ≡ true → (is_some (find q ys) ≡ true → length (filter (λ y. not (q y)) ys) + 1 ≤ length ys)
        → length (cond (not b) (y ∷ filter (λ y. not (q y)) ys) (filter (λ y. not (q y)) ys)) + 1 ≤ length (y ∷ ys)
    at true here later = let less = fewer ys in omega (arith, less)
    at false here later = let less = later here in omega (arith, less)

module _ {X Y : Type 0} (key : X → ℕ) (other : Y → ℕ) where
  abbrev has : ℕ → X → Bool
  has k x = key x == k

  -- those that have another key have it among those that are left
  keyed-left : (k : ℕ) (ys : List Y) (xs : List X) → find (has k) xs ≡ None → AreKeyed key other ys xs → AreKeyed key other (filter (λ y. not (other y == k)) ys) xs
  keyed-left k ys [] none all = tt
  keyed-left k ys (x ∷ xs) none all =
      let away = none-first (has k x) x (find (has k) xs) none in (
        ap is_some (find-filter (λ y. other y == key x) (λ y. not (other y == k)) ys (λ y is. ap (λ n. not (n == k)) (eqb-true (other y) (key x) is) ∙ ap not away)) ∙ all.0,
        keyed-left k ys xs (none-later (has k x) x (find (has k) xs) none) all.1,
      )

  count : (xs : List X) (ys : List Y) → AreApartBy has xs → AreKeyed key other ys xs → length xs ≤ length ys
  count [] ys apart all = omega arith
  count (x ∷ xs) ys apart all =
      let k = key x in
      let rest = count xs (filter (λ y. not (other y == k)) ys) apart.1 (keyed-left k ys xs (apart.0 k (equal-numbers k k refl)) all.1) in
      let less = one-less (λ y. other y == k) ys all.0 in
      omega (arith, rest, less)

-- where they are told apart by their keys, and each key is found
pub count-keyed : {X Y : Type 0} (key : X → ℕ) (other : Y → ℕ) (xs : List X) (ys : List Y) → AreApartBy (λ k x. key x == k) xs → AreKeyed key other ys xs → length xs ≤ length ys
count-keyed key other xs ys apart all = count key other xs ys apart all

pub found-keyed : {X Y : Type 0} (key : X → ℕ) (other : Y → ℕ) (xs : List X) (ys : List Y)
    → ((k : ℕ) → is_some (find (λ x. key x == k) xs) ≡ true → is_some (find (λ y. other y == k) ys) ≡ true) → AreKeyed key other ys xs
found-keyed {X} {Y} key other xs ys so = go xs (λ k is. so k is)
  where
    go : (zs : List X) → ((k : ℕ) → is_some (find (λ x. key x == k) zs) ≡ true → is_some (find (λ y. other y == k) ys) ≡ true) → AreKeyed key other ys zs
    go [] so = tt
    go (z ∷ zs) so = (so (key z) (here (key z == key z) (equal-numbers (key z) (key z) refl)), go zs (λ k is. so k (there k (key z == k) is)))
      where
        here : (b : Bool) → b ≡ true → is_some (cond b (Some z) (find (λ x. key x == key z) zs)) ≡ true
        here true e = refl
        here false e = absurd (true≢false (sym e))

        there : (k : ℕ) (b : Bool) → is_some (find (λ x. key x == k) zs) ≡ true → is_some (cond b (Some z) (find (λ x. key x == k) zs)) ≡ true
        there k true e = refl
        there k false e = e

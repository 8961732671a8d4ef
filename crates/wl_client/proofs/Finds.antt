-- The first of a list that does.
use Rattle.std.proofs.Common.{◌≡◌, ℕ, ◌+◌, ◌<◌, zero, suc, List, [], ◌∷◌, Bool, true, false, Option, Some, None, get_or, length, map, take, refl, arith}
use Rattle.std.specs.Prelude.{find, if◌then◌else◌}

not_yet : {X : Type 0} (b : Bool) (x : X) (o n : Option X) → (if b then Some x else o) ≡ None → (o ≡ None → n ≡ None) → (if b then Some x else n) ≡ None
not_yet true x o n e next = absurd (cc)
not_yet false x o n e next = next e

not_first : {X : Type 0} (b : Bool) (x y : X) (o n : Option X) → (if b then Some x else o) ≡ None → (o ≡ None → n ≡ Some y) → (if b then Some x else n) ≡ Some y
not_first true x y o n e next = absurd (cc)
not_first false x y o n e next = next e

-- the element at a place does, and none before it
pub find-here : {X Y : Type 0} (p : Y → Bool) (f : X → Y) (xs : List X) (k : ℕ) (d : X) → k < length xs → find p (map f (take k xs)) ≡ None → p (f (get_or xs k d)) ≡ true
    → find p (map f xs) ≡ Some (f (get_or xs k d))
find-here p f [] k d h none here = absurd (omega arith)
find-here p f (x ∷ xs) zero d h none here = rw here refl
find-here p f (x ∷ xs) (suc k) d h none here =
    not_first (p (f x)) (f x) (f (get_or xs k d)) (find p (map f (take k xs))) (find p (map f xs)) none (λ e. find-here p f xs k d (omega arith) e here)

find-next : {X Y : Type 0} (p : Y → Bool) (f : X → Y) (xs : List X) (k : ℕ) (d : X) → k < length xs → find p (map f (take k xs)) ≡ None → p (f (get_or xs k d)) ≡ false
    → find p (map f (take (suc k) xs)) ≡ None
find-next p f [] k d h none here = refl
find-next p f (x ∷ xs) zero d h none here = rw here refl
find-next p f (x ∷ xs) (suc k) d h none here =
    not_yet (p (f x)) (f x) (find p (map f (take k xs))) (find p (map f (take (suc k) xs))) none (λ e. find-next p f xs k d (omega arith) e here)

-- none before a place does, and not the element there
pub find-on : {X Y : Type 0} (p : Y → Bool) (f : X → Y) (xs : List X) (k : ℕ) (d : X) → k < length xs → find p (map f (take k xs)) ≡ None → p (f (get_or xs k d)) ≡ false
    → find p (map f (take (k + 1) xs)) ≡ None
find-on p f xs k d h none here = let e : k + 1 ≡ suc k = omega arith in rw e (find-next p f xs k d h none here)

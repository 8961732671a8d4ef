-- Lists whose entries are told apart by keys.
use Rattle.std.specs.Prelude.{ℕ, ◌≡◌, Bool, true, None, List, [], ◌∷◌, find}
use Rattle.std.specs.List.{list_any}
use Rattle.wl_proto.specs.declared.interface.Interface.{Interface}
use Rattle.spec_desktop.specs.Objects.{Objects, is_of}

-- no two of them have one key
abbrev pub AreApartBy : {X : Type 0} → (ℕ → X → Bool) → List X → Type 0
AreApartBy has [] = Unit {0}
AreApartBy has (x ∷ xs) = ((key : ℕ) → has key x ≡ true → find (has key) xs ≡ None) × AreApartBy has xs

-- each id is once among these, and is that of a live object of this interface
abbrev pub AreObjects : {X : Type 0} → Interface → Objects → (ℕ → X → Bool) → List X → Type 0
AreObjects interface objects has xs = AreApartBy has xs × ((id : ℕ) → list_any (has id) xs ≡ true → is_of interface (objects id) ≡ true)

-- The wl_pointers of a client by its number.
use Rattle.std.proofs.Common.{◌≡◌, ◌≢◌, ℕ, zero, suc, ◌-◌, ◌<◌, List, [], ◌∷◌, true, map, length, get_or, ap, sym, ◌∙◌, arith}
use Rattle.std.specs.Prelude.{nat_lt}
use Rattle.std.proofs.lemmas.Bool.{ltb-true}
use Rattle.wl_desk.specs.View.{seat_of}

module _ {V : Type 0} (f : V → List ℕ) where
  index-found : (xs : List V) (k : ℕ) (x : V) → k < length xs → x ≡ get_or xs k x → get_or (map f xs) k [] ≡ f x
  index-found [] k x less e = absurd (omega (arith, less))
  index-found (y ∷ xs) zero x less e = ap f (sym e)
  index-found (y ∷ xs) (suc k) x less e = index-found xs k x (omega (arith, less)) e

  pub seat-found : (xs : List V) (c : ℕ) (x : V) → c ≢ 0 → true ≡ nat_lt (c - 1) (length xs) → x ≡ get_or xs (c - 1) x → f x ≡ seat_of (map f xs) c
  seat-found xs c x some within e =
      let next : c ≡ suc (c - 1) = omega (arith, some) in
      sym (ap (seat_of (map f xs)) next ∙ index-found xs (c - 1) x (ltb-true (c - 1) (length xs) (sym within)) e)

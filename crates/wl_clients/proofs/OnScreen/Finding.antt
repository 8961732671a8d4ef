-- The toplevel of a surface, where it is found by the surface's number.
use Rattle.std.proofs.Common.{◌≡◌, ℕ, Bool, true, false, cond, Option, Some, None, List, [], ◌∷◌, sym}
use Rattle.std.proofs.lemmas.Bool.{true≢false}
use Rattle.std.specs.Prelude.{find}
use Rattle.spec_desktop.specs.Objects.{ById}
use Rattle.spec_desktop.specs.Stacking.{Standing, is_of}
use Rattle.wl_clients.specs.Agreement.{IsStack}
use Rattle.wl_clients.proofs.OnScreen.Scenes.{AreOnce, number-is}

-- What is found of the toplevels that are kept stands where what is found of the desktop's does.
abbrev pub IsFoundAs : Option Standing → Option Standing → Type 0
IsFoundAs None None = Unit {0}
IsFoundAs (Some t) (Some s) = t.place ≡ s.place
IsFoundAs t s = ⊥

pub found-as : (numbers : ℕ → ById ℕ) (c root k : ℕ) → AreOnce (numbers c) → numbers c root ≡ Some k → (ks ss : List Standing) → IsStack numbers ks ss
    → IsFoundAs (find (is_of c k) ks) (find (is_of c root) ss)
found-as numbers c root k once named [] [] is = tt
found-as numbers c root k once named [] (s ∷ ss) is = absurd is
found-as numbers c root k once named (t ∷ ts) [] is = absurd is
found-as numbers c root k once named (t ∷ ts) (s ∷ ss) is =
    at (is_of c k t) (is_of c root s) (number-is numbers c root k t s once named is.0) (found-as numbers c root k once named ts ss is.1)
  where
    at : (a b : Bool) → a ≡ b → IsFoundAs (find (is_of c k) ts) (find (is_of c root) ss)
        → IsFoundAs (cond a (Some t) (find (is_of c k) ts)) (cond b (Some s) (find (is_of c root) ss))
    at true true e rest = is.0.place
    at false false e rest = rest
    at true false e rest = absurd (true≢false e)
    at false true e rest = absurd (true≢false (sym e))

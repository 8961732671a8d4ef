-- Worked recording: all numbers of clients are given, and one is given again.
use Rattle.std.proofs.Common.{◌≡◌, ℕ, zero, suc, ◌+◌, List, [], ◌∷◌, Option, Some, None, refl}
use Rattle.law_desktop.specs.Ample.{happened}
use Rattle.spec_desktop.specs.Desktop.{Desktop, empty}
use Rattle.spec_desktop.specs.Act.{Connect, Leave, Close, lowest}

abbrev connects : ℕ → Desktop → Desktop
connects zero d = d
connects (suc n) d = connects n (happened Connect d)

-- the number that a connect gives, where one is free: one more than how many places are taken before the first free one
abbrev number_at : Option ℕ → List ℕ
number_at None = []
number_at (Some k) = (k + 1) ∷ []

abbrev numbers : ℕ → Desktop → List (List ℕ)
numbers zero d = []
numbers (suc n) d = number_at (lowest d.clients) ∷ numbers n (happened Connect d)

abbrev up_to : ℕ → ℕ → List (List ℕ)
up_to zero k = []
up_to (suc n) k = (k ∷ []) ∷ up_to n (suc k)

abbrev nobody : Desktop
nobody = empty (record { width = 2; height = 1 })

-- 32 clients get the numbers 1 to 32
pub row_connects : numbers 32 nobody ≡ up_to 32 1
row_connects = refl

-- and the next gets none
pub row_full : number_at (lowest (connects 32 nobody).clients) ≡ []
row_full = refl

-- until one is gone, and has been closed: its number is the next one's
pub row_gone : number_at (lowest (happened (Leave 5) (connects 32 nobody)).clients) ≡ []
row_gone = refl

pub row_again : number_at (lowest (happened (Close 5) (happened (Leave 5) (connects 32 nobody))).clients) ≡ 5 ∷ []
row_again = refl

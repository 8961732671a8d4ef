-- To a surface of which no more counts than before, no damage is applied.
use Rattle.std.proofs.Common.{◌≡◌, ℕ, zero, suc, ◌&&◌, false, Some, None, List, [], ◌∷◌, take, drop, refl, ap, ◌∙◌}
use Rattle.std.proofs.lemmas.Option.{same_Some}
use Rattle.std.specs.Prelude.{nat_lt}
use Rattle.wl_surface.specs.Request.{Request}
use Rattle.wl_surface.specs.State.{Values, applied, between, height_of, is_damaged_by, width_of}
use Rattle.law_desktop.proofs.Truth.{and-false}
use Rattle.law_desktop.specs.TreeStepsLaws.{AppliesNothing}

drop-taken : (n : ℕ) (rs : List Request) → drop n (take n rs) ≡ []
drop-taken zero rs = at rs
  where
    at : (rs : List Request) → drop zero (take zero rs) ≡ []
    at [] = refl
    at (x ∷ xs) = refl
drop-taken (suc n) [] = refl
drop-taken (suc n) (x ∷ xs) = drop-taken n xs

none-damaged : (v : Values) (rs : List Request) (x y : ℕ) → rs ≡ [] → is_damaged_by v rs x y ≡ false
none-damaged v rs x y e =
    ap (λ (rs : List Request). is_damaged_by v rs x y) e
    ∙ and-false (nat_lt x (width_of v.buffer v.transform v.scale) && nat_lt y (height_of v.buffer v.transform v.scale))

pub applies-nothing : AppliesNothing
applies-nothing None new same x y = refl
applies-nothing (Some old) None same x y = refl
applies-nothing (Some old) (Some new) same x y =
    none-damaged (applied new) (between old.cut new.cut new.requests) x y
    (ap (λ n. between old.cut n new.requests) (same_Some new.cut old.cut same) ∙ drop-taken old.cut new.requests)

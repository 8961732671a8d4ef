-- Where nothing was asked, nothing is damaged.
use Rattle.std.proofs.Common.{◌≡◌, ℕ, zero, suc, false, List, [], ◌∷◌, refl, ap, ◌∙◌}
use Rattle.std.specs.Prelude.{◌&&◌, nat_lt}
use Rattle.wl_surface.specs.Request.{Request}
use Rattle.wl_surface.specs.State.{Values, between, height_of, is_damaged_by, width_of}
use Rattle.law_desktop.proofs.Truth.{and-false}

-- nothing was asked between a cut and itself
pub none-between : (cut : ℕ) (rs : List Request) → between cut cut rs ≡ []
none-between zero rs = refl
none-between (suc n) [] = refl
none-between (suc n) (r ∷ rs) = none-between n rs

-- so nothing is damaged by it
pub undamaged : (v : Values) (cut : ℕ) (rs : List Request) (x y : ℕ) → is_damaged_by v (between cut cut rs) x y ≡ false
undamaged v cut rs x y =
    ap (λ asked. is_damaged_by v asked x y) (none-between cut rs)
    ∙ and-false (nat_lt x (width_of v.buffer v.transform v.scale) && nat_lt y (height_of v.buffer v.transform v.scale))

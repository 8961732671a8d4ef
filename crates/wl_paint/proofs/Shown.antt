-- Pixels that have their colour where what is promised holds.
use Rattle.std.proofs.Common.{◌≡◌, ℕ, ℤ, ◌∙◌, ap}
use Rattle.wl_blend.specs.declared.color.Rgb.{Rgb}
use Rattle.wl_paint.specs.Painting.{Shows, opaque}
use Rattle.wl_paint.specs.Window.{Window, over}

-- a pixel that has its colour whatever is promised
pub Shows-always : (promised : Type 0) (color : Rgb) (pixel : Rgb × ℕ) → pixel ≡ opaque color → Shows promised color pixel
Shows-always promised color pixel e = record { colored = λ h. ap (λ (p : Rgb × ℕ). p.0) e; fourth = ap (λ (p : Rgb × ℕ). p.1) e }

-- a pixel that is the same as one
pub Shows-same : (promised : Type 0) (color : Rgb) (pixel other : Rgb × ℕ) → other ≡ pixel → Shows promised color pixel → Shows promised color other
Shows-same promised color pixel other e s =
    record { colored = λ h. ap (λ (p : Rgb × ℕ). p.0) e ∙ s.colored h; fourth = ap (λ (p : Rgb × ℕ). p.1) e ∙ s.fourth }

-- a promise of more, and a colour that is the same
pub Shows-more : (promised more : Type 0) (color other : Rgb) (pixel : Rgb × ℕ) → (more → promised) → color ≡ other → Shows promised color pixel → Shows more other pixel
Shows-more promised more color other pixel less e s = record { colored = λ h. s.colored (less h) ∙ e; fourth = s.fourth }

-- a window more over it
pub Shows-over : (promised : Type 0) (color : Rgb) (pixel next : Rgb × ℕ) (x y : ℤ) (w : Window) → next ≡ opaque (over x y pixel.0 w) → Shows promised color pixel
    → Shows promised (over x y color w) next
Shows-over promised color pixel next x y w e s = record {
  colored = λ h. ap (λ (p : Rgb × ℕ). p.0) e ∙ ap (λ (u : Rgb). over x y u w) (s.colored h);
  fourth = ap (λ (p : Rgb × ℕ). p.1) e;
}

-- Worked examples, computed on the definitions.
use Rattle.std.proofs.Common.{◌≡◌, ℕ, List, [], ◌∷◌, Some, None, true, false, refl}
use Rattle.std.specs.Prelude.{ℤ, pos, Bool}
use Rattle.wl_store.specs.declared.color.Format.TheVariants.{Xrgb8888}
use Rattle.wl_surface.specs.Request.{Buffer}
use Rattle.spec_desktop.specs.Windows.{Window}
use Rattle.spec_desktop.specs.Marks.{Applied, at_least, at_most}

abbrev buffer : ℕ → Buffer
buffer side = record { number = 1; object = 1; store = 1; offset = 0; width = side; height = side; stride = 160; format = Xrgb8888 }

-- a window of a client's surface 6, so large and there
abbrev window : ℕ → ℕ → ℤ → Window
window client side at =
    record {
      owner = record { client = client; root = 6; toplevel = 6 };
      surface = 6;
      corner = record { x = at; y = at };
      width = side;
      height = side;
      transform = 0;
      scale = 1;
      buffer = buffer side;
      opaque = [];
      input = None;
    }

abbrev nothing : Applied
nothing client surface x y = false

-- damage at one point of a client's surface
abbrev one_point : Applied
one_point client surface x y = true

abbrev least : Applied → List Window → List Window → ℤ → ℤ → Bool
least applied old new x y = at_least 64 64 applied old new x y

-- a window that moves marks its old and its new place
abbrev moved : ℤ → ℤ → Bool
moved x y = least nothing (window 1 40 (pos 0) ∷ []) (window 1 40 (pos 8) ∷ []) x y

pub row_moved-old : moved (pos 0) (pos 0) ≡ true
row_moved-old = refl

pub row_moved-new : moved (pos 47) (pos 47) ≡ true
row_moved-new = refl

pub row_moved-beside : moved (pos 48) (pos 0) ≡ false
row_moved-beside = refl

-- nothing is marked of a window that stays and has no damage, and its damage is marked where the window is
pub row_stays : least nothing (window 1 40 (pos 0) ∷ []) (window 1 40 (pos 0) ∷ []) (pos 5) (pos 5) ≡ false
row_stays = refl

pub row_damaged : least one_point (window 1 40 (pos 8) ∷ []) (window 1 40 (pos 8) ∷ []) (pos 8) (pos 8) ≡ true
row_damaged = refl

pub row_damaged-outside : least one_point (window 1 40 (pos 8) ∷ []) (window 1 40 (pos 8) ∷ []) (pos 7) (pos 8) ≡ false
row_damaged-outside = refl

-- nothing is marked outside the output
pub row_outside : least one_point (window 1 40 (pos 32) ∷ []) (window 1 40 (pos 32) ∷ []) (pos 64) (pos 64) ≡ false
row_outside = refl

-- a window that goes marks what it covered
pub row_gone : least nothing (window 1 40 (pos 0) ∷ window 2 8 (pos 32) ∷ []) (window 1 40 (pos 0) ∷ []) (pos 39) (pos 39) ≡ true
row_gone = refl

pub row_gone-beside : least nothing (window 1 40 (pos 0) ∷ window 2 8 (pos 32) ∷ []) (window 1 40 (pos 0) ∷ []) (pos 31) (pos 31) ≡ false
row_gone-beside = refl

-- a raise marks at least what the two windows share, and at most the raised one
abbrev raised : ℤ → ℤ → Bool
raised x y = least nothing (window 1 40 (pos 0) ∷ window 2 8 (pos 32) ∷ []) (window 2 8 (pos 32) ∷ window 1 40 (pos 0) ∷ []) x y

pub row_raised : raised (pos 33) (pos 33) ≡ true
row_raised = refl

pub row_raised-beside : raised (pos 5) (pos 5) ≡ false
row_raised-beside = refl

pub row_raised-most : at_most 64 64 nothing (Some (1, 6)) (window 1 40 (pos 0) ∷ window 2 8 (pos 32) ∷ []) (window 2 8 (pos 32) ∷ window 1 40 (pos 0) ∷ []) (pos 5) (pos 5) ≡ true
row_raised-most = refl

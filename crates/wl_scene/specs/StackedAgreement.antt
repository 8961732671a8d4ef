-- Which windows of the desktop those stand for that are kept of the output.
use Rattle.std.specs.Prelude.{ℕ, ◌≡◌, ◌==◌, ◌&&◌, Bool, List, [], ◌∷◌, Some}
use Rattle.std.specs.List.{All}
use Rattle.spec_desktop.specs.Objects.{ById}
use Rattle.spec_desktop.specs.Windows.{Window}
use Rattle.wl_scene.specs.TreeWindows.{told_of}
use Rattle.wl_scene.specs.declared.tree_window.TreeWindow.{TreeWindow}
use Rattle.wl_scene.specs.declared.stacked.Stacked.{Stacked}

-- ---- names

-- what is told of a window whose surface, and the root of its tree, go by these numbers
abbrev pub told_as : ℕ → ℕ → Window → TreeWindow
told_as surface root w = record (told_of w) { surface = surface; root = root }

-- the same by the numbers of the surfaces
abbrev pub told_by : (ℕ → ℕ) → Window → TreeWindow
told_by f w = told_as (f w.surface) (f w.owner.root) w

-- no number is that of two surfaces
abbrev pub AreNumberedOnce : ById ℕ → Type 0
AreNumberedOnce numbers = (a b number : ℕ) → numbers a ≡ Some number → numbers b ≡ Some number → a ≡ b

-- the surface of the window has this number, and so has the root of its tree
abbrev pub IsNumberedBy : ById ℕ → (ℕ → ℕ) → Window → Type 0
IsNumberedBy numbers f w = (numbers w.surface ≡ Some (f w.surface)) × (numbers w.owner.root ≡ Some (f w.owner.root))

-- so it is with each window
abbrev pub AreNumberedBy : ById ℕ → (ℕ → ℕ) → List Window → Type 0
AreNumberedBy numbers f ws = All (IsNumberedBy numbers f) ws

-- ---- windows

-- the window is stacked with the toplevel of this surface of this client
abbrev pub has_toplevel : ℕ → ℕ → Window → Bool
has_toplevel client toplevel w = (client == w.owner.client) && (toplevel == w.owner.toplevel)

-- A window that is kept stands for one of the desktop: both are of one client, the toplevel that it is stacked with, the root of its tree and
-- its surface go by their numbers, and it tells where the window stands, how large it is, and how its buffer is turned and scaled (wayland.xml,
-- wl_surface.set_buffer_transform, set_buffer_scale).
pub record IsStacked (numbers : ℕ → ById ℕ) (s : Stacked) (w : Window) : Type 0 where
  pub client : s.client ≡ w.owner.client
  pub toplevel : numbers s.client w.owner.toplevel ≡ Some s.toplevel
  pub root : numbers s.client w.owner.root ≡ Some s.window.root
  pub surface : numbers s.client w.surface ≡ Some s.window.surface
  pub told : s.window ≡ told_as s.window.surface s.window.root w

-- so do all of them, one by one from the bottom
abbrev pub AreStacked : (ℕ → ById ℕ) → List Stacked → List Window → Type 0
AreStacked numbers [] [] = Unit {0}
AreStacked numbers (s ∷ ss) (w ∷ ws) = IsStacked numbers s w × AreStacked numbers ss ws
AreStacked numbers [] (w ∷ ws) = ⊥
AreStacked numbers (s ∷ ss) [] = ⊥

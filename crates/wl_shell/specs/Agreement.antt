-- What is kept of all xdg_surfaces of a client stands for them.
use Rattle.std.specs.Prelude.{◌≡◌, ℕ, ◌==◌, if◌then◌else◌, [], ◌∷◌, Option, Some, None}
use Rattle.wl_surface.specs.State.{History}
use Rattle.wl_shell.specs.Kept.{Kept, Stands}
use Rattle.wl_shell.specs.Shell.{Shell, XdgSurface, xdg_at, xdg_of}

-- an id names one xdg_surface at most, and a surface has one at most
abbrev pub AreApart : Shell → Type 0
AreApart [] = Unit {0}
AreApart (x ∷ xs) = (xdg_at x.id xs ≡ None) × (xdg_of x.surface xs ≡ None) × AreApart xs

-- an xdg_surface is kept where there is one, and its surface is there too
abbrev pub IsKept : Option Kept → Option XdgSurface → Option History → Type 0
IsKept None None h = Unit {0}
IsKept None (Some x) h = ⊥
IsKept (Some k) None h = ⊥
IsKept (Some k) (Some x) None = ⊥
IsKept (Some k) (Some x) (Some h) = Stands k x h

-- by the numbers of the surfaces: what is kept, and the surfaces' histories
pub record IsShell (kept : ℕ → Option Kept) (histories : ℕ → Option History) (shell : Shell) : Type 0 where
  pub each : (surface : ℕ) → IsKept (kept surface) (xdg_of surface shell) (histories surface)
  pub apart : AreApart shell

abbrev pub with_history : ℕ → Option History → (ℕ → Option History) → ℕ → Option History
with_history surface h histories = λ other. if other == surface then h else histories other

-- What a client owns, its surfaces named by their numbers in place of their ids.
use Rattle.std.specs.Prelude.{ℕ, Option}
use Rattle.wl_links.specs.Family.{Tied}
use Rattle.wl_surface.specs.Linked.{Stand}
use Rattle.law_desktop.specs.NamedPopups.{RenamesOwned, renamed_owned}
use Rattle.wl_shell.specs.Agreement.{IsShell}
use Rattle.spec_desktop.specs.Stacking.{Owned}
use Rattle.wl_surface.specs.Slots.{Slots}
use Rattle.wl_surface.specs.Surfaces.{history_in}
use Rattle.wl_shell.specs.Kept.{Kept}
use Rattle.law_desktop.specs.Owning.{IsOwned, Names, number_in}

abbrev pub by_numbers : Names → Owned → Owned
by_numbers names o = renamed_owned (number_in names.surfaces) o

-- Its numbers rename it, and what is kept stands for it by them.
pub record IsKeptByNumbers (names : Names) (slots : Slots) (tied : Tied) (kept : ℕ → Option Kept) (o : Owned) : Type 0 where
  pub renames : RenamesOwned (number_in names.surfaces) o
  pub surfaces : Stand slots tied (by_numbers names o).surfaces
  pub shell : IsShell kept (λ number. history_in number (by_numbers names o).surfaces) (by_numbers names o).shell

-- What is kept for what a client owns by ids is kept for it by numbers.
abbrev pub KeptByNumbers : Type 0
KeptByNumbers =
    (names : Names) (slots : Slots) (tied : Tied) (kept : ℕ → Option Kept) (o : Owned) → IsOwned names slots tied kept o
    → IsKeptByNumbers names slots tied kept o

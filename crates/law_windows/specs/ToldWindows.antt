-- What is told of the windows of a tree of surfaces (wayland.xml, wl_surface.damage and wl_subsurface).
use Rattle.std.specs.Prelude.{ℕ, pos, ◌≡◌, List}
use Rattle.std.specs.List.{All}
use Rattle.spec_desktop.specs.Desktop.{Desktop, owned_in}
use Rattle.spec_desktop.specs.Marks.{Applied}
use Rattle.spec_desktop.specs.Moments.{applied_between, is_applied_by}
use Rattle.law_windows.specs.RepaintLaws.{IsAppliedBy}
use Rattle.spec_desktop.specs.Windows.{Owner, Place, tree}
use Rattle.wl_surface.specs.declared.applied.Change.{Change}
use Rattle.wl_surface.specs.Surfaces.{Surfaces, history_in}
use Rattle.law_windows.specs.ToldLaws.{TellsApplied}

-- Of this client's surfaces it says, by points of the surface, which damage was applied as the old surfaces became the new ones.
abbrev pub IsAppliedTo : Applied → ℕ → Surfaces → Surfaces → Type 0
IsAppliedTo applied client old new =
    (surface x y : ℕ)
    → applied client surface (pos x) (pos y) ≡ is_applied_by (history_in surface old) (history_in surface new) x y

-- What was applied between two desktops says so of the surfaces that a client has in them.
abbrev pub BetweenIsApplied : Type 0
BetweenIsApplied =
    (old new : Desktop) (client : ℕ)
    → IsAppliedTo (applied_between old new) client (owned_in old client).surfaces (owned_in new client).surfaces

-- Where the changes tell the damage that was applied to surfaces, they tell that of each window of a tree of these, down to any number of
-- levels, by the size that the new surfaces give it.
abbrev pub TellsWindows : Type 0 → Type 0
TellsWindows A =
    (old new : Surfaces) (owner : Owner) (changes : List (Change A)) (applied : Applied) → TellsApplied changes old new
    → IsAppliedTo applied owner.client old new → (count root : ℕ) (place : Place)
    → All (IsAppliedBy changes applied) (tree count owner new root place)

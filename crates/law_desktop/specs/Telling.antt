-- What is told of the trees that are applied, of surfaces by their ids (wayland.xml, wl_surface and wl_subsurface).
use Rattle.std.specs.Prelude.{ℕ, ◌≡◌, ◌&&◌, ◌||◌, not, Bool, true, false, Option, Some, List, [], ◌∷◌, ◌++◌}
use Rattle.wl_surface.specs.Request.{Commit}
use Rattle.wl_surface.specs.Surface.{asking}
use Rattle.wl_surface.specs.declared.applied.Change.{Change}
use Rattle.wl_surface.specs.Applied.{AreApplied, AreGone}
use Rattle.wl_surface.specs.Surfaces.{Link, Surfaces, link_at, surface_at, with_change, without_surface}
use Rattle.wl_surface.specs.Trees.{behaves_synchronised, descends_from, ending, in_mode, levels, with_link}
use Rattle.wl_surface.specs.Tree.{AreOnce, IsCommitTold, IsDesyncTold, IsEndTold, IsTold, is_among, listed}
use Rattle.law_desktop.specs.Renaming.{IsRenaming, has_surface, renamed}

-- of each of these in turn it is told, under its number, what it changes that it is applied
abbrev pub AreToldBy : {A : Type 0} → (ℕ → ℕ) → List ℕ → Surfaces → List (Change A) → Type 0
AreToldBy names [] all changes = changes ≡ []
AreToldBy {A} names (id ∷ ids) all changes =
    (one : Option (Change A)) × (others : List (Change A)) × AreApplied (names id) (surface_at id all) one
    × AreToldBy names ids all others × (changes ≡ listed one ++ others)

-- The surface and those that descend from it are applied, each once, and of each it is told what that changes.
pub record IsToldBy {A : Type 0} (names : ℕ → ℕ) (surface : ℕ) (all : Surfaces) (changes : List (Change A)) : Type 0 where
  pub ids : List ℕ
  pub once : AreOnce ids
  pub those : (id : ℕ) → is_among ids id ≡ (has_surface id all && descends_from 16 all surface id)
  pub told : AreToldBy names ids all changes

-- nothing is told of a commit that is held
abbrev pub IsToldUnlessBy : {A : Type 0} → Bool → (ℕ → ℕ) → ℕ → Surfaces → List (Change A) → Type 0
IsToldUnlessBy true names surface all changes = changes ≡ []
IsToldUnlessBy false names surface all changes = IsToldBy names surface all changes

-- wl_surface.destroy: it is told of the surface, where it showed a buffer, and of those that descended from it, which are applied.
pub record IsEndToldBy {A : Type 0} (names : ℕ → ℕ) (surface : ℕ) (all : Surfaces) (changes : List (Change A)) : Type 0 where
  pub own : List (Change A)
  pub others : List (Change A)
  pub gone : AreGone (names surface) (surface_at surface all) own
  pub ids : List ℕ
  pub once : AreOnce ids
  pub those : (id : ℕ) → is_among ids id ≡ (has_surface id all && descends_from 16 all surface id)
  pub told : AreToldBy names ids (without_surface surface all) others
  pub together : changes ≡ own ++ others

-- ---- what is told by numbers is told by ids

-- of a commit
abbrev pub TellsCommit : {A : Type 0} → List (Change A) → Type 0
TellsCommit changes =
    (names : ℕ → ℕ) (all : Surfaces) (id : ℕ) → IsRenaming names all → has_surface id all ≡ true
    → IsCommitTold (names id) (renamed names all) changes
    → IsToldUnlessBy (behaves_synchronised levels all id) names id (with_change id (asking Commit) all) changes

-- of set_desync of a link that lives
abbrev pub TellsDesync : {A : Type 0} → List (Change A) → Type 0
TellsDesync changes =
    (names : ℕ → ℕ) (all : Surfaces) (number : ℕ) (link : Link) → IsRenaming names all → link_at number all ≡ Some link
    → link.has_ended ≡ false → IsDesyncTold number (names link.child) (renamed names all) changes
    → IsToldUnlessBy
    (not (behaves_synchronised levels all link.child) || behaves_synchronised levels (with_link number (in_mode false) all) link.child)
    names link.child (with_link number (in_mode false) all) changes

-- of the end of a link that lives
abbrev pub TellsUnlink : {A : Type 0} → List (Change A) → Type 0
TellsUnlink changes =
    (names : ℕ → ℕ) (all : Surfaces) (number : ℕ) (link : Link) → IsRenaming names all → link_at number all ≡ Some link
    → link.has_ended ≡ false → IsTold (names link.child) (with_link number ending (renamed names all)) changes
    → IsToldBy names link.child (with_link number ending all) changes

-- of the end of a surface
abbrev pub TellsEnd : {A : Type 0} → List (Change A) → Type 0
TellsEnd changes =
    (names : ℕ → ℕ) (all : Surfaces) (id : ℕ) → IsRenaming names all → has_surface id all ≡ true
    → IsEndTold (names id) (renamed names all) changes → IsEndToldBy names id all changes

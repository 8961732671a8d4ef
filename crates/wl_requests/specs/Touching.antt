-- What a request made of the surfaces of a client that may change what several of them show, and what is told of that (wayland.xml,
-- wl_surface.commit and destroy; wl_subsurface.set_desync and destroy; xdg-shell.xml, xdg_popup.destroy).
use Rattle.std.specs.Prelude.{ℕ, ◌≡◌, Option, Some, None, List, []}
use Rattle.wl_surface.specs.Linked.{IsLink, Stand, SurfacesView}
use Rattle.wl_surface.specs.Tree.{IsCommitTold, IsDesyncTold, IsEndTold, IsTold}
use Rattle.law_desktop.specs.Named.{Makes, MakesBy}
use Rattle.wl_surface.specs.declared.applied.Applied.{Applied}
use Rattle.wl_surface.specs.declared.applied.Change.{Change}
use Rattle.wl_surface.specs.Surfaces.{Link, Surfaces}
use Rattle.wl_surface.specs.Trees.{committed_in, destroyed_in, desynchronised_in, ended_in, ending, with_link}

-- such a request, with the number of its surface: that of a wl_subsurface is its child, and that of an xdg_popup the popup's
pub data Touch : Type 0 where
  -- wl_surface.commit
  Commits : ℕ → Touch
  -- wl_surface.destroy
  Destroys : ℕ → Touch
  -- wl_subsurface.destroy
  Parts : ℕ → Touch
  -- wl_subsurface.set_desync
  Releases : ℕ → Touch
  -- xdg_popup.destroy
  Closes : ℕ → Touch

-- the surface
abbrev pub surface_of : Touch → ℕ
surface_of (Commits number) = number
surface_of (Destroys number) = number
surface_of (Parts child) = child
surface_of (Releases child) = child
surface_of (Closes number) = number

-- what it makes of what is kept
abbrev pub IsMade : Touch → SurfacesView → SurfacesView → Type 0
IsMade (Commits number) old new = Makes old.states old.family new.states new.family (committed_in number)
IsMade (Destroys number) old new = Makes old.states old.family new.states new.family (destroyed_in number)
IsMade (Parts child) old new =
    MakesBy child old.states old.family new.states new.family (λ number link those. ended_in those link)
IsMade (Releases child) old new =
    MakesBy child old.states old.family new.states new.family (λ number link. desynchronised_in number)
IsMade (Closes number) old new = new ≡ old

-- and what it tells of that
abbrev pub IsTouchTold : {A : Type 0} → Touch → SurfacesView → List (Change A) → Type 0
IsTouchTold (Commits number) old changes =
    (all : Surfaces) → Stand old.states old.family all → IsCommitTold number all changes
IsTouchTold (Destroys number) old changes = (all : Surfaces) → Stand old.states old.family all → IsEndTold number all changes
IsTouchTold (Parts child) old changes =
    (all : Surfaces) (number : ℕ) (link : Link) → IsLink all number child link → Stand old.states old.family all
    → IsTold child (with_link number ending all) changes
IsTouchTold (Releases child) old changes =
    (all : Surfaces) (number : ℕ) (link : Link) → IsLink all number child link → Stand old.states old.family all
    → IsDesyncTold number child all changes
IsTouchTold (Closes number) old changes = changes ≡ []

-- Where it was done, this is told of it.
abbrev pub IsTouched : {A : Type 0} → Touch → SurfacesView → SurfacesView → Option (Applied A) → Type 0
IsTouched touch old new None = Unit {0}
IsTouched touch old new (Some applied) = IsMade touch old new × IsTouchTold touch old applied.changes.items

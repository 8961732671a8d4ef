-- What a client owns under other names of its surfaces: its popups stand in the same places (xdg-shell.xml, xdg_popup).
use Rattle.std.specs.Prelude.{ℕ, ◌≡◌, true, Option, List, [], ◌∷◌, All, map}
use Rattle.std.specs.Option.{option_map}
use Rattle.law_desktop.specs.Renaming.{IsRenaming, has_surface, renamed}
use Rattle.wl_shell.specs.InOrder.{AreRising}
use Rattle.spec_desktop.specs.Popups.{parent_corner, stacked_popups, standing_place}
use Rattle.spec_desktop.specs.Stacking.{Owned, Standing, root_of}
use Rattle.spec_desktop.specs.Windows.{Root, StackedPopup, roots_of}
use Rattle.wl_shell.specs.Popups.{Popped, popups_of}
use Rattle.wl_shell.specs.Shell.{Shell, XdgSurface}

-- ---- names

-- An xdg_surface, its surface under the name that f gives it. It keeps its own id, by which popups know their parents.
abbrev pub renamed_xdg : (ℕ → ℕ) → XdgSurface → XdgSurface
renamed_xdg f x = record x { surface = f x.surface }

abbrev pub renamed_shell : (ℕ → ℕ) → Shell → Shell
renamed_shell f shell = map (renamed_xdg f) shell

abbrev pub renamed_owned : (ℕ → ℕ) → Owned → Owned
renamed_owned f o = record { surfaces = renamed f o.surfaces; shell = renamed_shell f o.shell }

-- f renames the surfaces of what a client owns, and each xdg_surface has one of them
pub record RenamesOwned (f : ℕ → ℕ) (o : Owned) : Type 0 where
  pub surfaces : IsRenaming f o.surfaces
  pub shell : All (λ x. has_surface x.surface o.surfaces ≡ true) o.shell

abbrev pub renamed_popped : (ℕ → ℕ) → Popped → Popped
renamed_popped f p = record p { xdg = renamed_xdg f p.xdg }

abbrev pub renamed_popup : (ℕ → ℕ) → StackedPopup → StackedPopup
renamed_popup f p = record p { surface = f p.surface; parent = option_map f p.parent }

abbrev pub renamed_standing : (ℕ → ℕ) → Standing → Standing
renamed_standing f s = record s { surface = f s.surface }

abbrev pub renamed_root : (ℕ → ℕ) → Root → Root
renamed_root f r = record r { surface = f r.surface; toplevel = f r.toplevel }

-- ---- laws

-- the popups in order of creation
abbrev pub PopupsNamed : Type 0
PopupsNamed = (f : ℕ → ℕ) (shell : Shell) → popups_of (renamed_shell f shell) ≡ map (renamed_popped f) (popups_of shell)

-- their numbers rise still
abbrev pub RisingNamed : Type 0
RisingNamed = (f : ℕ → ℕ) (shell : Shell) → AreRising (popups_of shell) → AreRising (popups_of (renamed_shell f shell))

-- how they are stacked
abbrev pub StackedNamed : Type 0
StackedNamed =
    (f : ℕ → ℕ) (o : Owned) → RenamesOwned f o → stacked_popups (renamed_owned f o) ≡ map (renamed_popup f) (stacked_popups o)

-- Under its other name each surface of this client has the place that it has as a toplevel.
abbrev pub PlacesAlike : (ℕ → ℕ) → ℕ → Owned → List Standing → List Standing → Type 0
PlacesAlike f c o standing others =
    (surface : ℕ) → has_surface surface o.surfaces ≡ true → standing_place others c (f surface) ≡ standing_place standing c surface

-- A toplevel that stands is the other one: of the same client, in the same place, and if it is one of this client's, the other's surface has the
-- name of its own, which is there.
pub record IsStandingAs (f : ℕ → ℕ) (c : ℕ) (o : Owned) (s other : Standing) : Type 0 where
  pub client : other.client ≡ s.client
  pub place : other.place ≡ s.place
  pub surface : s.client ≡ c → (other.surface ≡ f s.surface) × (has_surface s.surface o.surfaces ≡ true)

-- so are all of them, from the bottom
abbrev pub AreStandingAs : (ℕ → ℕ) → ℕ → Owned → List Standing → List Standing → Type 0
AreStandingAs f c o [] [] = Unit {0}
AreStandingAs f c o (s ∷ ss) (k ∷ ks) = IsStandingAs f c o s k × AreStandingAs f c o ss ks
AreStandingAs f c o [] (k ∷ ks) = ⊥
AreStandingAs f c o (s ∷ ss) [] = ⊥

-- where its toplevels stand
abbrev pub StandingNamed : Type 0
StandingNamed =
    (f : ℕ → ℕ) (c : ℕ) (o : Owned) (standing others : List Standing) → RenamesOwned f o → AreStandingAs f c o standing others
    → PlacesAlike f c o standing others

-- where the window geometry of a popup's parent stands
abbrev pub CornersNamed : Type 0
CornersNamed =
    (f : ℕ → ℕ) (c : ℕ) (o : Owned) (standing others : List Standing) → RenamesOwned f o → PlacesAlike f c o standing others
    → (parent : Option ℕ) → parent_corner others c (renamed_owned f o) parent ≡ parent_corner standing c o parent

-- the roots of a toplevel that stands, whose surface is there, and of its popups
abbrev pub RootsNamed : Type 0
RootsNamed =
    (f : ℕ → ℕ) (o : Owned) (s : Standing) → RenamesOwned f o → has_surface s.surface o.surfaces ≡ true
    → roots_of (renamed f o.surfaces) (root_of (λ _. renamed_owned f o) (renamed_standing f s)) (stacked_popups (renamed_owned f o))
    ≡ map (renamed_root f) (roots_of o.surfaces (root_of (λ _. o) s) (stacked_popups o))

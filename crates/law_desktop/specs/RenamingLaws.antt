-- Surfaces keep what is read of them, and how they hang together, under other names (wayland.xml, wl_subcompositor and wl_subsurface).
use Rattle.std.specs.Prelude.{ℕ, ◌≡◌, true, not, List, map, filter}
use Rattle.std.specs.Option.{option_map}
use Rattle.wl_surface.specs.Surfaces.{Link, Surfaces, history_in, link_at, surface_at}
use Rattle.wl_surface.specs.Trees.{behaves_synchronised, children_of, depth, descends_from, height, is_bad_parent, is_too_deep, link_of}
use Rattle.law_desktop.specs.Renaming.{IsRenaming, has_surface, renamed, renamed_link, renamed_surface}

-- ---- what is read

-- Of a surface are read the same history, the same link and the same children, under their other names.
pub record IsReadAs (f : ℕ → ℕ) (all : Surfaces) (id : ℕ) : Type 0 where
  pub surface : surface_at (f id) (renamed f all) ≡ option_map (renamed_surface f) (surface_at id all)
  pub history : history_in (f id) (renamed f all) ≡ history_in id all
  pub link : link_of (f id) (renamed f all) ≡ option_map (renamed_link f) (link_of id all)
  pub children : children_of (f id) (renamed f all) ≡ map f (children_of id all)

-- Each surface that is there is read the same.
abbrev pub ReadsSurfaces : Type 0
ReadsSurfaces = (f : ℕ → ℕ) (all : Surfaces) → IsRenaming f all → (id : ℕ) → has_surface id all ≡ true → IsReadAs f all id

-- A link is found by its number, whether it has ended or not.
abbrev pub FindsLinks : Type 0
FindsLinks = (f : ℕ → ℕ) (all : Surfaces) (number : ℕ) → link_at number (renamed f all) ≡ option_map (renamed_link f) (link_at number all)

-- ---- the shapes of trees

-- A surface stands as deep, as high, and is as synchronised as under its other name.
pub record StandsAs (f : ℕ → ℕ) (all : Surfaces) (n id : ℕ) : Type 0 where
  pub depth : depth n (renamed f all) (f id) ≡ depth n all id
  pub height : height n (renamed f all) (f id) ≡ height n all id
  pub mode : behaves_synchronised n (renamed f all) (f id) ≡ behaves_synchronised n all id

-- Each surface that is there stands the same.
abbrev pub KeepsPlaces : Type 0
KeepsPlaces = (f : ℕ → ℕ) (all : Surfaces) → IsRenaming f all → (n id : ℕ) → has_surface id all ≡ true → StandsAs f all n id

-- The same surfaces descend from a surface.
abbrev pub KeepsDescent : Type 0
KeepsDescent =
    (f : ℕ → ℕ) (all : Surfaces) → IsRenaming f all → (n top id : ℕ) → has_surface top all ≡ true → has_surface id all ≡ true
    → descends_from n (renamed f all) (f top) (f id) ≡ descends_from n all top id

-- The same are refused as a child and a parent.
abbrev pub KeepsRefusals : Type 0
KeepsRefusals =
    (f : ℕ → ℕ) (all : Surfaces) → IsRenaming f all → (child parent : ℕ) → has_surface child all ≡ true → has_surface parent all ≡ true
    → (is_too_deep (renamed f all) (f child) (f parent) ≡ is_too_deep all child parent)
    × (is_bad_parent (renamed f all) (f child) (f parent) ≡ is_bad_parent all child parent)

-- ---- other names

-- the links that haven't ended
abbrev pub living : Surfaces → List Link
living all = filter (λ l. not l.has_ended) all.links

-- By g the surfaces that are there, and the links that live, have the names that f gives them.
pub record IsNamedAs (f g : ℕ → ℕ) (all : Surfaces) : Type 0 where
  pub renaming : IsRenaming g all
  pub surfaces : (renamed g all).surfaces ≡ (renamed f all).surfaces
  pub links : living (renamed g all) ≡ living (renamed f all)

-- What other ids are called makes no difference, so that an id which is used again may get another name.
abbrev pub NamesThoseThere : Type 0
NamesThoseThere =
    (f g : ℕ → ℕ) (all : Surfaces) → IsRenaming f all → ((id : ℕ) → has_surface id all ≡ true → g id ≡ f id) → IsNamedAs f g all

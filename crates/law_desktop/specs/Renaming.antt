-- The surfaces of a client under other names: each id is another one, and nothing else changes.
use Rattle.std.specs.Prelude.{ℕ, ◌≡◌, Bool, true, false, is_some, All, map}
use Rattle.wl_surface.specs.Surface.{Surface}
use Rattle.wl_surface.specs.Surfaces.{Link, Surfaces, surface_at}

-- a surface under the name that f gives it
abbrev pub renamed_surface : (ℕ → ℕ) → Surface → Surface
renamed_surface f s = record s { id = f s.id }

-- a link between the surfaces of those names
abbrev pub renamed_link : (ℕ → ℕ) → Link → Link
renamed_link f l = record l { child = f l.child; parent = f l.parent }

-- all surfaces and links of a client, renamed
abbrev pub renamed : (ℕ → ℕ) → Surfaces → Surfaces
renamed f all = record { surfaces = map (renamed_surface f) all.surfaces; links = map (renamed_link f) all.links }

-- a surface of this id is there
abbrev pub has_surface : ℕ → Surfaces → Bool
has_surface id all = is_some (surface_at id all)

-- no two surfaces that are there get the same name
abbrev pub AreToldApart : (ℕ → ℕ) → Surfaces → Type 0
AreToldApart f all = (a b : ℕ) → has_surface a all ≡ true → has_surface b all ≡ true → f a ≡ f b → a ≡ b

-- The child and the parent of a link that hasn't ended are there. One that has ended may name an id that is gone, or used again.
abbrev pub HasEnds : Surfaces → Link → Type 0
HasEnds all l = l.has_ended ≡ false → (has_surface l.child all ≡ true) × (has_surface l.parent all ≡ true)

-- when f renames the surfaces of a client: it tells them apart, and the links that haven't ended are between them
pub record IsRenaming (f : ℕ → ℕ) (all : Surfaces) : Type 0 where
  pub apart : AreToldApart f all
  pub ends : All (HasEnds all) all.links

-- What was made of the surfaces, under the other names, is what was made of the renamed ones, and f renames it still.
pub record IsRenamedAs (f : ℕ → ℕ) (here there : Surfaces) : Type 0 where
  pub same : renamed f here ≡ there
  pub still : IsRenaming f here

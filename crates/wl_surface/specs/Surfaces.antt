-- All surfaces of a client: what was asked of each, and the links between them.
use Rattle.std.specs.Prelude.{ℕ, ◌==◌, Bool, not, cond, Option, List, [], ◌∷◌, ◌++◌, find, map, filter}
use Rattle.std.specs.List.{list_any}
use Rattle.std.specs.Option.{option_map}
use Rattle.wl_surface.specs.Surface.{Surface, has, new_surface, shows}
use Rattle.wl_surface.specs.State.{History}

-- A wl_subsurface that lives or lived, by its number among the client's: its surface, its parent,
-- whether it is synchronised, and whether it has ended (wayland.xml,
-- wl_subcompositor.get_subsurface and wl_subsurface).
pub record Link : Type 0 where
  pub number : ℕ
  pub child : ℕ
  pub parent : ℕ
  pub synchronised : Bool
  pub has_ended : Bool

-- the surfaces and the links of a client, each in order of creation
pub record Surfaces : Type 0 where
  pub surfaces : List Surface
  pub links : List Link

abbrev pub no_surfaces : Surfaces
no_surfaces = record { surfaces = []; links = [] }

abbrev pub surface_at : ℕ → Surfaces → Option Surface
surface_at id all = find (λ s. s.id == id) all.surfaces

abbrev pub history_in : ℕ → Surfaces → Option History
history_in id all = option_map (λ s. s.history) (surface_at id all)

abbrev pub link_at : ℕ → Surfaces → Option Link
link_at number all = find (λ l. l.number == number) all.links

abbrev pub with_new : ℕ → Surfaces → Surfaces
with_new id all = record all { surfaces = all.surfaces ++ new_surface id ∷ [] }

abbrev pub without_surface : ℕ → Surfaces → Surfaces
without_surface id all = record all { surfaces = filter (λ s. not (s.id == id)) all.surfaces }

-- the surfaces, with the one of this id changed
abbrev pub with_change : ℕ → (Surface → Surface) → Surfaces → Surfaces
with_change id change all = record all { surfaces = map (λ s. cond (s.id == id) (change s) s) all.surfaces }

abbrev pub is_busy : ℕ → Surfaces → Bool
is_busy number all = list_any (λ s. shows number s.history) all.surfaces

abbrev pub is_used : ℕ → Surfaces → Bool
is_used number all = list_any (λ s. has number s.history) all.surfaces

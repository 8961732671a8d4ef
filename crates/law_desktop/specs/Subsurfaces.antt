-- What is kept of a client's wl_subsurfaces stands for them (wayland.xml, wl_subcompositor and wl_subsurface).
use Rattle.std.specs.Prelude.{ℕ, ◌≡◌, ◌==◌, List, Option, Some, None, find, slice_index_or}
use Rattle.std.specs.Option.{option_and_then}
use Rattle.spec_desktop.specs.Objects.{ById}
use Rattle.spec_desktop.specs.Desktop.{Subsurface}

-- the surface of the wl_subsurface with this id, while both are there
abbrev pub child_of : ℕ → List Subsurface → Option ℕ
child_of id subsurfaces = option_and_then (λ s. s.surface) (find (λ s. s.id == id) subsurfaces)

-- Under the number of each surface is kept the id of its wl_subsurface, and no other.
pub record AreOfSurfaces (ids : List (Option ℕ)) (numbers : ById ℕ) (subsurfaces : List Subsurface) : Type 0 where
  pub named :
      (id child : ℕ) → child_of id subsurfaces ≡ Some child
      → (number : ℕ) × (numbers child ≡ Some number) × (slice_index_or ids number None ≡ Some id)
  pub known :
      (number id : ℕ) → slice_index_or ids number None ≡ Some id
      → (child : ℕ) × (numbers child ≡ Some number) × (child_of id subsurfaces ≡ Some child)

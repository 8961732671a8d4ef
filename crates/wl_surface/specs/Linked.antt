-- What is kept of a client's surfaces and of the links between them, and when it stands for what
-- was asked (wayland.xml, wl_subcompositor and wl_subsurface). Surfaces go by their numbers.
use Rattle.std.specs.Prelude.{ℕ, ◌≡◌, ◌||◌, Bool, true, false, if◌then◌else◌, is_some, IfErr, Option, Some, None, Result, Err}
use Rattle.wl_links.specs.declared.error.PlaceError.{PlaceError}
use Rattle.wl_links.specs.declared.error.PlaceError.TheVariants as place
use Rattle.wl_links.specs.Family.{Tied, is_there}
use Rattle.wl_surface.specs.declared.role.Role.{Role}
use Rattle.wl_surface.specs.declared.role.Role.TheVariants as role
use Rattle.wl_surface.specs.declared.error.SurfaceError.{SurfaceError}
use Rattle.wl_surface.specs.declared.error.SurfaceError.TheVariants as error
use Rattle.wl_surface.specs.Slots.{Numbered, Slots, StandForAll, role_at}
use Rattle.wl_surface.specs.Surfaces.{Link, Surfaces, link_at, surface_at}
use Rattle.wl_surface.specs.Trees.{is_bad_parent, is_too_deep, link_of}
use Rattle.wl_surface.specs.Hanging.{Hang}

-- what is kept: of each surface by itself, and of how surfaces hang together
pub record SurfacesView : Type 0 where
  pub states : Slots
  pub family : Tied

-- each surface under its number
abbrev pub numbered : Surfaces → Numbered
numbered all number = surface_at number all

-- What is kept stands for each surface and for how they hang together. Nothing is kept of others.
pub record Stand (slots : Slots) (tied : Tied) (all : Surfaces) : Type 0 where
  pub surfaces : StandForAll slots (numbered all)
  pub hang : Hang tied all
  pub there : (number : ℕ) → is_there number tied ≡ true → is_some (surface_at number all) ≡ true

-- the link of this number lives, and is that of this child
pub record IsLink (all : Surfaces) (number child : ℕ) (link : Link) : Type 0 where
  pub here : link_at number all ≡ Some link
  pub lives : link.has_ended ≡ false
  pub of_child : link.child ≡ child

-- a role other than that of a subsurface
abbrev pub is_other_role : Option Role → Bool
is_other_role None = false
is_other_role (Some role.Toplevel) = true
is_other_role (Some role.Popup) = true
is_other_role (Some role.Subsurface) = false
is_other_role (Some role.Cursor) = true

-- a surface has another role, or a living wl_subsurface
abbrev pub is_taken : Surfaces → ℕ → Bool
is_taken all child = is_other_role (role_at (surface_at child all)) || is_some (link_of child all)

-- why wl_subcompositor.get_subsurface is refused, if it is
abbrev pub link_refusal : Surfaces → ℕ → ℕ → Option SurfaceError
link_refusal all child parent =
    if is_too_deep all child parent then Some error.TooDeep
    else (if is_taken all child then Some error.Role else (if is_bad_parent all child parent then Some error.BadParent else None))

-- it is refused for this reason, or else without memory alone
abbrev pub IsRefused : {T : Type 0} → Option SurfaceError → Result T SurfaceError → Type 0
IsRefused None result = IfErr result (λ e. e ≡ error.Memory)
IsRefused (Some e) result = result ≡ Err e

-- why a child isn't placed, as an error of surfaces
abbrev pub surface_error : PlaceError → SurfaceError
surface_error place.BadSurface = error.NotSibling
surface_error place.Memory = error.Memory

-- What is asked of links, by what is kept (wayland.xml, wl_subcompositor and wl_subsurface).
use Rattle.std.specs.Prelude.{ℕ, ◌≡◌, ◌==◌, List, [], ◌∷◌, ◌++◌, Option, Some, None, Result, Ok, Err, find, is_some, slice_index_or, true}
use Rattle.wl_links.specs.declared.placed.Side.{Side}
use Rattle.wl_links.specs.declared.placed.Side.TheVariants.{Above, Below}
use Rattle.wl_links.specs.Family.{links_in}
use Rattle.law_desktop.specs.Ordered.{OwnsOrdered}
use Rattle.law_desktop.specs.Owning.{IsOwned, Names}
use Rattle.law_desktop.specs.Subsurfaces.{AreOfSurfaces}
use Rattle.spec_desktop.specs.declared.refusals.ErrorCode.TheVariants.{BadParent, BadSurface, Implementation}
use Rattle.spec_desktop.specs.declared.refusals.Refusal.{Refusal}
use Rattle.spec_desktop.specs.Told.{display_error}
use Rattle.spec_desktop.specs.Demand.{Demand, GetSubsurface}
use Rattle.spec_desktop.specs.Objects.{ById}
use Rattle.spec_desktop.specs.Desktop.{Resident, Subsurface}
use Rattle.spec_desktop.specs.WlSubsurface.{subsurface_made}
use Rattle.wl_proto.specs.declared.wl_subsurface.WlSubsurfaceRequest.{WlSubsurfaceRequest}
use Rattle.wl_proto.specs.declared.wl_subsurface.WlSubsurfaceRequest.TheVariants.{PlaceAbove, PlaceBelow}
use Rattle.wl_requests.specs.declared.residents.Resident.{Resident as Kept}
use Rattle.wl_shell.specs.Kept.{kept_of}
use Rattle.wl_surface.specs.declared.error.SurfaceError.{SurfaceError}
use Rattle.wl_surface.specs.declared.error.SurfaceError.TheVariants as error
use Rattle.wl_surface.specs.Surfaces.{link_at}
use Rattle.wl_surface.specs.Trees.{linked}

-- why a surface isn't made a subsurface by a wl_subcompositor: none where there is no memory
abbrev pub link_refused : ℕ → SurfaceError → Option Refusal
link_refused object error.TooDeep = Some (display_error Implementation)
link_refused object error.Role = Some (record { object = object; code = BadSurface })
link_refused object error.BadParent = Some (record { object = object; code = BadParent })
link_refused object e = None

-- what is judged is refused for this, or else accepted
abbrev pub IsJudged : Option Refusal → Demand → Result Demand Refusal → Type 0
IsJudged None demand judged = judged ≡ Ok demand
IsJudged (Some refusal) demand judged = judged ≡ Err refusal

abbrev pub IsJudgedBy : ℕ → Result (Unit {0}) SurfaceError → Demand → Result Demand Refusal → Type 0
IsJudgedBy object (Ok u) demand judged = judged ≡ Ok demand
IsJudgedBy object (Err e) demand judged = IsJudged (link_refused object e) demand judged

-- What is kept stands for a client whose surfaces are in order, and these numbers are those of a child and of a parent.
pub record AreTwo {A : Type 0} (v : Kept A) (names : Names) (r : Resident) (child below parent above : ℕ) : Type 0 where
  pub orderly : OwnsOrdered r
  pub owns : IsOwned names v.owned.surfaces.states v.owned.surfaces.family (kept_of v.owned.shell) r.owned
  pub subsurfaces : AreOfSurfaces v.subsurfaces names.surfaces r.subsurfaces
  pub child_named : names.surfaces child ≡ Some below
  pub parent_named : names.surfaces parent ≡ Some above

-- wl_subcompositor.get_subsurface: what is judged of it is what was answered.
abbrev pub LinksAsJudged : {A : Type 0} → Kept A → ℕ → ℕ → Result (Unit {0}) SurfaceError → Type 0
LinksAsJudged v below above result =
    (names : Names) (r : Resident) (child parent object version id : ℕ) → AreTwo v names r child below parent above
    → IsJudgedBy object result (GetSubsurface id version child parent) (subsurface_made r object version id child parent)

-- What is kept stands for the client with the link, whose number and whose wl_subsurface are new.
abbrev pub IsLinkMade : {A : Type 0} → ℕ → Kept A → Kept A → ℕ → ℕ → Type 0
IsLinkMade id old new below above =
    (names : Names) (r : Resident) (child parent number : ℕ) → AreTwo old names r child below parent above
    → link_at number r.owned.surfaces ≡ None → find (λ s. s.id == id) r.subsurfaces ≡ None
    → IsOwned names new.owned.surfaces.states new.owned.surfaces.family (kept_of new.owned.shell)
    (record r.owned { surfaces = linked number child parent r.owned.surfaces })
    × AreOfSurfaces new.subsurfaces names.surfaces (r.subsurfaces ++ record { id = id; link = number; surface = Some child } ∷ [])

-- This is the child of the wl_subsurface with this id, while its link lives.
abbrev pub IsChildOf : {A : Type 0} → Kept A → ℕ → Option ℕ → Type 0
IsChildOf v object None =
    (numbers : ById ℕ) (subsurfaces : List Subsurface) → AreOfSurfaces v.subsurfaces numbers subsurfaces
    → (child : ℕ) → slice_index_or v.subsurfaces child None ≡ Some object → links_in v.owned.surfaces.family child ≡ None
IsChildOf v object (Some child) =
    (slice_index_or v.subsurfaces child None ≡ Some object) × (is_some (links_in v.owned.surfaces.family child) ≡ true)

-- This is it, and no other surface keeps the id.
abbrev pub IsOnlyChild : {A : Type 0} → Kept A → ℕ → ℕ → Type 0
IsOnlyChild v object child =
    IsChildOf v object (Some child) × ((other : ℕ) → slice_index_or v.subsurfaces other None ≡ Some object → other ≡ child)

-- wl_subsurface.place_above and place_below, of the wl_surface with this id
abbrev pub place_asked : Side → ℕ → WlSubsurfaceRequest
place_asked Above sibling = PlaceAbove sibling
place_asked Below sibling = PlaceBelow sibling

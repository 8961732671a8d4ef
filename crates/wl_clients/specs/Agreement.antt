-- What a desk keeps agrees with a desktop.
use Rattle.std.specs.Prelude.{ℕ, zero, suc, ◌≡◌, ◌==◌, ◌+◌, ◌%◌, if◌then◌else◌, List, ◌∷◌, length, slice_index_or, Option, Some, None, []}
use Rattle.std.specs.Prelude.{is_some, true}
use Rattle.wl_proto.specs.declared.interface.Interface.TheVariants.{WlSurface}
use Rattle.wl_client.specs.Agreement.{IsPeer, output_of}
use Rattle.spec_desktop.specs.Objects.{ById, nothing}
use Rattle.wl_client.specs.View.{ClientView}
use Rattle.wl_shell.specs.Kept.{kept_of}
use Rattle.spec_desktop.specs.Stacking.{Standing}
use Rattle.wl_scene.specs.Kept.{Stack}
use Rattle.spec_desktop.specs.Desktop.{Desktop, Resident, place}
use Rattle.law_desktop.specs.Laws.{OwnsNothing}
use Rattle.law_desktop.specs.Owning.{IsOwned, by_number, targets_in}
use Rattle.law_desktop.specs.RoleNames.{names_of}
use Rattle.law_desktop.specs.Subsurfaces.{AreOfSurfaces}
use Rattle.law_desktop.specs.Shown.{ShownStand}
use Rattle.spec_desktop.specs.Framing.{AreFramed}
use Rattle.spec_desktop.specs.Stacked.{all_windows}
use Rattle.wl_scene.specs.StackedAgreement.{AreStacked}
use Rattle.wl_clients.specs.View.{DeskView, OwnedView}

-- ---- the clients

-- A client at its seat, its place at the desk (no wl_seat): what is kept of it and of what it owns stands for a client of the desktop. One
-- that ended owns nothing.
pub record IsSeat (v : ClientView) (o : OwnedView) (r : Resident) : Type 0 where
  pub peer : IsPeer v r.peer
  pub owns : IsOwned (names_of v.objects) o.surfaces o.family (kept_of o.shell) r.owned
  pub frames : AreFramed o.surfaces.frames (by_number (targets_in WlSurface v.objects) r.owned.surfaces) (r.peer.requests + 1) r.callbacks
  pub subsurfaces : AreOfSurfaces o.subsurfaces (targets_in WlSurface v.objects) r.subsurfaces
  pub ended : is_some r.peer.status ≡ true → OwnsNothing r

-- A client's number, 1 to 32: what is kept of the client, what is kept of all it owns, and a client of the desktop are there, or none is.
abbrev pub IsPlace : Option ClientView → Option OwnedView → Option Resident → Type 0
IsPlace None None None = Unit {0}
IsPlace (Some v) (Some o) (Some r) = IsSeat v o r
IsPlace v o r = ⊥

-- ---- the stack of toplevels

-- the numbers of a client's surfaces, by the ids of its wl_surfaces
abbrev pub numbers_of : Option ClientView → ById ℕ
numbers_of None = nothing
numbers_of (Some v) = targets_in WlSurface v.objects

-- those of each client, by its number
abbrev pub numbers_in : List (Option ClientView) → ℕ → ById ℕ
numbers_in clients zero = nothing
numbers_in clients (suc k) = numbers_of (slice_index_or clients k None)

-- the same with those of one client
abbrev pub with_numbers : ℕ → ById ℕ → (ℕ → ById ℕ) → ℕ → ById ℕ
with_numbers c numbers others = λ other. if other == c then numbers else others other

-- a toplevel is kept by the number of its surface
pub record IsStanding (numbers : ℕ → ById ℕ) (k s : Standing) : Type 0 where
  pub client : k.client ≡ s.client
  pub place : k.place ≡ s.place
  pub surface : numbers s.client s.surface ≡ Some k.surface

-- so are all of them, from the bottom
abbrev pub IsStack : (ℕ → ById ℕ) → List Standing → List Standing → Type 0
IsStack numbers [] [] = Unit {0}
IsStack numbers (k ∷ ks) (s ∷ ss) = IsStanding numbers k s × IsStack numbers ks ss
IsStack numbers [] (s ∷ ss) = ⊥
IsStack numbers (k ∷ ks) [] = ⊥

-- the mapped toplevels from bottom to top, and the place of the next one
pub record IsScene (numbers : ℕ → ById ℕ) (stack : Stack) (d : Desktop) : Type 0 where
  pub standing : IsStack numbers stack.standing d.standing
  pub next : stack.next ≡ d.mappings % 8

-- ---- the desk

-- The output, the clients, the toplevels and their windows are those of the desktop; and those stand there that are mapped.
pub record Matches (v : DeskView) (d : Desktop) : Type 0 where
  pub output : output_of v.output ≡ d.output
  pub count : length v.clients ≡ length d.clients
  pub clients : (k : ℕ) → IsPlace (slice_index_or v.clients k None) (slice_index_or v.owned k None) (place d.clients k)
  pub scene : IsScene (numbers_in v.clients) v.pile.scene d
  pub windows : AreStacked (numbers_in v.clients) v.pile.windows (all_windows d)
  pub mapped : ShownStand d

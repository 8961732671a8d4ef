-- What a desk keeps, as plain values.
use Rattle.std.specs.Prelude.{ℕ, List, Option}
use Rattle.wl_client.specs.View.{ClientView}
use Rattle.wl_client.specs.declared.outputs.Output.{Output}
use Rattle.wl_paint.specs.Damage.{Damaged}
use Rattle.wl_links.specs.Family.{Tied}
use Rattle.wl_surface.specs.Slots.{Slots}
use Rattle.wl_shell.specs.Kept.{Book}
use Rattle.wl_scene.specs.Kept.{Stack}
use Rattle.wl_scene.specs.declared.stacked.Stacked.{Stacked}
use Rattle.wl_requests.specs.declared.residents.Resident.{Resident}
use Rattle.wl_clients.specs.declared.screen.screens.Screen.{Screen}

-- what is kept of a client's surfaces by their numbers, of how they hang together, of its xdg_surfaces by the numbers of their surfaces,
-- and under each of these the id of its wl_subsurface
pub record OwnedView : Type 0 where
  pub surfaces : Slots
  pub family : Tied
  pub shell : Book
  pub subsurfaces : List (Option ℕ)

abbrev pub owned_view : {A : Type 0} → Resident A → OwnedView
owned_view r =
    record {
      surfaces = r.owned.surfaces.states;
      family = r.owned.surfaces.family;
      shell = r.owned.shell;
      subsurfaces = r.subsurfaces;
    }

-- the toplevels that stand, and the windows of their trees, from the bottom
pub record Pile : Type 0 where
  pub scene : Stack
  pub windows : List Stacked

abbrev pub pile_of : {A : Type 0} → Screen A → Pile
pile_of screen = record { scene = screen.scene; windows = screen.stacked.windows }

-- the output; what is kept of each client, and of what it owns, by number from 1; and what is kept of the toplevels and their windows
pub record DeskView : Type 0 where
  pub output : Output
  pub clients : List (Option ClientView)
  pub owned : List (Option OwnedView)
  pub pile : Pile

-- what a desk keeps, and what is to be painted again of the output
pub record MarkedDesk : Type 0 where
  pub desk : DeskView
  pub damage : Damaged

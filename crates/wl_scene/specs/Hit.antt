-- Which window of the output a point hits, by what is kept of the windows and of their surfaces.
use Rattle.spec_desktop.specs.Step.{is_number}
use Rattle.std.specs.Prelude.{◌==◌, ◌&&◌, Bool, ℕ, ◌≡◌, List, Option, Some, None, find}
use Rattle.wl_surface.specs.State.{History, applied}
use Rattle.wl_surface.specs.Slots.{Numbered, Slots, StandForAll, no_slots}
use Rattle.wl_surface.specs.Surfaces.{Surfaces, history_in}
use Rattle.spec_desktop.specs.Objects.{ById}
use Rattle.spec_desktop.specs.Windows.{Window, window_showing}
use Rattle.wl_scene.specs.declared.stacked.Stacked.{Stacked}
use Rattle.spec_desktop.specs.Desktop.{Desktop, owned_in}
use Rattle.spec_desktop.specs.Stacked.{all_windows}
use Rattle.wl_scene.specs.StackedAgreement.{AreNumberedOnce, AreStacked, IsStacked}

-- what is kept of a client's surfaces: nothing, where nothing is lent
abbrev pub slots_or_none : Option Slots → Slots
slots_or_none None = no_slots
slots_or_none (Some slots) = slots

-- each surface under its number
abbrev pub by_number : ById ℕ → Surfaces → Numbered
by_number numbers all = λ number. find (λ s. is_number number (numbers s.id)) all.surfaces

-- What is kept stands for the surfaces, each under a number of its own.
pub record IsStoodFor (numbers : ById ℕ) (slots : Slots) (all : Surfaces) : Type 0 where
  pub once : AreNumberedOnce numbers
  pub stand : StandForAll slots (by_number numbers all)

-- the window's surface is among these, and the window shows what counts of it
pub record ShowsSurface (all : Surfaces) (w : Window) : Type 0 where
  pub history : History
  pub found : history_in w.surface all ≡ Some history
  pub buffer : (applied history).buffer ≡ Some w.buffer
  pub shows : w ≡ window_showing w.owner w.surface w.corner (applied history) w.buffer

-- What is kept stands for the desktop: the surfaces of each client, and the windows in their order.
pub record AreKept (slots : ℕ → Slots) (numbers : ℕ → ById ℕ) (stacked : List Stacked) (d : Desktop) : Type 0 where
  pub surfaces : (c : ℕ) → IsStoodFor (numbers c) (slots c) (owned_in d c).surfaces
  pub windows : AreStacked numbers stacked (all_windows d)

-- a window that is kept stands for one of the desktop, or there is none of either
abbrev pub IsStackedOrNone : (ℕ → ById ℕ) → Option Stacked → Option Window → Type 0
IsStackedOrNone numbers None None = Unit {0}
IsStackedOrNone numbers (Some s) (Some w) = IsStacked numbers s w
IsStackedOrNone numbers None (Some w) = ⊥
IsStackedOrNone numbers (Some s) None = ⊥

-- a window that is kept is that of the surface of this number of a client
abbrev pub is_window_of : ℕ → ℕ → Stacked → Bool
is_window_of client surface s = (s.client == client) && (s.window.surface == surface)

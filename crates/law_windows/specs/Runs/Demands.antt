-- What is marked where a demand of a client that lives on was done (wayland.xml, wl_surface, wl_subcompositor and wl_subsurface;
-- xdg-shell.xml, xdg_surface, xdg_toplevel and xdg_popup).
use Rattle.std.specs.Prelude.{ℕ, ℤ, ◌≡◌, false, Option, Some, None, List}
use Rattle.spec_desktop.specs.Peer.{Peer}
use Rattle.wl_surface.specs.declared.applied.Change.{Change}
use Rattle.spec_desktop.specs.Changing.{changed_for}
use Rattle.spec_desktop.specs.Demand.{Demand}
use Rattle.spec_desktop.specs.Desktop.{Desktop, Resident, client_at, owned_in}
use Rattle.spec_desktop.specs.Moments.{marks_at_least}
use Rattle.spec_desktop.specs.Stacked.{all_windows}
use Rattle.spec_desktop.specs.Step.{with_peer}
use Rattle.law_desktop.specs.Shown.{ShownStand}
use Rattle.law_desktop.specs.TreeStepsLaws.{IsRootOf}
use Rattle.law_desktop.specs.Renaming.{IsRenaming}
use Rattle.law_desktop.specs.Changes.{HasTrees, StaysPainted}
use Rattle.law_desktop.specs.Done.{IsDone, IsMeant, touched_by}
use Rattle.law_desktop.specs.StackedWith.{popup_of}
use Rattle.law_desktop.specs.Toplevel.{ChangesToplevel}
use Rattle.law_windows.specs.Telling.{TellsTrees}
use Rattle.law_windows.specs.Runs.Lookup.{toplevel_found}
use Rattle.law_windows.specs.Runs.Marks.{MarksRun, NoneComes}

-- A demand of a client was done that is made as the protocol has it. Before and after, toplevels, popups and subsurfaces make trees, and
-- just the mapped toplevels stand.
pub record WasDone (c : ℕ) (r : Resident) (p : Peer) (demand : Demand) (d e : Desktop) : Type 0 where
  pub here : client_at c d ≡ Some r
  pub meant : IsMeant demand r
  pub done : IsDone c demand (with_peer p r) d e
  pub trees_before : HasTrees d
  pub trees_after : HasTrees e
  pub shown_before : ShownStand d
  pub shown_after : ShownStand e

-- One that touches a surface makes no new one.
abbrev pub NoSurfaceComes : Type 0
NoSurfaceComes =
    (c id : ℕ) (r : Resident) (p : Peer) (demand : Demand) (d e : Desktop) → client_at c d ≡ Some r → IsDone c demand (with_peer p r) d e
    → touched_by demand r ≡ Some id → NoneComes (owned_in d c).surfaces (owned_in e c).surfaces

-- Where no window changes nothing has to be marked.
abbrev pub NothingIsMarked : Type 0
NothingIsMarked = (d e : Desktop) → StaysPainted d e → (x y : ℤ) → marks_at_least d e x y ≡ false

-- The windows of a toplevel that was found changed, and are marked tree by tree, as they are told by name. Where none was found, no window
-- changed, and nothing has to be marked.
pub record ChangesRun {A : Type 0} (c toplevel : ℕ) (d e : Desktop) (f : ℕ → ℕ) (changes : List (Change A)) : Type 0 where
  pub step : ChangesToplevel c toplevel d e
  pub marks : MarksRun d e f changes step.was step.is

pub record ChangesNothing (d e : Desktop) : Type 0 where
  pub stays : StaysPainted d e
  pub unmarked : (x y : ℤ) → marks_at_least d e x y ≡ false

abbrev pub ChangesFound : {A : Type 0} → Option ℕ → ℕ → Desktop → Desktop → (ℕ → ℕ) → List (Change A) → Type 0
ChangesFound None c d e f changes = ChangesNothing d e
ChangesFound (Some toplevel) c d e f changes = ChangesRun c toplevel d e f changes

-- What touches a surface changes the windows of the toplevel that is found for the root of its tree before it.
abbrev pub TouchesFound : Type 0 → Type 0
TouchesFound A =
    (c id root : ℕ) (r : Resident) (p : Peer) (demand : Demand) (d e : Desktop) → WasDone c r p demand d e → touched_by demand r ≡ Some id
    → IsRootOf r.owned.surfaces id root → (f : ℕ → ℕ) (changes : List (Change A)) → IsRenaming f r.owned.surfaces
    → TellsTrees f changes r.owned.surfaces (changed_for c demand (with_peer p r) d).owned.surfaces
    → ChangesFound (toplevel_found c root (popup_of c root d) (all_windows d)) c d e f changes

-- What touches none changes none.
abbrev pub TouchesNothing : Type 0
TouchesNothing =
    (c : ℕ) (r : Resident) (p : Peer) (demand : Demand) (d e : Desktop) → WasDone c r p demand d e → touched_by demand r ≡ None
    → ChangesNothing d e

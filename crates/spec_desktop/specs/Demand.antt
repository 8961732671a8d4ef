-- What an accepted message asks of the desktop where every request is served.
use Rattle.std.specs.Prelude.{ℕ, Bool}
use Rattle.wl_shell.specs.Positioner.{Positioner}
use Rattle.spec_desktop.specs.Ask.{Ask}

pub data Demand : Type 0 where
  -- what touches no subsurfaces, popups, frame callbacks and pointers
  Asks : Ask → Demand
  -- the end of a surface
  EndSurface : ℕ → Demand
  -- a frame callback, with its version, of a surface
  AskFrame : ℕ → ℕ → ℕ → Demand
  -- a commit of a surface
  CommitTree : ℕ → Demand
  -- a new wl_subsurface, with its version: of a surface, below a parent
  GetSubsurface : ℕ → ℕ → ℕ → ℕ → Demand
  EndSubsurface : ℕ → Demand
  -- a link is synchronised or not
  SetMode : ℕ → Bool → Demand
  -- a new wl_pointer, with its version
  GetPointer : ℕ → ℕ → Demand
  -- a surface becomes a cursor
  MakeCursor : ℕ → Demand
  -- a new popup, with its version, of an xdg_surface, with the xdg_surface of its parent and its positioner
  GetPopup : ℕ → ℕ → ℕ → ℕ → Positioner → Demand
  -- a popup, by its xdg_surface, is placed anew by this positioner, with a token
  Reposition : ℕ → ℕ → Positioner → Demand
  -- a popup asks for a grab: by its xdg_surface, with a serial
  Grab : ℕ → ℕ → Demand
  -- a popup, and its xdg_surface
  EndPopup : ℕ → ℕ → Demand
  -- a toplevel, its xdg_surface, and its surface
  EndToplevel : ℕ → ℕ → ℕ → Demand
  -- the toplevel of a surface is to be moved, with a serial
  Move : ℕ → ℕ → Demand

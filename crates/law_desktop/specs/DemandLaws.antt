-- Laws of what each demand changes of the windows (wayland.xml, wl_surface, wl_subcompositor and wl_subsurface; xdg-shell.xml).
use Rattle.std.specs.Prelude.{ℕ, Bool}
use Rattle.wl_surface.specs.Request.{Request}
use Rattle.spec_desktop.specs.declared.actions.Action.{Action}
use Rattle.wl_shell.specs.Positioner.{Positioner}
use Rattle.spec_desktop.specs.Ask.{Acknowledge, AskSurface, ConfigureAgain, CreateSurface, DestroyXdgSurface, EndObject, GetToplevel}
use Rattle.spec_desktop.specs.Ask.{GetXdgSurface, Ignore, Own}
use Rattle.spec_desktop.specs.Demand.{AskFrame, Asks, CommitTree, Demand, EndPopup, EndSubsurface, EndSurface, EndToplevel, GetPointer, Reposition}
use Rattle.spec_desktop.specs.Demand.{GetPopup, GetSubsurface, Grab, MakeCursor, Move, SetMode}
use Rattle.law_desktop.specs.Done.{DemandChanges}

-- wl_surface.commit
abbrev pub CommitsChangeOneToplevel : Type 0
CommitsChangeOneToplevel = (surface : ℕ) → DemandChanges (CommitTree surface)

-- wl_surface.destroy
abbrev pub SurfaceEndsChangeOneToplevel : Type 0
SurfaceEndsChangeOneToplevel = (id : ℕ) → DemandChanges (EndSurface id)

-- wl_subsurface.destroy
abbrev pub SubsurfaceEndsChangeOneToplevel : Type 0
SubsurfaceEndsChangeOneToplevel = (id : ℕ) → DemandChanges (EndSubsurface id)

-- wl_subsurface.set_sync and wl_subsurface.set_desync
abbrev pub ModesChangeOneToplevel : Type 0
ModesChangeOneToplevel = (link : ℕ) (synchronised : Bool) → DemandChanges (SetMode link synchronised)

-- new surfaces, what is asked of surfaces until they are committed, frame callbacks, new wl_subsurfaces and wl_pointers, cursors and moves
pub record RequestsChangeNoWindow : Type 0 where
  pub create_surface : (id version : ℕ) → DemandChanges (Asks (CreateSurface id version))
  pub ask_surface : (id : ℕ) (request : Request) → DemandChanges (Asks (AskSurface id request))
  pub ask_frame : (id version surface : ℕ) → DemandChanges (AskFrame id version surface)
  pub get_subsurface : (id version child parent : ℕ) → DemandChanges (GetSubsurface id version child parent)
  pub get_pointer : (id version : ℕ) → DemandChanges (GetPointer id version)
  pub make_cursor : (surface : ℕ) → DemandChanges (MakeCursor surface)
  pub move : (surface serial : ℕ) → DemandChanges (Move surface serial)

-- the client's own interfaces, objects that go and stand for nothing, and configures, acknowledged or asked for again
pub record StatesChangeNoWindow : Type 0 where
  pub own : (action : Action) → DemandChanges (Asks (Own action))
  pub end_object : (id : ℕ) → DemandChanges (Asks (EndObject id))
  pub acknowledge : (xdg serial : ℕ) → DemandChanges (Asks (Acknowledge xdg serial))
  pub configure_again : (xdg : ℕ) → DemandChanges (Asks (ConfigureAgain xdg))
  pub ignore : DemandChanges (Asks Ignore)

-- xdg_surfaces that come, or go, and toplevels and popups that come and are mapped later
pub record RolesChangeNoWindow : Type 0 where
  pub get_xdg_surface : (id version base surface : ℕ) → DemandChanges (Asks (GetXdgSurface id version base surface))
  pub destroy_xdg_surface : (id : ℕ) → DemandChanges (Asks (DestroyXdgSurface id))
  pub get_toplevel : (id version xdg : ℕ) → DemandChanges (Asks (GetToplevel id version xdg))
  pub get_popup : (id version xdg parent : ℕ) (positioner : Positioner) → DemandChanges (GetPopup id version xdg parent positioner)

-- xdg_popup.reposition: the popup stands where it stood until the surface is committed
abbrev pub RepositionsChangeNoWindow : Type 0
RepositionsChangeNoWindow = (xdg token : ℕ) (positioner : Positioner) → DemandChanges (Reposition xdg token positioner)

-- xdg_popup.grab, whether it is taken or refused
abbrev pub GrabsChangeNoWindow : Type 0
GrabsChangeNoWindow = (xdg serial : ℕ) → DemandChanges (Grab xdg serial)

-- xdg_toplevel.destroy, with the popups that it dismisses
abbrev pub ToplevelEndsChangeOneToplevel : Type 0
ToplevelEndsChangeOneToplevel = (id xdg surface : ℕ) → DemandChanges (EndToplevel id xdg surface)

-- xdg_popup.destroy
abbrev pub PopupEndsChangeOneToplevel : Type 0
PopupEndsChangeOneToplevel = (id xdg : ℕ) → DemandChanges (EndPopup id xdg)

-- all of them
abbrev pub DemandsChangeOneToplevel : Type 0
DemandsChangeOneToplevel = (demand : Demand) → DemandChanges demand

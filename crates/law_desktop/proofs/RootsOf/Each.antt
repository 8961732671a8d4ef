-- What any demand changes of the windows.
use Rattle.spec_desktop.specs.Ask.{Acknowledge, AskSurface, ConfigureAgain, CreateSurface, DestroyXdgSurface, EndObject, GetToplevel, GetXdgSurface, Ignore, Own}
use Rattle.spec_desktop.specs.Demand.{AskFrame, Asks, CommitTree, EndPopup, EndSubsurface, EndSurface, EndToplevel, GetPointer, GetPopup, GetSubsurface, Grab, MakeCursor, Move, SetMode, Reposition}
use Rattle.law_desktop.specs.DemandLaws.{DemandsChangeOneToplevel}
use Rattle.law_desktop.proofs.RootsOf.Demands.{commits-change, grabs-change, modes-change, popup-ends-change, requests-change, roles-change, states-change, repositions-change}
use Rattle.law_desktop.proofs.RootsOf.Demands.{subsurface-ends-change, surface-ends-change, toplevel-ends-change}

pub demands-change : DemandsChangeOneToplevel
demands-change (Asks (Own action)) = states-change.own action
demands-change (Asks (CreateSurface id version)) = requests-change.create_surface id version
demands-change (Asks (AskSurface id request)) = requests-change.ask_surface id request
demands-change (Asks (EndObject id)) = states-change.end_object id
demands-change (Asks (GetXdgSurface id version base surface)) = roles-change.get_xdg_surface id version base surface
demands-change (Asks (DestroyXdgSurface id)) = roles-change.destroy_xdg_surface id
demands-change (Asks (GetToplevel id version xdg)) = roles-change.get_toplevel id version xdg
demands-change (Asks (Acknowledge xdg serial)) = states-change.acknowledge xdg serial
demands-change (Asks (ConfigureAgain xdg)) = states-change.configure_again xdg
demands-change (Asks Ignore) = states-change.ignore
demands-change (EndSurface id) = surface-ends-change id
demands-change (AskFrame id version surface) = requests-change.ask_frame id version surface
demands-change (CommitTree surface) = commits-change surface
demands-change (GetSubsurface id version child parent) = requests-change.get_subsurface id version child parent
demands-change (EndSubsurface id) = subsurface-ends-change id
demands-change (SetMode link synchronised) = modes-change link synchronised
demands-change (GetPointer id version) = requests-change.get_pointer id version
demands-change (MakeCursor surface) = requests-change.make_cursor surface
demands-change (GetPopup id version xdg parent positioner) = roles-change.get_popup id version xdg parent positioner
demands-change (Reposition xdg token positioner) = repositions-change xdg token positioner
demands-change (Grab xdg serial) = grabs-change xdg serial
demands-change (EndPopup id xdg) = popup-ends-change id xdg
demands-change (EndToplevel id xdg surface) = toplevel-ends-change id xdg surface
demands-change (Move surface serial) = requests-change.move surface serial

-- What a demand changes of its client that is none of popups, where none is placed; and what becomes of the desktop where nobody points.
use Rattle.std.specs.Prelude.{ℕ, ◌≡◌, Option, None}
use Rattle.wl_proto.specs.declared.interface.Interface.TheVariants.{WlPointer}
use Rattle.spec_desktop.specs.Peer.{Peer}
use Rattle.wl_surface.specs.Surface.{with_role}
use Rattle.wl_surface.specs.declared.role.Role.TheVariants.{Cursor as AsCursor}
use Rattle.wl_surface.specs.Surfaces.{with_change as with_surface_change}
use Rattle.wl_shell.specs.Shell.{Effect, XdgSurface as Xdg, without_role, xdg_of}
use Rattle.spec_desktop.specs.Changing.{effect_placing, frame_asked, in_rising_order, mode_set, subsurface_ended, subsurface_given}
use Rattle.spec_desktop.specs.Changing.{surface_ended, tree_committed}
use Rattle.spec_desktop.specs.Demand.{Demand, Asks, EndSurface, AskFrame, CommitTree, GetSubsurface, EndSubsurface, SetMode, GetPointer}
use Rattle.spec_desktop.specs.Demand.{MakeCursor, EndToplevel}
use Rattle.spec_desktop.specs.Demanding.{effect_of_commit}
use Rattle.spec_desktop.specs.Desktop.{Desktop, Resident, become}
use Rattle.spec_desktop.specs.Step.{changed_by, making, removing, with_surfaces, xdg_changed}

-- ---- a commit

-- no popup is placed, and none has a grab
abbrev pub effect_on : ℕ → Effect → Option Xdg → Resident → Resident
effect_on surface effect x r = effect_placing (λ popup. None) surface effect x r

-- ---- all that is demanded

-- what it changes
abbrev pub changed_simply : Demand → Resident → Resident
changed_simply (Asks ask) r = changed_by ask r
changed_simply (EndSurface id) r = surface_ended id r
changed_simply (AskFrame id version surface) r = frame_asked id version surface r
changed_simply (CommitTree surface) r =
    effect_on surface (effect_of_commit r surface) (xdg_of surface r.owned.shell) (tree_committed surface r)
changed_simply (GetSubsurface id version child parent) r = subsurface_given id version child parent r
changed_simply (EndSubsurface id) r = subsurface_ended id r
changed_simply (SetMode link synchronised) r = mode_set link synchronised r
changed_simply (EndToplevel id xdg surface) r = removing id (xdg_changed xdg without_role r)
changed_simply (GetPointer id version) r = making WlPointer id version (record r { pointers = in_rising_order id r.pointers })
changed_simply (MakeCursor surface) r = with_surfaces (with_surface_change surface (with_role AsCursor) r.owned.surfaces) r
changed_simply demand r = r

-- ---- what becomes of the desktop

-- this is told to the client, and it becomes what that leaves of it
abbrev pub Becomes : (Peer → Type 0) → ℕ → Resident → Desktop → Desktop → Type 0
Becomes Q c r d new = (q : Peer) × Q q × (new ≡ become c r q d)

-- What an accepted message changes of its client, of the stack of toplevels, and of the pointer, where every request is served.
use Rattle.std.specs.Prelude.{ℕ, pos, suc, ◌+◌, ◌==◌, ◌&&◌, ◌||◌, nat_lt, not, Bool, true, false, if◌then◌else◌, Option, Some, None, List}
use Rattle.std.specs.Prelude.{[], ◌∷◌, ◌++◌, filter, find, flat_map, fold, map}
use Rattle.std.specs.List.{list_any}
use Rattle.std.specs.Option.{option_and_then, option_map, option_map_or}
use Rattle.wl_geom.specs.declared.rect.Rect.{Rect}
use Rattle.wl_proto.specs.declared.interface.Interface.TheVariants.{WlCallback, WlSubsurface, WlPointer, XdgPopup}
use Rattle.spec_desktop.specs.Peer.{removed}
use Rattle.spec_desktop.specs.Told.{Output}
use Rattle.wl_surface.specs.FrameRequests.{frames_asked}
use Rattle.wl_surface.specs.Request.{Frame}
use Rattle.wl_surface.specs.Surface.{buffers_of, with_role}
use Rattle.wl_surface.specs.Surfaces.{Surfaces, history_in, with_change as with_surface_change}
use Rattle.wl_surface.specs.Trees.{committed_in, desynchronised_in, destroyed_in, linked, synchronised_in, unlinked}
use Rattle.wl_surface.specs.declared.role.Role.TheVariants.{Popup as AsPopup, Cursor as AsCursor}
use Rattle.wl_surface.specs.Waiting.{Callback}
use Rattle.wl_shell.specs.Popups.{Popped, copying, dismissing, is_configured, is_parent_of, is_toplevel, new_popup, orphaning}
use Rattle.wl_shell.specs.Popups.{parent_allows, parent_of, popup_at, popup_changed, popups_of, repositioning, with_effect, with_grab}
use Rattle.wl_shell.specs.Positioner.{Placed, Positioner, place}
use Rattle.wl_shell.specs.Shell.{Effect, Configures, Maps, Unmaps, Popup, XdgSurface, next_serial, with_change, without_role, xdg_at}
use Rattle.wl_shell.specs.Shell.{xdg_of}
use Rattle.spec_desktop.specs.Pointer.{Pointer, Target}
use Rattle.spec_desktop.specs.Stacking.{Standing, is_of, with_mapped, without_surface_of}
use Rattle.spec_desktop.specs.Windows.{Place, Window}
use Rattle.spec_desktop.specs.Demand.{Demand, Asks, EndSurface, AskFrame, CommitTree, GetSubsurface, EndSubsurface, SetMode}
use Rattle.spec_desktop.specs.Demand.{GetPointer, MakeCursor, GetPopup, Reposition, Grab, EndPopup}
use Rattle.spec_desktop.specs.Demand.{EndToplevel, Move}
use Rattle.spec_desktop.specs.Demanding.{effect_of_commit}
use Rattle.spec_desktop.specs.Desktop.{Desktop, Resident, Subsurface}
use Rattle.spec_desktop.specs.Popups.{parent_corner}
use Rattle.spec_desktop.specs.Step.{asked_of, asked_so_far, changed_by, letting_go, making, removing, with_peer, with_shell}
use Rattle.spec_desktop.specs.Step.{with_surfaces, xdg_changed}

-- ---- surfaces

-- of the buffers that surfaces had, those that are over let their stores go
abbrev pub after_all : Resident → Resident → Resident
after_all old new = letting_go (flat_map (λ s. buffers_of s.history) old.owned.surfaces.surfaces) new

-- the frame callbacks of a surface, in the order of their requests
abbrev pub is_asked : List ℕ → Callback → Bool
is_asked numbers callback = list_any (λ number. number == callback.number) numbers

abbrev pub callbacks_of : ℕ → Resident → List Callback
callbacks_of surface r = filter (is_asked (frames_asked (history_in surface r.owned.surfaces))) r.callbacks

-- callbacks go
abbrev pub without_callbacks : List Callback → Resident → Resident
without_callbacks gone r =
    with_peer (fold (λ p callback. removed callback.id p) r.peer gone)
    (record r { callbacks = filter (λ callback. not (list_any (λ other. other.number == callback.number) gone)) r.callbacks })

abbrev pub without_child : ℕ → Subsurface → Subsurface
without_child surface s = if option_map_or (λ child. child == surface) s.surface false then record s { surface = None } else s

-- wl_surface.destroy: the links of the surface end, its callbacks go, and its wl_subsurface is inert
abbrev pub surface_ended : ℕ → Resident → Resident
surface_ended surface r =
    removing surface
    (without_callbacks (callbacks_of surface r)
    (after_all r (with_surfaces (destroyed_in surface r.owned.surfaces)
    (record r { subsurfaces = map (without_child surface) r.subsurfaces }))))

-- wl_surface.frame
abbrev pub frame_asked : ℕ → ℕ → ℕ → Resident → Resident
frame_asked id version surface r =
    making WlCallback id version
    (asked_of surface (Frame r.peer.requests) (record r { callbacks = r.callbacks ++ record { number = r.peer.requests; id = id } ∷ [] }))

-- wl_subcompositor.get_subsurface, and wl_subsurface
abbrev pub subsurface_given : ℕ → ℕ → ℕ → ℕ → Resident → Resident
subsurface_given id version child parent r =
    making WlSubsurface id version
    (with_surfaces (linked r.peer.requests child parent r.owned.surfaces)
    (record r { subsurfaces = r.subsurfaces ++ record { id = id; link = r.peer.requests; surface = Some child } ∷ [] }))

-- the number of the link of the wl_subsurface with this id
abbrev pub link_with_id : ℕ → Resident → Option ℕ
link_with_id id r = option_map (λ s. s.link) (find (λ s. s.id == id) r.subsurfaces)

-- the link ends, where there is one
abbrev pub unlinked_at : Option ℕ → Surfaces → Surfaces
unlinked_at None all = all
unlinked_at (Some number) all = unlinked number all

-- wl_subsurface.destroy
abbrev pub subsurface_ended : ℕ → Resident → Resident
subsurface_ended id r =
    removing id
    (after_all r (with_surfaces (unlinked_at (link_with_id id r) r.owned.surfaces)
    (record r { subsurfaces = filter (λ s. not (s.id == id)) r.subsurfaces })))

abbrev pub mode_set : ℕ → Bool → Resident → Resident
mode_set link true r = with_surfaces (synchronised_in link r.owned.surfaces) r
mode_set link false r = after_all r (with_surfaces (desynchronised_in link r.owned.surfaces) r)

-- ---- a commit

-- where popups are placed
abbrev pub Placing : Type 0
Placing = Popup → Option Placed

-- where a popup is placed now: within the output
abbrev pub output_rect : Output → Rect
output_rect output = record { x = pos 0; y = pos 0; w = pos output.width; h = pos output.height }

abbrev pub placed_at : Place → Output → Positioner → Option Placed
placed_at corner output positioner = place positioner (output_rect output) (corner.x, corner.y)

abbrev pub placement_now : ℕ → Resident → Desktop → Placing
placement_now c r d popup = placed_at (parent_corner d.standing c r.owned popup.parent) d.output popup.positioner

-- the next serial is drawn
abbrev pub drawing : Bool → Resident → Resident
drawing true r = with_peer (record r.peer { serial = next_serial r.peer.serial }) r
drawing false r = r

abbrev pub is_configure : Effect → Bool
is_configure Configures = true
is_configure effect = false

-- What a commit comes to is done to the xdg_surface of its surface, if there is one, and a configure draws the next serial.
abbrev pub effect_placing : Placing → ℕ → Effect → Option XdgSurface → Resident → Resident
effect_placing where_to surface effect None r = r
effect_placing where_to surface effect (Some x) r =
    drawing (is_configure effect) (xdg_changed x.id (with_effect r.peer.serial (asked_so_far surface r) where_to effect) r)

-- wl_surface.commit: the surface is applied with all below it, unless it behaves synchronised
abbrev pub tree_committed : ℕ → Resident → Resident
tree_committed surface r = after_all r (with_surfaces (committed_in surface r.owned.surfaces) r)

-- a popup is placed where it is placed by what stands before the commit
abbrev pub commit_done : ℕ → ℕ → Resident → Desktop → Resident
commit_done c surface r d =
    effect_placing (placement_now c r d) surface (effect_of_commit r surface) (xdg_of surface r.owned.shell) (tree_committed surface r)

-- ---- popups

abbrev pub popup_given_to : ℕ → ℕ → ℕ → Positioner → Option XdgSurface → Resident → Resident
popup_given_to id xdg parent positioner None r = r
popup_given_to id xdg parent positioner (Some x) r =
    xdg_changed xdg (new_popup id parent positioner r.peer.requests (asked_so_far x.surface r))
    (with_surfaces (with_surface_change x.surface (with_role AsPopup) r.owned.surfaces) r)

abbrev pub popup_given : ℕ → ℕ → ℕ → ℕ → Positioner → Resident → Resident
popup_given id version xdg parent positioner r =
    making XdgPopup id version (popup_given_to id xdg parent positioner (xdg_at xdg r.owned.shell) r)

-- xdg_popup.reposition: placed by what stands before it; where it is configured anew the next serial is drawn
abbrev pub popup_repositioned : Placing → Positioner → Option Popped → Resident → Resident
popup_repositioned where_to positioner None r = r
popup_repositioned where_to positioner (Some p) r =
    drawing (is_configured p)
    (xdg_changed p.xdg.id (repositioning (is_configured p) r.peer.serial (where_to (copying positioner p.popup)) positioner) r)

-- a client holds a grab
abbrev pub holds_grab : Option Resident → Bool
holds_grab None = false
holds_grab (Some r) = list_any (λ p. p.popup.has_grab) (popups_of r.owned.shell)

-- the client that holds a grab, if one does
abbrev pub holder_from : ℕ → List (Option Resident) → Option ℕ
holder_from c [] = None
holder_from c (r ∷ rs) = if holds_grab r then Some c else holder_from (suc c) rs

abbrev pub grab_holder : Desktop → Option ℕ
grab_holder d = holder_from 1 d.clients

abbrev pub is_held_elsewhere : ℕ → Option ℕ → Bool
is_held_elsewhere c None = false
is_held_elsewhere c (Some holder) = not (holder == c)

-- the serial is that of the latest press or the latest release that the client was told of
abbrev pub is_serial : ℕ → Option ℕ → Bool
is_serial serial None = false
is_serial serial (Some other) = other == serial

abbrev pub is_latest : ℕ → Resident → Bool
is_latest serial r = is_serial serial r.press || is_serial serial r.release

abbrev pub grab_allowed : ℕ → ℕ → ℕ → Resident → Desktop → Bool
grab_allowed c xdg serial r d =
    is_latest serial r && (parent_allows (option_and_then (parent_of r.owned.shell) (popup_at xdg r.owned.shell))
    && not (is_held_elsewhere c (grab_holder d)))

-- xdg_popup.grab: taken, or the popup is dismissed
abbrev pub grabbed : Bool → ℕ → Resident → Resident
grabbed true xdg r = xdg_changed xdg (popup_changed with_grab) r
grabbed false xdg r = with_shell (dismissing (λ p. p.xdg.id == xdg) r.owned.shell) r

-- xdg_toplevel.destroy: its popups are dismissed
abbrev pub toplevel_ended : ℕ → ℕ → Resident → Resident
toplevel_ended id xdg r =
    removing id (with_shell (with_change xdg without_role (orphaning xdg (dismissing (λ p. is_parent_of xdg p.popup) r.owned.shell))) r)

-- ---- the pointer

abbrev pub in_rising_order : ℕ → List ℕ → List ℕ
in_rising_order n [] = n ∷ []
in_rising_order n (m ∷ ms) = if nat_lt n m then n ∷ m ∷ ms else m ∷ in_rising_order n ms

abbrev pub has_focus : ℕ → Option Target → Bool
has_focus c None = false
has_focus c (Some t) = t.client == c

-- wl_seat.get_pointer: where the client has the focus, the new wl_pointer is told at once, with a serial
abbrev pub pointer_given : ℕ → ℕ → ℕ → Resident → Desktop → Resident
pointer_given c id version r d =
    making WlPointer id version (drawing (has_focus c d.pointer.focus) (record r { pointers = in_rising_order id r.pointers }))

-- ---- all of them

abbrev pub changed_for : ℕ → Demand → Resident → Desktop → Resident
changed_for c (Asks ask) r d = changed_by ask r
changed_for c (EndSurface id) r d = surface_ended id r
changed_for c (AskFrame id version surface) r d = frame_asked id version surface r
changed_for c (CommitTree surface) r d = commit_done c surface r d
changed_for c (GetSubsurface id version child parent) r d = subsurface_given id version child parent r
changed_for c (EndSubsurface id) r d = subsurface_ended id r
changed_for c (SetMode link synchronised) r d = mode_set link synchronised r
changed_for c (GetPointer id version) r d = pointer_given c id version r d
changed_for c (MakeCursor surface) r d = with_surfaces (with_surface_change surface (with_role AsCursor) r.owned.surfaces) r
changed_for c (GetPopup id version xdg parent p) r d = popup_given id version xdg parent p r
changed_for c (Reposition xdg token p) r d = popup_repositioned (placement_now c r d) p (popup_at xdg r.owned.shell) r
changed_for c (Grab xdg serial) r d = grabbed (grab_allowed c xdg serial r d) xdg r
changed_for c (EndPopup id xdg) r d = removing id (xdg_changed xdg without_role r)
changed_for c (EndToplevel id xdg surface) r d = toplevel_ended id xdg r
changed_for c (Move surface serial) r d = r

-- a toplevel that a commit maps stands on top; one that it unmaps is taken out
abbrev pub stacked_by : Effect → Bool → ℕ → ℕ → Desktop → Desktop
stacked_by Maps true c surface d = record d { standing = with_mapped d.mappings c surface d.standing; mappings = d.mappings + 1 }
stacked_by Unmaps true c surface d = record d { standing = without_surface_of c surface d.standing }
stacked_by effect toplevel c surface d = d

-- xdg_toplevel.move: by the serial of the press that began the present hold, where the focus is in the toplevel's own tree
abbrev pub is_focus_in : ℕ → ℕ → Option Target → List Window → Bool
is_focus_in c surface None windows = false
is_focus_in c surface (Some t) windows =
    (t.client == c) && list_any (λ w. (w.owner.client == c) && ((w.surface == t.surface) && (w.owner.root == surface))) windows

abbrev pub moving_from : ℕ → ℕ → ℕ → List Window → Pointer → Pointer
moving_from c surface serial windows p =
    if is_serial serial p.hold
    && is_focus_in c surface p.focus windows then record p { move = Some (record { client = c; surface = surface }) } else p

abbrev pub stacked_for : ℕ → Demand → Resident → List Window → Desktop → Desktop
stacked_for c (CommitTree surface) r windows d =
    stacked_by (effect_of_commit r surface) (is_toplevel (xdg_of surface r.owned.shell)) c surface d
stacked_for c (EndToplevel id xdg surface) r windows d = record d { standing = without_surface_of c surface d.standing }
stacked_for c (Move surface serial) r windows d = record d { pointer = moving_from c surface serial windows d.pointer }
stacked_for c demand r windows d = d

-- the toplevel that is moved is one that stands
abbrev pub kept_move : Option Target → List Standing → Option Target
kept_move None standing = None
kept_move (Some t) standing = if list_any (is_of t.client t.surface) standing then Some t else None

abbrev pub with_kept_move : Desktop → Desktop
with_kept_move d = record d { pointer = record d.pointer { move = kept_move d.pointer.move d.standing } }

-- What a client is told of its own message where every request is served, in the order of its events.
use Rattle.std.specs.Prelude.{ℕ, ◌==◌, ◌&&◌, nat_lt, not, Bool, true, false, if◌then◌else◌, Option, Some, None, List, [], ◌∷◌, ◌++◌, filter}
use Rattle.std.specs.Prelude.{find, flat_map, fold, map}
use Rattle.std.specs.Option.{option_map}
use Rattle.wl_wire.specs.Wire.{Word, Number}
use Rattle.wl_proto.specs.declared.interface.Interface.TheVariants.{WlBuffer, WlPointer, XdgPopup}
use Rattle.wl_proto.specs.Messages.{says}
use Rattle.spec_desktop.specs.Told.{Said, id_deleted, said}
use Rattle.wl_surface.specs.Request.{Buffer}
use Rattle.wl_surface.specs.State.{History, applied, held}
use Rattle.wl_surface.specs.Surface.{listed}
use Rattle.wl_surface.specs.Surfaces.{Surfaces, is_busy}
use Rattle.wl_shell.specs.Popups.{Popped, copying, is_among, is_configured, popup_at, popups_of}
use Rattle.wl_shell.specs.Positioner.{Placed, Positioner}
use Rattle.wl_shell.specs.Shell.{Effect, Configures, Kind, Toplevel, IsPopup, RoleObject, Shell, XdgSurface, xdg_of}
use Rattle.spec_desktop.specs.Pointer.{Target, fixed_from}
use Rattle.spec_desktop.specs.Windows.{Place, Window}
use Rattle.spec_desktop.specs.Changing.{callbacks_of, has_focus, placement_now}
use Rattle.spec_desktop.specs.Demand.{Demand, Asks, EndSurface, CommitTree, EndSubsurface, GetPointer, Reposition, EndPopup}
use Rattle.spec_desktop.specs.Demand.{EndToplevel}
use Rattle.spec_desktop.specs.Demanding.{effect_of_commit}
use Rattle.spec_desktop.specs.Desktop.{Desktop, Resident}
use Rattle.spec_desktop.specs.Step.{answers_to, each_once, toplevel_configured, xdg_configured}

-- ---- configures

-- xdg_popup.configure: its place relative to its parent's window geometry, and its size
abbrev pub popup_configured : ℕ → Placed → Said
popup_configured id p = said id (says XdgPopup 0 (Number p.x ∷ Number p.y ∷ Number p.w ∷ Number p.h ∷ []))

abbrev pub popup_told : ℕ → Option Placed → List Said
popup_told id None = []
popup_told id (Some p) = popup_configured id p ∷ []

abbrev pub role_told : ℕ → Resident → Desktop → ℕ → Kind → List Said
role_told c r d id Toplevel = toplevel_configured id ∷ []
role_told c r d id (IsPopup popup) = popup_told id (placement_now c r d popup)

abbrev pub configure_told : ℕ → Resident → Desktop → ℕ → Option RoleObject → List Said
configure_told c r d xdg None = []
configure_told c r d xdg (Some object) = role_told c r d object.id object.kind ++ xdg_configured xdg r.peer.serial ∷ []

-- a commit that configures: of the role object, and then of the xdg_surface
abbrev pub commit_told : ℕ → Effect → Option XdgSurface → Resident → Desktop → List Said
commit_told c Configures (Some x) r d = configure_told c r d x.id x.role
commit_told c effect x r d = []

-- a popup that is configured anew: with the token, where it will stand, and then the configure of the xdg_surface
abbrev pub reposition_told : ℕ → Resident → Desktop → ℕ → Positioner → Option Popped → List Said
reposition_told c r d token positioner None = []
reposition_told c r d token positioner (Some p) =
    if is_configured p
    then said p.object.id (says XdgPopup 2 (Word token ∷ [])) ∷ popup_told p.object.id (placement_now c r d (copying positioner p.popup))
    ++ xdg_configured p.xdg.id r.peer.serial ∷ []
    else []

-- ---- the pointer comes to a surface

abbrev pub focus_window : Option Target → List Window → Option Window
focus_window None windows = None
focus_window (Some t) windows = find (λ w. (w.owner.client == t.client) && (w.surface == t.surface)) windows

-- wl_pointer.enter: the point relative to the surface's corner
abbrev pub enter_told : ℕ → ℕ → ℕ → Place → Place → Said
enter_told pointer serial surface at corner =
    said pointer (says WlPointer 0 (Word serial ∷ Word surface ∷ Number (fixed_from at.x corner.x) ∷ Number
    (fixed_from at.y corner.y) ∷ []))

abbrev pub entered_at : ℕ → ℕ → Option Place → Option Window → List Said
entered_at pointer serial None w = []
entered_at pointer serial (Some at) None = []
entered_at pointer serial (Some at) (Some w) = enter_told pointer serial w.surface at w.corner ∷ []

abbrev pub new_pointer_told : Bool → ℕ → ℕ → List Window → Desktop → List Said
new_pointer_told false pointer serial windows d = []
new_pointer_told true pointer serial windows d = entered_at pointer serial d.pointer.place (focus_window d.pointer.focus windows)

-- ---- the request's own answer, and the ids that are given back

abbrev pub own_answers : ℕ → Demand → Resident → List Window → Desktop → List Said
own_answers c (Asks ask) r windows d = answers_to ask r
own_answers c (EndSurface id) r windows d = id_deleted id ∷ map (λ callback. id_deleted callback.id) (callbacks_of id r)
own_answers c (CommitTree surface) r windows d = commit_told c (effect_of_commit r surface) (xdg_of surface r.owned.shell) r d
own_answers c (Reposition xdg token p) r windows d = reposition_told c r d token p (popup_at xdg r.owned.shell)
own_answers c (EndSubsurface id) r windows d = id_deleted id ∷ []
own_answers c (GetPointer id version) r windows d = new_pointer_told (has_focus c d.pointer.focus) id r.peer.serial windows d
own_answers c (EndPopup id xdg) r windows d = id_deleted id ∷ []
own_answers c (EndToplevel id xdg surface) r windows d = id_deleted id ∷ []
own_answers c demand r windows d = []

-- ---- releases

-- the buffers that a surface shows or will show
abbrev pub buffers_shown : History → List Buffer
buffers_shown h = listed (held h).buffer ++ listed (applied h).buffer

abbrev pub buffers_busy : Surfaces → List Buffer
buffers_busy all = each_once (flat_map (λ s. buffers_shown s.history) all.surfaces)

-- its wl_buffer lives
abbrev pub is_same_buffer : ℕ → Option ℕ → Bool
is_same_buffer number None = false
is_same_buffer number (Some other) = other == number

abbrev pub has_object : Resident → Buffer → Bool
has_object r b = is_same_buffer b.number (option_map (λ made. made.number) (r.peer.buffers b.object))

abbrev pub by_object : Buffer → List Buffer → List Buffer
by_object b [] = b ∷ []
by_object b (other ∷ others) = if nat_lt b.object other.object then b ∷ other ∷ others else other ∷ by_object b others

-- wl_buffer.release: each buffer that was busy and isn't any more, by rising id, where its wl_buffer lives
abbrev pub releases : Resident → Resident → List Said
releases old new =
    map (λ b. said b.object (says WlBuffer 0 []))
    (fold (λ bs b. by_object b bs) [] (filter (λ b. not (is_busy b.number new.owned.surfaces) && has_object new b)
    (buffers_busy old.owned.surfaces)))

-- ---- dismissed popups

abbrev pub dismissed_in : Shell → List ℕ
dismissed_in shell = flat_map (λ p. if p.popup.is_dismissed then p.object.id ∷ [] else []) (popups_of shell)

abbrev pub newest_first : List ℕ → List ℕ
newest_first ids = fold (λ later id. id ∷ later) [] ids

-- xdg_popup.popup_done: each popup that is dismissed and wasn't, the newest first
abbrev pub popups_done : Resident → Resident → List Said
popups_done old new =
    map (λ id. said id (says XdgPopup 1 []))
    (filter (λ id. not (is_among id (dismissed_in old.owned.shell))) (newest_first (dismissed_in new.owned.shell)))

-- all that a client is told of its own message
abbrev pub replies : ℕ → Demand → Resident → Resident → List Window → Desktop → List Said
replies c demand old new windows d = own_answers c demand old windows d ++ releases old new ++ popups_done old new

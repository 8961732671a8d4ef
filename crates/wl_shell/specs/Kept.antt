-- What is kept of the xdg_surfaces of a client, as plain values, and for what of the definition it stands.
use Rattle.std.specs.Option.{option_map, option_map_or}
use Rattle.std.specs.Map.{lookup}
use Rattle.std.specs.Ordering.{nat_cmp, is_eq}
use Rattle.std.specs.Prelude.{ℕ, ℤ, pos, ◌≡◌, ◌≤◌, ◌==◌, ◌&&◌, ◌||◌, not, int_lt, Bool, true, false, if◌then◌else◌, is_some, Option, Some}
use Rattle.std.specs.Prelude.{None, Result, Ok, Err, List, [], ◌∷◌, ◌++◌, drop, fold, length}
use Rattle.wl_geom.specs.declared.rect.Rect.{Rect}
use Rattle.wl_surface.specs.State.{History, geometry, geometry_asked}
use Rattle.wl_shell.specs.declared.acts.ShellAct.{ShellAct}
use Rattle.wl_shell.specs.declared.acts.ShellAct.TheVariants.{Configure as Configured, Map, Nothing, Place, Unmap}
use Rattle.wl_shell.specs.declared.error.ShellError.{ShellError}
use Rattle.wl_shell.specs.declared.error.ShellError.TheVariants as error
use Rattle.wl_shell.specs.declared.popup.PopupChange.{PopupChange}
use Rattle.wl_shell.specs.declared.popup.PopupChange.TheVariants as change
use Rattle.wl_shell.specs.declared.role_object.Kind.{Kind as KeptKind}
use Rattle.wl_shell.specs.declared.role_object.Kind.TheVariants as kept
use Rattle.wl_shell.specs.declared.stage.Stage.{Stage}
use Rattle.wl_shell.specs.declared.xdg_surface.Toplevel.{Toplevel as KeptToplevel}
use Rattle.wl_shell.specs.Popups.{arrive, copying, dismiss, effect_in, in_force, is_mapped_stage, orphan, popup_in, popup_object}
use Rattle.wl_shell.specs.Popups.{unmapped, waiting_in, with_grab, with_popup_role}
use Rattle.wl_shell.specs.Positioner.{Placed, Positioner, is_complete, place}
use Rattle.wl_shell.specs.Shell.{Configure, Effect, Stays, Unconfigured, Configures, Maps, Unmaps, Fresh, Waiting, Mapped, Kind}
use Rattle.wl_shell.specs.Shell.{Toplevel, IsPopup, Popup, RoleObject, XdgSurface, answers_states, at_stage, is_full, is_waiting}
use Rattle.wl_shell.specs.Shell.{later_than, role_acknowledged, up_to}

-- An xdg_surface: its id, the xdg_wm_base that made it, its role object, its configures that wait, the earliest first, and its window
-- geometry: the last one that was asked, and the one that counts.
pub record Kept : Type 0 where
  pub id : ℕ
  pub base : ℕ
  pub role : Option RoleObject
  pub configures : List Configure
  pub pending : Option Rect
  pub applied : Option Rect

-- ---- role objects

abbrev pub kind_of : KeptKind → Kind
kind_of kept.Toplevel = Toplevel
kind_of (kept.Popup popup) = IsPopup popup

-- a new toplevel
abbrev pub toplevel_object : ℕ → RoleObject
toplevel_object id = record { id = id; kind = Toplevel; stage = Fresh }

-- what happens to a popup
abbrev pub popup_by : PopupChange → Popup → Popup
popup_by (change.Place placement) popup = in_force placement popup
popup_by (change.Arrive placed) popup = arrive placed popup
popup_by (change.Copy positioner) popup = copying positioner popup
popup_by change.Grab popup = with_grab popup
popup_by change.Unmap popup = unmapped popup
popup_by change.Dismiss popup = dismiss popup
popup_by (change.Orphan xdg) popup = orphan xdg popup

abbrev pub kind_toplevel : RoleObject → Kind → Option KeptToplevel
kind_toplevel object Toplevel = Some (record { id = object.id; stage = object.stage })
kind_toplevel object (IsPopup popup) = None

-- the toplevel that a role object is
abbrev pub toplevel_in : Option RoleObject → Option KeptToplevel
toplevel_in None = None
toplevel_in (Some object) = kind_toplevel object object.kind

abbrev pub stage_in : Kept → Option Stage
stage_in k = option_map (λ object. object.stage) k.role

-- the xdg_surfaces by the numbers of their surfaces
abbrev pub Book : Type 0
Book = List (ℕ × Kept)

abbrev pub kept_of : Book → ℕ → Option Kept
kept_of book = λ surface. lookup (λ key. is_eq (nat_cmp surface key)) book

-- one surface has this, and each other one what it had
abbrev pub with_kept : ℕ → Option Kept → (ℕ → Option Kept) → ℕ → Option Kept
with_kept surface k kept = λ other. if other == surface then k else kept other

abbrev pub changing : ℕ → (Kept → Kept) → (ℕ → Option Kept) → ℕ → Option Kept
changing surface change kept = with_kept surface (option_map change (kept surface)) kept

-- it was made by this xdg_wm_base
abbrev pub is_of_base : ℕ → ℕ × Kept → Bool
is_of_base base entry = entry.1.base == base

-- ---- what each call makes of it

abbrev pub first_kept : ℕ → ℕ → Kept
first_kept id base = record { id = id; base = base; role = None; configures = []; pending = None; applied = None }

-- what was asked is forgotten, and so are the configures
abbrev pub kept_forgetting : Kept → Kept
kept_forgetting k = record k { configures = []; pending = None; applied = None }

abbrev pub kept_toplevel : ℕ → Kept → Kept
kept_toplevel id k = record (kept_forgetting k) { role = Some (toplevel_object id) }

abbrev pub kept_popup : ℕ → ℕ → Positioner → ℕ → Kept → Kept
kept_popup id parent positioner number k = record (kept_forgetting k) { role = Some (popup_object id parent positioner number) }

abbrev pub kept_asking : Rect → Kept → Kept
kept_asking rect k = record k { pending = Some rect }

abbrev pub kept_acknowledging : ℕ → Kept → Kept
kept_acknowledging serial k =
    record k { role = option_map (role_acknowledged (up_to serial k.configures)) k.role; configures = later_than serial k.configures }

-- one configure more waits, which places its popup there once it is acknowledged and committed
abbrev pub kept_configuring_with : ℕ → Option Placed → Kept → Kept
kept_configuring_with serial placement k = record k { configures = k.configures ++ record { serial = serial; placement = placement } ∷ [] }

-- one that places no popup, or whose placement is in force already
abbrev pub kept_configuring : ℕ → Kept → Kept
kept_configuring serial k = kept_configuring_with serial None k

abbrev pub kept_without_role : Kept → Kept
kept_without_role k = record (kept_forgetting k) { role = None }

-- what is pending counts
abbrev pub kept_applied : Kept → Kept
kept_applied k = record k { applied = k.pending }

abbrev pub kept_in_stage : Stage → Kept → Kept
kept_in_stage stage k = record k { role = option_map (at_stage stage) k.role }

-- its popup changes, if it has one
abbrev pub kept_changed : (Popup → Popup) → Kept → Kept
kept_changed change k = record k { role = option_map (with_popup_role change) k.role }

abbrev pub kept_unmapping : Kept → Kept
kept_unmapping k = kept_changed unmapped (kept_in_stage Fresh (kept_forgetting k))

-- a placement that waits comes into force, if one does
abbrev pub kept_arriving : Option Placed → Kept → Kept
kept_arriving None k = k
kept_arriving (Some placed) k = kept_changed (arrive placed) k

abbrev pub kept_after : ℕ → ShellAct → Kept → Kept
kept_after serial (Configured placed) k =
    kept_configuring serial (kept_changed (in_force placed) (kept_in_stage Waiting (kept_applied k)))
kept_after serial Map k = kept_in_stage Mapped (kept_arriving (waiting_in k.role) (kept_applied k))
kept_after serial (Place placed) k = kept_arriving (Some placed) (kept_applied k)
kept_after serial Unmap k = kept_unmapping k
kept_after serial Nothing k = kept_applied k

-- a popup that isn't dismissed has a grab
abbrev pub grabbing : Popup → Popup
grabbing popup = if popup.is_dismissed then popup else with_grab popup

abbrev pub kept_grabbing : Bool → Kept → Kept
kept_grabbing true k = kept_changed grabbing k
kept_grabbing false k = k

-- ---- what each call answers; the first error of its kind

-- xdg_wm_base.get_xdg_surface
abbrev pub making_refused : Bool → Bool → Option Kept → Option ShellError
making_refused has_other_role has_content k =
    if has_other_role || is_some k then Some error.Role else (if has_content then Some error.InvalidSurfaceState else None)

-- xdg_surface.get_toplevel
abbrev pub toplevel_answer : Bool → Option Kept → Result Unit ShellError
toplevel_answer has_other_role None = Err error.NotConstructed
toplevel_answer has_other_role (Some k) =
    if is_some k.role then Err error.AlreadyConstructed else (if has_other_role then Err error.Role else Ok tt)

-- xdg_surface.get_popup: whether its parent has a role object, and by its positioner
abbrev pub popup_answer : Bool → Bool → Positioner → Option Kept → Result Unit ShellError
popup_answer has_other_role has_parent positioner None = Err error.NotConstructed
popup_answer has_other_role has_parent positioner (Some k) =
    if is_some k.role then Err error.AlreadyConstructed else (
    if has_other_role then Err error.Role else (
    if has_parent then (if is_complete positioner then Ok tt else Err error.InvalidPositioner) else Err error.InvalidPopupParent))

-- a request that wants a role object
abbrev pub with_role_object : Option Kept → Result Unit ShellError → Result Unit ShellError
with_role_object None answer = Err error.NotConstructed
with_role_object (Some k) answer = if is_some k.role then answer else Err error.NotConstructed

-- xdg_surface.set_window_geometry
abbrev pub geometry_answer : Rect → Option Kept → Result Unit ShellError
geometry_answer rect k =
    with_role_object k (if int_lt (pos 0) rect.w && int_lt (pos 0) rect.h then Ok tt else Err error.InvalidSize)

abbrev pub configures_in : Option Kept → List Configure
configures_in None = []
configures_in (Some k) = k.configures

-- xdg_surface.ack_configure
abbrev pub acknowledgement_answer : ℕ → Option Kept → Result Unit ShellError
acknowledgement_answer serial k =
    with_role_object k (if is_waiting serial (configures_in k) then Ok tt else Err error.InvalidSerial)

-- xdg_surface.destroy
abbrev pub destruction_answer : Option Kept → Result Unit ShellError
destruction_answer None = Ok tt
destruction_answer (Some k) = if is_some k.role then Err error.DefunctRoleObject else Ok tt

-- xdg_popup.grab: whether it is allowed. True where it is taken, or where nothing is done; false where the popup is to be dismissed.
abbrev pub grab_by : Bool → Stage → Option Popup → Result Bool ShellError
grab_by allowed stage None = Ok true
grab_by allowed stage (Some popup) =
    if popup.is_dismissed then Ok true else (if is_mapped_stage stage then Err error.InvalidGrab else Ok allowed)

abbrev pub grab_in : Bool → Option RoleObject → Result Bool ShellError
grab_in allowed None = Ok true
grab_in allowed (Some object) = grab_by allowed object.stage (popup_in (Some object))

abbrev pub grab_answer : Bool → Option Kept → Result Bool ShellError
grab_answer allowed None = Ok true
grab_answer allowed (Some k) = grab_in allowed k.role

-- where a popup is placed within the bounds, its parent's window geometry standing there; a toplevel is placed nowhere
abbrev pub popup_placed : Rect → ℤ × ℤ → Option Popup → Option Placed
popup_placed bounds parent_at None = None
popup_placed bounds parent_at (Some popup) = place popup.positioner bounds parent_at

abbrev pub placement_in : Rect → ℤ × ℤ → Option RoleObject → Option Placed
placement_in bounds parent_at role = popup_placed bounds parent_at (popup_in role)

-- a commit that changes no stage: the placement that waits comes into force, if one does
abbrev pub arrival : Option Placed → ShellAct
arrival None = Nothing
arrival (Some placed) = Place placed

-- wl_surface.commit, by what it comes to, where a popup is placed now, and the placement that waits
abbrev pub effect_answer : Option Placed → Option Placed → Effect → List Configure → Result ShellAct ShellError
effect_answer placed waiting Stays configures = Ok (arrival waiting)
effect_answer placed waiting Unconfigured configures = Err error.UnconfiguredBuffer
effect_answer placed waiting Configures configures = if is_full configures then Err error.TooMany else Ok (Configured placed)
effect_answer placed waiting Maps configures = Ok Map
effect_answer placed waiting Unmaps configures = Ok Unmap

abbrev pub commit_answer : Bool → Rect → ℤ × ℤ → Option Kept → Result ShellAct ShellError
commit_answer has_buffer bounds parent_at None = Ok Nothing
commit_answer has_buffer bounds parent_at (Some k) =
    effect_answer (placement_in bounds parent_at k.role) (waiting_in k.role) (effect_in has_buffer k.role) k.configures

-- xdg_toplevel.set_maximized and the like
abbrev pub stage_configured : Option Stage → List Configure → Result Bool ShellError
stage_configured None configures = Ok false
stage_configured (Some stage) configures =
    if answers_states stage then (if is_full configures then Err error.TooMany else Ok true) else Ok false

abbrev pub configure_answer : Option Kept → Result Bool ShellError
configure_answer None = Ok false
configure_answer (Some k) = stage_configured (stage_in k) k.configures

abbrev pub kept_configured : Bool → ℕ → Kept → Kept
kept_configured true serial k = kept_configuring serial k
kept_configured false serial k = k

-- xdg_popup.reposition: its popup was configured before, and isn't dismissed
abbrev pub kind_configured : Stage → Kind → Bool
kind_configured stage Toplevel = false
kind_configured stage (IsPopup popup) = answers_states stage && not popup.is_dismissed

abbrev pub is_configured_in : Option RoleObject → Bool
is_configured_in role = option_map_or (λ object. kind_configured object.stage object.kind) role false

-- where such a popup is placed anew by this positioner; nowhere where it isn't configured
abbrev pub placed_anew : Bool → Option Placed → Option Placed
placed_anew true placed = placed
placed_anew false placed = None

abbrev pub reposition_by : Bool → Positioner → Option Placed → List Configure → Result (Option Placed) ShellError
reposition_by is_configured positioner placed configures =
    if is_configured && is_full configures then Err error.TooMany else (
    if is_complete positioner then Ok (placed_anew is_configured placed) else Err error.InvalidPositioner)

-- xdg_popup.reposition by this positioner, the parent's window geometry standing at `parent_at`; nothing is done where there is no popup
abbrev pub reposition_answer : Positioner → Rect → ℤ × ℤ → Option Kept → Result (Option Placed) ShellError
reposition_answer positioner bounds parent_at None = Ok None
reposition_answer positioner bounds parent_at (Some k) =
    if is_some (popup_in k.role)
    then reposition_by (is_configured_in k.role) positioner (place positioner bounds parent_at) k.configures
    else Ok None

-- the positioner is copied; where the popup is placed anew a configure waits that places it there
abbrev pub kept_repositioning : Option Placed → ℕ → Positioner → Kept → Kept
kept_repositioning None serial positioner k = kept_changed (copying positioner) k
kept_repositioning (Some placed) serial positioner k = kept_configuring_with serial (Some placed) (kept_changed (copying positioner) k)

-- ---- what it stands for

-- What is kept stands for an xdg_surface whose surface has this history. A window geometry can be asked, and counts, only while there is a
-- role object; without one nothing is said of it.
pub record Stands (k : Kept) (x : XdgSurface) (h : History) : Type 0 where
  pub id : k.id ≡ x.id
  pub base : k.base ≡ x.base
  pub role : k.role ≡ x.role
  pub configures : k.configures ≡ x.configures
  pub pending : is_some x.role ≡ true → k.pending ≡ fold geometry_asked None (drop x.since h.requests)
  pub applied : is_some x.role ≡ true → k.applied ≡ geometry x.since h
  pub since_le : x.since ≤ length h.requests
  pub cut_le : h.cut ≤ length h.requests

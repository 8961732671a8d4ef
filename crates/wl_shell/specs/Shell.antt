-- The states of xdg surfaces (xdg-shell.xml, xdg_surface, xdg_toplevel and xdg_popup).
use Rattle.std.specs.Option.{option_map, option_or}
use Rattle.std.specs.Prelude.{ℕ, ◌+◌, ◌==◌, nat_le, Bool, true, false, not, cond, if◌then◌else◌, Option, Some, None, List, [], ◌∷◌, ◌++◌}
use Rattle.std.specs.Prelude.{length, find, fold, map, filter}
use Rattle.std.specs.List.{list_any}
use Rattle.wl_shell.specs.Positioner.{Placed, Positioner}
use Rattle.wl_shell.specs.declared.acts.Configure as declared
use Rattle.wl_shell.specs.declared.stage.Stage.{Stage}
use Rattle.wl_shell.specs.declared.stage.Stage.TheVariants as stage

-- How far a role object is: nothing was configured; a configure is to be acknowledged; one was; its surface is mapped.
abbrev pub Fresh : Stage
Fresh = stage.Fresh

abbrev pub Waiting : Stage
Waiting = stage.Waiting

abbrev pub Ready : Stage
Ready = stage.Ready

abbrev pub Mapped : Stage
Mapped = stage.Mapped

-- A popup: the xdg_surface of its parent, unless that toplevel is gone, the copy of its positioner, where it stands, where it was placed by
-- configures that were acknowledged since, if it was, whether it was dismissed, whether it has a grab, and its number among the popups in
-- order of creation.
pub record Popup : Type 0 where
  pub parent : Option ℕ
  pub positioner : Positioner
  pub placement : Option Placed
  pub waiting : Option Placed
  pub is_dismissed : Bool
  pub has_grab : Bool
  pub number : ℕ

pub data Kind : Type 0 where
  Toplevel : Kind
  IsPopup : Popup → Kind

-- the role object of an xdg_surface, by its id
pub record RoleObject : Type 0 where
  pub id : ℕ
  pub kind : Kind
  pub stage : Stage

-- A configure that waits to be acknowledged: its serial, and where it places its popup once it is acknowledged and committed, if it does
-- so. The first configure of a popup doesn't: its placement is in force at once (xdg-shell.xml, xdg_surface.configure,
-- xdg_popup.reposition).
abbrev pub Configure : Type 0
Configure = declared.Configure

-- An xdg_surface by its id: the xdg_wm_base that made it, its surface, its role object, if there is one, its configures that weren't
-- acknowledged, the earliest first, and the place in its surface's list from which on a window geometry counts.
pub record XdgSurface : Type 0 where
  pub id : ℕ
  pub base : ℕ
  pub surface : ℕ
  pub role : Option RoleObject
  pub configures : List Configure
  pub since : ℕ

-- the xdg_surfaces of a client in order of creation
abbrev pub Shell : Type 0
Shell = List XdgSurface

abbrev pub xdg_at : ℕ → Shell → Option XdgSurface
xdg_at id shell = find (λ x. x.id == id) shell

-- the xdg_surface of a surface
abbrev pub xdg_of : ℕ → Shell → Option XdgSurface
xdg_of surface shell = find (λ x. x.surface == surface) shell

abbrev pub is_role : ℕ → Option RoleObject → Bool
is_role id None = false
is_role id (Some object) = object.id == id

-- the xdg_surface that has this role object
abbrev pub xdg_with : ℕ → Shell → Option XdgSurface
xdg_with object shell = find (λ x. is_role object x.role) shell

abbrev pub with_new : ℕ → ℕ → ℕ → Shell → Shell
with_new id base surface shell =
    shell ++ record { id = id; base = base; surface = surface; role = None; configures = []; since = 0 } ∷ []

abbrev pub without_xdg : ℕ → Shell → Shell
without_xdg id shell = filter (λ x. not (x.id == id)) shell

-- the xdg_surface of this id changes, and no other
abbrev pub with_change : ℕ → (XdgSurface → XdgSurface) → Shell → Shell
with_change id change shell = map (λ x. cond (x.id == id) (change x) x) shell

abbrev pub stage_of : XdgSurface → Option Stage
stage_of x = option_map (λ object. object.stage) x.role

abbrev pub at_stage : Stage → RoleObject → RoleObject
at_stage stage object = record object { stage = stage }

abbrev pub in_stage : Stage → XdgSurface → XdgSurface
in_stage stage x = record x { role = option_map (at_stage stage) x.role }

-- what a commit comes to
pub data Effect : Type 0 where
  -- nothing
  Stays : Effect
  -- unconfigured_buffer
  Unconfigured : Effect
  -- the role object's configure and that of the xdg_surface are sent
  Configures : Effect
  Maps : Effect
  -- the window geometry is unset and the configures are forgotten
  Unmaps : Effect

-- A commit by the stage of the role object, and whether the state that it would give has a buffer (xdg-shell.xml, xdg_surface: the initial
-- commit, and mapping).
abbrev pub on_commit : Option Stage → Bool → Effect
on_commit None false = Stays
on_commit None true = Unconfigured
on_commit (Some stage.Fresh) false = Configures
on_commit (Some stage.Fresh) true = Unconfigured
on_commit (Some stage.Waiting) false = Stays
on_commit (Some stage.Waiting) true = Unconfigured
on_commit (Some stage.Ready) false = Stays
on_commit (Some stage.Ready) true = Maps
on_commit (Some stage.Mapped) false = Unmaps
on_commit (Some stage.Mapped) true = Stays

-- the stage after an acknowledgement: one that waits is ready
abbrev pub acknowledged : Stage → Stage
acknowledged stage.Fresh = Fresh
acknowledged stage.Waiting = Ready
acknowledged stage.Ready = Ready
acknowledged stage.Mapped = Mapped

-- An acknowledgement forgets the latest configure of its serial and those before it; no other serial may be acknowledged
-- (xdg-shell.xml, xdg_surface.ack_configure).
abbrev pub is_waiting : ℕ → List Configure → Bool
is_waiting serial configures = list_any (λ c. c.serial == serial) configures

abbrev pub later_than : ℕ → List Configure → List Configure
later_than serial [] = []
later_than serial (c ∷ cs) =
    if is_waiting serial cs then later_than serial cs else (if c.serial == serial then cs else c ∷ later_than serial cs)

-- the configures that an acknowledgement forgets
abbrev pub up_to : ℕ → List Configure → List Configure
up_to serial [] = []
up_to serial (c ∷ cs) = if is_waiting serial cs then c ∷ up_to serial cs else (if c.serial == serial then c ∷ [] else [])

-- an xdg_surface has at most 64 configures that weren't acknowledged
abbrev pub is_full : {A : Type 0} → List A → Bool
is_full configures = nat_le 64 (length configures)

-- A configure is answered to a request for another state where one was configured before (xdg-shell.xml, xdg_toplevel.set_maximized).
abbrev pub answers_states : Stage → Bool
answers_states stage.Fresh = false
answers_states stage.Waiting = true
answers_states stage.Ready = true
answers_states stage.Mapped = true

-- serials are one counter of a client: after 4,294,967,295 comes 1
abbrev pub next_serial : ℕ → ℕ
next_serial serial = if serial == 4294967295 then 1 else serial + 1

-- ---- what each change makes of an xdg_surface

-- a configure waits to be acknowledged
abbrev pub configuring_with : ℕ → Option Placed → XdgSurface → XdgSurface
configuring_with serial placement x = record x { configures = x.configures ++ record { serial = serial; placement = placement } ∷ [] }

abbrev pub configuring : ℕ → XdgSurface → XdgSurface
configuring serial x = configuring_with serial None x

-- The configures are forgotten, and no window geometry counts that was asked before this place.
abbrev pub forgetting : ℕ → XdgSurface → XdgSurface
forgetting since x = record x { configures = []; since = since }

abbrev pub unmapping : ℕ → XdgSurface → XdgSurface
unmapping since x = in_stage Fresh (forgetting since x)

abbrev pub new_toplevel : ℕ → ℕ → XdgSurface → XdgSurface
new_toplevel id since x = record x { role = Some (record { id = id; kind = Toplevel; stage = Fresh }); configures = []; since = since }

-- a role object goes, and the configures with it
abbrev pub without_role : XdgSurface → XdgSurface
without_role x = record x { role = None; configures = [] }

-- of the placements of configures that are acknowledged the latest waits for the next commit
abbrev pub latest_placement : Option Placed → List Configure → Option Placed
latest_placement waiting configures = fold (λ latest c. option_or c.placement latest) waiting configures

abbrev pub awaiting : List Configure → Kind → Kind
awaiting configures Toplevel = Toplevel
awaiting configures (IsPopup popup) = IsPopup (record popup { waiting = latest_placement popup.waiting configures })

abbrev pub role_acknowledged : List Configure → RoleObject → RoleObject
role_acknowledged configures object = record object { kind = awaiting configures object.kind; stage = acknowledged object.stage }

abbrev pub acknowledging : ℕ → XdgSurface → XdgSurface
acknowledging serial x =
    record x { role = option_map (role_acknowledged (up_to serial x.configures)) x.role; configures = later_than serial x.configures }

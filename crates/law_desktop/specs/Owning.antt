-- What is kept of a client's surfaces and xdg_surfaces, under the numbers of the surfaces, and what the client owns, by ids.
use Rattle.std.specs.Prelude.{ℕ, ◌≡◌, ◌==◌, Bool, true, false, if◌then◌else◌, is_some, Option, Some, None, Result, Ok, Err, All}
use Rattle.std.specs.Prelude.{find, length}
use Rattle.std.specs.Option.{option_and_then, option_map_or}
use Rattle.wl_proto.specs.declared.interface.Interface.{Interface}
use Rattle.wl_proto.specs.declared.interface.Interface.TheVariants.{WlSurface, XdgSurface, XdgToplevel}
use Rattle.wl_table.specs.Objects.{Held, entry_of}
use Rattle.wl_table.specs.declared.entry.Entry.{Entry}
use Rattle.spec_desktop.specs.declared.refusals.ErrorCode.TheVariants as error
use Rattle.spec_desktop.specs.declared.refusals.Refusal.{Refusal}
use Rattle.spec_desktop.specs.Told.{display_error}
use Rattle.spec_desktop.specs.Objects.{ById, interface_number, with_id}
use Rattle.wl_links.specs.Family.{Tied, is_there}
use Rattle.wl_surface.specs.Slots.{Numbered, Slots, StandForAll, count as count_kept}
use Rattle.wl_surface.specs.State.{History}
use Rattle.wl_surface.specs.Surfaces.{Surfaces, history_in, surface_at}
use Rattle.wl_surface.specs.Hanging.{Hang}
use Rattle.law_desktop.specs.Renaming.{HasEnds, renamed}
use Rattle.wl_shell.specs.Agreement.{IsShell}
use Rattle.wl_shell.specs.Kept.{Kept, Stands}
use Rattle.wl_shell.specs.declared.acts.ShellAct.{ShellAct}
use Rattle.wl_shell.specs.declared.acts.ShellAct.TheVariants as act
use Rattle.wl_shell.specs.declared.error.ShellError.{ShellError}
use Rattle.wl_shell.specs.declared.error.ShellError.TheVariants as failed
use Rattle.wl_shell.specs.Shell.{Effect, Stays, Configures, Maps, Unmaps, XdgSurface as Xdg, is_role, xdg_at, xdg_of, xdg_with}
use Rattle.spec_desktop.specs.Stacking.{Owned}
use Rattle.spec_desktop.specs.Ask.{Ask, ConfigureAgain, Ignore}
use Rattle.spec_desktop.specs.Step.{is_number}
use Rattle.law_desktop.specs.Apart.{AreApartBy}

-- what an object stands for among those of this interface, if it is one
abbrev pub target_as : Interface → Entry → Option ℕ
target_as interface entry = if interface_number entry.interface == interface_number interface then Some entry.target else None

-- what the objects of this interface stand for, by their ids
abbrev pub targets_in : Interface → Held → ById ℕ
targets_in interface held = λ id. option_and_then (target_as interface) (entry_of held id)

-- the numbers of surfaces that are named: by the ids of wl_surfaces, of their xdg_surfaces, and of the toplevels of those
pub record Names : Type 0 where
  pub surfaces : ById ℕ
  pub shell : ById ℕ
  pub toplevels : ById ℕ

-- those that a table's objects name
abbrev pub names_in : Held → Names
names_in held = record { surfaces = targets_in WlSurface held; shell = targets_in XdgSurface held; toplevels = targets_in XdgToplevel held }

-- a wl_surface, an xdg_surface or a toplevel of this id names another number, or none any more
abbrev pub with_surface : ℕ → Option ℕ → Names → Names
with_surface id number names = record names { surfaces = with_id id number names.surfaces }

abbrev pub with_xdg : ℕ → Option ℕ → Names → Names
with_xdg id number names = record names { shell = with_id id number names.shell }

abbrev pub with_toplevel : ℕ → Option ℕ → Names → Names
with_toplevel id number names = record names { toplevels = with_id id number names.toplevels }

-- each surface under its number
abbrev pub by_number : ById ℕ → Surfaces → Numbered
by_number numbers all = λ number. find (λ s. is_number number (numbers s.id)) all.surfaces

-- what is kept by the ids of the surfaces
abbrev pub by_id : ById ℕ → (ℕ → Option Kept) → ℕ → Option Kept
by_id numbers kept = λ id. option_and_then kept (numbers id)

-- the number of the surface with this id: any, where there is none
abbrev pub number_in : ById ℕ → ℕ → ℕ
number_in numbers id = option_map_or (λ number. number) (numbers id) 0

-- What is kept stands for the surfaces, each under a number of its own, and for how they hang together. The child and the parent of each
-- link that lives are among them.
pub record AreKept (numbers : ById ℕ) (slots : Slots) (tied : Tied) (all : Surfaces) : Type 0 where
  pub ends : All (HasEnds all) all.links
  pub numbered : (id : ℕ) → is_some (numbers id) ≡ is_some (surface_at id all)
  pub once : (a b number : ℕ) → numbers a ≡ Some number → numbers b ≡ Some number → a ≡ b
  pub apart : AreApartBy (λ id s. s.id == id) all.surfaces
  pub stand : StandForAll slots (by_number numbers all)
  pub count : count_kept slots ≡ length all.surfaces
  pub hang : Hang tied (renamed (number_in numbers) all)
  pub there : (number : ℕ) → is_there number tied ≡ true → (id : ℕ) × (numbers id ≡ Some number)

-- the number of the surface of an xdg_surface
abbrev pub number_of : ById ℕ → Option Xdg → Option ℕ
number_of numbers x = option_and_then (λ x. numbers x.surface) x

-- What is kept stands for what a client owns. An xdg_surface and a toplevel name the number of their surface, and only a surface has
-- something of the shell's under its number.
pub record IsOwned (names : Names) (slots : Slots) (tied : Tied) (kept : ℕ → Option Kept) (o : Owned) : Type 0 where
  pub surfaces : AreKept names.surfaces slots tied o.surfaces
  pub shell : IsShell (by_id names.surfaces kept) (λ id. history_in id o.surfaces) o.shell
  pub known : (number : ℕ) → is_some (kept number) ≡ true → (id : ℕ) × (names.surfaces id ≡ Some number)
  pub named : (id : ℕ) → names.shell id ≡ number_of names.surfaces (xdg_at id o.shell)
  pub toplevels : (id : ℕ) → names.toplevels id ≡ number_of names.surfaces (xdg_with id o.shell)
  pub roles : AreApartBy (λ object x. is_role object x.role) o.shell

-- What is kept under this number stands for this xdg_surface of what a client owns, and its surface has this history.
pub record IsXdg (names : Names) (kept : ℕ → Option Kept) (o : Owned) (number : ℕ) (k : Kept) (x : Xdg) (h : History) : Type 0 where
  pub here : kept number ≡ Some k
  pub surface : names.surfaces x.surface ≡ Some number
  pub of_surface : xdg_of x.surface o.shell ≡ Some x
  pub at_id : xdg_at x.id o.shell ≡ Some x
  pub history : history_in x.surface o.surfaces ≡ Some h
  pub stands : Stands k x h

-- a change of an xdg_surface that leaves its id, its surface and its role object
pub record KeepsRole (step : Xdg → Xdg) : Type 0 where
  pub id : (x : Xdg) → (step x).id ≡ x.id
  pub surface : (x : Xdg) → (step x).surface ≡ x.surface
  pub role : (object : ℕ) (x : Xdg) → is_role object (step x).role ≡ is_role object x.role

-- ---- what is asked, by what the shell answers

-- An error of the shell's with its object: the xdg_wm_base, the xdg_surface, wl_display, or else the object that was asked (xdg-shell.xml).
abbrev pub shell_refusal : ℕ → ℕ → ℕ → ShellError → Refusal
shell_refusal base xdg object failed.Role = record { object = base; code = error.Role }
shell_refusal base xdg object failed.DefunctSurfaces = record { object = base; code = error.DefunctSurfaces }
shell_refusal base xdg object failed.NotTheTopmostPopup = record { object = base; code = error.NotTheTopmostPopup }
shell_refusal base xdg object failed.InvalidPopupParent = record { object = base; code = error.InvalidPopupParent }
shell_refusal base xdg object failed.InvalidSurfaceState = record { object = base; code = error.InvalidSurfaceState }
shell_refusal base xdg object failed.InvalidPositioner = record { object = base; code = error.InvalidPositioner }
shell_refusal base xdg object failed.NotConstructed = record { object = xdg; code = error.NotConstructed }
shell_refusal base xdg object failed.AlreadyConstructed = record { object = xdg; code = error.AlreadyConstructed }
shell_refusal base xdg object failed.UnconfiguredBuffer = record { object = xdg; code = error.UnconfiguredBuffer }
shell_refusal base xdg object failed.InvalidSerial = record { object = xdg; code = error.InvalidSerial }
shell_refusal base xdg object failed.InvalidSize = record { object = xdg; code = error.InvalidSize }
shell_refusal base xdg object failed.DefunctRoleObject = record { object = xdg; code = error.DefunctRoleObject }
shell_refusal base xdg object failed.InvalidGrab = record { object = object; code = error.InvalidGrab }
shell_refusal base xdg object failed.InvalidInput = record { object = object; code = error.InvalidInput }
shell_refusal base xdg object failed.TooMany = display_error error.Implementation
shell_refusal base xdg object failed.Memory = display_error error.NoMemory

-- what an answer leads to
abbrev pub asks_by : {X Y : Type 0} → (X → Y) → (ShellError → Refusal) → Result X ShellError → Result Y Refusal
asks_by ask refusal (Ok x) = Ok (ask x)
asks_by ask refusal (Err e) = Err (refusal e)

-- the same where only an error is told
abbrev pub asks_unless : Ask → (ShellError → Refusal) → Option ShellError → Result Ask Refusal
asks_unless ask refusal None = Ok ask
asks_unless ask refusal (Some e) = Err (refusal e)

-- what a commit came to
abbrev pub effect_by : ShellAct → Effect
effect_by (act.Configure placed) = Configures
effect_by act.Map = Maps
effect_by act.Unmap = Unmaps
effect_by (act.Place placed) = Stays
effect_by act.Nothing = Stays

-- a configure is sent, or nothing is
abbrev pub configuring_if : Bool → ℕ → Ask
configuring_if true xdg = ConfigureAgain xdg
configuring_if false xdg = Ignore

-- the id of an xdg_surface that is kept
abbrev pub kept_id : Option Kept → ℕ
kept_id k = option_map_or (λ k. k.id) k 0

-- the id of the xdg_wm_base that made it
abbrev pub kept_base : Option Kept → ℕ
kept_base k = option_map_or (λ k. k.base) k 0

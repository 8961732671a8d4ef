-- The live objects of a client, and the globals that it may bind.
use Rattle.std.specs.Prelude.{ℕ, ◌==◌, ◌&&◌, Bool, true, false, nat_le, if◌then◌else◌, Option, Some, None, List, [], ◌∷◌, codes, find}
use Rattle.std.specs.Map.{lookup}
use Rattle.std.specs.Option.{option_map}
use Rattle.std.specs.Ordering.{nat_cmp, is_eq}
use Rattle.std.specs.Str.{bytes_eq}
use Rattle.wl_proto.specs.declared.interface.Interface.{Interface}
use Rattle.wl_proto.specs.declared.interface.Interface.TheVariants.{WlDisplay, WlRegistry, WlCallback, WlCompositor, WlRegion}
use Rattle.wl_proto.specs.declared.interface.Interface.TheVariants.{WlSurface, WlShm, WlShmPool, WlBuffer, WlSubcompositor}
use Rattle.wl_proto.specs.declared.interface.Interface.TheVariants.{WlSubsurface, WlOutput, WlSeat, WlPointer, XdgWmBase, XdgPositioner}
use Rattle.wl_proto.specs.declared.interface.Interface.TheVariants.{XdgSurface, XdgToplevel, XdgPopup}
use Rattle.wl_proto.specs.declared.argument.ObjectArg.{ObjectArg}
use Rattle.wl_table.specs.Objects.{Held, entry_of}
use Rattle.wl_table.specs.declared.entry.Entry.{Entry}

-- a live object: its interface, and the version that it was bound at, or that of the object that made it
pub record Object : Type 0 where
  pub interface : Interface
  pub version : ℕ

-- what there is by ids
abbrev pub ById : Type 0 → Type 0
ById X = ℕ → Option X

abbrev pub nothing : {X : Type 0} → ById X
nothing id = None

abbrev pub with_id : {X : Type 0} → ℕ → Option X → ById X → ById X
with_id id x others = λ other. if other == id then x else others other

-- the live objects by their ids
abbrev pub Objects : Type 0
Objects = ById Object

abbrev pub object_of : Entry → Object
object_of entry = record { interface = entry.interface; version = entry.version }

-- an object that stands for nothing with a place
abbrev pub entry_at_version : Interface → ℕ → Entry
entry_at_version interface version = record { interface = interface; version = version; target = 0 }

-- the objects that a table holds
abbrev pub objects_in : Held → Objects
objects_in held = λ id. option_map object_of (entry_of held id)

-- what a map holds
abbrev pub held_at : {X : Type 0} → List (ℕ × X) → ById X
held_at held = λ id. lookup (λ key. is_eq (nat_cmp id key)) held

-- the interfaces have numbers of their own
abbrev pub interface_number : Interface → ℕ
interface_number WlDisplay = 0
interface_number WlRegistry = 1
interface_number WlCallback = 2
interface_number WlCompositor = 3
interface_number WlRegion = 4
interface_number WlSurface = 5
interface_number WlShm = 6
interface_number WlShmPool = 7
interface_number WlBuffer = 8
interface_number WlSubcompositor = 9
interface_number WlSubsurface = 10
interface_number WlOutput = 11
interface_number WlSeat = 12
interface_number WlPointer = 13
interface_number XdgWmBase = 14
interface_number XdgPositioner = 15
interface_number XdgSurface = 16
interface_number XdgToplevel = 17
interface_number XdgPopup = 18

abbrev pub is_of : Interface → Option Object → Bool
is_of interface None = false
is_of interface (Some object) = interface_number object.interface == interface_number interface

-- the objects that name a surface: a wl_surface, an xdg_surface and an xdg_toplevel
abbrev pub is_of_surface : Interface → Bool
is_of_surface WlSurface = true
is_of_surface XdgSurface = true
is_of_surface XdgToplevel = true
is_of_surface interface = false

-- what is held, where it is one of those
abbrev pub of_surface : Option Entry → Option Entry
of_surface None = None
of_surface (Some entry) = if is_of_surface entry.interface then Some entry else None

-- an argument that names an object names a live one of its interface, or is null where it may be
abbrev pub fits : Objects → ObjectArg → Bool
fits objects arg = if arg.id == 0 then arg.nullable else is_of arg.interface (objects arg.id)

-- a global: its name, its interface, and the greatest version that it may be bound at
pub record Global : Type 0 where
  pub name : ℕ
  pub interface : Interface
  pub text : List ℕ
  pub version : ℕ

abbrev pub global : ℕ → Interface → List ℕ → ℕ → Global
global name interface text version = record { name = name; interface = interface; text = text; version = version }

-- the globals in the order in which they are told (wayland.xml, wl_registry.global)
abbrev pub globals : List Global
globals =
    global 1 WlCompositor (codes "wl_compositor") 4 ∷
    global 2 WlSubcompositor (codes "wl_subcompositor") 1 ∷
    global 3 WlShm (codes "wl_shm") 1 ∷
    global 4 WlOutput (codes "wl_output") 1 ∷
    global 5 WlSeat (codes "wl_seat") 1 ∷
    global 6 XdgWmBase (codes "xdg_wm_base") 3 ∷
    []

-- a bind names this global by its name and interface, at one of its versions (wayland.xml, wl_registry.bind)
abbrev pub is_bound : ℕ → List ℕ → ℕ → Global → Bool
is_bound name text version global =
    (name == global.name) && (bytes_eq text global.text && (nat_le 1 version && nat_le version global.version))

abbrev pub bound_interface : ℕ → List ℕ → ℕ → Option Interface
bound_interface name text version = option_map (λ g. g.interface) (find (is_bound name text version) globals)

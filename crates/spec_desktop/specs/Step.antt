-- What an accepted message that touches no more than its own client changes, and with what it is answered.
use Rattle.std.specs.Prelude.{ℕ, ◌==◌, ◌&&◌, Bool, true, false, not, Option, Some, None, List, [], ◌∷◌, length, filter, fold, pos}
use Rattle.std.specs.Option.{option_map, option_map_or}
use Rattle.wl_wire.specs.Wire.{Word, Number, Block}
use Rattle.wl_proto.specs.declared.interface.Interface.{Interface}
use Rattle.wl_proto.specs.declared.interface.Interface.TheVariants.{WlSurface, XdgSurface, XdgToplevel}
use Rattle.wl_proto.specs.Messages.{says}
use Rattle.spec_desktop.specs.declared.actions.Action.{Action}
use Rattle.spec_desktop.specs.Peer.{Peer, made, object_at_version, released, removed, answers_to as own_answers}
use Rattle.spec_desktop.specs.Peer.{takes_memory as own_takes_memory}
use Rattle.spec_desktop.specs.Used.{changed_with}
use Rattle.spec_desktop.specs.Told.{Said, id_deleted, said}
use Rattle.wl_surface.specs.Request.{Buffer, Request}
use Rattle.wl_surface.specs.State.{History}
use Rattle.wl_surface.specs.Surface.{asking, buffers_of, with_role}
use Rattle.wl_surface.specs.Surfaces.{Surfaces, history_in, is_used, with_change, with_new}
use Rattle.wl_surface.specs.declared.role.Role.TheVariants.{Toplevel as AsToplevel}
use Rattle.wl_shell.specs.Shell.{RoleObject, Shell, XdgSurface as Xdg, acknowledging, configuring, new_toplevel, next_serial, xdg_at}
use Rattle.wl_shell.specs.Shell.{without_xdg, with_change as with_xdg_change, with_new as with_new_xdg}
use Rattle.spec_desktop.specs.Ask.{Ask, Own, CreateSurface, AskSurface, EndObject, GetXdgSurface, DestroyXdgSurface, GetToplevel, Acknowledge}
use Rattle.spec_desktop.specs.Ask.{ConfigureAgain, Ignore}
use Rattle.spec_desktop.specs.Desktop.{Resident}

-- ---- what an accepted message changes

abbrev pub with_peer : Peer → Resident → Resident
with_peer peer r = record r { peer = peer }

abbrev pub with_surfaces : Surfaces → Resident → Resident
with_surfaces surfaces r = record r { owned = record r.owned { surfaces = surfaces } }

abbrev pub with_shell : Shell → Resident → Resident
with_shell shell r = record r { owned = record r.owned { shell = shell } }

-- A wl_buffer that goes leaves its store the use of a buffer that a surface has.
abbrev pub own_changed : Action → Resident → Resident
own_changed action r = with_peer (changed_with (λ number. is_used number r.owned.surfaces) action r.peer) r

-- a buffer that no surface has any more, and whose wl_buffer was destroyed, lets its store go
abbrev pub is_number : ℕ → Option ℕ → Bool
is_number number None = false
is_number number (Some other) = other == number

abbrev pub is_over : Resident → Buffer → Bool
is_over r buffer = not (is_number buffer.number (option_map (λ made. made.number) (r.peer.buffers buffer.object)))
    && not (is_used buffer.number r.owned.surfaces)

abbrev pub without_buffer : ℕ → List Buffer → List Buffer
without_buffer number buffers = filter (λ b. not (b.number == number)) buffers

abbrev pub buffers_had : Option History → List Buffer
buffers_had None = []
buffers_had (Some h) = buffers_of h

-- each of them once
abbrev pub each_once : List Buffer → List Buffer
each_once [] = []
each_once (b ∷ bs) = b ∷ without_buffer b.number (each_once bs)

abbrev pub letting_go : List Buffer → Resident → Resident
letting_go buffers r =
    with_peer (record r.peer { stores = fold (λ stores b. released b.store stores) r.peer.stores (filter (is_over r) (each_once buffers)) })
    r

-- of the buffers that a surface had, those that are over let their stores go
abbrev pub after_surface : ℕ → Resident → Resident → Resident
after_surface surface old new = letting_go (buffers_had (history_in surface old.owned.surfaces)) new

-- what is asked of a surface stands at the end of its list
abbrev pub asked_of : ℕ → Request → Resident → Resident
asked_of surface request r = with_surfaces (with_change surface (asking request) r.owned.surfaces) r

abbrev pub xdg_changed : ℕ → (Xdg → Xdg) → Resident → Resident
xdg_changed id change r = with_shell (with_xdg_change id change r.owned.shell) r

-- A configure draws the next serial, which waits to be acknowledged.
abbrev pub configured : ℕ → Resident → Resident
configured id r =
    with_peer (record r.peer { serial = next_serial r.peer.serial }) (xdg_changed id (configuring r.peer.serial) r)

-- how many requests were made of a surface
abbrev pub asked_so_far : ℕ → Resident → ℕ
asked_so_far surface r = option_map_or (λ h. length h.requests) (history_in surface r.owned.surfaces) 0

abbrev pub toplevel_given : ℕ → ℕ → Option Xdg → Resident → Resident
toplevel_given id xdg None r = r
toplevel_given id xdg (Some x) r =
    xdg_changed xdg (new_toplevel id (asked_so_far x.surface r))
    (with_surfaces (with_change x.surface (with_role AsToplevel) r.owned.surfaces) r)

abbrev pub making : Interface → ℕ → ℕ → Resident → Resident
making interface id version r = with_peer (made id (object_at_version interface version) r.peer) r

abbrev pub removing : ℕ → Resident → Resident
removing id r = with_peer (removed id r.peer) r

abbrev pub changed_by : Ask → Resident → Resident
changed_by (Own action) r = own_changed action r
changed_by (CreateSurface id version) r = making WlSurface id version (with_surfaces (with_new id r.owned.surfaces) r)
changed_by (AskSurface id request) r = after_surface id r (asked_of id request r)
changed_by (EndObject id) r = removing id r
changed_by (GetXdgSurface id version base surface) r =
    making XdgSurface id version (with_shell (with_new_xdg id base surface r.owned.shell) r)
changed_by (DestroyXdgSurface id) r = removing id (with_shell (without_xdg id r.owned.shell) r)
changed_by (GetToplevel id version xdg) r = making XdgToplevel id version (toplevel_given id xdg (xdg_at xdg r.owned.shell) r)
changed_by (Acknowledge xdg serial) r = xdg_changed xdg (acknowledging serial) r
changed_by (ConfigureAgain xdg) r = configured xdg r
changed_by Ignore r = r

-- ---- what it is answered with

-- xdg_toplevel.configure: of no size of the compositor's, and activated
abbrev pub toplevel_configured : ℕ → Said
toplevel_configured id =
    said id (says XdgToplevel 0 (Number (pos 0) ∷ Number (pos 0) ∷ Block (4 ∷ 0 ∷ 0 ∷ 0 ∷ []) ∷ []))

-- xdg_surface.configure
abbrev pub xdg_configured : ℕ → ℕ → Said
xdg_configured id serial = said id (says XdgSurface 0 (Word serial ∷ []))

-- the configure of a role object, and then that of its xdg_surface
abbrev pub role_configured : ℕ → ℕ → Option RoleObject → List Said
role_configured serial xdg None = []
role_configured serial xdg (Some object) = toplevel_configured object.id ∷ xdg_configured xdg serial ∷ []

abbrev pub configures_told : ℕ → Option Xdg → List Said
configures_told serial None = []
configures_told serial (Some x) = role_configured serial x.id x.role

abbrev pub answers_to : Ask → Resident → List Said
answers_to (Own action) r = own_answers r.peer.output action
answers_to (EndObject id) r = id_deleted id ∷ []
answers_to (DestroyXdgSurface id) r = id_deleted id ∷ []
answers_to (ConfigureAgain xdg) r = configures_told r.peer.serial (xdg_at xdg r.owned.shell)
answers_to ask r = []

-- what has an effect may run out of memory, but for what takes away
abbrev pub takes_memory : Ask → Bool
takes_memory (Own action) = own_takes_memory action
takes_memory Ignore = false
takes_memory ask = true

-- What is asked of a surface (wayland.xml, wl_compositor.create_surface and wl_surface).
use Rattle.std.specs.Prelude.{ℕ, ℤ, pos, ◌&&◌, nat_le, int_le, unsigned_abs, Bool, true, if◌then◌else◌, Option, Some, None, Result, Ok, Err, List, length}
use Rattle.std.specs.Option.{option_and_then, option_map}
use Rattle.wl_geom.specs.Region.{Change}
use Rattle.spec_desktop.specs.declared.refusals.ErrorCode.{ErrorCode}
use Rattle.spec_desktop.specs.declared.refusals.ErrorCode.TheVariants.{Implementation, InvalidScale, InvalidTransform}
use Rattle.spec_desktop.specs.declared.refusals.Refusal.{Refusal}
use Rattle.spec_desktop.specs.Buffers.{Buffer as Made}
use Rattle.spec_desktop.specs.Told.{display_error}
use Rattle.wl_surface.specs.Request.{Buffer, SetBufferScale, SetBufferTransform}
use Rattle.wl_surface.specs.State.{Values, is_whole, pending}
use Rattle.wl_surface.specs.Surface.{is_there}
use Rattle.wl_surface.specs.Surfaces.{history_in}
use Rattle.spec_desktop.specs.Ask.{Ask, CreateSurface, AskSurface}
use Rattle.spec_desktop.specs.Desktop.{Resident}

abbrev pub refuse : ℕ → ErrorCode → Result Ask Refusal
refuse object code = Err (record { object = object; code = code })

abbrev pub refuse_limit : Result Ask Refusal
refuse_limit = Err (display_error Implementation)

-- wl_compositor.create_surface: a client has at most 256 surfaces
abbrev pub surface_created : Resident → ℕ → ℕ → Result Ask Refusal
surface_created r id version = if nat_le 256 (length r.owned.surfaces.surfaces) then refuse_limit else Ok (CreateSurface id version)

-- the buffer of a wl_buffer
abbrev pub buffer_of : ℕ → Made → Buffer
buffer_of id made =
    record {
      number = made.number;
      object = id;
      store = made.laid.store;
      offset = made.laid.offset;
      width = made.laid.width;
      height = made.laid.height;
      stride = made.laid.stride;
      format = made.laid.format;
    }

-- the buffer that is named, or none for null
abbrev pub buffer_named : Resident → ℕ → Option Buffer
buffer_named r id = option_map (buffer_of id) (r.peer.buffers id)

-- the changes of the region that is named, or none for null: a region is copied when it is set
abbrev pub region_named : Resident → ℕ → Option (List Change)
region_named r id = r.peer.regions id

-- wl_surface.set_buffer_transform: one of 0 to 7
abbrev pub transform_set : ℕ → ℤ → Result Ask Refusal
transform_set object z =
    if int_le (pos 0) z && int_le z (pos 7) then Ok (AskSurface object (SetBufferTransform (unsigned_abs z))) else refuse object
    InvalidTransform

-- wl_surface.set_buffer_scale: 1 or more
abbrev pub scale_set : ℕ → ℤ → Result Ask Refusal
scale_set object z = if int_le (pos 1) z then Ok (AskSurface object (SetBufferScale (unsigned_abs z))) else refuse object InvalidScale

-- the state that a commit would give has a buffer
abbrev pub will_show : Resident → ℕ → Bool
will_show r surface = is_there (option_and_then (λ h. (pending h).buffer) (history_in surface r.owned.surfaces))

-- the buffer of the state that a commit would give has sides that are multiples of its scale
abbrev pub is_whole_state : Option Values → Bool
is_whole_state None = true
is_whole_state (Some v) = is_whole v.buffer v.scale

abbrev pub will_be_whole : Resident → ℕ → Bool
will_be_whole r surface = is_whole_state (option_map pending (history_in surface r.owned.surfaces))

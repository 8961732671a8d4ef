-- What is kept of a surface, and when it stands for what was asked.
use Rattle.std.specs.Prelude.{ℕ, ℤ, ◌+ℤ◌, ◌≡◌, ◌≤◌, ◌/◌, ◌||◌, Bool, cond, Option, Some, None, List}
use Rattle.std.specs.Prelude.{is_some, length, take, drop, option_copied}
use Rattle.std.specs.Option.{option_map}
use Rattle.wl_geom.specs.declared.rect.Rect.{Rect}
use Rattle.wl_geom.specs.Region.{Area, Change, Stands as Covers}
use Rattle.wl_store.specs.declared.scale.Scale.{Scale}
use Rattle.wl_store.specs.declared.transform.Transform.{Transform}
use Rattle.wl_store.specs.Transform.{is_turned, transform_of}
use Rattle.wl_surface.specs.declared.content.Attached.{Attached}
use Rattle.wl_surface.specs.declared.content.Offset.{Offset}
use Rattle.wl_surface.specs.Request.{Buffer, Request}
use Rattle.wl_surface.specs.declared.role.Role.{Role}
use Rattle.wl_surface.specs.declared.state.Current.{Current}
use Rattle.wl_surface.specs.Surface.{Surface, names}
use Rattle.wl_surface.specs.State.{History, Values, applied, between, committed, damaged_buffer_rects, damaged_rects, height_of, held, offset, pending, width_of}
use Rattle.wl_surface.specs.State.{within_bounds}

abbrev pub buffer_of : Attached → Buffer
buffer_of a =
    record {
      number = a.number;
      object = a.object;
      store = a.store;
      offset = a.layout.offset;
      width = a.layout.w;
      height = a.layout.h;
      stride = a.layout.stride;
      format = a.layout.format;
    }

abbrev pub pair_of : Offset → ℤ × ℤ
pair_of o = (o.x, o.y)

-- an offset, with the pending one added, if there is one
abbrev pub IsFarther : Offset → Option Offset → Offset → Type 0
IsFarther o None new = new ≡ o
IsFarther o (Some by) new = (new.x ≡ within_bounds (o.x +ℤ by.x)) × (new.y ≡ within_bounds (o.y +ℤ by.y))

-- the region that was set since the record below, or else that one's
abbrev pub latest : {X : Type 0} → Option X → X → X
latest None below = below
latest (Some x) below = x

-- an input region stands for the one that was asked, or for every point
abbrev pub IsInput : Option Area → Option (List Change) → Type 0
IsInput None None = Unit {0}
IsInput (Some area) (Some changes) = Covers area changes
IsInput None (Some changes) = ⊥
IsInput (Some area) None = ⊥

-- The three records of a surface: pending, held and applied. A region that wasn't set since is that
-- of the record below. A pending offset is that of an attach after the last commit. The first 1,025
-- rectangles of each kind of damage are kept, since more than 1,024 of both damage everything.
pub record Kept : Type 0 where
  pub pending_buffer : Option Attached
  pub held_buffer : Option Attached
  pub current_buffer : Option Attached
  pub pending_transform : Transform
  pub held_transform : Transform
  pub current_transform : Transform
  pub pending_scale : Scale
  pub held_scale : Scale
  pub current_scale : Scale
  pub pending_opaque : Option Area
  pub held_opaque : Option Area
  pub current_opaque : Area
  pub pending_input : Option (Option Area)
  pub held_input : Option (Option Area)
  pub current_input : Option Area
  pub pending_offset : Option Offset
  pub held_offset : Offset
  pub current_offset : Offset
  pub pending_damage : List Rect
  pub held_damage : List Rect
  pub pending_buffer_damage : List Rect
  pub held_buffer_damage : List Rect
  pub role : Option Role

-- What is kept in one record stands for these values.
pub record Shows (buffer : Option Attached) (transform : Transform) (scale : Scale) (opaque : Area) (input : Option Area) (v : Values)
    : Type 0 where
  pub buffer_is : option_map buffer_of buffer ≡ v.buffer
  pub transform_is : transform ≡ transform_of v.transform
  pub scale_is : scale.number ≡ v.scale
  pub opaque_is : Covers opaque v.opaque
  pub input_is : IsInput input v.input

-- the requests move a surface to this offset
abbrev pub HasMoved : Offset → List Request → Type 0
HasMoved o requests = (o.x ≡ (offset requests).x) × (o.y ≡ (offset requests).y)

-- the requests up to the last commit
abbrev pub held_list : List Request → List Request
held_list requests = take (committed requests) requests

-- What is kept stands for a surface's requests: for its pending, held and applied state.
pub record Stands (k : Kept) (h : History) : Type 0 where
  pub pending : Shows k.pending_buffer k.pending_transform k.pending_scale (latest k.pending_opaque (latest k.held_opaque k.current_opaque))
      (latest k.pending_input (latest k.held_input k.current_input)) (pending h)
  pub held : Shows k.held_buffer k.held_transform k.held_scale (latest k.held_opaque k.current_opaque) (latest k.held_input k.current_input) (held h)
  pub current : Shows k.current_buffer k.current_transform k.current_scale k.current_opaque k.current_input (applied h)
  pub pending_move : option_map pair_of k.pending_offset ≡ (offset h.requests).next
  pub pending_place : HasMoved k.held_offset h.requests
  pub held_place : HasMoved k.held_offset (held_list h.requests)
  pub current_place : HasMoved k.current_offset (take h.cut h.requests)
  pub pending_damaged : k.pending_damage ≡ take 1025 (damaged_rects (drop (committed h.requests) h.requests))
  pub held_damaged : k.held_damage ≡ take 1025 (damaged_rects (between h.cut (committed h.requests) h.requests))
  pub pending_buffer_damaged : k.pending_buffer_damage ≡ take 1025 (damaged_buffer_rects (drop (committed h.requests) h.requests))
  pub held_buffer_damaged : k.held_buffer_damage ≡ take 1025 (damaged_buffer_rects (between h.cut (committed h.requests) h.requests))
  pub cut_within : h.cut ≤ committed h.requests
  pub commits_within : committed h.requests ≤ length h.requests

-- What is kept stands for a surface: for what was asked of it, and for its role.
pub record StandsFor (k : Kept) (s : Surface) : Type 0 where
  pub history : Stands k s.history
  pub role : k.role ≡ s.role

-- the buffer is applied or held, by what is kept
abbrev pub kept_shows : ℕ → Kept → Bool
kept_shows buffer k = names buffer (option_map buffer_of k.current_buffer) || names buffer (option_map buffer_of k.held_buffer)

abbrev pub kept_has : ℕ → Kept → Bool
kept_has buffer k = names buffer (option_map buffer_of k.pending_buffer) || kept_shows buffer k

-- an input region was set that isn't applied yet
abbrev pub has_new_input : Kept → Bool
has_new_input k = is_some k.pending_input || is_some k.held_input

-- the size of a surface in its own points, by the transform itself
abbrev pub turned_width : Option Buffer → Transform → ℕ → ℕ
turned_width None transform scale = 0
turned_width (Some b) transform scale = cond (is_turned transform) (b.height / scale) (b.width / scale)

abbrev pub turned_height : Option Buffer → Transform → ℕ → ℕ
turned_height None transform scale = 0
turned_height (Some b) transform scale = cond (is_turned transform) (b.width / scale) (b.height / scale)

-- What is told of a surface is what counts of it.
pub record IsCurrent {A : Type 0} (c : Current A) (h : History) : Type 0 where
  pub buffer : option_map buffer_of c.buffer ≡ (applied h).buffer
  pub width : c.w ≡ width_of (applied h).buffer (applied h).transform (applied h).scale
  pub height : c.h ≡ height_of (applied h).buffer (applied h).transform (applied h).scale
  pub transform : c.transform ≡ transform_of (applied h).transform
  pub scale : c.scale.number ≡ (applied h).scale
  pub offset : HasMoved c.offset (take h.cut h.requests)
  pub opaque : Covers c.opaque.now (applied h).opaque
  pub input : IsInput (option_copied c.input) (applied h).input

-- what counts of a surface: the buffer, the transform and the scale, how far it has moved, and its
-- regions
pub record Counting : Type 0 where
  pub buffer : Option Attached
  pub transform : Transform
  pub scale : Scale
  pub offset : Offset
  pub opaque : Area
  pub input : Option Area

abbrev pub counting_of : Kept → Counting
counting_of k =
    record {
      buffer = k.current_buffer;
      transform = k.current_transform;
      scale = k.current_scale;
      offset = k.current_offset;
      opaque = k.current_opaque;
      input = k.current_input;
    }

-- the same, of what is told
abbrev pub counting_in : {A : Type 0} → Current A → Counting
counting_in c = record {
  buffer = c.buffer;
  transform = c.transform;
  scale = c.scale;
  offset = c.offset;
  opaque = c.opaque.now;
  input = option_copied c.input;
}

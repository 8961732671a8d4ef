-- Buffers: where their pixels lie in a store.
use Rattle.std.specs.Prelude.{ℕ, ℤ, unsigned_abs}
use Rattle.wl_store.specs.Layout.{format_of}
use Rattle.wl_store.specs.declared.color.Format.{Format}
use Rattle.wl_store.specs.declared.place.Layout.{Layout}

-- Where the pixels of a wl_buffer lie: `height` rows of `width` pixels in this store, the first row at `offset` and each `stride` bytes
-- after the one before (wayland.xml, wl_shm_pool.create_buffer).
pub record Laid : Type 0 where
  pub store : ℕ
  pub offset : ℕ
  pub width : ℕ
  pub height : ℕ
  pub stride : ℕ
  pub format : Format

-- the buffer that a request asks for, of numbers that aren't negative and a format that is known
abbrev pub buffer_asked : ℕ → ℤ → ℤ → ℤ → ℤ → ℕ → Laid
buffer_asked store offset width height stride format =
    record {
      store = store;
      offset = unsigned_abs offset;
      width = unsigned_abs width;
      height = unsigned_abs height;
      stride = unsigned_abs stride;
      format = format_of format;
    }

abbrev pub buffer_at : ℕ → Layout → Laid
buffer_at store l = record { store = store; offset = l.offset; width = l.w; height = l.h; stride = l.stride; format = l.format }

-- a wl_buffer: its number, which is that of the request that made it among its client's, and where it lies
pub record Buffer : Type 0 where
  pub number : ℕ
  pub laid : Laid

abbrev pub numbered : ℕ → Laid → Buffer
numbered number laid = record { number = number; laid = laid }

-- What a client asks of a surface, in the words of its requests.
use Rattle.std.specs.Prelude.{ℕ, ℤ, Option, List}
use Rattle.wl_geom.specs.declared.rect.Rect.{Rect}
use Rattle.wl_geom.specs.Region.{Change}
use Rattle.wl_store.specs.declared.color.Format.{Format}

-- A wl_buffer: its number among the client's requests, the id that it was made with, and where it
-- lies in its store. There are `height` rows of `width` pixels. The first begins at byte `offset`,
-- and each other one `stride` bytes after the one before (wayland.xml, wl_shm_pool.create_buffer).
pub record Buffer : Type 0 where
  pub number : ℕ
  pub object : ℕ
  pub store : ℕ
  pub offset : ℕ
  pub width : ℕ
  pub height : ℕ
  pub stride : ℕ
  pub format : Format

-- who stands in the order of a surface and its children: itself, or the child of a link
pub data Member : Type 0 where
  Itself : Member
  Child : ℕ → Member

-- One accepted request. An attach names the buffer itself. A region request has the list of the
-- region's changes, or none for null. A frame request has its number among the client's requests.
-- Damage is a rectangle of points of the surface, or of its buffer.
--
-- A link is a wl_subsurface, by its number among the client's. Its requests stand in the list of
-- its parent (wayland.xml, wl_surface, wl_subcompositor.get_subsurface and wl_subsurface;
-- xdg-shell.xml, xdg_surface.set_window_geometry).
pub data Request : Type 0 where
  Attach : Option Buffer → ℤ → ℤ → Request
  Damage : Rect → Request
  DamageBuffer : Rect → Request
  Frame : ℕ → Request
  SetOpaqueRegion : Option (List Change) → Request
  SetInputRegion : Option (List Change) → Request
  SetBufferTransform : ℕ → Request
  SetBufferScale : ℕ → Request
  SetWindowGeometry : Rect → Request
  Commit : Request
  AddChild : ℕ → Request
  SetPosition : ℕ → ℤ → ℤ → Request
  PlaceAbove : ℕ → Member → Request
  PlaceBelow : ℕ → Member → Request

-- Worked examples, computed on the definitions.
use Rattle.std.proofs.Common.{◌≡◌, ℕ, List, [], ◌∷◌, ◌++◌, Option, Some, None, true, false, refl}
use Rattle.std.specs.Prelude.{ℤ, pos, negsuc}
use Rattle.wl_geom.specs.declared.rect.Rect.{Rect}
use Rattle.wl_store.specs.declared.color.Format.TheVariants.{Xrgb8888}
use Rattle.wl_surface.specs.Request.{Buffer, Itself, Child, Request, Attach, Damage, DamageBuffer, SetBufferScale, SetWindowGeometry, Commit, AddChild}
use Rattle.wl_surface.specs.Request.{SetPosition, PlaceAbove, PlaceBelow}
use Rattle.wl_surface.specs.State.{History, Values, applied, apply, between, committed, damaged_rects, first_values, geometry, held, height_of, is_damaged, is_damaged_by}
use Rattle.wl_surface.specs.State.{is_whole, offset, order, pending, position, values, width_of}
use Rattle.wl_surface.specs.Surface.{shows}

-- a buffer of 40 by 40 pixels in store 1
abbrev forty : ℕ → Buffer
forty number = record { number = number; object = number; store = 1; offset = 6400; width = 40; height = 40; stride = 160; format = Xrgb8888 }

abbrev rect : ℤ → ℤ → ℤ → ℤ → Rect
rect x y w h = record { x = x; y = y; w = w; h = h }

-- A buffer is attached, damaged and committed, and the next one is attached.
abbrev shown : List Request
shown = Attach (Some (forty 1)) (pos 0) (pos 0) ∷ Damage (rect (pos 0) (pos 0) (pos 40) (pos 40)) ∷ Commit ∷ Attach (Some (forty 2)) (pos 3) (pos 0) ∷ []

abbrev first : History
first = record { requests = shown; cut = 3 }

pub row_committed : committed shown ≡ 3
row_committed = refl

pub row_applied : (applied first).buffer ≡ Some (forty 1)
row_applied = refl

pub row_pending : (pending first).buffer ≡ Some (forty 2)
row_pending = refl

-- The second is busy after it is committed, and the first isn't any more.
abbrev second : History
second = apply (record { requests = shown ++ Commit ∷ []; cut = 3 })

pub row_busy : shows 2 second ≡ true
row_busy = refl

pub row_freed : shows 1 second ≡ false
row_freed = refl

-- the offset counts at the commit, and is held within its bounds
pub row_offset : (offset second.requests).x ≡ pos 3
row_offset = refl

pub row_offset-pending : (offset shown).x ≡ pos 0
row_offset-pending = refl

pub row_offset-held : (offset (Attach None (pos 2147483647) (pos 0) ∷ Commit ∷ [])).x ≡ pos 16777216
row_offset-held = refl

pub row_offset-back : (offset (Attach None (pos 2147483647) (pos 0) ∷ Commit ∷ Attach None (negsuc 16777215) (pos 0) ∷ Commit ∷ [])).x ≡ pos 0
row_offset-back = refl

-- Two commits of a synchronised subsurface are held until the surface is applied, with the damage
-- of both.
abbrev pub small : ℕ → Buffer
small number = record { number = number; object = number; store = 2; offset = 0; width = 4; height = 4; stride = 16; format = Xrgb8888 }

abbrev twice : History
twice =
    record {
      requests =
          Attach (Some (small 18)) (pos 0) (pos 0) ∷ Commit ∷ Attach (Some (small 19)) (pos 0) (pos 0) ∷ Damage (rect (pos 0) (pos 0) (pos 1) (pos 1)) ∷ Commit
          ∷ Attach (Some (small 20)) (pos 0) (pos 0) ∷ Damage (rect (pos 3) (pos 3) (pos 1) (pos 1)) ∷ Commit ∷ [];
      cut = 2;
    }

pub row_held : (held twice).buffer ≡ Some (small 20)
row_held = refl

pub row_held-applied : (applied twice).buffer ≡ Some (small 18)
row_held-applied = refl

-- the buffer of the first of them isn't busy any more
pub row_held-freed : shows 19 twice ≡ false
row_held-freed = refl

pub row_held-damage : damaged_rects (between 2 8 twice.requests) ≡ rect (pos 0) (pos 0) (pos 1) (pos 1) ∷ rect (pos 3) (pos 3) (pos 1) (pos 1) ∷ []
row_held-damage = refl

-- what lies outside the surface isn't damaged
pub row_damage : is_damaged 40 40 (rect (pos 0) (pos 0) (pos 2147483647) (pos 1) ∷ []) 39 0 ≡ true
row_damage = refl

pub row_damage-outside : is_damaged 40 40 (rect (pos 0) (pos 0) (pos 2147483647) (pos 1) ∷ []) 40 0 ≡ false
row_damage-outside = refl

pub row_damage-empty : is_damaged 40 40 (rect (negsuc 2147483647) (pos 0) (pos 2147483647) (pos 2147483647) ∷ []) 0 0 ≡ false
row_damage-empty = refl

-- an odd transform exchanges the sides
abbrev wide : Option Buffer
wide = Some (record (forty 1) { width = 80 })

pub row_turned : width_of wide 1 1 ≡ 40
row_turned = refl

pub row_turned-height : height_of wide 1 1 ≡ 80
row_turned-height = refl

-- A new child is topmost. Placed below its parent, it stands under it.
pub row_topmost : order (AddChild 1 ∷ AddChild 2 ∷ []) ≡ Itself ∷ Child 1 ∷ Child 2 ∷ []
row_topmost = refl

pub row_below : order (AddChild 1 ∷ AddChild 2 ∷ PlaceBelow 2 Itself ∷ []) ≡ Child 2 ∷ Itself ∷ Child 1 ∷ []
row_below = refl

pub row_above : order (AddChild 1 ∷ AddChild 2 ∷ PlaceAbove 1 (Child 2) ∷ []) ≡ Itself ∷ Child 2 ∷ Child 1 ∷ []
row_above = refl

-- Placed beside a sibling that isn't there, it stays where it was.
pub row_stays : order (AddChild 1 ∷ AddChild 2 ∷ PlaceAbove 1 (Child 3) ∷ []) ≡ Itself ∷ Child 1 ∷ Child 2 ∷ []
row_stays = refl

pub row_position : position 1 (AddChild 1 ∷ SetPosition 1 (pos 4) (pos 5) ∷ SetPosition 2 (pos 6) (pos 7) ∷ []) ≡ (pos 4, pos 5)
row_position = refl

-- A window geometry counts after its commit. One that was asked before the role object was made
-- never counts.
pub row_geometry : geometry 0 (record { requests = SetWindowGeometry (rect (pos 4) (pos 4) (pos 32) (pos 32)) ∷ Commit ∷ []; cut = 2 }) ≡ Some (rect (pos 4) (pos 4) (pos 32) (pos 32))
row_geometry = refl

pub row_geometry-pending : geometry 0 (record { requests = SetWindowGeometry (rect (pos 4) (pos 4) (pos 32) (pos 32)) ∷ []; cut = 0 }) ≡ None
row_geometry-pending = refl

pub row_geometry-used : geometry 2 (record { requests = SetWindowGeometry (rect (pos 4) (pos 4) (pos 32) (pos 32)) ∷ Commit ∷ Commit ∷ []; cut = 3 }) ≡ None
row_geometry-used = refl

-- A surface of scale 2 is half as wide and half as high as its buffer. A scale of 3 doesn't fit.
abbrev scaled_values : ℕ → Values
scaled_values transform = record first_values { buffer = Some (forty 1); transform = transform; scale = 2 }

pub row_scaled : width_of (Some (forty 1)) 0 2 ≡ 20
row_scaled = refl

pub row_scaled-whole : is_whole (Some (forty 1)) 2 ≡ true
row_scaled-whole = refl

pub row_scaled-in-part : is_whole (Some (forty 1)) 3 ≡ false
row_scaled-in-part = refl

-- one point of the buffer is in one block
abbrev of_buffer : ℤ → ℤ → ℤ → ℤ → List Request
of_buffer x y w h = DamageBuffer (rect x y w h) ∷ []

pub row_block : is_damaged_by (scaled_values 0) (of_buffer (pos 2) (pos 2) (pos 1) (pos 1)) 1 1 ≡ true
row_block = refl

pub row_block-left : is_damaged_by (scaled_values 0) (of_buffer (pos 2) (pos 2) (pos 1) (pos 1)) 0 1 ≡ false
row_block-left = refl

pub row_block-below : is_damaged_by (scaled_values 0) (of_buffer (pos 2) (pos 2) (pos 1) (pos 1)) 1 2 ≡ false
row_block-below = refl

-- Two by two points of the buffer are in four blocks.
pub row_blocks-first : is_damaged_by (scaled_values 0) (of_buffer (pos 1) (pos 1) (pos 2) (pos 2)) 0 0 ≡ true
row_blocks-first = refl

pub row_blocks-last : is_damaged_by (scaled_values 0) (of_buffer (pos 1) (pos 1) (pos 2) (pos 2)) 1 1 ≡ true
row_blocks-last = refl

pub row_blocks-beside : is_damaged_by (scaled_values 0) (of_buffer (pos 1) (pos 1) (pos 2) (pos 2)) 2 1 ≡ false
row_blocks-beside = refl

-- The first point of the buffer is in the upper right corner of a surface that is turned.
pub row_block-turned : is_damaged_by (scaled_values 1) (of_buffer (pos 0) (pos 0) (pos 1) (pos 1)) 19 0 ≡ true
row_block-turned = refl

pub row_block-turned-left : is_damaged_by (scaled_values 1) (of_buffer (pos 0) (pos 0) (pos 1) (pos 1)) 0 0 ≡ false
row_block-turned-left = refl

-- An empty rectangle is in no block. The scale is that of the last request.
pub row_block-empty : is_damaged_by (scaled_values 0) (of_buffer (pos 1) (pos 1) (pos 0) (pos 4)) 0 0 ≡ false
row_block-empty = refl

pub row_last-scale : (values (SetBufferScale 3 ∷ SetBufferScale 2 ∷ [])).scale ≡ 2
row_last-scale = refl

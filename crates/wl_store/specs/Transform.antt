-- The eight transforms, and the buffer point that a surface point shows.
use Rattle.std.specs.Prelude.{ℕ, ◌≡◌, ◌+◌, ◌-◌, ◌*◌, Bool, true, false, [], ◌∷◌, slice_index_or}
use Rattle.wl_store.specs.declared.transform.Course.{Course}
use Rattle.wl_store.specs.declared.transform.Course.TheVariants.{Right, Left, Down, Up}
use Rattle.wl_store.specs.declared.transform.Transform.{Transform}
use Rattle.wl_store.specs.declared.transform.Transform.TheVariants.{Normal, Rotated90, Rotated180, Rotated270, Flipped, Flipped90}
use Rattle.wl_store.specs.declared.transform.Transform.TheVariants.{Flipped180, Flipped270}

-- the transform of a number, as wl_output.transform counts them
abbrev pub transform_of : ℕ → Transform
transform_of number = slice_index_or (Normal ∷ Rotated90 ∷ Rotated180 ∷ Rotated270 ∷ Flipped ∷ Flipped90 ∷ Flipped180 ∷ Flipped270 ∷ [])
    number Flipped270

-- it exchanges width and height
abbrev pub is_turned : Transform → Bool
is_turned Normal = false
is_turned Rotated90 = true
is_turned Rotated180 = false
is_turned Rotated270 = true
is_turned Flipped = false
is_turned Flipped90 = true
is_turned Flipped180 = false
is_turned Flipped270 = true

-- the buffer point that the point (i, j) of a surface of w by h points shows
abbrev pub buffer_point : Transform → ℕ → ℕ → ℕ → ℕ → ℕ × ℕ
buffer_point Normal w h i j = (i, j)
buffer_point Rotated90 w h i j = (j, w - 1 - i)
buffer_point Rotated180 w h i j = (w - 1 - i, h - 1 - j)
buffer_point Rotated270 w h i j = (h - 1 - j, i)
buffer_point Flipped w h i j = (w - 1 - i, j)
buffer_point Flipped90 w h i j = (j, i)
buffer_point Flipped180 w h i j = (i, h - 1 - j)
buffer_point Flipped270 w h i j = (h - 1 - j, w - 1 - i)

-- a point of a surface in points of its buffer: both coordinates times the scale (wayland.xml,
-- wl_surface.set_buffer_scale)
abbrev pub scaled : ℕ → ℕ × ℕ → ℕ × ℕ
scaled scale point = (point.0 * scale, point.1 * scale)

-- each row of the surface is a row of the buffer, from the left
abbrev pub keeps_rows : Transform → Bool
keeps_rows Normal = true
keeps_rows Rotated90 = false
keeps_rows Rotated180 = false
keeps_rows Rotated270 = false
keeps_rows Flipped = false
keeps_rows Flipped90 = false
keeps_rows Flipped180 = true
keeps_rows Flipped270 = false

-- the point `to` lies n points from the point `from` on this course
abbrev pub IsAlong : Course → ℕ → ℕ × ℕ → ℕ × ℕ → Type 0
IsAlong Right n from to = (from.0 + n ≡ to.0) × (from.1 ≡ to.1)
IsAlong Left n from to = (to.0 + n ≡ from.0) × (from.1 ≡ to.1)
IsAlong Down n from to = (from.0 ≡ to.0) × (from.1 + n ≡ to.1)
IsAlong Up n from to = (from.0 ≡ to.0) × (to.1 + n ≡ from.1)

-- Which points a list of adds and subtracts holds, and when a region stands for one.
use Rattle.std.specs.Prelude.{◌≡◌, ℕ, ◌<◌, ◌≤◌, ◌^◌, ℤ, pos, ◌+ℤ◌, ◌≤ℤ◌, Bool, true, false, ◌&&◌, cond, List, fold, length}
use Rattle.wl_geom.specs.declared.rect.Rect.{Rect}
use Rattle.wl_geom.specs.Rect.{in_rect, is_point, count_at, bit}

-- one change of a region
pub data Change : Type 0 where
  Add : Rect → Change
  Subtract : Rect → Change

-- whether the last change whose rectangle contains the point is an add: what one more change makes of it
abbrev pub held_after : ℤ → ℤ → Bool → Change → Bool
held_after x y held (Add r) = cond (in_rect x y r) true held
held_after x y held (Subtract r) = cond (in_rect x y r) false held

-- a list of changes holds a point where the last of them whose rectangle contains it is an add
abbrev pub holds : ℤ → ℤ → List Change → Bool
holds x y changes = is_point x y && fold (held_after x y) false changes

-- each point is in exactly one of the rectangles where the list holds it, and in none where it doesn't
abbrev pub Covers : List Rect → List Change → Type 0
Covers rects changes = (x y : ℤ) → count_at x y rects ≡ bit (holds x y changes)

-- no point is in two of the rectangles
abbrev pub AreDisjoint : List Rect → Type 0
AreDisjoint rects = (x y : ℤ) → count_at x y rects ≤ 1

-- a list of changes holds each of the w points from (x, y) to the right
abbrev pub HoldsRun : ℤ → ℤ → ℕ → List Change → Type 0
HoldsRun x y w changes = (i : ℕ) → i < w → holds (x +ℤ pos i) y changes ≡ true

-- what is seen of a region: the changes that were made on it, and how many they are
pub record Area : Type 0 where
  pub made : List Change
  pub changes : ℕ

-- the region stands for the list of the changes that were made on it
pub record Stands (region : Area) (changes : List Change) : Type 0 where
  pub counted : region.changes ≡ length changes
  pub listed : region.made ≡ changes

-- no edge of the rectangle is past the last coordinate
pub record EndsInRange (r : Rect) : Type 0 where
  pub right : (r.x +ℤ r.w) ≤ℤ pos (2 ^ 31)
  pub bottom : (r.y +ℤ r.h) ≤ℤ pos (2 ^ 31)

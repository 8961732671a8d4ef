-- What was seen of surfaces before a call, and how the order of a tree is compared with it.
use Rattle.std.specs.Prelude.{ℕ, suc, ◌+◌, ◌≡◌, ◌==◌, ◌&&◌, nat_lt, Bool, true, false, if◌then◌else◌, Option, Some, None, List, [], ◌∷◌}
use Rattle.std.specs.Prelude.{find, fold, length, map, option_and_then, slice_index_or}
use Rattle.wl_links.specs.declared.placed.Placed.{Placed}
use Rattle.wl_surface.specs.declared.applied.Change.{Change}
use Rattle.wl_surface.specs.declared.look.Look.{Look}
use Rattle.wl_surface.specs.declared.seen.Compared.{Compared}
use Rattle.wl_surface.specs.declared.seen.Looked.{Looked}
use Rattle.wl_surface.specs.Surfaces.{Surfaces}
use Rattle.wl_surface.specs.Slots.{Numbered}
use Rattle.wl_surface.specs.Tree.{AreToldAfter, is_among}
use Rattle.wl_surface.specs.Whole.{is_same_order, look_of, member_windows, order_of, windows}

-- the windows of what stands at one place in the stack of a surface
abbrev pub windows_at : ℕ → Surfaces → ℕ → Placed → List ℕ
windows_at levels all surface p = member_windows (λ child. windows levels all child) surface p.member

-- So many of a list were met; the next is this one. Another one than the next means that the orders differ.
abbrev pub met : List ℕ → Option ℕ → ℕ → Option ℕ
met order None surface = None
met order (Some count) surface =
    if nat_lt count (length order) && (slice_index_or order count 0 == surface) then Some (count + 1) else None

abbrev pub looked_at : Surfaces → ℕ → Looked
looked_at all surface = record { surface = surface; look = look_of all surface }

-- the look that was seen of a surface
abbrev pub seen_of : List Looked → ℕ → Option Look
seen_of looks surface = option_and_then (λ (l : Looked). l.look) (find (λ (l : Looked). l.surface == surface) looks)

-- the looks of these surfaces, and the order of the tree that each of them is in
pub record AreSeen (all : Surfaces) (surfaces : List ℕ) (looks : List Looked) (order : List ℕ) : Type 0 where
  pub seen : looks ≡ map (looked_at all) surfaces
  pub ordered : (surface : ℕ) → is_among surfaces surface ≡ true → order ≡ order_of all surface

-- the tree that was compared last with an order, if one was
abbrev pub IsCompared : List ℕ → Surfaces → Option Compared → Type 0
IsCompared order all None = Unit {0}
IsCompared order all (Some c) = c.is_same ≡ is_same_order order (windows 17 all c.root)

-- it is told of these surfaces alone
abbrev pub AreOf : {A : Type 0} → List ℕ → List (Change A) → Type 0
AreOf surfaces [] = Unit {0}
AreOf surfaces (c ∷ cs) = (is_among surfaces c.surface ≡ true) × AreOf surfaces cs

-- what is told but for this
abbrev pub unmarked : {A : Type 0} → Change A → Change A
unmarked c = record c { whole = false }

-- so it is told behind what was told before, once it is said of each change whether it is whole
abbrev pub AreToldMarked : {A : Type 0} → List (Change A) → List ℕ → Numbered → List (Change A) → Type 0
AreToldMarked {A} before numbers all changes =
    (was : List (Change A)) × (map unmarked changes ≡ map unmarked was) × AreToldAfter before numbers all was

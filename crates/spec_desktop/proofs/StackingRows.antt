-- Worked examples, computed on the definitions.
use Rattle.std.proofs.Common.{◌≡◌, ℕ, List, [], ◌∷◌, ◌++◌, Option, Some, None, true, false, refl, map, length}
use Rattle.std.specs.Prelude.{ℤ, pos}
use Rattle.std.specs.Option.{option_map}
use Rattle.wl_geom.specs.declared.rect.Rect.{Rect}
use Rattle.wl_geom.specs.Region.{Add}
use Rattle.wl_store.specs.declared.color.Format.TheVariants.{Xrgb8888}
use Rattle.wl_surface.specs.Request.{Buffer, Itself, Request, Attach, SetBufferScale, SetBufferTransform, SetInputRegion, Commit, AddChild, SetPosition, PlaceBelow}
use Rattle.wl_surface.specs.State.{History}
use Rattle.wl_surface.specs.Surface.{Surface}
use Rattle.wl_surface.specs.Surfaces.{Surfaces}
use Rattle.spec_desktop.specs.Pointer.{Pointer, first_pointer, fixed_from, is_press, settled}
use Rattle.spec_desktop.specs.Windows.{Place, Root, StackedPopup, Window, hit, mapping_place, tree, windows}

abbrev buffer : ℕ → ℕ → Buffer
buffer number side = record { number = number; object = number; store = 1; offset = 0; width = side; height = side; stride = 160; format = Xrgb8888 }

abbrev at : ℤ → ℤ → Place
at x y = record { x = x; y = y }

-- a list of requests that all count
abbrev all : List Request → History
all requests = record { requests = requests; cut = length requests }

-- surface 1 shows 40 by 40 pixels and has a child, surface 2, of 4 by 4 pixels at (4, 4)
abbrev parent : List Request
parent = Attach (Some (buffer 10 40)) (pos 0) (pos 0) ∷ AddChild 1 ∷ SetPosition 1 (pos 4) (pos 4) ∷ Commit ∷ []

abbrev child : List Request
child = Attach (Some (buffer 18 4)) (pos 0) (pos 0) ∷ Commit ∷ []

abbrev surface : ℕ → List Request → Surface
surface id requests = record { id = id; history = all requests; role = None }

abbrev surfaces_with : List Request → Surfaces
surfaces_with requests =
    record {
      surfaces = surface 1 requests ∷ surface 2 child ∷ [];
      links = record { number = 1; child = 2; parent = 1; synchronised = true; has_ended = false } ∷ [];
    }

abbrev toplevel : Root
toplevel = record { client = 1; surface = 1; toplevel = 1; geometry = None; place = at (pos 0) (pos 0) }

abbrev shown : List Request → List Window
shown requests = windows (λ c. surfaces_with requests) (λ c. []) (toplevel ∷ [])

abbrev surfaces_of : List Window → List ℕ
surfaces_of ws = map (λ (w : Window). w.surface) ws

-- a child is above its parent, unless it was placed below it
pub row_above : surfaces_of (shown parent) ≡ 1 ∷ 2 ∷ []
unfolding tree
row_above = refl

pub row_below : surfaces_of (shown (parent ++ PlaceBelow 1 Itself ∷ Commit ∷ [])) ≡ 2 ∷ 1 ∷ []
unfolding tree
row_below = refl

-- where it stands
pub row_corner : map (λ (w : Window). w.corner) (shown parent) ≡ at (pos 0) (pos 0) ∷ at (pos 4) (pos 4) ∷ []
unfolding tree
row_corner = refl

-- a buffer of 40 by 40 pixels at scale 2 is half as wide and half as high, and one at scale 3 a third, rounded down
abbrev sides_of : Request → List (ℕ × ℕ × ℕ)
sides_of request = map (λ (w : Window). (w.width, w.height, w.scale)) (shown (Attach (Some (buffer 10 40)) (pos 0) (pos 0) ∷ request ∷ Commit ∷ []))

pub row_scaled : sides_of (SetBufferScale 2) ≡ (20, 20, 2) ∷ []
unfolding tree
row_scaled = refl

pub row_scaled-down : sides_of (SetBufferScale 3) ≡ (13, 13, 3) ∷ []
unfolding tree
row_scaled-down = refl

pub row_unscaled : sides_of (SetBufferTransform 1) ≡ (40, 40, 1) ∷ []
unfolding tree
row_unscaled = refl

-- a parent without a buffer hides it
pub row_hidden : surfaces_of (shown (parent ++ Attach None (pos 0) (pos 0) ∷ Commit ∷ [])) ≡ []
unfolding tree
row_hidden = refl

-- what a point hits: the child, its parent beside it, and nothing outside
pub row_hit : option_map (λ (w : Window). w.surface) (hit (pos 5) (pos 5) (shown parent)) ≡ Some 2
unfolding tree
row_hit = refl

pub row_hit-beside : option_map (λ (w : Window). w.surface) (hit (pos 9) (pos 5) (shown parent)) ≡ Some 1
unfolding tree
row_hit-beside = refl

pub row_hit-outside : option_map (λ (w : Window). w.surface) (hit (pos 40) (pos 5) (shown parent)) ≡ None
unfolding tree
row_hit-outside = refl

-- an input region of 4 by 4
abbrev with_input : List Request
with_input =
    Attach (Some (buffer 10 40)) (pos 0) (pos 0) ∷ SetInputRegion (Some (Add (record { x = pos 0; y = pos 0; w = pos 4; h = pos 4 }) ∷ [])) ∷ Commit ∷ []

pub row_input : option_map (λ (w : Window). w.surface) (hit (pos 3) (pos 3) (shown with_input)) ≡ Some 1
unfolding tree
row_input = refl

pub row_no_input : option_map (λ (w : Window). w.surface) (hit (pos 5) (pos 5) (shown with_input)) ≡ None
unfolding tree
row_no_input = refl

-- a popup of 8 by 8 at its parent's lower right corner, and where it stands once the parent has a window geometry of (4, 4, 32, 32)
abbrev popup : StackedPopup
popup = record { surface = 2; parent = Some 1; placement = at (pos 40) (pos 40); geometry = None; is_mapped = true }

abbrev with_popup : Option Rect → List Window
with_popup geometry =
    windows (λ c. surfaces_with (Attach (Some (buffer 10 40)) (pos 0) (pos 0) ∷ Commit ∷ [])) (λ c. popup ∷ []) (record toplevel { geometry = geometry } ∷ [])

pub row_popup : map (λ (w : Window). w.corner) (with_popup None) ≡ at (pos 0) (pos 0) ∷ at (pos 40) (pos 40) ∷ []
unfolding tree
row_popup = refl

pub row_popup-geometry : map (λ (w : Window). w.corner) (with_popup (Some (record { x = pos 4; y = pos 4; w = pos 32; h = pos 32 }))) ≡ at (pos 0) (pos 0) ∷ at (pos 44) (pos 44) ∷ []
unfolding tree
row_popup-geometry = refl

-- the second mapping of a toplevel, and the ninth
pub row_second : mapping_place 1 ≡ at (pos 32) (pos 32)
row_second = refl

pub row_ninth : mapping_place 8 ≡ at (pos 0) (pos 0)
row_ninth = refl

-- a window of 40 by 40 at (32, 32) under the pointer at (45, 45): where it is told to be, 13 pixels in, in 256ths
pub row_fixed : fixed_from (pos 45) (pos 32) ≡ pos 3328
row_fixed = refl

-- the pointer is over the child; with a button down the focus stays with its parent
abbrev over_the_child : List ℕ → Pointer
over_the_child buttons = record first_pointer { place = Some (at (pos 5) (pos 5)); buttons = buttons; focus = Some (record { client = 1; surface = 1 }) }

pub row_focus : settled (over_the_child []) (shown parent) ≡ Some (record { client = 1; surface = 2 })
unfolding tree
row_focus = refl

pub row_focus-held : settled (over_the_child (272 ∷ [])) (shown parent) ≡ Some (record { client = 1; surface = 1 })
unfolding tree
row_focus-held = refl

-- with a button down a surface that is gone leaves no focus
pub row_focus-gone : settled (over_the_child (272 ∷ [])) [] ≡ None
row_focus-gone = refl

-- a pointer that isn't anywhere has none
pub row_nowhere : settled first_pointer (shown parent) ≡ None
row_nowhere = refl

pub row_pressed_twice : is_press 272 (272 ∷ []) ≡ false
row_pressed_twice = refl

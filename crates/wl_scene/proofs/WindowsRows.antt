-- Worked examples, computed on the definitions.
use Rattle.std.proofs.Common.{◌≡◌, ℕ, ℤ, Bool, List, [], ◌∷◌, Some, None, true, false, refl, length}
use Rattle.std.specs.Prelude.{pos, negsuc}
use Rattle.wl_store.specs.declared.color.Format.TheVariants.{Xrgb8888}
use Rattle.wl_store.specs.declared.transform.Transform.TheVariants.{Normal, Rotated90}
use Rattle.wl_surface.specs.Request.{AddChild, Attach, Buffer, Commit, Itself, PlaceBelow, Request, SetBufferScale, SetBufferTransform, SetPosition}
use Rattle.wl_surface.specs.Surface.{Surface}
use Rattle.wl_surface.specs.Surfaces.{Link, Surfaces}
use Rattle.spec_desktop.specs.Windows.{Owner, tree}
use Rattle.wl_scene.specs.declared.tree_window.TreeWindow.{TreeWindow}
use Rattle.wl_scene.specs.TreeWindows.{told_tree}

abbrev buffer : ℕ → ℕ → ℕ → Buffer
buffer number width height =
    record { number = number; object = number; store = 1; offset = 0; width = width; height = height; stride = 160; format = Xrgb8888 }

-- a surface of which these requests count, all of them
abbrev surface : ℕ → List Request → Surface
surface id requests = record { id = id; history = record { requests = requests; cut = length requests }; role = None }

abbrev link : ℕ → ℕ → ℕ → Bool → Link
link number child parent has_ended = record { number = number; child = child; parent = parent; synchronised = true; has_ended = has_ended }

-- The surface 1 shows 40 by 30 pixels, moved by (2, 3). Below it is its child 2, of 4 by 8 pixels that are turned, at (4, -1); its child 3
-- shows no buffer, and has the child 4, which shows one.
abbrev root : List Request
root =
    Attach (Some (buffer 1 40 30)) (pos 2) (pos 3) ∷ AddChild 1 ∷ SetPosition 1 (pos 4) (negsuc 0) ∷ PlaceBelow 1 Itself ∷ AddChild 2
    ∷ Commit ∷ []

abbrev small : List Request
small = Attach (Some (buffer 2 4 8)) (pos 0) (pos 0) ∷ SetBufferTransform 1 ∷ Commit ∷ []

abbrev tied : Bool → Surfaces
tied has_ended =
    record {
      surfaces = surface 1 root ∷ surface 2 small ∷ surface 3 (AddChild 3 ∷ Commit ∷ []) ∷ surface 4 small ∷ [];
      links = link 1 2 1 has_ended ∷ link 2 3 1 false ∷ link 3 4 3 false ∷ [];
    }

abbrev owner : Owner
owner = record { client = 1; root = 1; toplevel = 1 }

abbrev shown : Bool → ℤ → List TreeWindow
shown has_ended x = told_tree 17 owner (tied has_ended) 1 (record { x = x; y = pos 50 })

abbrev root_at : ℤ → TreeWindow
root_at x = record { surface = 1; root = 1; x = x; y = pos 53; w = 40; h = 30; transform = Normal; scale = 1 }

abbrev child_at : ℤ → TreeWindow
child_at x = record { surface = 2; root = 1; x = x; y = pos 52; w = 8; h = 4; transform = Rotated90; scale = 1 }

-- the child that is below, at its position from the moved corner; nothing of the child without a buffer, nor of what stands above that
row-shown : shown false (pos 100) ≡ child_at (pos 106) ∷ root_at (pos 102) ∷ []
unfolding tree
row-shown = refl

-- a surface of 40 by 30 pixels at scale 2, turned
abbrev scaled : Surfaces
scaled =
    record {
      surfaces = surface 1 (Attach (Some (buffer 1 40 30)) (pos 2) (pos 3) ∷ SetBufferScale 2 ∷ SetBufferTransform 1 ∷ Commit ∷ []) ∷ [];
      links = [];
    }

row-scaled : told_tree 17 owner scaled 1 (record { x = pos 100; y = pos 50 }) ≡ record (root_at (pos 102)) { w = 15; h = 20; transform = Rotated90; scale = 2 } ∷ []
unfolding tree
row-scaled = refl

-- a link that has ended
row-ended : shown true (pos 100) ≡ root_at (pos 102) ∷ []
unfolding tree
row-ended = refl

-- corners are held within the bounds, each after its own sum
row-held : shown false (pos 2147483647) ≡ child_at (pos 16777216) ∷ root_at (pos 16777216) ∷ []
unfolding tree
row-held = refl

-- a surface that isn't there
row-none : told_tree 17 owner (tied false) 5 (record { x = pos 0; y = pos 0 }) ≡ []
unfolding tree
row-none = refl

-- Worked examples of changes as a whole, computed on the definitions.
use Rattle.std.proofs.Common.{◌≡◌, ℕ, List, [], ◌∷◌, ◌++◌, Option, Some, None, true, false, refl}
use Rattle.std.specs.Prelude.{ℤ, pos, negsuc}
use Rattle.wl_store.specs.declared.color.Format.TheVariants.{Xrgb8888}
use Rattle.wl_links.specs.Family.{root_by}
use Rattle.wl_surface.specs.Request.{Buffer, Itself, Request, AddChild, Attach, Commit, PlaceBelow, SetBufferScale, SetPosition}
use Rattle.wl_surface.specs.Surface.{Surface}
use Rattle.wl_surface.specs.Surfaces.{Surfaces, without_surface}
use Rattle.wl_surface.specs.Whole.{is_mapped, is_whole, order_of, windows}

-- a buffer of 40 by 40 pixels
abbrev forty : ℕ → Buffer
forty number = record { number = number; object = number; store = 1; offset = 0; width = 40; height = 40; stride = 160; format = Xrgb8888 }

abbrev shows : ℕ → Request
shows number = Attach (Some (forty number)) (pos 0) (pos 0)

abbrev asked : ℕ → List Request → ℕ → Surface
asked id requests cut = record { id = id; history = record { requests = requests; cut = cut }; role = None }

-- the surface 1 with the child 2, of which these requests count
abbrev family : List Request → ℕ → List Request → ℕ → Surfaces
family parent cut child child_cut =
    record {
      surfaces = asked 1 parent cut ∷ asked 2 child child_cut ∷ [];
      links = record { number = 7; child = 2; parent = 1; synchronised = true; has_ended = false } ∷ [];
    }

-- both show a buffer, the child topmost
abbrev first : Surfaces
first = family (AddChild 7 ∷ shows 1 ∷ Commit ∷ []) 3 (shows 2 ∷ Commit ∷ []) 2

pub row_order : order_of first 2 ≡ 1 ∷ 2 ∷ []
unfolding windows root_by
row_order = refl

-- other pictures of the same size change neither as a whole
abbrev pictures : Surfaces
pictures = family (AddChild 7 ∷ shows 1 ∷ Commit ∷ shows 3 ∷ Commit ∷ []) 5 (shows 2 ∷ Commit ∷ shows 4 ∷ Commit ∷ []) 4

pub row_pictures : is_whole first pictures 1 ≡ false
unfolding windows root_by is_mapped
row_pictures = refl

pub row_picture : is_whole first pictures 2 ≡ false
unfolding windows root_by is_mapped
row_picture = refl

-- a position that counts changes the child alone
abbrev moved : Surfaces
moved = family (AddChild 7 ∷ shows 1 ∷ Commit ∷ SetPosition 7 (pos 5) (pos 0) ∷ Commit ∷ []) 5 (shows 2 ∷ Commit ∷ []) 2

pub row_moved : is_whole first moved 2 ≡ true
unfolding windows root_by is_mapped
row_moved = refl

pub row_unmoved : is_whole first moved 1 ≡ false
unfolding windows root_by is_mapped
row_unmoved = refl

-- an offset of the child that takes it back leaves the sum
abbrev moved_back : Surfaces
moved_back =
    family (AddChild 7 ∷ shows 1 ∷ Commit ∷ SetPosition 7 (pos 5) (pos 0) ∷ Commit ∷ []) 5
    (shows 2 ∷ Commit ∷ Attach (Some (forty 2)) (negsuc 4) (pos 0) ∷ Commit ∷ []) 4

pub row_moved_back : is_whole first moved_back 2 ≡ false
unfolding windows root_by is_mapped
row_moved_back = refl

-- the other order changes both
abbrev lowered : Surfaces
lowered = family (AddChild 7 ∷ shows 1 ∷ Commit ∷ PlaceBelow 7 Itself ∷ Commit ∷ []) 5 (shows 2 ∷ Commit ∷ []) 2

pub row_lowered : is_whole first lowered 1 ≡ true
unfolding windows root_by is_mapped
row_lowered = refl

-- a parent without a buffer unmaps the child
abbrev hidden : Surfaces
hidden = family (AddChild 7 ∷ shows 1 ∷ Commit ∷ Attach None (pos 0) (pos 0) ∷ Commit ∷ []) 5 (shows 2 ∷ Commit ∷ []) 2

pub row_hidden : is_whole first hidden 2 ≡ true
unfolding windows root_by is_mapped
row_hidden = refl

-- a larger scale
abbrev scaled : Surfaces
scaled = family (AddChild 7 ∷ shows 1 ∷ Commit ∷ []) 3 (shows 2 ∷ Commit ∷ SetBufferScale 2 ∷ Commit ∷ []) 4

pub row_scaled : is_whole first scaled 2 ≡ true
unfolding windows root_by is_mapped
row_scaled = refl

-- a surface that is gone
pub row_gone : is_whole first (without_surface 2 first) 2 ≡ true
unfolding windows root_by is_mapped
row_gone = refl

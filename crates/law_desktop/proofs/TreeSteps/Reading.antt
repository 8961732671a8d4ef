-- What a tree shows is read from what counts of its surfaces, and from their children.
use Rattle.std.proofs.Common.{◌≡◌, ℕ, Bool, true, false, cond, Option, Some, None, List, [], ◌∷◌, ◌++◌, refl, ap, ◌∙◌}
use Rattle.std.specs.Prelude.{◌+ℤ◌, flat_map}
use Rattle.std.specs.Option.{option_map}
use Rattle.wl_surface.specs.Request.{Buffer, Child, Itself, Member, Request}
use Rattle.wl_surface.specs.State.{History, applied, counting, offset, order, position, values}
use Rattle.wl_surface.specs.Surfaces.{Link, Surfaces, link_at}
use Rattle.spec_desktop.specs.Windows.{Owner, Place, Window, child_windows, corner_at, member_windows, moved, shown_windows, surface_windows, window_with}
use Rattle.wl_surface.specs.Hanging.{kid_of, kids_of}
use Rattle.wl_surface.specs.Stacks.{Kids}
use Rattle.law_desktop.proofs.Lists.Each.{Each, each-of}

-- what the levels below show
abbrev pub Next : Type 0
Next = ℕ → Place → List Window

abbrev pub kid_by : Next → List Request → Place → ℕ → Option ℕ → List Window
kid_by next rs corner l None = []
kid_by next rs corner l (Some child) = next child (record { x = corner.x +ℤ (position l rs).0; y = corner.y +ℤ (position l rs).1 })

abbrev pub member_by : Next → Owner → Kids → ℕ → List Request → Place → Member → List Window
member_by next owner kids surface rs corner Itself = window_with owner surface corner (values rs) (values rs).buffer
member_by next owner kids surface rs corner (Child l) = kid_by next rs corner l (kids l)

abbrev pub shown_by : Next → Owner → Kids → ℕ → List Request → Place → Option Buffer → List Window
shown_by next owner kids surface rs corner None = []
shown_by next owner kids surface rs corner (Some buffer) = flat_map (member_by next owner kids surface rs corner) (order rs)

abbrev pub surface_by : Next → Owner → Kids → ℕ → Place → Option (List Request) → List Window
surface_by next owner kids surface place None = []
surface_by next owner kids surface place (Some rs) =
    shown_by next owner kids surface rs (moved place (offset rs).x (offset rs).y) (values rs).buffer

-- lists that are made of the same lists
pub flat-each : {X Y : Type 0} (f g : X → List Y) (xs : List X) → Each (λ x. f x ≡ g x) xs → flat_map f xs ≡ flat_map g xs
flat-each f g [] same = refl
flat-each f g (x ∷ xs) same = ap (λ ys. ys ++ flat_map f xs) same.0 ∙ ap (λ ys. g x ++ ys) (flat-each f g xs same.1)

reads-kid : (next : Next) (h : History) (corner : Place) (l : ℕ) (o : Option Link) → child_windows next h corner l o ≡ kid_by next (counting h) corner l (kid_of o)
reads-kid next h corner l None = refl
reads-kid next h corner l (Some link) = at link.has_ended
  where
    at : (b : Bool)
        → cond b [] (next link.child (record { x = corner.x +ℤ (position l (counting h)).0; y = corner.y +ℤ (position l (counting h)).1 }))
        ≡ kid_by next (counting h) corner l (cond b None (Some link.child))
    at true = refl
    at false = refl

reads-member : (next : Next) (owner : Owner) (all : Surfaces) (surface : ℕ) (h : History) (corner : Place) (m : Member)
    → member_windows next owner all surface h corner m ≡ member_by next owner (kids_of all) surface (counting h) corner m
reads-member next owner all surface h corner Itself = refl
reads-member next owner all surface h corner (Child l) = reads-kid next h corner l (link_at l all)

reads-shown : (next : Next) (owner : Owner) (all : Surfaces) (surface : ℕ) (h : History) (corner : Place) (buffer : Option Buffer)
    → shown_windows next owner all surface h corner buffer ≡ shown_by next owner (kids_of all) surface (counting h) corner buffer
reads-shown next owner all surface h corner None = refl
reads-shown next owner all surface h corner (Some buffer) =
    flat-each (member_windows next owner all surface h corner) (member_by next owner (kids_of all) surface (counting h) corner) (order (counting h))
    (each-of (λ m. member_windows next owner all surface h corner m ≡ member_by next owner (kids_of all) surface (counting h) corner m)
    (reads-member next owner all surface h corner) (order (counting h)))

pub reads-surface : (next : Next) (owner : Owner) (all : Surfaces) (surface : ℕ) (place : Place) (o : Option History)
    → surface_windows next owner all surface place o ≡ surface_by next owner (kids_of all) surface place (option_map counting o)
reads-surface next owner all surface place None = refl
reads-surface next owner all surface place (Some h) = reads-shown next owner all surface h (corner_at place h) (applied h).buffer

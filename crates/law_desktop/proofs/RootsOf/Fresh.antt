-- A new surface shows nothing: the windows of every tree are as they were.
use Rattle.std.proofs.Common.{◌≡◌, ℕ, zero, suc, ◌==◌, Bool, true, false, cond, Option, Some, None, List, [], ◌∷◌, ◌++◌, refl, ap, ap₂, sym, ◌∙◌}
use Rattle.std.specs.Prelude.{◌⊎◌, ◌+ℤ◌, find, flat_map}
use Rattle.std.specs.Option.{option_map}
use Rattle.std.proofs.Common.{inl, inr}
use Rattle.wl_surface.specs.Request.{Buffer, Member, Itself, Child}
use Rattle.wl_surface.specs.State.{History, applied, counting, order, position}
use Rattle.wl_surface.specs.Surface.{Surface, new_surface}
use Rattle.wl_surface.specs.Surfaces.{Link, Surfaces, history_in, link_at, with_new}
use Rattle.spec_desktop.specs.Windows.{Owner, Place, Window, child_windows, corner_at, member_windows, shown_windows, surface_windows, tree}

-- Nothing was asked of the surface that comes.
abbrev pub unasked : History
unasked = record { requests = []; cut = 0 }

-- what was asked of a surface is as it was, or the surface is new
abbrev pub IsAsked : Option History → Option History → Type 0
IsAsked old new = (new ≡ old) ⊎ ((old ≡ None) × (new ≡ Some unasked))

flat-same : {X Y : Type 0} (f g : X → List Y) → ((x : X) → f x ≡ g x) → (xs : List X) → flat_map f xs ≡ flat_map g xs
flat-same f g same [] = refl
flat-same {Y = Y} f g same (x ∷ xs) = ap₂ (λ (ys zs : List Y). ys ++ zs) (same x) (flat-same f g same xs)

abbrev asked : Option Surface → Option History
asked o = option_map (λ (s : Surface). s.history) o

pub new-asked : (id surface : ℕ) (all : Surfaces) → IsAsked (history_in surface all) (history_in surface (with_new id all))
new-asked id surface all = by all.surfaces
  where
    last : (b : Bool) → IsAsked None (asked (cond b (Some (new_surface id)) None))
    last true = inr (refl, refl)
    last false = inl refl

    at : (s : Surface) (b : Bool) (o p : Option Surface) → IsAsked (asked o) (asked p) → IsAsked (asked (cond b (Some s) o)) (asked (cond b (Some s) p))
    at s true o p rest = inl refl
    at s false o p rest = rest

    by : (ss : List Surface) → IsAsked (asked (find (λ (s : Surface). s.id == surface) ss)) (asked (find (λ (s : Surface). s.id == surface) (ss ++ new_surface id ∷ [])))
    by [] = last (id == surface)
    by (s ∷ ss) = at s (s.id == surface) (find (λ (s : Surface). s.id == surface) ss) (find (λ (s : Surface). s.id == surface) (ss ++ new_surface id ∷ [])) (by ss)

module _ (id : ℕ) (all : Surfaces) (owner : Owner) where
  abbrev new : Surfaces
  new = with_new id all

  module _ (next after : ℕ → Place → List Window) (same : (child : ℕ) (at : Place) → after child at ≡ next child at) where
    same-child : (h : History) (corner : Place) (l : ℕ) (o : Option Link) → child_windows after h corner l o ≡ child_windows next h corner l o
    same-child h corner l None = refl
    same-child h corner l (Some link) = at link.has_ended
      where
        there : Place
        there = record { x = corner.x +ℤ (position l (counting h)).0; y = corner.y +ℤ (position l (counting h)).1 }

        at : (b : Bool) → cond b [] (after link.child there) ≡ cond b [] (next link.child there)
        at true = refl
        at false = same link.child there

    same-member : (surface : ℕ) (h : History) (corner : Place) (m : Member) → member_windows after owner new surface h corner m ≡ member_windows next owner all surface h corner m
    same-member surface h corner Itself = refl
    same-member surface h corner (Child l) = same-child h corner l (link_at l all)

    same-shown : (surface : ℕ) (h : History) (corner : Place) (o : Option Buffer) → shown_windows after owner new surface h corner o ≡ shown_windows next owner all surface h corner o
    same-shown surface h corner None = refl
    same-shown surface h corner (Some buffer) =
        flat-same (member_windows after owner new surface h corner) (member_windows next owner all surface h corner) (same-member surface h corner) (order (counting h))

    same-surface : (surface : ℕ) (place : Place) (o : Option History) → surface_windows after owner new surface place o ≡ surface_windows next owner all surface place o
    same-surface surface place None = refl
    same-surface surface place (Some h) = same-shown surface h (corner_at place h) (applied h).buffer

    asked-surface : (surface : ℕ) (place : Place) (old now : Option History) → IsAsked old now
        → surface_windows after owner new surface place now ≡ surface_windows next owner all surface place old
    asked-surface surface place old now (inl e) = ap (surface_windows after owner new surface place) e ∙ same-surface surface place old
    asked-surface surface place old now (inr e) =
        ap (surface_windows after owner new surface place) e.1 ∙ sym (ap (surface_windows next owner all surface place) e.0)

  pub tree-fresh : (n surface : ℕ) (place : Place) → tree n owner new surface place ≡ tree n owner all surface place
  unfolding tree
  tree-fresh zero surface place = refl
  tree-fresh (suc n) surface place =
      asked-surface (λ child at. tree n owner all child at) (λ child at. tree n owner new child at) (λ child at. tree-fresh n child at) surface place
      (history_in surface all) (history_in surface new) (new-asked id surface all)

-- The windows of a tree of surfaces: whose they are, and which surfaces they show.
use Rattle.std.proofs.Common.{◌≡◌, ℕ, zero, suc, Bool, true, false, cond, Option, Some, None, List, [], ◌∷◌, refl, ap, sym}
use Rattle.std.specs.Prelude.{◌+ℤ◌}
use Rattle.wl_surface.specs.Request.{Buffer, Member, Itself, Child}
use Rattle.wl_surface.specs.State.{History, applied, counting, height_of, order, position, width_of}
use Rattle.wl_surface.specs.Surfaces.{Link, Surfaces, history_in, link_at}
use Rattle.spec_desktop.specs.Windows.{Owner, Place, Window, child_windows, corner_at, member_windows, shown_windows, surface_windows, tree, window_of, window_with}
use Rattle.law_desktop.proofs.Soundness.Trees.{each-flat}
use Rattle.law_desktop.proofs.Lists.Each.{Each}

-- the window is of this owner, and shows one of these surfaces
pub record IsShown (owner : Owner) (all : Surfaces) (w : Window) : Type 0 where
  pub owned : w.owner ≡ owner
  pub history : History
  pub here : history_in w.surface all ≡ Some history
  pub width : w.width ≡ width_of (applied history).buffer (applied history).transform (applied history).scale
  pub height : w.height ≡ height_of (applied history).buffer (applied history).transform (applied history).scale
  pub transform : w.transform ≡ (applied history).transform

pub each-always : {X : Type 0} (P : X → Type 0) → ((x : X) → P x) → (xs : List X) → Each P xs
each-always P f [] = tt
each-always P f (x ∷ xs) = (f x, each-always P f xs)

module _ (owner : Owner) (all : Surfaces) where
  abbrev AreShown : List Window → Type 0
  AreShown ws = Each (IsShown owner all) ws

  own-window : (surface : ℕ) (place : Place) (h : History) → history_in surface all ≡ Some h → AreShown (window_of owner surface place h)
  own-window surface place h here = at (applied h).buffer refl
    where
      at : (o : Option Buffer) → (applied h).buffer ≡ o → AreShown (window_with owner surface place (applied h) o)
      at None e = tt
      at (Some buffer) e = (
        record {
          owned = refl;
          history = h;
          here = here;
          width = ap (λ (b : Option Buffer). width_of b (applied h).transform (applied h).scale) (sym e);
          height = ap (λ (b : Option Buffer). height_of b (applied h).transform (applied h).scale) (sym e);
          transform = refl;
        },
        tt,
      )

  module _ (next : ℕ → Place → List Window) (each : (child : ℕ) (at : Place) → AreShown (next child at)) where
    of-child : (h : History) (corner : Place) (l : ℕ) (o : Option Link) → AreShown (child_windows next h corner l o)
    of-child h corner l None = tt
    of-child h corner l (Some link) = at link.has_ended
      where
        at : (b : Bool)
            → AreShown (cond b [] (next link.child (record { x = corner.x +ℤ (position l (counting h)).0; y = corner.y +ℤ (position l (counting h)).1 })))
        at true = tt
        at false = each link.child (record { x = corner.x +ℤ (position l (counting h)).0; y = corner.y +ℤ (position l (counting h)).1 })

    of-member : (surface : ℕ) (h : History) (corner : Place) → history_in surface all ≡ Some h → (m : Member) → AreShown (member_windows next owner all surface h corner m)
    of-member surface h corner here Itself = own-window surface corner h here
    of-member surface h corner here (Child l) = of-child h corner l (link_at l all)

    of-shown : (surface : ℕ) (h : History) (corner : Place) → history_in surface all ≡ Some h → (o : Option Buffer)
        → AreShown (shown_windows next owner all surface h corner o)
    of-shown surface h corner here None = tt
    of-shown surface h corner here (Some buffer) =
        each-flat (IsShown owner all) (member_windows next owner all surface h corner) (order (counting h))
        (each-always (λ m. AreShown (member_windows next owner all surface h corner m)) (of-member surface h corner here) (order (counting h)))

    of-surface : (surface : ℕ) (place : Place) (o : Option History) → history_in surface all ≡ o → AreShown (surface_windows next owner all surface place o)
    of-surface surface place None here = tt
    of-surface surface place (Some h) here = of-shown surface h (corner_at place h) here (applied h).buffer

  pub tree-shown : (levels surface : ℕ) (place : Place) → AreShown (tree levels owner all surface place)
  unfolding tree
  tree-shown zero surface place = tt
  tree-shown (suc levels) surface place =
      of-surface (λ child at. tree levels owner all child at) (λ child at. tree-shown levels child at) surface place (history_in surface all) refl

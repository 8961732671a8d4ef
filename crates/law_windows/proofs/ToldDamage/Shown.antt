-- The windows of a tree show surfaces by what counts of them, and so are told of.
use Rattle.std.proofs.Common.{◌≡◌, ℕ, zero, suc, pos, Bool, true, false, Option, Some, None, List, [], ◌∷◌, ◌++◌, refl, ap, sym, ◌∙◌, arith}
use Rattle.std.specs.Prelude.{◌+ℤ◌, ◌&&◌, flat_map, if◌then◌else◌, int_le}
use Rattle.std.specs.List.{AllByRecursion}
use Rattle.std.proofs.lemmas.Int.{ints}
use Rattle.std.proofs.lemmas.List.Concat.{flat_map-cons}
use Rattle.std.proofs.lemmas.List.Elements.{All-from_recursion}
use Rattle.wl_surface.specs.Request.{Buffer, Member, Itself, Child}
use Rattle.wl_surface.specs.State.{History, applied as counts, counting, height_of, order, position, width_of}
use Rattle.wl_surface.specs.declared.applied.Change.{Change}
use Rattle.wl_surface.specs.Surfaces.{Link, Surfaces, history_in, link_at}
use Rattle.spec_desktop.specs.Windows.{Owner, Place, Window, child_windows, corner_at, member_windows, shown_windows, surface_windows, tree, window_of, window_with}
use Rattle.spec_desktop.specs.Moments.{history_of, is_applied_by}
use Rattle.spec_desktop.specs.Marks.{Applied}
use Rattle.law_windows.specs.RepaintLaws.{IsAppliedBy}
use Rattle.law_windows.specs.ToldLaws.{TellsApplied, is_told_at, is_told_of}
use Rattle.law_windows.specs.ToldWindows.{BetweenIsApplied, IsAppliedTo, TellsWindows}
use Rattle.law_windows.proofs.Lists.{each-map}

-- ---- lists

each-append : {X : Type 0} (P : X → Type 0) (xs ys : List X) → AllByRecursion P xs → AllByRecursion P ys → AllByRecursion P (xs ++ ys)
each-append P [] ys a b = b
each-append P (x ∷ xs) ys a b = (a.0, each-append P xs ys a.1 b)

each-flat : {X Y : Type 0} (P : Y → Type 0) (f : X → List Y) → ((x : X) → AllByRecursion P (f x)) → (xs : List X) → AllByRecursion P (flat_map f xs)
each-flat P f each [] = tt
each-flat P f each (x ∷ xs) = rw (flat_map-cons f x xs) (each-append P (f x) (flat_map f xs) (each x) (each-flat P f each xs))

-- ---- the windows of a tree

-- the window is of this owner, and shows one of its surfaces
record IsShown (owner : Owner) (all : Surfaces) (w : Window) : Type 0 where
  owned : w.owner ≡ owner
  history : History
  here : history_in w.surface all ≡ Some history
  width : w.width ≡ width_of (counts history).buffer (counts history).transform (counts history).scale
  height : w.height ≡ height_of (counts history).buffer (counts history).transform (counts history).scale

module _ (owner : Owner) (all : Surfaces) where
  abbrev Each : List Window → Type 0
  Each ws = AllByRecursion (IsShown owner all) ws

  own-window : (surface : ℕ) (place : Place) (h : History) → history_in surface all ≡ Some h → Each (window_of owner surface place h)
  own-window surface place h here = at (counts h).buffer refl
    where
      at : (o : Option Buffer) → (counts h).buffer ≡ o → Each (window_with owner surface place (counts h) o)
      at None e = tt
      at (Some buffer) e = (
        record {
          owned = refl;
          history = h;
          here = here;
          width = ap (λ (b : Option Buffer). width_of b (counts h).transform (counts h).scale) (sym e);
          height = ap (λ (b : Option Buffer). height_of b (counts h).transform (counts h).scale) (sym e);
        },
        tt,
      )

  module _ (next : ℕ → Place → List Window) (each : (child : ℕ) (at : Place) → Each (next child at)) where
    of-child : (h : History) (corner : Place) (l : ℕ) (o : Option Link) → Each (child_windows next h corner l o)
    of-child h corner l None = tt
    of-child h corner l (Some link) = at link.has_ended
      where
        at : (b : Bool) → Each (if b then [] else next link.child (record { x = corner.x +ℤ (position l (counting h)).0; y = corner.y +ℤ (position l (counting h)).1 }))
        at true = tt
        at false = each link.child (record { x = corner.x +ℤ (position l (counting h)).0; y = corner.y +ℤ (position l (counting h)).1 })

    of-member : (surface : ℕ) (h : History) (corner : Place) → history_in surface all ≡ Some h → (m : Member) → Each (member_windows next owner all surface h corner m)
    of-member surface h corner here Itself = own-window surface corner h here
    of-member surface h corner here (Child l) = of-child h corner l (link_at l all)

    of-shown : (surface : ℕ) (h : History) (corner : Place) → history_in surface all ≡ Some h → (o : Option Buffer)
        → Each (shown_windows next owner all surface h corner o)
    of-shown surface h corner here None = tt
    of-shown surface h corner here (Some buffer) =
        each-flat (IsShown owner all) (member_windows next owner all surface h corner) (of-member surface h corner here) (order (counting h))

    of-surface : (surface : ℕ) (place : Place) (o : Option History) → history_in surface all ≡ o → Each (surface_windows next owner all surface place o)
    of-surface surface place None here = tt
    of-surface surface place (Some h) here = of-shown surface h (corner_at place h) here (counts h).buffer

  of-tree : (count surface : ℕ) (place : Place) → Each (tree count owner all surface place)
  unfolding tree
  of-tree zero surface place = tt
  of-tree (suc count) surface place =
      of-surface (λ child at. tree count owner all child at) (λ child at. of-tree count child at) surface place (history_in surface all) refl

-- ---- what is told of one

is-positive : (x : ℕ) → int_le (pos 0) (pos x) ≡ true
is-positive x = grind (arith, ints)

pub between-is-applied : BetweenIsApplied
between-is-applied old new client surface x y =
    ap (λ b. (b && int_le (pos 0) (pos y)) && is_applied_by (history_of old client surface) (history_of new client surface) x y) (is-positive x)
    ∙ ap (λ b. b && is_applied_by (history_of old client surface) (history_of new client surface) x y) (is-positive y)

tells-window : {A : Type 0} (old new : Surfaces) (owner : Owner) (changes : List (Change A)) (applied : Applied) → TellsApplied changes old new
    → IsAppliedTo applied owner.client old new → (w : Window) → IsShown owner new w → IsAppliedBy changes applied w
tells-window old new owner changes applied told applies w is x y =
    ap (λ (o : Owner). applied o.client w.surface (pos x) (pos y)) is.owned
    ∙ (applies w.surface x y
    ∙ (told w.surface x y
    ∙ (ap (λ (o : Option History). is_told_of changes w.surface o x y) is.here
    ∙ (ap (λ n. is_told_at changes w.surface n (height_of (counts is.history).buffer (counts is.history).transform (counts is.history).scale) x y) (sym is.width)
    ∙ ap (λ n. is_told_at changes w.surface w.width n x y) (sym is.height)))))

pub tells-windows : (A : Type 0) → TellsWindows A
tells-windows A old new owner changes applied told applies count root place =
    All-from_recursion (IsAppliedBy changes applied) (tree count owner new root place)
    (each-map (IsShown owner new) (IsAppliedBy changes applied) (tells-window old new owner changes applied told applies) (tree count owner new root place)
    (of-tree owner new count root place))

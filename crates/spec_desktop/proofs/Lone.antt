-- Without links a surface stands in its own order once, and nothing else does.
use Rattle.std.proofs.Common.{◌≡◌, ℕ, List, [], ◌∷◌, ◌++◌, Bool, true, false, refl, ap, ◌∙◌}
use Rattle.std.specs.Prelude.{◌==◌, cond, flat_map, fold, not}
use Rattle.std.specs.List.{list_any}
use Rattle.std.proofs.lemmas.Grind.{flat_map-append}
use Rattle.std.proofs.lemmas.List.{append-nil}
use Rattle.wl_surface.specs.Request.{Member, Itself, Child, Request, AddChild}
use Rattle.wl_surface.specs.Request.{PlaceAbove, PlaceBelow}
use Rattle.wl_surface.specs.State.{History, above, below, is_member, order, ordered, without}
use Rattle.wl_surface.specs.Surfaces.{Surfaces}
use Rattle.spec_desktop.specs.Windows.{Owner, Place, Window, member_windows}

-- nothing comes of a child
abbrev ChildrenGiveNone : {X : Type 0} → (Member → List X) → Type 0
ChildrenGiveNone f = (l : ℕ) → f (Child l) ≡ []

above-same : {X : Type 0} (f : Member → List X) → ChildrenGiveNone f → (l : ℕ) (at : Member) (xs : List Member) → flat_map f (above (Child l) at xs) ≡ flat_map f xs
above-same f none l at [] = refl
above-same f none l at (x ∷ xs) = by (is_member at x) (above-same f none l at xs)
  where
    by : (b : Bool) → flat_map f (above (Child l) at xs) ≡ flat_map f xs → flat_map f (cond b (x ∷ Child l ∷ xs) (x ∷ above (Child l) at xs)) ≡ f x ++ flat_map f xs
    by true e = rw (none l) refl
    by false e = ap (λ ys. f x ++ ys) e

below-same : {X : Type 0} (f : Member → List X) → ChildrenGiveNone f → (l : ℕ) (at : Member) (xs : List Member) → flat_map f (below (Child l) at xs) ≡ flat_map f xs
below-same f none l at [] = refl
below-same f none l at (x ∷ xs) = by (is_member at x) (below-same f none l at xs)
  where
    by : (b : Bool) → flat_map f (below (Child l) at xs) ≡ flat_map f xs → flat_map f (cond b (Child l ∷ x ∷ xs) (x ∷ below (Child l) at xs)) ≡ f x ++ flat_map f xs
    by true e = rw (none l) refl
    by false e = ap (λ ys. f x ++ ys) e

without-same : {X : Type 0} (f : Member → List X) → ChildrenGiveNone f → (l : ℕ) (xs : List Member) → flat_map f (without (Child l) xs) ≡ flat_map f xs
without-same f none l [] = refl
without-same f none l (Itself ∷ xs) = ap (λ ys. f Itself ++ ys) (without-same f none l xs)
without-same f none l (Child k ∷ xs) = by (l == k) (without-same f none l xs)
  where
    by : (b : Bool) → flat_map f (without (Child l) xs) ≡ flat_map f xs → flat_map f (cond (not b) (Child k ∷ without (Child l) xs) (without (Child l) xs)) ≡ f (Child k) ++ flat_map f xs
    by true e = rw (none k) e
    by false e = ap (λ ys. f (Child k) ++ ys) e

added-same : {X : Type 0} (f : Member → List X) → ChildrenGiveNone f → (l : ℕ) (xs : List Member) → flat_map f (xs ++ Child l ∷ []) ≡ flat_map f xs
added-same f none l xs = flat_map-append f xs (Child l ∷ []) ∙ rw (none l) (append-nil (flat_map f xs))

either-same : {X : Type 0} (f : Member → List X) (b : Bool) (xs ys : List Member) → flat_map f ys ≡ flat_map f xs → flat_map f (cond b ys xs) ≡ flat_map f xs
either-same f true xs ys e = e
either-same f false xs ys e = refl

ordered-same : {X : Type 0} (f : Member → List X) → ChildrenGiveNone f → (xs : List Member) (r : Request) → flat_map f (ordered xs r) ≡ flat_map f xs
ordered-same f none xs (AddChild l) = added-same f none l xs
ordered-same f none xs (PlaceAbove l at) =
    either-same f (list_any (is_member at) (without (Child l) xs)) xs (above (Child l) at (without (Child l) xs)) (above-same f none l at (without (Child l) xs) ∙ without-same f none l xs)
ordered-same f none xs (PlaceBelow l at) =
    either-same f (list_any (is_member at) (without (Child l) xs)) xs (below (Child l) at (without (Child l) xs)) (below-same f none l at (without (Child l) xs) ∙ without-same f none l xs)
ordered-same f none xs r = refl

all-same : {X : Type 0} (f : Member → List X) → ChildrenGiveNone f → (xs : List Member) (rs : List Request) → flat_map f (fold ordered xs rs) ≡ flat_map f xs
all-same f none xs [] = refl
all-same f none xs (r ∷ rs) = all-same f none (ordered xs r) rs ∙ ordered-same f none xs r

-- whatever was asked, the order has the surface itself once
pub order-once : {X : Type 0} (f : Member → List X) → ChildrenGiveNone f → (rs : List Request) → flat_map f (order rs) ≡ f Itself
order-once f none rs = all-same f none (Itself ∷ []) rs ∙ append-nil (f Itself)

pub no-child : (next : ℕ → Place → List Window) (owner : Owner) (surfaces : Surfaces) (surface : ℕ) (h : History) (corner : Place) → surfaces.links ≡ []
    → ChildrenGiveNone (member_windows next owner surfaces surface h corner)
no-child next owner surfaces surface h corner unlinked l = rw unlinked refl

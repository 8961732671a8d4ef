-- A toplevel keeps its roots where the popups that are mapped on one of them stay.
use Rattle.std.proofs.Common.{◌≡◌, ℕ, zero, suc, Bool, true, false, cond, Option, Some, None, List, [], ◌∷◌, ◌++◌, refl, ap, ap₂, sym, subst, ◌∙◌, arith}
use Rattle.std.specs.Prelude.{◌==◌, ◌&&◌, ◌||◌, filter, fold}
use Rattle.std.specs.List.{All, list_any}
use Rattle.std.specs.Option.{option_map_or}
use Rattle.std.proofs.lemmas.Bool.{false_from_ne_true, or_left, or_right}
use Rattle.std.proofs.lemmas.List.{append-nil}
use Rattle.wl_surface.specs.Surfaces.{Surfaces}
use Rattle.spec_desktop.specs.Windows.{Place, Root, StackedPopup, corner_in, geometry_corner, has_parent, popup_place, root_on, roots_of, stacked, stacked_on}
use Rattle.law_desktop.proofs.Soundness.Windows.{In, roots_at}
use Rattle.law_desktop.proofs.Truth.{differ}
use Rattle.law_desktop.proofs.Lists.Each.{Each, each-first}
use Rattle.law_desktop.specs.ToplevelRoots.{RootsStay, has_parent_in, is_on_one}

-- ---- lists

pub each-all : {X : Type 0} (P : X → Type 0) (xs : List X) → Each P xs → All P xs
each-all P [] e k d low = absurd (omega (arith, low))
each-all P (x ∷ xs) e zero d low = e.0
each-all P (x ∷ xs) e (suc k) d low = each-all P xs e.1 k d (omega (arith, low))

pub all-each : {X : Type 0} (P : X → Type 0) (xs : List X) → All P xs → Each P xs
all-each P [] all = tt
all-each P (x ∷ xs) all = (all 0 x (omega arith), all-each P xs (λ k d low. all (suc k) d (omega (arith, low))))

-- ---- roots before others

abbrev pub Within : List Root → List Root → Type 0
Within rs all = (x : ℕ) → In x rs ≡ true → In x all ≡ true

-- the roots that are stacked before are among those that are stacked in the end
pub in-first : (x : ℕ) (rs qs : List Root) → In x rs ≡ true → In x (rs ++ qs) ≡ true
in-first x [] qs e = absurd (differ e)
in-first x (r ∷ rs) qs e = at (roots_at x r) (in-first x rs qs) e
  where
    at : (b : Bool) → (In x rs ≡ true → In x (rs ++ qs) ≡ true) → (b || In x rs) ≡ true → (b || In x (rs ++ qs)) ≡ true
    at true later e = refl
    at false later e = later e

pub in-stacked : (all : Surfaces) (x : ℕ) (rs : List Root) (ps : List StackedPopup) → In x rs ≡ true → In x (fold (stacked all) rs ps) ≡ true
in-stacked all x rs [] e = e
in-stacked all x rs (p ∷ ps) e = in-stacked all x (stacked all rs p) ps (in-first x rs (stacked_on all p rs) e)

pub each-stacked : (P : Root → Type 0) (all : Surfaces) (rs : List Root) (ps : List StackedPopup) → Each P (fold (stacked all) rs ps) → Each P rs
each-stacked P all rs [] e = e
each-stacked P all rs (p ∷ ps) e = each-first P rs (stacked_on all p rs) (each-stacked P all (stacked all rs p) ps e)

-- ---- a popup that isn't mapped on any

abbrev pub in_parent : Option ℕ → List Root → Bool
in_parent parent rs = list_any (λ r. option_map_or (λ surface. r.surface == surface) parent false) rs

no-parent : (rs : List Root) → in_parent None rs ≡ false
no-parent [] = refl
no-parent (r ∷ rs) = no-parent rs

parent-within : (parent : Option ℕ) (rs all : List Root) → Within rs all → in_parent parent rs ≡ true → in_parent parent all ≡ true
parent-within None rs all within e = absurd (differ (sym (no-parent rs) ∙ e))
parent-within (Some x) rs all within e = within x e

and-false : (a b c : Bool) → (b ≡ true → c ≡ true) → (a && c) ≡ false → (a && b) ≡ false
and-false true b c more none = false_from_ne_true b (λ e. differ (sym none ∙ more e))
and-false false b c more none = refl

-- none is stacked where it isn't mapped, or on none of these
pub none-stacked : (all : Surfaces) (p : StackedPopup) (rs : List Root) → is_on_one rs p ≡ false → stacked_on all p rs ≡ []
none-stacked all p [] none = refl
none-stacked all p (r ∷ rs) none =
    ap (λ b. cond b (root_on all r p ∷ []) (stacked_on all p rs))
    (and-false p.is_mapped (has_parent r.surface p) (has_parent r.surface p || has_parent_in rs p) (λ e. or_left (has_parent r.surface p) (has_parent_in rs p) e) none)
    ∙ none-stacked all p rs (and-false p.is_mapped (has_parent_in rs p) (has_parent r.surface p || has_parent_in rs p) (λ e. or_right (has_parent r.surface p) (has_parent_in rs p) e) none)

-- on none of all roots, and so on none of those before
none-before : (all : Surfaces) (p : StackedPopup) (rs roots : List Root) → Within rs roots → is_on_one roots p ≡ false → stacked all rs p ≡ rs
none-before all p rs roots within none =
    ap (λ qs. rs ++ qs) (none-stacked all p rs (and-false p.is_mapped (has_parent_in rs p) (has_parent_in roots p) (parent-within p.parent rs roots within) none)) ∙ append-nil rs

-- ---- those that are mapped on one are all that counts

module _ (all : Surfaces) (roots : List Root) where
  abbrev all_of : List Root → List StackedPopup → List Root
  all_of rs ps = fold (stacked all) rs ps

  abbrev on : List StackedPopup → List StackedPopup
  on ps = filter (is_on_one roots) ps

  -- where all roots are among these
  pub fewer : (rs : List Root) (ps : List StackedPopup) → Within (all_of rs ps) roots → all_of rs (on ps) ≡ all_of rs ps
  fewer rs [] within = refl
  fewer rs (p ∷ ps) within = at (is_on_one roots p) refl (fewer (stacked all rs p) ps within) (fewer rs ps)
    where
      at : (b : Bool) → is_on_one roots p ≡ b → all_of (stacked all rs p) (on ps) ≡ all_of (stacked all rs p) ps
          → (Within (all_of rs ps) roots → all_of rs (on ps) ≡ all_of rs ps) → all_of rs (cond b (p ∷ on ps) (on ps)) ≡ all_of (stacked all rs p) ps
      at true e with without = with
      at false e with without =
          let same = none-before all p rs roots (λ x there. within x (in-stacked all x rs (p ∷ ps) there)) e in
          without (subst (λ qs. Within (all_of qs ps) roots) same within) ∙ ap (λ qs. all_of qs ps) (sym same)

  -- where those are that they alone give
  pub more : (rs : List Root) (ps : List StackedPopup) → Within (all_of rs (on ps)) roots → all_of rs ps ≡ all_of rs (on ps)
  more rs [] within = refl
  more rs (p ∷ ps) within = at (is_on_one roots p) refl (more (stacked all rs p) ps) (more rs ps) within
    where
      at : (b : Bool) → is_on_one roots p ≡ b
          → (Within (all_of (stacked all rs p) (on ps)) roots → all_of (stacked all rs p) ps ≡ all_of (stacked all rs p) (on ps))
          → (Within (all_of rs (on ps)) roots → all_of rs ps ≡ all_of rs (on ps)) → Within (all_of rs (cond b (p ∷ on ps) (on ps))) roots
          → all_of (stacked all rs p) ps ≡ all_of rs (cond b (p ∷ on ps) (on ps))
      at true e with without within = with within
      at false e with without within =
          ap (λ qs. all_of qs ps) (none-before all p rs roots (λ x there. within x (in-stacked all x rs (on ps) there)) e) ∙ without within

-- ---- corners

module _ (old new : Surfaces) where
  abbrev StaysAt : Root → Type 0
  StaysAt r = corner_in new r ≡ corner_in old r

  on-same : (p : StackedPopup) (rs : List Root) → Each StaysAt rs → stacked_on new p rs ≡ stacked_on old p rs
  on-same p [] same = refl
  on-same p (r ∷ rs) same =
      ap₂ (λ q (qs : List Root). cond (p.is_mapped && has_parent r.surface p) (q ∷ []) qs) (ap at same.0) (on-same p rs same.1)
    where
      at : Place → Root
      at corner = record {
        client = r.client;
        surface = p.surface;
        toplevel = r.toplevel;
        geometry = p.geometry;
        place = popup_place (geometry_corner corner r.geometry) p;
      }

  pub same-corners : (rs : List Root) (ps : List StackedPopup) → Each StaysAt (fold (stacked old) rs ps) → fold (stacked new) rs ps ≡ fold (stacked old) rs ps
  same-corners rs [] same = refl
  same-corners rs (p ∷ ps) same =
      ap (λ qs. fold (stacked new) (rs ++ qs) ps) (on-same p rs (each-stacked StaysAt old rs (p ∷ ps) same)) ∙ same-corners (stacked old rs p) ps same

pub roots-stay : RootsStay
roots-stay old new t ps qs corners same =
    let roots : List Root = roots_of old t ps in
    let gives : fold (stacked old) (t ∷ []) (filter (is_on_one roots) ps) ≡ roots = fewer old roots (t ∷ []) ps (λ x there. there) in
    let kept : fold (stacked new) (t ∷ []) (filter (is_on_one roots) qs) ≡ roots =
    ap (λ xs. fold (stacked new) (t ∷ []) xs) same
    ∙ (same-corners old new (t ∷ []) (filter (is_on_one roots) ps)
    (subst (λ (rs : List Root). Each (λ r. corner_in new r ≡ corner_in old r) rs) (sym gives) (all-each (λ r. corner_in new r ≡ corner_in old r) roots corners)) ∙ gives) in
    more new roots (t ∷ []) qs (λ x there. subst (λ (rs : List Root). In x rs ≡ true) kept there) ∙ kept

-- The end of a popup changes the windows stacked with the toplevel that it was stacked with, or none.
use Rattle.std.proofs.Common.{◌≡◌, ℕ, Bool, true, false, cond, List, Option, Some, None, [], ◌∷◌, ◌++◌, map, refl, ap, ap₂, sym, subst, ◌∙◌}
use Rattle.std.specs.Prelude.{◌==◌, ◌≢◌, filter, flat_map, fold, not}
use Rattle.std.specs.Option.{option_and_then, option_map}
use Rattle.std.proofs.lemmas.Bool.{eqb-true, false_from_ne_true}
use Rattle.std.proofs.lemmas.Option.{same_Some}
use Rattle.wl_surface.specs.Surfaces.{Surfaces, history_in}
use Rattle.wl_shell.specs.Popups.{Popped, by_number, is_popup_mapped, popped_of, popups_of}
use Rattle.wl_shell.specs.Shell.{Shell, XdgSurface, with_change, without_role, xdg_at, xdg_of}
use Rattle.wl_geom.specs.declared.rect.Rect.{Rect}
use Rattle.spec_desktop.specs.Popups.{placement_of, stacked_popup, surface_at_xdg}
use Rattle.spec_desktop.specs.Stacking.{geometry_since}
use Rattle.spec_desktop.specs.Windows.{StackedPopup}
use Rattle.spec_desktop.specs.Desktop.{Desktop, owned_in}
use Rattle.law_desktop.proofs.Lists.Keys.{found-map, found-passes}
use Rattle.law_desktop.proofs.Marks.Stacks.{equal-numbers}
use Rattle.law_desktop.specs.TreeStepsLaws.{KeepsAll, counted_in}
use Rattle.law_desktop.specs.Changes.{HasTrees}
use Rattle.law_desktop.specs.StackedWith.{ChangesAt}
use Rattle.law_desktop.proofs.RootsOf.Commits.{fixed-at, own-root}
use Rattle.law_desktop.proofs.RootsOf.Kept.{popups_in, surfaces_in}
use Rattle.law_desktop.proofs.RootsOf.One.{same-standing}
use Rattle.law_desktop.proofs.RootsOf.Ordered.{all-left}
use Rattle.law_desktop.proofs.RootsOf.Popped.{IsThere, all-there, popped-its}
use Rattle.law_desktop.proofs.RootsOf.Requests.{same-keeps}
use Rattle.law_desktop.proofs.RootsOf.Shells.{found-there, geometry-in-counted, there-top}
use Rattle.law_desktop.proofs.RootsOf.Touched.{HadParent, Touches, is_other}
use Rattle.law_desktop.proofs.RootsOf.Trees.{any-tree}
use Rattle.law_desktop.proofs.RootsOf.Turns.{AreFrom, from-filter, popup_surfaces}
use Rattle.law_desktop.proofs.Truth.{differ}
use Rattle.law_desktop.proofs.Lists.Each.{Each}
use Rattle.law_desktop.proofs.Lists.Left.{filter-append, filter-none-each}
use Rattle.law_desktop.proofs.Lists.Tests.{filter-all}

each-passes : {X : Type 0} (k : X → Bool) (xs : List X) → Each (λ x. k x ≡ true) (filter k xs)
each-passes k [] = tt
each-passes k (x ∷ xs) = at (k x) refl (each-passes k xs)
  where
    at : (b : Bool) → k x ≡ b → Each (λ x. k x ≡ true) (filter k xs) → Each (λ x. k x ≡ true) (cond b (x ∷ filter k xs) (filter k xs))
    at true e rest = (e, rest)
    at false e rest = rest

each-mapped : {X : Type 0} (P Q : X → Type 0) → ((x : X) → P x → Q x) → (xs : List X) → Each P xs → Each Q xs
each-mapped P Q f [] e = tt
each-mapped P Q f (x ∷ xs) e = (f x e.0, each-mapped P Q f xs e.1)

module _ (c xdg : ℕ) (d e : Desktop) (had : HasTrees d) (has : HasTrees e) (others : (other : ℕ) → other ≢ c → owned_in e other ≡ owned_in d other) (x : XdgSurface)
    (here : IsThere (owned_in d c).shell x) (id-is : x.id ≡ xdg) (surfaces : surfaces_in e c ≡ surfaces_in d c)
    (shell : (owned_in e c).shell ≡ with_change xdg without_role (owned_in d c).shell) (stack : e.standing ≡ d.standing) where
  abbrev sh : Shell
  sh = (owned_in d c).shell

  abbrev out : XdgSurface → XdgSurface
  out y = cond (y.id == xdg) (without_role y) y

  abbrev k : Popped → Bool
  k p = not (p.xdg.surface == x.surface)

  one : (y : XdgSurface) → IsThere sh y → popped_of (out y) ≡ filter k (popped_of y)
  one y there = at (y.id == xdg) refl
    where
      at : (b : Bool) → (y.id == xdg) ≡ b → popped_of (cond b (without_role y) y) ≡ filter k (popped_of y)
      at true f =
          sym
          (filter-none-each k (popped_of y)
          (each-mapped (λ p. (p.xdg ≡ y) × (popped_of p.xdg ≡ p ∷ [])) (λ p. k p ≡ false)
          (λ p its. ap not (equal-numbers p.xdg.surface x.surface
          (ap (λ (z : XdgSurface). z.surface)
          (its.0 ∙ same_Some y x (sym there.by_id ∙ (ap (λ n. xdg_at n sh) (eqb-true y.id xdg f ∙ sym id-is) ∙ here.by_id)))))) (popped_of y) (popped-its y)))
      at false f =
          sym
          (filter-all k (popped_of y)
          (each-mapped (λ p. (p.xdg ≡ y) × (popped_of p.xdg ≡ p ∷ [])) (λ p. k p ≡ true)
          (λ p its. ap not
          (false_from_ne_true (p.xdg.surface == x.surface)
          (λ g. differ (sym f
          ∙ equal-numbers y.id xdg
          (ap (λ (z : XdgSurface). z.id)
          (same_Some y x
          (sym there.by_surface ∙ (ap (λ n. xdg_of n sh) (ap (λ (z : XdgSurface). z.surface) (sym its.0) ∙ eqb-true p.xdg.surface x.surface g) ∙ here.by_surface)))
          ∙ id-is))))) (popped_of y) (popped-its y)))

  flat : (ys : Shell) → Each (IsThere sh) ys → flat_map popped_of (map out ys) ≡ filter k (flat_map popped_of ys)
  flat [] e = refl
  flat (y ∷ ys) e =
      ap₂ (λ (ps qs : List Popped). ps ++ qs) (one y e.0) (flat ys e.1) ∙ sym (filter-append k (popped_of y) (flat_map popped_of ys))

  without : popups_of (owned_in e c).shell ≡ filter k (popups_of sh)
  without =
      ap popups_of shell
      ∙ (ap (fold (λ ps p. by_number p ps) []) (flat sh (all-there sh (had.ids_apart c) (had.xdg_apart c))) ∙ sym (all-left k (flat_map popped_of sh)))

  stacked-same : (p : Popped) → stacked_popup (owned_in e c) p ≡ stacked_popup (owned_in d c) p
  stacked-same p =
      ap₂ at (parent p.popup.parent) (ap (λ (all : Surfaces). option_and_then (λ h. geometry_since h p.xdg) (history_in p.xdg.surface all)) surfaces)
    where
      at : Option ℕ → Option Rect → StackedPopup
      at parent geometry = record { surface = p.xdg.surface; parent = parent; placement = placement_of p.popup.placement; geometry = geometry; is_mapped = is_popup_mapped p }

      same-id : (y : XdgSurface) (n : ℕ) (b : Bool) → ((cond b (without_role y) y).id == n) ≡ (y.id == n)
      same-id y n true = refl
      same-id y n false = refl

      same-surface : (o : Option XdgSurface) → option_map (λ (y : XdgSurface). y.surface) (option_map out o) ≡ option_map (λ (y : XdgSurface). y.surface) o
      same-surface None = refl
      same-surface (Some y) = by (y.id == xdg)
        where
          by : (b : Bool) → Some ((cond b (without_role y) y).surface) ≡ Some y.surface
          by true = refl
          by false = refl

      parent : (o : Option ℕ) → option_and_then (λ n. surface_at_xdg n (owned_in e c).shell) o ≡ option_and_then (λ n. surface_at_xdg n sh) o
      parent None = refl
      parent (Some n) =
          ap (surface_at_xdg n) shell
          ∙ (ap (option_map (λ (y : XdgSurface). y.surface)) (found-map (λ y. y.id == n) out sh (λ y. same-id y n (y.id == xdg))) ∙ same-surface (xdg_at n sh))

  left-popups : popups_in e c ≡ filter (is_other x.surface) (popups_in d c)
  left-popups = ap (map (stacked_popup (owned_in e c))) without ∙ all (popups_of sh)
    where
      all : (ps : List Popped) → map (stacked_popup (owned_in e c)) (filter k ps) ≡ filter (is_other x.surface) (map (stacked_popup (owned_in d c)) ps)
      all [] = refl
      all (p ∷ ps) = by (k p) (all ps)
        where
          by : (b : Bool) → map (stacked_popup (owned_in e c)) (filter k ps) ≡ filter (is_other x.surface) (map (stacked_popup (owned_in d c)) ps)
              → map (stacked_popup (owned_in e c)) (cond b (p ∷ filter k ps) (filter k ps))
              ≡ cond b (stacked_popup (owned_in d c) p ∷ filter (is_other x.surface) (map (stacked_popup (owned_in d c)) ps)) (filter (is_other x.surface) (map (stacked_popup (owned_in d c)) ps))
          by true rest = ap₂ (λ (q : StackedPopup) (qs : List StackedPopup). q ∷ qs) (stacked-same p) rest
          by false rest = rest

  from-left : (ps : List StackedPopup) → popup_surfaces (filter (is_other x.surface) ps) ≡ filter (λ n. not (n == x.surface)) (popup_surfaces ps)
  from-left [] = refl
  from-left (p ∷ ps) = by (not (p.surface == x.surface)) (from-left ps)
    where
      by : (b : Bool) → popup_surfaces (filter (is_other x.surface) ps) ≡ filter (λ n. not (n == x.surface)) (popup_surfaces ps)
          → popup_surfaces (cond b (p ∷ filter (is_other x.surface) ps) (filter (is_other x.surface) ps))
          ≡ cond b (p.surface ∷ filter (λ n. not (n == x.surface)) (popup_surfaces ps)) (filter (λ n. not (n == x.surface)) (popup_surfaces ps))
      by true rest = ap (λ ns. p.surface ∷ ns) rest
      by false rest = rest

  touches : Touches c x.surface d e
  touches = record {
    others = others;
    trees = λ y top far. any-tree c d e had (subst (λ (all : Surfaces). KeepsAll (surfaces_in d c) all) (sym surfaces) (same-keeps (surfaces_in d c))) y;
    geometries = λ y stands far.
        geometry-in-counted (owned_in d c) (owned_in e c) y
        (ap (xdg_of y) shell ∙ (found-map (λ z. z.surface == y) out sh (λ z. same-surface z y (z.id == xdg)) ∙ fixed y far (xdg_of y sh) refl))
        (ap (counted_in y) surfaces);
    popups =
        ap (filter (is_other x.surface)) left-popups
        ∙ filter-all (is_other x.surface) (filter (is_other x.surface) (popups_in d c)) (each-passes (is_other x.surface) (popups_in d c));
    placed =
        subst (λ (qs : List StackedPopup). Each (λ q. q.surface ≡ x.surface → HadParent x.surface (popups_in d c) q) qs) (sym left-popups)
        (each-mapped (λ q. is_other x.surface q ≡ true) (λ q. q.surface ≡ x.surface → HadParent x.surface (popups_in d c) q)
        (λ q far is. absurd (differ (ap not (sym (equal-numbers q.surface x.surface is)) ∙ far))) (filter (is_other x.surface) (popups_in d c))
        (each-passes (is_other x.surface) (popups_in d c)));
    order =
        subst (λ ns. AreFrom ns (popup_surfaces (popups_in d c))) (sym (ap popup_surfaces left-popups ∙ from-left (popups_in d c)))
        (from-filter (λ n. not (n == x.surface)) (popup_surfaces (popups_in d c)));
  }
    where
      same-surface : (z : XdgSurface) (n : ℕ) (b : Bool) → ((cond b (without_role z) z).surface == n) ≡ (z.surface == n)
      same-surface z n true = refl
      same-surface z n false = refl

      fixed : (y : ℕ) → (y == x.surface) ≡ false → (o : Option XdgSurface) → xdg_of y sh ≡ o → option_map out o ≡ o
      fixed y far None found = refl
      fixed y far (Some z) found =
          ap (λ z. Some z)
          (ap (λ n. cond (z.id == n) (without_role z) z) (sym id-is)
          ∙ fixed-at c d had x here without_role z (found-there c d had y z found)
          (ap (λ n. n == x.surface) (eqb-true z.surface y (found-passes (λ z. z.surface == y) sh z found)) ∙ far))

  pub popup-end-changes : ChangesAt (Some x.surface) c d e
  popup-end-changes root t its with =
      same-standing c root d e had.sound has.sound (subst (λ n. Touches c n d e) (sym (own-root c d had x.surface root (there-top c d had x here) its)) touches) stack t with

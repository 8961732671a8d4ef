-- What changes the xdg_surfaces of a client one by one, and none but that of the root of a tree, touches this tree alone.
use Rattle.std.proofs.Common.{◌≡◌, ℕ, Bool, true, false, cond, List, Option, Some, None, [], ◌∷◌, map, refl, ap, ap₂, sym, subst, ◌∙◌, inl, inr}
use Rattle.std.specs.Prelude.{◌==◌, ◌≢◌, drop, filter, fold, is_some, not}
use Rattle.std.specs.Option.{option_and_then, option_map}
use Rattle.std.proofs.lemmas.Bool.{eqb-true}
use Rattle.wl_geom.specs.declared.rect.Rect.{Rect}
use Rattle.wl_surface.specs.Request.{Request}
use Rattle.wl_surface.specs.State.{History, counting, geometry_asked}
use Rattle.wl_surface.specs.Surfaces.{history_in}
use Rattle.wl_shell.specs.Popups.{Popped, is_popup_mapped, popped_of, popups_of}
use Rattle.wl_shell.specs.Shell.{Shell, XdgSurface, xdg_at, xdg_of}
use Rattle.spec_desktop.specs.Popups.{geometry_at, placement_of, stacked_popup, surface_at_xdg}
use Rattle.spec_desktop.specs.Stacking.{Owned, geometry_in, geometry_since}
use Rattle.spec_desktop.specs.Windows.{StackedPopup}
use Rattle.spec_desktop.specs.Desktop.{Desktop, owned_in}
use Rattle.law_desktop.specs.Soundness.{IsNoChild}
use Rattle.law_desktop.proofs.Lists.Keys.{found-by, found-passes}
use Rattle.law_desktop.proofs.Marks.Stacks.{equal-numbers}
use Rattle.law_desktop.specs.TreeStepsLaws.{counted_in}
use Rattle.law_desktop.specs.Changes.{HasTrees}
use Rattle.law_desktop.proofs.RootsOf.Kept.{RootIsKept, popups_in, surfaces_in}
use Rattle.law_desktop.proofs.RootsOf.Popped.{IsPopped, IsThere, IsThrough, KeepsPopups, all-popped, all-through, first_or, numbered, parent-through, popups-through, surface-through, through}
use Rattle.law_desktop.proofs.RootsOf.Popped.{xdg-through}
use Rattle.law_desktop.proofs.RootsOf.Touched.{HadParent, Touches, is_other}
use Rattle.law_desktop.proofs.RootsOf.Turns.{AreFrom, all-from, popup_surfaces}
use Rattle.law_desktop.proofs.Lists.Each.{Each, each-both, each-map}

-- ---- popups one by one

-- A popup keeps its surface and its parent, and all, where it isn't that of the root.
pub record IsSameBut (root : ℕ) (old new : StackedPopup) : Type 0 where
  pub surface : new.surface ≡ old.surface
  pub parent : new.parent ≡ old.parent
  pub same : (old.surface == root) ≡ false → new ≡ old

module _ {X : Type 0} (root : ℕ) (a b : X → StackedPopup) where
  abbrev AreSame : List X → Type 0
  AreSame xs = Each (λ x. IsSameBut root (a x) (b x)) xs

  pub same-others : (xs : List X) → AreSame xs → filter (is_other root) (map b xs) ≡ filter (is_other root) (map a xs)
  same-others [] e = refl
  same-others (x ∷ xs) e =
      ap (λ n. cond (not (n == root)) (b x ∷ filter (is_other root) (map b xs)) (filter (is_other root) (map b xs))) e.0.surface
      ∙ at ((a x).surface == root) e.0.same (same-others xs e.1)
    where
      at : (q : Bool) → (q ≡ false → b x ≡ a x) → filter (is_other root) (map b xs) ≡ filter (is_other root) (map a xs)
          → cond (not q) (b x ∷ filter (is_other root) (map b xs)) (filter (is_other root) (map b xs)) ≡ cond (not q) (a x ∷ filter (is_other root) (map a xs)) (filter (is_other root) (map a xs))
      at true same rest = rest
      at false same rest = ap₂ (λ (p : StackedPopup) (ps : List StackedPopup). p ∷ ps) (same refl) rest

  pub same-surfaces : (xs : List X) → AreSame xs → popup_surfaces (map b xs) ≡ popup_surfaces (map a xs)
  same-surfaces [] e = refl
  same-surfaces (x ∷ xs) e = ap₂ (λ (n : ℕ) (ns : List ℕ). n ∷ ns) e.0.surface (same-surfaces xs e.1)

  pub same-parents : (xs : List X) → AreSame xs → Each (λ q. q.surface ≡ root → HadParent root (map a xs) q) (map b xs)
  same-parents [] e = tt
  same-parents (x ∷ xs) e = (
    λ is. record { popup = a x; here = inl refl; own = sym e.0.surface ∙ is; same = e.0.parent },
    each-map (λ q. q.surface ≡ root → HadParent root (map a xs) q) (λ q. q.surface ≡ root → HadParent root (a x ∷ map a xs) q)
        (λ q had is. let h = had is in record { popup = h.popup; here = inr h.here; own = h.own; same = h.same }) (map b xs) (same-parents xs e.1),
  )

-- ---- the geometry of an xdg_surface is read from what counts of its surface

abbrev pub geometry_by : ℕ → Option (List Request) → Option Rect
geometry_by since None = None
geometry_by since (Some rs) = fold geometry_asked None (drop since rs)

pub geometry-reads : (x : XdgSurface) (o : Option History) → option_and_then (λ h. geometry_since h x) o ≡ geometry_by x.since (option_map counting o)
geometry-reads x None = refl
geometry-reads x (Some h) = refl

pub geometry-counted : (own new : Owned) (x : XdgSurface) → counted_in x.surface new.surfaces ≡ counted_in x.surface own.surfaces → geometry_at new x ≡ geometry_at own x
geometry-counted own new x same =
    geometry-reads x (history_in x.surface new.surfaces) ∙ (ap (geometry_by x.since) same ∙ sym (geometry-reads x (history_in x.surface own.surfaces)))

abbrev pub geometry_with : Option XdgSurface → Option (List Request) → Option Rect
geometry_with o None = None
geometry_with None (Some rs) = None
geometry_with (Some x) (Some rs) = fold geometry_asked None (drop x.since rs)

pub in-reads : (o : Option XdgSurface) (h : Option History) → option_and_then (λ h. option_and_then (geometry_since h) o) h ≡ geometry_with o (option_map counting h)
in-reads o None = refl
in-reads None (Some h) = refl
in-reads (Some x) (Some h) = refl

pub geometry-in-counted : (own new : Owned) (surface : ℕ) → xdg_of surface new.shell ≡ xdg_of surface own.shell → counted_in surface new.surfaces ≡ counted_in surface own.surfaces
    → geometry_in new surface ≡ geometry_in own surface
geometry-in-counted own new surface xdg same =
    in-reads (xdg_of surface new.shell) (history_in surface new.surfaces)
    ∙ (ap₂ (λ (o : Option XdgSurface) (h : Option (List Request)). geometry_with o h) xdg same ∙ sym (in-reads (xdg_of surface own.shell) (history_in surface own.surfaces)))

-- ---- xdg_surfaces that are there

pub there-of : (shell : Shell) → ((x : XdgSurface) (surface : ℕ) → xdg_of surface shell ≡ Some x → xdg_at x.id shell ≡ Some x) → (surface : ℕ) (x : XdgSurface) → xdg_of surface shell ≡ Some x
    → IsThere shell x
there-of shell by surface x found = record {
  by_id = by x surface found;
  by_surface = ap (λ n. xdg_of n shell) (eqb-true x.surface surface (found-passes (λ x. x.surface == surface) shell x found)) ∙ found;
}

module _ (c : ℕ) (d : Desktop) (had : HasTrees d) where
  pub found-there : (surface : ℕ) (x : XdgSurface) → xdg_of surface (owned_in d c).shell ≡ Some x → IsThere (owned_in d c).shell x
  found-there =
      there-of (owned_in d c).shell
      (λ x surface found. found-by (λ id x. x.id == id) (λ x. x.surface == surface) x.id (owned_in d c).shell x (had.ids_apart c) found (equal-numbers x.id x.id refl))

  pub all-popped-of : Each (IsPopped (owned_in d c).shell) (popups_of (owned_in d c).shell)
  all-popped-of = all-popped (owned_in d c).shell (had.ids_apart c) (had.xdg_apart c)

  -- its surface is no child
  pub there-top : (x : XdgSurface) → IsThere (owned_in d c).shell x → IsNoChild x.surface (surfaces_in d c)
  there-top x there = had.xdg_roots c x.surface (ap is_some there.by_surface)

  module _ (root : ℕ) (e : Desktop) (others : (other : ℕ) → other ≢ c → owned_in e other ≡ owned_in d other) (f : XdgSurface → XdgSurface) (keeps : KeepsPopups f)
      (shell : (owned_in e c).shell ≡ map f (owned_in d c).shell) (trees : (x : ℕ) → IsNoChild x (surfaces_in d c) → (x == root) ≡ false → RootIsKept c d e x)
      (fixed : (x : XdgSurface) → IsThere (owned_in d c).shell x → (x.surface == root) ≡ false → f x ≡ x) where
    abbrev own : Owned
    own = owned_in d c

    abbrev now : Owned
    now = owned_in e c

    abbrev became : Popped → StackedPopup
    became p = stacked_popup now (through f p)

    became-all : popups_in e c ≡ map became (popups_of own.shell)
    became-all = ap (λ (s : Shell). map (stacked_popup now) (popups_of s)) shell ∙ (ap (map (stacked_popup now)) (popups-through f own.shell (numbered f keeps own.shell))
        ∙ twice (popups_of own.shell))
      where
        twice : (ps : List Popped) → map (stacked_popup now) (map (through f) ps) ≡ map became ps
        twice [] = refl
        twice (p ∷ ps) = ap (λ qs. became p ∷ qs) (twice ps)

    parent-same : (o : Option ℕ) → option_and_then (λ xdg. surface_at_xdg xdg now.shell) o ≡ option_and_then (λ xdg. surface_at_xdg xdg own.shell) o
    parent-same None = refl
    parent-same (Some id) = ap (surface_at_xdg id) shell ∙ surface-through f own.shell (numbered f keeps own.shell) id

    one : (p : Popped) → IsPopped own.shell p → IsThrough f p → IsSameBut root (stacked_popup own p) (became p)
    one p popped goes = record {
      surface = ap (λ (x : XdgSurface). x.surface) goes.xdg ∙ keeps.surfaces p.xdg;
      parent = ap (λ o. option_and_then (λ xdg. surface_at_xdg xdg now.shell) o) (parent-through f keeps p popped.its) ∙ parent-same p.popup.parent;
      same = λ out.
          ap (stacked_popup now) (ap (λ x. first_or p (popped_of x)) (fixed p.xdg popped.there out) ∙ ap (first_or p) popped.its)
          ∙ ap₂ (at p) (parent-same p.popup.parent) (geometry-counted own now p.xdg (trees p.xdg.surface (there-top p.xdg popped.there) out).counts);
    }
      where
        at : Popped → Option ℕ → Option Rect → StackedPopup
        at p parent geometry = record {
          surface = p.xdg.surface;
          parent = parent;
          placement = placement_of p.popup.placement;
          geometry = geometry;
          is_mapped = is_popup_mapped p;
        }

    each : Each (λ p. IsSameBut root (stacked_popup own p) (became p)) (popups_of own.shell)
    each =
        each-both (IsPopped own.shell) (IsThrough f) (λ p. IsSameBut root (stacked_popup own p) (became p)) one (popups_of own.shell) all-popped-of
        (all-through f own.shell (numbered f keeps own.shell))

    xdg-same : (surface : ℕ) → (surface == root) ≡ false → xdg_of surface now.shell ≡ xdg_of surface own.shell
    xdg-same surface out = ap (xdg_of surface) shell ∙ (xdg-through f own.shell (numbered f keeps own.shell) surface ∙ at (xdg_of surface own.shell) refl)
      where
        at : (o : Option XdgSurface) → xdg_of surface own.shell ≡ o → option_map f o ≡ o
        at None found = refl
        at (Some x) found =
            ap (λ x. Some x)
            (fixed x (found-there surface x found)
            (ap (λ n. n == root) (eqb-true x.surface surface (found-passes (λ x. x.surface == surface) own.shell x found)) ∙ out))

    pub shell-touches : Touches c root d e
    shell-touches = record {
      others = others;
      trees = trees;
      geometries = λ x stands out.
          geometry-in-counted own now x (xdg-same x out) (trees x (had.sound.toplevel_roots c x stands) out).counts;
      popups = ap (filter (is_other root)) became-all ∙ same-others root (stacked_popup own) became (popups_of own.shell) each;
      placed =
          subst (λ (qs : List StackedPopup). Each (λ q. q.surface ≡ root → HadParent root (popups_in d c) q) qs) (sym became-all)
          (same-parents root (stacked_popup own) became (popups_of own.shell) each);
      order =
          subst (λ ns. AreFrom ns (popup_surfaces (popups_in d c)))
          (sym (ap popup_surfaces became-all ∙ same-surfaces root (stacked_popup own) became (popups_of own.shell) each)) (all-from (popup_surfaces (popups_in d c)));
    }

-- nothing changes of the xdg_surfaces
pub same-list : {X : Type 0} (xs : List X) → xs ≡ map (λ x. x) xs
same-list [] = refl
same-list (x ∷ xs) = ap (λ ys. x ∷ ys) (same-list xs)

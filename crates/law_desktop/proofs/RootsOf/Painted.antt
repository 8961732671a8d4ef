-- Where a client keeps its toplevels' geometries, the popups that are mapped on one of their roots, and the trees of these, no window changes.
use Rattle.std.proofs.Common.{◌≡◌, ℕ, Bool, true, false, List, Option, Some, None, [], ◌∷◌, map, refl, ap, ap₂, sym, subst, ◌∙◌, inl, inr}
use Rattle.std.specs.Prelude.{◌==◌, ◌||◌, ◌⊎◌, ◌≢◌, filter, find}
use Rattle.std.specs.List.{list_any}
use Rattle.std.specs.Option.{option_and_then, option_map}
use Rattle.std.proofs.lemmas.Bool.{eqb-false, eqb-true}
use Rattle.wl_geom.specs.declared.rect.Rect.{Rect}
use Rattle.wl_surface.specs.Request.{Request}
use Rattle.wl_surface.specs.Surfaces.{history_in}
use Rattle.wl_shell.specs.Popups.{Popped, is_popup_mapped, popped_of, popups_of}
use Rattle.wl_shell.specs.Positioner.{Placed}
use Rattle.wl_shell.specs.Shell.{Shell, XdgSurface, xdg_of}
use Rattle.spec_desktop.specs.Popups.{geometry_at, placement_of, stacked_popup, surface_at_xdg}
use Rattle.spec_desktop.specs.Stacking.{Owned, Standing, geometry_in, is_of, root_of, shows_buffer}
use Rattle.spec_desktop.specs.Windows.{StackedPopup}
use Rattle.spec_desktop.specs.Desktop.{Desktop, owned_in}
use Rattle.law_desktop.proofs.Marks.Stacks.{same-number}
use Rattle.law_desktop.proofs.Soundness.Trees.{all-there}
use Rattle.law_desktop.proofs.Soundness.Windows.{In, same_root}
use Rattle.law_desktop.specs.TreeStepsLaws.{KeepsAll, counted_in}
use Rattle.law_desktop.specs.Changes.{HasTrees, StaysPainted}
use Rattle.law_desktop.specs.ToplevelRoots.{has_parent_in, is_on_one}
use Rattle.law_desktop.specs.StackedWith.{stacked_roots}
use Rattle.law_desktop.proofs.RootsOf.Away.{IsOnRoot, each-in, root-or-popup}
use Rattle.law_desktop.proofs.RootsOf.Change.{all-painted}
use Rattle.law_desktop.proofs.RootsOf.Kept.{RootIsKept, ToplevelIsKept, foreign-kept, popups_in, surfaces_in}
use Rattle.law_desktop.proofs.RootsOf.Popped.{IsPopped, IsThrough, KeepsPopups, all-through, first_or, numbered, parent-through, popups-through, surface-through, through, xdg-through}
use Rattle.law_desktop.proofs.RootsOf.Shells.{all-popped-of, geometry-reads, geometry_by, geometry_with, in-reads}
use Rattle.law_desktop.proofs.RootsOf.Stacked.{all-found, found-any}
use Rattle.law_desktop.proofs.RootsOf.Staying.{all-each}
use Rattle.law_desktop.proofs.RootsOf.Trees.{any-tree}
use Rattle.law_desktop.proofs.Truth.{and-left}
use Rattle.law_desktop.proofs.Lists.Each.{Each, each-both, each-map}

-- ---- a root shows a buffer

abbrev Shows : ℕ → Desktop → ℕ → Type 0
Shows c d x = shows_buffer (history_in x (surfaces_in d c)) ≡ true

pub roots-show : (d : Desktop) → HasTrees d → (s : Standing) → list_any (is_of s.client s.surface) d.standing ≡ true
    → Each (λ r. shows_buffer (history_in r.surface (surfaces_in d s.client)) ≡ true) (stacked_roots d s)
roots-show d had s stands =
    each-map (λ r. In r.surface (stacked_roots d s) ≡ true) (λ r. Shows s.client d r.surface)
    (λ r there. at r.surface (root-or-popup (surfaces_in d s.client) r.surface (root_of (owned_in d) s ∷ []) (popups_in d s.client) there))
    (stacked_roots d s) (all-there same_root (λ r. same-number r.surface) (stacked_roots d s))
  where
    first : (a : Bool) → (a || false) ≡ true → a ≡ true
    first true g = refl
    first false g = g

    at : (x : ℕ) → (In x (root_of (owned_in d) s ∷ []) ≡ true) ⊎ IsOnRoot (stacked_roots d s) (popups_in d s.client) x → Shows s.client d x
    at x (inl own) = subst (Shows s.client d) (eqb-true s.surface x (first (s.surface == x) own)) (had.toplevels_show s.client s.surface stands)
    at x (inr on) =
        subst (Shows s.client d) on.own
        (each-in (λ p. p.is_mapped ≡ true → Shows s.client d p.surface) on.popup (popups_in d s.client) on.known
        (all-each (λ p. p.is_mapped ≡ true → Shows s.client d p.surface) (popups_in d s.client) (had.popups_show s.client))
        (and-left on.popup.is_mapped (has_parent_in (stacked_roots d s) on.popup) on.mapped))

-- ---- all of a client

module _ (c : ℕ) (d e : Desktop) (had : HasTrees d) (others : (other : ℕ) → other ≢ c → owned_in e other ≡ owned_in d other)
    (trees : (x : ℕ) → shows_buffer (history_in x (surfaces_in d c)) ≡ true → RootIsKept c d e x) where
  -- a toplevel that stands
  pub one-kept : (s : Standing) → find (is_of s.client s.surface) d.standing ≡ Some s → s.client ≡ c → geometry_in (owned_in e c) s.surface ≡ geometry_in (owned_in d c) s.surface
      → filter (is_on_one (stacked_roots d s)) (popups_in e c) ≡ filter (is_on_one (stacked_roots d s)) (popups_in d c) → ToplevelIsKept d e s
  one-kept s found is geometry popups = record {
    geometry = subst (λ n. geometry_in (owned_in e n) s.surface ≡ geometry_in (owned_in d n) s.surface) (sym is) geometry;
    popups =
        subst (λ n. filter (is_on_one (stacked_roots d s)) (popups_in e n) ≡ filter (is_on_one (stacked_roots d s)) (popups_in d n)) (sym is) popups;
    roots =
        each-map (λ r. Shows s.client d r.surface) (λ r. RootIsKept s.client d e r.surface)
        (λ r shows. subst (λ n. RootIsKept n d e r.surface) (sym is) (trees r.surface (subst (λ n. Shows n d r.surface) is shows))) (stacked_roots d s)
        (roots-show d had s (found-any (is_of s.client s.surface) d.standing s found));
  }

  pub painted : e.standing ≡ d.standing
      → ((s : Standing) → find (is_of s.client s.surface) d.standing ≡ Some s → s.client ≡ c → geometry_in (owned_in e c) s.surface ≡ geometry_in (owned_in d c) s.surface)
      → ((s : Standing) → find (is_of s.client s.surface) d.standing ≡ Some s → s.client ≡ c
      → filter (is_on_one (stacked_roots d s)) (popups_in e c) ≡ filter (is_on_one (stacked_roots d s)) (popups_in d c)) → StaysPainted d e
  painted stack geometries popups =
      all-painted d e had.sound stack
      (each-map (λ s. find (is_of s.client s.surface) d.standing ≡ Some s) (ToplevelIsKept d e) (λ s found. at s found (s.client == c) refl) d.standing
      (all-found d.standing had.sound.apart))
    where
      at : (s : Standing) → find (is_of s.client s.surface) d.standing ≡ Some s → (b : Bool) → (s.client == c) ≡ b → ToplevelIsKept d e s
      at s found true f = let is = eqb-true s.client c f in one-kept s found is (geometries s found is) (popups s found is)
      at s found false f = foreign-kept d e s (others s.client (eqb-false s.client c f))

-- ---- changes of xdg_surfaces that nothing is stacked by

abbrev pub AreAsStacked : List Popped → List Popped → Type 0
AreAsStacked [] [] = Unit {0}
AreAsStacked [] (q ∷ qs) = ⊥
AreAsStacked (p ∷ ps) [] = ⊥
AreAsStacked (p ∷ ps) (q ∷ []) = (q.popup.placement ≡ p.popup.placement) × (is_popup_mapped q ≡ is_popup_mapped p)
AreAsStacked (p ∷ ps) (q ∷ r ∷ qs) = ⊥

-- a window geometry counts from the same place on, and a popup is mapped, and placed, as it was
pub record KeepsStacked (f : XdgSurface → XdgSurface) : Type 0 where
  pub since : (x : XdgSurface) → (f x).since ≡ x.since
  pub popups : (x : XdgSurface) → AreAsStacked (popped_of x) (popped_of (f x))

as-stacked : (p : Popped) (qs : List Popped) → AreAsStacked (p ∷ []) qs → ((first_or p qs).popup.placement ≡ p.popup.placement) × (is_popup_mapped (first_or p qs) ≡ is_popup_mapped p)
as-stacked p [] e = absurd e
as-stacked p (q ∷ []) e = e
as-stacked p (q ∷ r ∷ qs) e = absurd e

module _ (c : ℕ) (d e : Desktop) (had : HasTrees d) (f : XdgSurface → XdgSurface) (keeps : KeepsPopups f) (stacks : KeepsStacked f) (shell : (owned_in e c).shell ≡ map f (owned_in d c).shell)
    (counts : (x : ℕ) → counted_in x (surfaces_in e c) ≡ counted_in x (surfaces_in d c)) where
  abbrev own : Owned
  own = owned_in d c

  abbrev now : Owned
  now = owned_in e c

  parent-same : (o : Option ℕ) → option_and_then (λ xdg. surface_at_xdg xdg now.shell) o ≡ option_and_then (λ xdg. surface_at_xdg xdg own.shell) o
  parent-same None = refl
  parent-same (Some id) = ap (surface_at_xdg id) shell ∙ surface-through f own.shell (numbered f keeps own.shell) id

  one : (p : Popped) → IsPopped own.shell p → IsThrough f p → stacked_popup now (through f p) ≡ stacked_popup own p
  one p popped goes = stacked-by now own (through f p) p
      (ap (λ (x : XdgSurface). x.surface) goes.xdg ∙ keeps.surfaces p.xdg)
      (ap (λ o. option_and_then (λ xdg. surface_at_xdg xdg now.shell) o) (parent-through f keeps p popped.its) ∙ parent-same p.popup.parent)
      known.0 geometry known.1
    where
      stacked-by : (a b : Owned) (q p : Popped) → q.xdg.surface ≡ p.xdg.surface
          → option_and_then (λ xdg. surface_at_xdg xdg a.shell) q.popup.parent ≡ option_and_then (λ xdg. surface_at_xdg xdg b.shell) p.popup.parent
          → q.popup.placement ≡ p.popup.placement → geometry_at a q.xdg ≡ geometry_at b p.xdg → is_popup_mapped q ≡ is_popup_mapped p → stacked_popup a q ≡ stacked_popup b p
      stacked-by a b q p surface parent placement geometry mapped =
          ap (λ n. at n (option_and_then (λ xdg. surface_at_xdg xdg a.shell) q.popup.parent) q.popup.placement (geometry_at a q.xdg) (is_popup_mapped q)) surface
          ∙ (ap (λ o. at p.xdg.surface o q.popup.placement (geometry_at a q.xdg) (is_popup_mapped q)) parent
          ∙ (ap (λ (o : Option Placed). at p.xdg.surface (option_and_then (λ xdg. surface_at_xdg xdg b.shell) p.popup.parent) o (geometry_at a q.xdg) (is_popup_mapped q)) placement
          ∙ ap₂ (λ (o : Option Rect) (m : Bool). at p.xdg.surface (option_and_then (λ xdg. surface_at_xdg xdg b.shell) p.popup.parent) p.popup.placement o m) geometry mapped))
        where
          at : ℕ → Option ℕ → Option Placed → Option Rect → Bool → StackedPopup
          at surface parent placement geometry mapped =
              record { surface = surface; parent = parent; placement = placement_of placement; geometry = geometry; is_mapped = mapped }

      known : ((through f p).popup.placement ≡ p.popup.placement) × (is_popup_mapped (through f p) ≡ is_popup_mapped p)
      known =
          as-stacked p (popped_of (f p.xdg))
          (subst (λ (ps : List Popped). AreAsStacked ps (popped_of (f p.xdg))) popped.its (stacks.popups p.xdg))

      geometry : geometry_at now (through f p).xdg ≡ geometry_at own p.xdg
      geometry =
          ap (geometry_at now) goes.xdg
          ∙ (geometry-reads (f p.xdg) (history_in (f p.xdg).surface now.surfaces)
          ∙ (ap₂ (λ (n m : ℕ). geometry_by n (counted_in m now.surfaces)) (stacks.since p.xdg) (keeps.surfaces p.xdg)
          ∙ (ap (geometry_by p.xdg.since) (counts p.xdg.surface) ∙ sym (geometry-reads p.xdg (history_in p.xdg.surface own.surfaces)))))

  pub same-popups : popups_in e c ≡ popups_in d c
  same-popups =
      ap (λ (s : Shell). map (stacked_popup now) (popups_of s)) shell
      ∙ (ap (map (stacked_popup now)) (popups-through f own.shell (numbered f keeps own.shell))
      ∙ all (popups_of own.shell)
      (each-both (IsPopped own.shell) (IsThrough f) (λ p. stacked_popup now (through f p)
      ≡ stacked_popup own p) one (popups_of own.shell) (all-popped-of c d had) (all-through f own.shell (numbered f keeps own.shell))))
    where
      all : (ps : List Popped) → Each (λ p. stacked_popup now (through f p) ≡ stacked_popup own p) ps → map (stacked_popup now) (map (through f) ps) ≡ map (stacked_popup own) ps
      all [] each = refl
      all (p ∷ ps) each = ap₂ (λ (q : StackedPopup) (qs : List StackedPopup). q ∷ qs) each.0 (all ps each.1)

  pub same-geometry : (surface : ℕ) → geometry_in (owned_in e c) surface ≡ geometry_in (owned_in d c) surface
  same-geometry surface =
      in-reads (xdg_of surface now.shell) (history_in surface now.surfaces)
      ∙ (ap (λ (s : Shell). geometry_with (xdg_of surface s) (counted_in surface now.surfaces)) shell
      ∙ (ap (λ o. geometry_with o (counted_in surface now.surfaces)) (xdg-through f own.shell (numbered f keeps own.shell) surface)
      ∙ (since (xdg_of surface own.shell) (counted_in surface now.surfaces)
      ∙ (ap (geometry_with (xdg_of surface own.shell)) (counts surface) ∙ sym (in-reads (xdg_of surface own.shell) (history_in surface own.surfaces))))))
    where
      since : (o : Option XdgSurface) (rs : Option (List Request)) → geometry_with (option_map f o) rs ≡ geometry_with o rs
      since o None = refl
      since None (Some rs) = refl
      since (Some x) (Some rs) = ap (λ n. geometry_by n (Some rs)) (stacks.since x)

-- ---- nothing that is stacked changes

pub keeps-painted : (c : ℕ) (d e : Desktop) → HasTrees d → ((other : ℕ) → other ≢ c → owned_in e other ≡ owned_in d other) → KeepsAll (surfaces_in d c) (surfaces_in e c)
    → (f : XdgSurface → XdgSurface) → KeepsPopups f → KeepsStacked f → (owned_in e c).shell ≡ map f (owned_in d c).shell → e.standing ≡ d.standing → StaysPainted d e
keeps-painted c d e had others all f keeps stacks shell stack =
    painted c d e had others (λ x shows. any-tree c d e had all x) stack (λ s found is. same-geometry c d e had f keeps stacks shell all.counts s.surface)
    (λ s found is. ap (filter (is_on_one (stacked_roots d s))) (same-popups c d e had f keeps stacks shell all.counts))

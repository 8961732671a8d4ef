-- A toplevel that keeps its roots with their trees keeps its windows, and no damage is applied to them.
use Rattle.std.proofs.Common.{◌≡◌, ℕ, ◌&&◌, true, false, Option, Some, None, List, [], ◌∷◌, ◌++◌, ◌==◌, refl, ap, sym, subst, ◌∙◌}
use Rattle.std.specs.Prelude.{ℤ, filter, flat_map, int_le, map, pos, unsigned_abs}
use Rattle.std.specs.List.{list_any}
use Rattle.std.specs.Option.{option_map}
use Rattle.std.proofs.lemmas.Bool.{and_from, eqb-true, false_from_ne_true, or_from}
use Rattle.wl_geom.specs.declared.rect.Rect.{Rect}
use Rattle.wl_surface.specs.Request.{Request}
use Rattle.wl_surface.specs.State.{History, counting, offset}
use Rattle.wl_surface.specs.Surfaces.{Surfaces, history_in}
use Rattle.spec_desktop.specs.Popups.{stacked_popups}
use Rattle.spec_desktop.specs.Stacking.{Owned, Standing, geometry_in, is_of, root_of}
use Rattle.spec_desktop.specs.Windows.{Owner, Place, Root, StackedPopup, Window, corner_at, corner_in, moved, owner_of, root_on, roots_of, tree, windows}
use Rattle.spec_desktop.specs.Desktop.{Desktop, owned_in}
use Rattle.spec_desktop.specs.Moments.{applied_between}
use Rattle.law_desktop.proofs.Lists.Standings.{of-client, of-it, of-surface}
use Rattle.law_desktop.proofs.Marks.Stacks.{equal-numbers}
use Rattle.law_desktop.proofs.Soundness.Trees.{each-flat, none-append}
use Rattle.law_desktop.specs.TreeMarksLaws.{AreUndamaged}
use Rattle.law_desktop.specs.TreeStepsLaws.{counted_in}
use Rattle.law_desktop.proofs.TreeSteps.Damage.{applies-nothing}
use Rattle.law_desktop.proofs.TreeSteps.Owners.{tree-owned}
use Rattle.law_desktop.proofs.TreeSteps.Reading.{flat-each}
use Rattle.law_desktop.specs.ToplevelRoots.{is_on_one}
use Rattle.law_desktop.specs.StackedWith.{stacked_roots}
use Rattle.law_desktop.specs.Toplevel.{has_toplevel}
use Rattle.law_desktop.proofs.RootsOf.Staying.{each-all, roots-stay}
use Rattle.law_desktop.proofs.Truth.{and-false, and-left, and-right, differ, or-left, or-right}
use Rattle.law_desktop.proofs.Lists.Each.{Each, each-append, each-both, each-map, each-of}
use Rattle.law_desktop.proofs.Soundness.Windows.{stacked-each}

-- ---- a toplevel that stands

abbrev pub surfaces_in : Desktop → ℕ → Surfaces
surfaces_in d c = (owned_in d c).surfaces

abbrev pub popups_in : Desktop → ℕ → List StackedPopup
popups_in d c = stacked_popups (owned_in d c)

-- the windows of a root
abbrev pub tree_in : Desktop → Root → List Window
tree_in d r = tree 17 (owner_of r) (surfaces_in d r.client) r.surface r.place

abbrev pub shown : Desktop → Standing → List Window
shown d s = flat_map (tree_in d) (stacked_roots d s)

-- those of these toplevels
abbrev pub shown_of : Desktop → List Standing → List Window
shown_of d ss = windows (surfaces_in d) (popups_in d) (map (root_of (owned_in d)) ss)

-- ---- the corner of a root

abbrev corner_of : Place → Option History → Place
corner_of place None = place
corner_of place (Some h) = corner_at place h

abbrev corner_by : Place → Option (List Request) → Place
corner_by place None = place
corner_by place (Some rs) = moved place (offset rs).x (offset rs).y

-- it is read from what counts of its surface
corner-reads : (place : Place) (o : Option History) → corner_of place o ≡ corner_by place (option_map counting o)
corner-reads place None = refl
corner-reads place (Some h) = refl

pub counted-corner : (all new : Surfaces) (r : Root) → counted_in r.surface new ≡ counted_in r.surface all → corner_in new r ≡ corner_in all r
counted-corner all new r same =
    corner-reads r.place (history_in r.surface new) ∙ (ap (corner_by r.place) same ∙ sym (corner-reads r.place (history_in r.surface all)))

-- ---- what is kept

-- no damage is applied to the surface of the window
abbrev pub IsUndamaged : Desktop → Desktop → Window → Type 0
IsUndamaged d e w = (x y : ℤ) → applied_between d e w.owner.client w.surface x y ≡ false

-- The tree of this root of a client keeps its windows, wherever it stands, and what counts of its root.
pub record RootIsKept (c : ℕ) (d e : Desktop) (x : ℕ) : Type 0 where
  pub counts : counted_in x (surfaces_in e c) ≡ counted_in x (surfaces_in d c)
  pub windows : (owner : Owner) (place : Place) → tree 17 owner (surfaces_in e c) x place ≡ tree 17 owner (surfaces_in d c) x place
  pub undamaged : (owner : Owner) (place : Place) → owner.client ≡ c → Each (IsUndamaged d e) (tree 17 owner (surfaces_in d c) x place)

-- A toplevel keeps its geometry, those popups that are mapped on one of its roots, and the trees of all roots.
pub record ToplevelIsKept (d e : Desktop) (s : Standing) : Type 0 where
  pub geometry : geometry_in (owned_in e s.client) s.surface ≡ geometry_in (owned_in d s.client) s.surface
  pub popups : filter (is_on_one (stacked_roots d s)) (popups_in e s.client) ≡ filter (is_on_one (stacked_roots d s)) (popups_in d s.client)
  pub roots : Each (λ r. RootIsKept s.client d e r.surface) (stacked_roots d s)

-- ---- each root of a toplevel is its client's, and stacked with it

pub record IsRoot (s : Standing) (r : Root) : Type 0 where
  pub client : r.client ≡ s.client
  pub toplevel : r.toplevel ≡ s.surface

pub are-roots : (d : Desktop) (s : Standing) → Each (IsRoot s) (stacked_roots d s)
are-roots d s =
    stacked-each (IsRoot s) (surfaces_in d s.client) (root_of (owned_in d) s ∷ []) (popups_in d s.client) (record { client = refl; toplevel = refl }, tt)
    (each-of (λ p. (r : Root) → IsRoot s r → IsRoot s (root_on (surfaces_in d s.client) r p)) (λ p r is. record { client = is.client; toplevel = is.toplevel }) (popups_in d s.client))

-- so are its windows
pub record IsShownBy (s : Standing) (w : Window) : Type 0 where
  pub client : w.owner.client ≡ s.client
  pub toplevel : w.owner.toplevel ≡ s.surface

pub are-shown : (d : Desktop) (s : Standing) → Each (IsShownBy s) (shown d s)
are-shown d s =
    each-flat (IsShownBy s) (tree_in d) (stacked_roots d s)
    (each-map (IsRoot s) (λ r. Each (IsShownBy s) (tree_in d r))
    (λ r is.
    each-map (λ w. w.owner ≡ owner_of r) (IsShownBy s)
    (λ w of. record { client = ap (λ o. o.client) of ∙ is.client; toplevel = ap (λ o. o.toplevel) of ∙ is.toplevel })
    (tree_in d r) (tree-owned 17 (owner_of r) (surfaces_in d r.client) r.surface r.place))
    (stacked_roots d s) (are-roots d s))

-- ---- a toplevel that is kept

module _ (d e : Desktop) where
  pub kept-shown : (s : Standing) → ToplevelIsKept d e s → shown e s ≡ shown d s
  kept-shown s kept =
      ap (flat_map (tree_in e)) roots
      ∙ flat-each (tree_in e) (tree_in d) (stacked_roots d s)
      (each-both (IsRoot s) (λ r. RootIsKept s.client d e r.surface) (λ r. tree_in e r ≡ tree_in d r)
      (λ r is keeps. subst (λ c. tree 17 (owner_of r) (surfaces_in e c) r.surface r.place ≡ tree 17 (owner_of r) (surfaces_in d c) r.surface r.place) (sym is.client)
      (keeps.windows (owner_of r) r.place)) (stacked_roots d s) (are-roots d s) kept.roots)
    where
      at : Option Rect → Root
      at geometry = record (root_of (owned_in d) s) { geometry = geometry }

      roots : stacked_roots e s ≡ stacked_roots d s
      roots =
          ap (λ geometry. roots_of (surfaces_in e s.client) (at geometry) (popups_in e s.client)) kept.geometry
          ∙ roots-stay (surfaces_in d s.client) (surfaces_in e s.client) (root_of (owned_in d) s) (popups_in d s.client) (popups_in e s.client)
          (each-all (λ r. corner_in (surfaces_in e s.client) r ≡ corner_in (surfaces_in d s.client) r) (stacked_roots d s)
          (each-map (λ r. RootIsKept s.client d e r.surface) (λ r. corner_in (surfaces_in e s.client) r
          ≡ corner_in (surfaces_in d s.client) r) (λ r keeps. counted-corner (surfaces_in d s.client) (surfaces_in e s.client) r keeps.counts)
          (stacked_roots d s) kept.roots)) kept.popups

  pub kept-undamaged : (s : Standing) → ToplevelIsKept d e s → Each (IsUndamaged d e) (shown d s)
  kept-undamaged s kept =
      each-flat (IsUndamaged d e) (tree_in d) (stacked_roots d s)
      (each-both (IsRoot s) (λ r. RootIsKept s.client d e r.surface) (λ r. Each (IsUndamaged d e) (tree_in d r))
      (λ r is keeps. subst (λ c. Each (IsUndamaged d e) (tree 17 (owner_of r) (surfaces_in d c) r.surface r.place)) (sym is.client) (keeps.undamaged (owner_of r) r.place is.client))
      (stacked_roots d s) (are-roots d s) kept.roots)

  -- nothing is applied to a surface of which all is as it was
  pub same-undamaged : (c surface : ℕ) → history_in surface (surfaces_in e c) ≡ history_in surface (surfaces_in d c) → (x y : ℤ) → applied_between d e c surface x y ≡ false
  same-undamaged c surface same x y =
      ap (λ b. (int_le (pos 0) x && int_le (pos 0) y) && b)
      (applies-nothing (history_in surface (surfaces_in d c)) (history_in surface (surfaces_in e c)) (ap (option_map (λ (h : History). h.cut)) same) (unsigned_abs x) (unsigned_abs y))
      ∙ and-false (int_le (pos 0) x && int_le (pos 0) y)

  -- the toplevel of a client that owns what it did
  pub foreign-kept : (s : Standing) → owned_in e s.client ≡ owned_in d s.client → ToplevelIsKept d e s
  foreign-kept s same = record {
    geometry = ap (λ (o : Owned). geometry_in o s.surface) same;
    popups = ap (λ (o : Owned). filter (is_on_one (stacked_roots d s)) (stacked_popups o)) same;
    roots = each-of (λ r. RootIsKept s.client d e r.surface) (λ r. root r.surface) (stacked_roots d s);
  }
    where
      root : (x : ℕ) → RootIsKept s.client d e x
      root x = record {
        counts = ap (λ (o : Owned). counted_in x o.surfaces) same;
        windows = λ owner place. ap (λ (o : Owned). tree 17 owner o.surfaces x place) same;
        undamaged = λ owner place is.
            each-map (λ w. w.owner ≡ owner) (IsUndamaged d e)
            (λ w of. same-undamaged w.owner.client w.surface (ap (history_in w.surface)
            (subst (λ c. surfaces_in e c ≡ surfaces_in d c) (sym (ap (λ o. o.client) of ∙ is)) (ap (λ (o : Owned). o.surfaces) same))))
            (tree 17 owner (surfaces_in d s.client) x place) (tree-owned 17 owner (surfaces_in d s.client) x place);
      }

  -- ---- several

  pub all-shown : (ss : List Standing) → Each (ToplevelIsKept d e) ss → shown_of e ss ≡ shown_of d ss
  all-shown [] kept = refl
  all-shown (s ∷ ss) kept = ap (λ ws. ws ++ shown_of e ss) (kept-shown s kept.0) ∙ ap (λ ws. shown d s ++ ws) (all-shown ss kept.1)

  pub all-undamaged : (ss : List Standing) → Each (ToplevelIsKept d e) ss → AreUndamaged (applied_between d e) (shown_of d ss)
  all-undamaged ss kept x y = none (shown_of d ss) (each ss kept)
    where
      none : (ws : List Window) → Each (IsUndamaged d e) ws → list_any (λ w. applied_between d e w.owner.client w.surface x y) ws ≡ false
      none [] each = refl
      none (w ∷ ws) each =
          or_from (applied_between d e w.owner.client w.surface x y) (list_any (λ w. applied_between d e w.owner.client w.surface x y) ws) (each.0 x y) (none ws each.1)

      each : (ss : List Standing) → Each (ToplevelIsKept d e) ss → Each (IsUndamaged d e) (shown_of d ss)
      each [] kept = tt
      each (s ∷ ss) kept = each-append (IsUndamaged d e) (shown d s) (shown_of d ss) (kept-undamaged s kept.0) (each ss kept.1)

-- ---- whose they are

-- those of a toplevel of this surface are stacked with it
pub own-toplevel : (c t : ℕ) (d : Desktop) (s : Standing) → is_of c t s ≡ true → Each (λ w. has_toplevel c t w ≡ true) (shown d s)
own-toplevel c t d s its =
    each-map (IsShownBy s) (λ w. has_toplevel c t w ≡ true)
    (λ w is. and_from (c == w.owner.client) (t == w.owner.toplevel)
    (equal-numbers c w.owner.client (sym (is.client ∙ of-client c t s its))) (equal-numbers t w.owner.toplevel (sym (is.toplevel ∙ of-surface c t s its))))
    (shown d s) (are-shown d s)

-- and no others
pub no-toplevel : (c t : ℕ) (d : Desktop) (ss : List Standing) → list_any (is_of c t) ss ≡ false → list_any (has_toplevel c t) (shown_of d ss) ≡ false
no-toplevel c t d [] none = refl
no-toplevel c t d (s ∷ ss) none =
    none-append (has_toplevel c t) (shown d s) (shown_of d ss) (one (shown d s) (are-shown d s)) (no-toplevel c t d ss (or-right (is_of c t s) (list_any (is_of c t) ss) none))
  where
    other : (w : Window) → IsShownBy s w → has_toplevel c t w ≡ false
    other w is =
        false_from_ne_true (has_toplevel c t w)
        (λ e. differ (sym (or-left (is_of c t s) (list_any (is_of c t) ss) none)
        ∙ of-it c t s (sym is.client ∙ sym (eqb-true c w.owner.client (and-left (c == w.owner.client) (t == w.owner.toplevel) e)))
        (sym is.toplevel ∙ sym (eqb-true t w.owner.toplevel (and-right (c == w.owner.client) (t == w.owner.toplevel) e)))))

    one : (ws : List Window) → Each (IsShownBy s) ws → list_any (has_toplevel c t) ws ≡ false
    one [] each = refl
    one (w ∷ ws) each = or_from (has_toplevel c t w) (list_any (has_toplevel c t) ws) (other w each.0) (one ws each.1)

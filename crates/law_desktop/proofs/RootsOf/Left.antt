-- Which popups are left that are mapped on a root: those whose xdg_surfaces stay, where the others are on none, before and after.
use Rattle.std.proofs.Common.{◌≡◌, ℕ, Bool, true, false, cond, List, Option, Some, None, [], ◌∷◌, map, refl, ap, ap₂, sym, subst, ◌∙◌, inl, inr}
use Rattle.std.specs.Prelude.{◌==◌, ◌||◌, ◌⊎◌, filter, find, fold}
use Rattle.std.specs.List.{list_any}
use Rattle.std.specs.Option.{option_and_then, option_map, option_map_or}
use Rattle.std.proofs.lemmas.Bool.{and_right, eqb-true, false_from_ne_true, or_left}
use Rattle.std.proofs.lemmas.Option.{same_Some}
use Rattle.wl_geom.specs.declared.rect.Rect.{Rect}
use Rattle.wl_surface.specs.Request.{Request}
use Rattle.wl_surface.specs.Surfaces.{Surfaces, history_in}
use Rattle.wl_shell.specs.Popups.{Popped, dismissed_after, dismissed_with, is_among, is_parent_of, is_popup_mapped, popped_of, popups_of}
use Rattle.wl_shell.specs.Shell.{Shell, XdgSurface, xdg_at, xdg_of}
use Rattle.spec_desktop.specs.Popups.{placement_of, stacked_popup, surface_at_xdg}
use Rattle.spec_desktop.specs.Stacking.{Owned, Standing, geometry_in, geometry_since, is_of, root_of}
use Rattle.spec_desktop.specs.Windows.{StackedPopup}
use Rattle.spec_desktop.specs.Desktop.{Desktop, owned_in}
use Rattle.law_desktop.specs.Soundness.{has_surface}
use Rattle.law_desktop.proofs.Marks.Stacks.{equal-numbers}
use Rattle.law_desktop.proofs.Soundness.Windows.{In}
use Rattle.law_desktop.specs.TreeStepsLaws.{counted_in}
use Rattle.law_desktop.specs.Changes.{HasTrees}
use Rattle.law_desktop.specs.ToplevelRoots.{has_parent_in, is_on_one}
use Rattle.law_desktop.specs.StackedWith.{stacked_roots}
use Rattle.law_desktop.proofs.RootsOf.Away.{IsIn, IsOnRoot, root-or-popup}
use Rattle.law_desktop.proofs.RootsOf.Kept.{popups_in, surfaces_in}
use Rattle.law_desktop.proofs.RootsOf.Popped.{IsPopped, KeepsNumbers, first_or, popups-through, surface-through, through, xdg-through}
use Rattle.law_desktop.proofs.RootsOf.Shells.{all-popped-of, geometry_by, geometry_with, in-reads}
use Rattle.law_desktop.proofs.RootsOf.Staying.{in_parent}
use Rattle.law_desktop.proofs.RootsOf.Touched.{once-found}
use Rattle.law_desktop.proofs.Truth.{differ}
use Rattle.law_desktop.proofs.Lists.Each.{Each, each-both, each-map}

-- ---- where the surfaces stay

module _ (c : ℕ) (d e : Desktop) (had : HasTrees d) (f : XdgSurface → XdgSurface) (keeps : KeepsNumbers f (owned_in d c).shell) (shell : (owned_in e c).shell ≡ map f (owned_in d c).shell)
    (surfaces : surfaces_in e c ≡ surfaces_in d c) where
  abbrev own : Owned
  own = owned_in d c

  abbrev now : Owned
  now = owned_in e c

  -- its xdg_surface stays, or it doesn't pass, before and after
  abbrev pub IsLeft : (StackedPopup → Bool) → Popped → Type 0
  IsLeft k p = (f p.xdg ≡ p.xdg) ⊎ ((k (stacked_popup (owned_in d c) p) ≡ false) × (k (stacked_popup (owned_in e c) (through f p)) ≡ false))

  same-stacked : (p : Popped) → IsPopped own.shell p → f p.xdg ≡ p.xdg → stacked_popup now (through f p) ≡ stacked_popup own p
  same-stacked p popped same =
      ap (stacked_popup now) (ap (λ x. first_or p (popped_of x)) same ∙ ap (first_or p) popped.its)
      ∙ ap₂ at (parent p.popup.parent) (ap (λ (all : Surfaces). option_and_then (λ h. geometry_since h p.xdg) (history_in p.xdg.surface all)) surfaces)
    where
      at : Option ℕ → Option Rect → StackedPopup
      at parent geometry = record {
        surface = p.xdg.surface;
        parent = parent;
        placement = placement_of p.popup.placement;
        geometry = geometry;
        is_mapped = is_popup_mapped p;
      }

      parent : (o : Option ℕ) → option_and_then (λ xdg. surface_at_xdg xdg now.shell) o ≡ option_and_then (λ xdg. surface_at_xdg xdg own.shell) o
      parent None = refl
      parent (Some id) = ap (surface_at_xdg id) shell ∙ surface-through f own.shell keeps id

  abbrev AreSame : (StackedPopup → Bool) → Popped → Type 0
  AreSame k p = (stacked_popup now (through f p) ≡ stacked_popup own p) ⊎ ((k (stacked_popup own p) ≡ false) × (k (stacked_popup now (through f p)) ≡ false))

  pub left : (k : StackedPopup → Bool) → Each (IsLeft k) (popups_of (owned_in d c).shell) → filter k (popups_in e c) ≡ filter k (popups_in d c)
  left k each =
      ap (λ (s : Shell). filter k (map (stacked_popup now) (popups_of s))) shell
      ∙ (ap (λ ps. filter k (map (stacked_popup now) ps)) (popups-through f own.shell keeps)
      ∙ all (popups_of own.shell) (each-both (IsPopped own.shell) (IsLeft k) (AreSame k) one (popups_of own.shell) (all-popped-of c d had) each))
    where
      one : (p : Popped) → IsPopped own.shell p → IsLeft k p → AreSame k p
      one p popped (inl same) = inl (same-stacked p popped same)
      one p popped (inr none) = inr none

      one-of : (p : Popped) (ps : List Popped) → filter k (map (stacked_popup now) (map (through f) ps)) ≡ filter k (map (stacked_popup own) ps) → AreSame k p
          → filter k (map (stacked_popup now) (map (through f) (p ∷ ps))) ≡ filter k (map (stacked_popup own) (p ∷ ps))
      one-of p ps rest (inl same) = ap₂ (λ (q : StackedPopup) (qs : List StackedPopup). cond (k q) (q ∷ qs) qs) same rest
      one-of p ps rest (inr none) =
          ap (λ b. cond b (stacked_popup now (through f p) ∷ filter k (map (stacked_popup now) (map (through f) ps))) (filter k (map (stacked_popup now) (map (through f) ps)))) none.1
          ∙ (rest ∙ sym (ap (λ b. cond b (stacked_popup own p ∷ filter k (map (stacked_popup own) ps)) (filter k (map (stacked_popup own) ps))) none.0))

      all : (ps : List Popped) → Each (AreSame k) ps → filter k (map (stacked_popup now) (map (through f) ps)) ≡ filter k (map (stacked_popup own) ps)
      all [] each = refl
      all (p ∷ ps) each =
          one-of p ps (all ps each.1) each.0

  -- a window geometry stays that counts from the same place on
  pub since-geometry : ((x : XdgSurface) → (f x).since ≡ x.since) → (surface : ℕ) → geometry_in (owned_in e c) surface ≡ geometry_in (owned_in d c) surface
  since-geometry since surface =
      in-reads (xdg_of surface now.shell) (history_in surface now.surfaces)
      ∙ (ap (λ (s : Shell). geometry_with (xdg_of surface s) (counted_in surface now.surfaces)) shell
      ∙ (ap (λ o. geometry_with o (counted_in surface now.surfaces)) (xdg-through f own.shell keeps surface)
      ∙ (at (xdg_of surface own.shell) (counted_in surface now.surfaces)
      ∙ (ap (λ (all : Surfaces). geometry_with (xdg_of surface own.shell) (counted_in surface all)) surfaces ∙ sym (in-reads (xdg_of surface own.shell) (history_in surface own.surfaces))))))
    where
      at : (o : Option XdgSurface) (rs : Option (List Request)) → geometry_with (option_map f o) rs ≡ geometry_with o rs
      at o None = refl
      at None (Some rs) = refl
      at (Some x) (Some rs) = ap (λ n. geometry_by n (Some rs)) (since x)

-- ---- dismissed popups are on no root

module _ (c : ℕ) (d : Desktop) (had : HasTrees d) (s : Standing) (stands : list_any (is_of c s.surface) d.standing ≡ true) (is-of : s.client ≡ c) where
  abbrev mine : Owned
  mine = owned_in d c

  abbrev as_stacked : Popped → StackedPopup
  as_stacked p = stacked_popup mine p

  abbrev is_on : Popped → Bool
  is_on p = is_on_one (stacked_roots d s) (as_stacked p)

  record IsKnown (p : Popped) : Type 0 where
    popped : IsPopped (owned_in d c).shell p
    here : IsIn (stacked_popup (owned_in d c) p) (popups_in d c)

  all-known : Each IsKnown (popups_of mine.shell)
  all-known =
      each-both (IsPopped mine.shell) (λ p. IsIn (as_stacked p) (popups_in d c)) IsKnown (λ p popped here. record { popped = popped; here = here }) (popups_of mine.shell) (all-popped-of c d had)
      (all-in (popups_of mine.shell))
    where
      all-in : (ps : List Popped) → Each (λ p. IsIn (as_stacked p) (map as_stacked ps)) ps
      all-in [] = tt
      all-in (p ∷ ps) =
          (inl refl, each-map (λ q. IsIn (as_stacked q) (map as_stacked ps)) (λ q. (as_stacked p ≡ as_stacked q) ⊎ IsIn (as_stacked q) (map as_stacked ps)) (λ q here. inr here) ps (all-in ps))

  -- the popup of this xdg_surface is on no root
  record IsOut (id : ℕ) : Type 0 where
    popup : Popped
    known : IsKnown popup
    own : popup.xdg.id ≡ id
    off : is_on popup ≡ false

  not-root : (q : Popped) → IsKnown q → is_on q ≡ false → In q.xdg.surface (stacked_roots d s) ≡ false
  not-root q known off =
      false_from_ne_true (In q.xdg.surface (stacked_roots d s))
      (λ there. at (root-or-popup (surfaces_in d s.client) q.xdg.surface (root_of (owned_in d) s ∷ []) (popups_in d s.client) there))
    where
      first : (a : Bool) → (a || false) ≡ true → a ≡ true
      first true g = refl
      first false g = g

      found : find (has_surface q.xdg.surface) (popups_in d c) ≡ Some (as_stacked q)
      found = once-found q.xdg.surface (popups_in d c) (had.sound.popups c) (as_stacked q) known.here refl

      any-of : (ps : List StackedPopup) → IsIn (as_stacked q) ps → list_any (has_surface q.xdg.surface) ps ≡ true
      any-of [] here = absurd here
      any-of (p ∷ ps) (inl same) =
          or_left (has_surface q.xdg.surface p) (list_any (has_surface q.xdg.surface) ps) (equal-numbers p.surface q.xdg.surface (ap (λ (r : StackedPopup). r.surface) same))
      any-of (p ∷ ps) (inr here) = or-later (has_surface q.xdg.surface p) (any-of ps here)
        where
          or-later : (a : Bool) → list_any (has_surface q.xdg.surface) ps ≡ true → (a || list_any (has_surface q.xdg.surface) ps) ≡ true
          or-later true e = refl
          or-later false e = e

      at : (In q.xdg.surface (root_of (owned_in d) s ∷ []) ≡ true) ⊎ IsOnRoot (stacked_roots d s) (popups_in d s.client) q.xdg.surface → ⊥
      at (inl own) =
          differ (sym (had.sound.levels c s.surface stands)
          ∙ (ap (λ n. list_any (has_surface n) (popups_in d c)) (eqb-true s.surface q.xdg.surface (first (s.surface == q.xdg.surface) own)) ∙ any-of (popups_in d c) known.here))
      at (inr on) =
          differ (sym off
          ∙ (ap (is_on_one (stacked_roots d s))
          (same_Some (as_stacked q) on.popup
          (sym found
          ∙ subst (λ n. find (has_surface q.xdg.surface) (popups_in d n) ≡ Some on.popup) is-of
          (once-found q.xdg.surface (popups_in d s.client) (had.sound.popups s.client) on.popup on.known on.own)))
          ∙ on.mapped))

  -- a popup whose parent's is out is out
  off-next : (p : Popped) (id : ℕ) → IsOut id → is_parent_of id p.popup ≡ true → is_on p ≡ false
  off-next p id out is =
      and_right (as_stacked p).is_mapped (has_parent_in (stacked_roots d s) (as_stacked p)) (at p.popup.parent is)
    where
      q : Popped
      q = out.popup

      at : (o : Option ℕ) → option_map_or (λ parent. parent == id) o false ≡ true → in_parent (option_and_then (λ xdg. surface_at_xdg xdg mine.shell) o) (stacked_roots d s) ≡ false
      at None e = absurd (differ e)
      at (Some n) e =
          ap (λ o. in_parent (option_map (λ (x : XdgSurface). x.surface) o) (stacked_roots d s))
          (ap (λ m. xdg_at m mine.shell) (eqb-true n id e ∙ sym out.own) ∙ out.known.popped.there.by_id)
          ∙ not-root out.popup out.known out.off

  any-next : (p : Popped) (ids : List ℕ) → Each IsOut ids → list_any (λ id. is_parent_of id p.popup) ids ≡ true → is_on p ≡ false
  any-next p [] outs e = absurd (differ e)
  any-next p (id ∷ ids) outs e = at (is_parent_of id p.popup) refl e (any-next p ids outs.1)
    where
      at : (b : Bool) → is_parent_of id p.popup ≡ b → (b || list_any (λ id. is_parent_of id p.popup) ids) ≡ true → (list_any (λ id. is_parent_of id p.popup) ids ≡ true → is_on p ≡ false)
          → is_on p ≡ false
      at true f e later = off-next p id outs.0 f
      at false f e later = later e

  module _ (is : Popped → Bool) (base : (p : Popped) → IsPopped (owned_in d c).shell p → is p ≡ true → is_on_one (stacked_roots d s) (stacked_popup (owned_in d c) p) ≡ false) where
    all-out : (ids : List ℕ) (ps : List Popped) → Each IsOut ids → Each IsKnown ps → Each IsOut (fold (dismissed_after is) ids ps)
    all-out ids [] outs known = outs
    all-out ids (p ∷ ps) outs known = at (is p) refl (list_any (λ id. is_parent_of id p.popup) ids) refl (λ new outs. all-out new ps outs known.1)
      where
        at : (a : Bool) → is p ≡ a → (b : Bool) → list_any (λ id. is_parent_of id p.popup) ids ≡ b → ((new : List ℕ) → Each IsOut new → Each IsOut (fold (dismissed_after is) new ps))
            → Each IsOut (fold (dismissed_after is) (cond (a || b) (p.xdg.id ∷ ids) ids) ps)
        at true e b f later = later (p.xdg.id ∷ ids) (record { popup = p; known = known.0; own = refl; off = base p known.0.popped e }, outs)
        at false e true f later = later (p.xdg.id ∷ ids) (record { popup = p; known = known.0; own = refl; off = any-next p ids outs f }, outs)
        at false e false f later = later ids outs

    among-off : (p : Popped) → IsKnown p → (ids : List ℕ) → Each IsOut ids → is_among p.xdg.id ids ≡ true → is_on p ≡ false
    among-off p known [] outs e = absurd (differ e)
    among-off p known (id ∷ ids) outs e = at (id == p.xdg.id) refl e (among-off p known ids outs.1)
      where
        at : (b : Bool) → (id == p.xdg.id) ≡ b → (b || is_among p.xdg.id ids) ≡ true → (is_among p.xdg.id ids ≡ true → is_on p ≡ false) → is_on p ≡ false
        at true f e later =
            let same : outs.0.popup.xdg ≡ p.xdg =
            same_Some outs.0.popup.xdg p.xdg
            (sym outs.0.known.popped.there.by_id ∙ (ap (λ n. xdg_at n mine.shell) (outs.0.own ∙ eqb-true id p.xdg.id f) ∙ known.popped.there.by_id)) in
            let popup : outs.0.popup ≡ p =
            ap (first_or p) (sym outs.0.known.popped.its ∙ (ap popped_of same ∙ known.popped.its)) in
            ap is_on (sym popup) ∙ outs.0.off
        at false f e later = later e

    -- so is each that is dismissed with these
    pub dismissed-off : Each (λ p. is_among p.xdg.id (dismissed_with is (owned_in d c).shell) ≡ true → is_on_one (stacked_roots d s) (stacked_popup (owned_in d c) p) ≡ false)
        (popups_of (owned_in d c).shell)
    dismissed-off =
        each-map IsKnown (λ p. is_among p.xdg.id (dismissed_with is mine.shell) ≡ true → is_on p ≡ false)
        (λ p known e. among-off p known (dismissed_with is mine.shell) (all-out [] (popups_of mine.shell) tt all-known) e) (popups_of mine.shell) all-known

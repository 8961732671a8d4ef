-- A new surface changes no window.
use Rattle.std.proofs.Common.{◌≡◌, ℕ, zero, suc, true, false, List, Option, Some, None, [], ◌∷◌, map, refl, ap, ap₂, sym, subst, ◌∙◌, inl, inr}
use Rattle.std.specs.Prelude.{ℤ, ◌&&◌, ◌≢◌, drop, filter, fold, int_le, pos, unsigned_abs}
use Rattle.std.specs.Option.{option_and_then, option_map}
use Rattle.wl_geom.specs.declared.rect.Rect.{Rect}
use Rattle.wl_surface.specs.Request.{Request}
use Rattle.wl_surface.specs.State.{History, counting, geometry_asked}
use Rattle.wl_surface.specs.Surfaces.{Surfaces, history_in, with_new}
use Rattle.wl_shell.specs.Popups.{Popped, is_popup_mapped, popups_of}
use Rattle.wl_shell.specs.Shell.{Shell, XdgSurface, xdg_of}
use Rattle.spec_desktop.specs.Popups.{placement_of, stacked_popup, surface_at_xdg}
use Rattle.spec_desktop.specs.Stacking.{geometry_since, shows_buffer}
use Rattle.spec_desktop.specs.Windows.{StackedPopup, tree}
use Rattle.spec_desktop.specs.Desktop.{Desktop, owned_in}
use Rattle.spec_desktop.specs.Moments.{applied_between, is_applied_by}
use Rattle.law_desktop.proofs.TreeSteps.Owners.{tree-owned}
use Rattle.law_desktop.specs.Changes.{HasTrees, StaysPainted}
use Rattle.law_desktop.specs.ToplevelRoots.{is_on_one}
use Rattle.law_desktop.specs.StackedWith.{stacked_roots}
use Rattle.law_desktop.proofs.RootsOf.Fresh.{IsAsked, new-asked, tree-fresh}
use Rattle.law_desktop.proofs.RootsOf.Kept.{IsUndamaged, RootIsKept, popups_in, same-undamaged, surfaces_in}
use Rattle.law_desktop.proofs.RootsOf.Painted.{painted}
use Rattle.law_desktop.proofs.Truth.{and-false, differ}
use Rattle.law_desktop.proofs.Lists.Each.{each-map}

drop-none : (n : ℕ) → drop {A = Request} n [] ≡ []
drop-none zero = refl
drop-none (suc n) = refl

-- what wasn't asked of has no geometry
geometry-asked : (x : XdgSurface) (old new : Option History) → IsAsked old new → option_and_then (λ h. geometry_since h x) new ≡ option_and_then (λ h. geometry_since h x) old
geometry-asked x old new (inl same) = ap (option_and_then (λ h. geometry_since h x)) same
geometry-asked x old new (inr e) =
    ap (option_and_then (λ h. geometry_since h x)) e.1
    ∙ (ap (fold geometry_asked None) (drop-none x.since) ∙ sym (ap (option_and_then (λ h. geometry_since h x)) e.0))

in-asked : (o : Option XdgSurface) (old new : Option History) → IsAsked old new
    → option_and_then (λ h. option_and_then (geometry_since h) o) new ≡ option_and_then (λ h. option_and_then (geometry_since h) o) old
in-asked o old new (inl same) = ap (option_and_then (λ h. option_and_then (geometry_since h) o)) same
in-asked None old new (inr e) = ap (option_and_then (λ h. None)) e.1 ∙ sym (ap (option_and_then (λ h. None)) e.0)
in-asked (Some x) old new (inr e) = geometry-asked x old new (inr e)

module _ (c id : ℕ) (d e : Desktop) (had : HasTrees d) (others : (other : ℕ) → other ≢ c → owned_in e other ≡ owned_in d other) (stack : e.standing ≡ d.standing)
    (surfaces : surfaces_in e c ≡ with_new id (surfaces_in d c)) (shell : (owned_in e c).shell ≡ (owned_in d c).shell) where
  asked : (surface : ℕ) → IsAsked (history_in surface (surfaces_in d c)) (history_in surface (surfaces_in e c))
  asked surface = subst (λ (all : Surfaces). IsAsked (history_in surface (surfaces_in d c)) (history_in surface all)) (sym surfaces) (new-asked id surface (surfaces_in d c))

  undamaged : (surface : ℕ) (x y : ℤ) → applied_between d e c surface x y ≡ false
  undamaged surface x y = at (asked surface)
    where
      at : IsAsked (history_in surface (surfaces_in d c)) (history_in surface (surfaces_in e c)) → applied_between d e c surface x y ≡ false
      at (inl same) = same-undamaged d e c surface same x y
      at (inr new) =
          ap (λ (o : Option History). (int_le (pos 0) x && int_le (pos 0) y) && is_applied_by o (history_in surface (surfaces_in e c)) (unsigned_abs x) (unsigned_abs y)) new.0
          ∙ and-false (int_le (pos 0) x && int_le (pos 0) y)

  trees : (x : ℕ) → shows_buffer (history_in x (surfaces_in d c)) ≡ true → RootIsKept c d e x
  trees x shows = record {
    counts = ap (option_map counting) (at (asked x));
    windows = λ owner place. ap (λ (all : Surfaces). tree 17 owner all x place) surfaces ∙ tree-fresh id (surfaces_in d c) owner 17 x place;
    undamaged = λ owner place own.
        each-map (λ w. w.owner ≡ owner) (IsUndamaged d e)
        (λ w of. subst (λ n. (a b : ℤ) → applied_between d e n w.surface a b ≡ false) (sym (ap (λ o. o.client) of ∙ own)) (undamaged w.surface))
        (tree 17 owner (surfaces_in d c) x place) (tree-owned 17 owner (surfaces_in d c) x place);
  }
    where
      at : IsAsked (history_in x (surfaces_in d c)) (history_in x (surfaces_in e c)) → history_in x (surfaces_in e c) ≡ history_in x (surfaces_in d c)
      at (inl same) = same
      at (inr new) = absurd (differ (sym (ap shows_buffer new.0) ∙ shows))

  popups : popups_in e c ≡ popups_in d c
  popups = ap (λ (s : Shell). map (stacked_popup (owned_in e c)) (popups_of s)) shell ∙ all (popups_of (owned_in d c).shell)
    where
      one : (p : Popped) → stacked_popup (owned_in e c) p ≡ stacked_popup (owned_in d c) p
      one p =
          ap₂ at (ap (λ (s : Shell). option_and_then (λ xdg. surface_at_xdg xdg s) p.popup.parent) shell)
          (geometry-asked p.xdg (history_in p.xdg.surface (surfaces_in d c)) (history_in p.xdg.surface (surfaces_in e c)) (asked p.xdg.surface))
        where
          at : Option ℕ → Option Rect → StackedPopup
          at parent geometry = record {
            surface = p.xdg.surface;
            parent = parent;
            placement = placement_of p.popup.placement;
            geometry = geometry;
            is_mapped = is_popup_mapped p;
          }

      all : (ps : List Popped) → map (stacked_popup (owned_in e c)) ps ≡ map (stacked_popup (owned_in d c)) ps
      all [] = refl
      all (p ∷ ps) = ap₂ (λ (q : StackedPopup) (qs : List StackedPopup). q ∷ qs) (one p) (all ps)

  pub created-painted : StaysPainted d e
  created-painted =
      painted c d e had others trees stack
      (λ s found own.
      ap (λ (sh : Shell). option_and_then (λ h. option_and_then (geometry_since h) (xdg_of s.surface sh)) (history_in s.surface (surfaces_in e c))) shell
      ∙ in-asked (xdg_of s.surface (owned_in d c).shell) (history_in s.surface (surfaces_in d c)) (history_in s.surface (surfaces_in e c)) (asked s.surface))
      (λ s found own. ap (filter (is_on_one (stacked_roots d s))) popups)

-- Just the mapped toplevels stand where popups of a client were dismissed.
use Rattle.std.proofs.Common.{◌≡◌, ℕ, Bool, true, false, cond, Option, Some, None, refl, ap, sym, subst, ◌∙◌}
use Rattle.std.specs.Prelude.{◌==◌, ◌&&◌}
use Rattle.std.specs.Option.{option_map, option_map_or}
use Rattle.std.proofs.lemmas.Bool.{eqb-false, eqb-true}
use Rattle.wl_surface.specs.Surfaces.{Surfaces, history_in}
use Rattle.wl_shell.specs.declared.stage.Stage.{Stage}
use Rattle.wl_shell.specs.Popups.{Popped, dismiss, is_among, is_toplevel_kind, popup_changed, with_popup, with_popup_role}
use Rattle.wl_shell.specs.Shell.{IsPopup, Kind, RoleObject, Shell, Toplevel, XdgSurface, xdg_of}
use Rattle.spec_desktop.specs.Stacking.{shows_buffer}
use Rattle.spec_desktop.specs.Desktop.{Desktop, owned_in}
use Rattle.law_desktop.specs.Laws.{AreApart}
use Rattle.law_desktop.specs.Shown.{AreShown, heeded_stage, is_dismissed_kind, is_mapped_now, is_mapped_toplevel, waits_now}
use Rattle.law_desktop.specs.Standing.{AreTurned, is_mapped_at, waits_at}
use Rattle.law_desktop.specs.Changes.{HasTrees}
use Rattle.law_desktop.proofs.RootsOf.Popped.{xdg-through}
use Rattle.law_desktop.proofs.Truth.{differ}
use Rattle.law_windows.specs.Grabs.Dismissed.{Dismisses}
use Rattle.law_windows.specs.Grabs.Windows.{DismissedStaysShown}
use Rattle.law_windows.proofs.PopupsDismissed.Roots.{gone, gone-numbers, ids}

-- ---- a role object that is dismissed

-- a toplevel stays what it was, and a popup isn't one
top-same : (o : Option RoleObject) → (option_map_or (λ object. is_toplevel_kind object.kind) (option_map (with_popup_role dismiss) o) false
    && is_mapped_at (heeded_stage (option_map (with_popup_role dismiss) o)))
    ≡ (option_map_or (λ object. is_toplevel_kind object.kind) o false && is_mapped_at (heeded_stage o))
top-same None = refl
top-same (Some object) = kind object.kind
  where
    kind : (k : Kind) → (is_toplevel_kind (with_popup dismiss k) && is_mapped_at (cond (is_dismissed_kind (with_popup dismiss k)) None (Some object.stage)))
        ≡ (is_toplevel_kind k && is_mapped_at (cond (is_dismissed_kind k) None (Some object.stage)))
    kind Toplevel = refl
    kind (IsPopup popup) = refl

-- what is so by its stage was so before, if it isn't so where none is heeded
stage-before : (test : Option Stage → Bool) → test None ≡ false → (o : Option RoleObject) → test (heeded_stage (option_map (with_popup_role dismiss) o)) ≡ true
    → test (heeded_stage o) ≡ true
stage-before test none None e = e
stage-before test none (Some object) e = kind object.kind e
  where
    kind : (k : Kind) → test (cond (is_dismissed_kind (with_popup dismiss k)) None (Some object.stage)) ≡ true
        → test (cond (is_dismissed_kind k) None (Some object.stage)) ≡ true
    kind Toplevel e = e
    kind (IsPopup popup) e = absurd (differ (sym none ∙ e))

module _ (is : Popped → Bool) (c : ℕ) (d e : Desktop) (had : HasTrees d) (goes : Dismisses is c d e) where
  abbrev pub becomes : XdgSurface → XdgSurface
  becomes x = gone is c d e had goes x

  pub found : (surface : ℕ) → xdg_of surface (owned_in e c).shell ≡ option_map becomes (xdg_of surface (owned_in d c).shell)
  found surface = ap (λ (s : Shell). xdg_of surface s) goes.shell ∙ xdg-through becomes (owned_in d c).shell (gone-numbers is c d e had goes) surface

  top-stays : (o : Option XdgSurface) → is_mapped_toplevel (option_map becomes o) ≡ is_mapped_toplevel o
  top-stays None = refl
  top-stays (Some x) = at (is_among x.id (ids is c d e had goes))
    where
      at : (b : Bool) → is_mapped_toplevel (Some (cond b (popup_changed dismiss x) x)) ≡ is_mapped_toplevel (Some x)
      at true = top-same x.role
      at false = refl

  mapped-before : (o : Option XdgSurface) → is_mapped_now (option_map becomes o) ≡ true → is_mapped_now o ≡ true
  mapped-before None f = f
  mapped-before (Some x) f = at (is_among x.id (ids is c d e had goes)) f
    where
      at : (b : Bool) → is_mapped_now (Some (cond b (popup_changed dismiss x) x)) ≡ true → is_mapped_now (Some x) ≡ true
      at true f = stage-before is_mapped_at refl x.role f
      at false f = f

  waited-before : (o : Option XdgSurface) → waits_now (option_map becomes o) ≡ true → waits_now o ≡ true
  waited-before None f = f
  waited-before (Some x) f = at (is_among x.id (ids is c d e had goes)) f
    where
      at : (b : Bool) → waits_now (Some (cond b (popup_changed dismiss x) x)) ≡ true → waits_now (Some x) ≡ true
      at true f = stage-before waits_at refl x.role f
      at false f = f

  own-shown : AreShown c (owned_in d c) d.standing → AreShown c (owned_in e c) d.standing
  own-shown are = record {
    stands = λ surface. are.stands surface ∙ sym (ap is_mapped_toplevel (found surface) ∙ top-stays (xdg_of surface (owned_in d c).shell));
    shows = λ surface f.
        ap (λ (all : Surfaces). shows_buffer (history_in surface all)) goes.surfaces
        ∙ are.shows surface (mapped-before (xdg_of surface (owned_in d c).shell) (ap is_mapped_now (sym (found surface)) ∙ f));
    bare = λ surface f.
        ap (λ (all : Surfaces). shows_buffer (history_in surface all)) goes.surfaces
        ∙ are.bare surface (waited-before (xdg_of surface (owned_in d c).shell) (ap waits_now (sym (found surface)) ∙ f));
    turned = subst AreTurned (sym goes.surfaces) are.turned;
  }

  each-shown : ((n : ℕ) → AreShown n (owned_in d n) d.standing) → (n : ℕ) → AreShown n (owned_in e n) d.standing
  each-shown each n = at (n == c) refl
    where
      at : (b : Bool) → (n == c) ≡ b → AreShown n (owned_in e n) d.standing
      at true f = subst (λ m. AreShown m (owned_in e m) d.standing) (sym (eqb-true n c f)) (own-shown (each c))
      at false f = subst (λ o. AreShown n o d.standing) (sym (goes.others n (eqb-false n c f))) (each n)

pub dismissed-stays-shown : DismissedStaysShown
dismissed-stays-shown is c d e had goes shown = record {
  apart = subst AreApart (sym goes.standing) shown.apart;
  each = λ n. subst (λ ss. AreShown n (owned_in e n) ss) (sym goes.standing) (each-shown is c d e had goes shown.each n);
}

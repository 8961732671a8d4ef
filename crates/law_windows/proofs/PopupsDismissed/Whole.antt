-- Toplevels, popups and subsurfaces make trees still where popups of a client were dismissed.
use Rattle.std.proofs.Common.{◌≡◌, ℕ, Bool, true, false, cond, List, Option, Some, None, [], ◌∷◌, map, refl, ap, ap₂, sym, subst, ◌∙◌}
use Rattle.std.specs.Prelude.{◌==◌, ◌||◌, is_some}
use Rattle.std.specs.List.{All, list_any}
use Rattle.std.specs.Option.{option_map}
use Rattle.std.proofs.lemmas.Bool.{eqb-false, eqb-true}
use Rattle.wl_surface.specs.Surfaces.{Surfaces, history_in}
use Rattle.wl_surface.specs.Hanging.{AreNumbered, AreTied}
use Rattle.wl_surface.specs.TreeLaws.{AreOnceLinked}
use Rattle.wl_shell.specs.Popups.{Popped, dismiss, is_among, popup_changed, with_popup, with_popup_role}
use Rattle.wl_shell.specs.Shell.{RoleObject, Shell, XdgSurface, xdg_of}
use Rattle.spec_desktop.specs.Popups.{stacked_popups}
use Rattle.spec_desktop.specs.Stacking.{Owned, Standing, is_of, shows_buffer}
use Rattle.spec_desktop.specs.Windows.{StackedPopup}
use Rattle.spec_desktop.specs.Desktop.{Desktop, owned_in}
use Rattle.law_desktop.specs.Apart.{AreApartBy}
use Rattle.law_desktop.specs.Laws.{AreApart}
use Rattle.law_desktop.specs.Soundness.{AreOnce, AreTrees, IsNoChild, has_surface}
use Rattle.law_desktop.proofs.Lists.Keys.{found-map}
use Rattle.law_desktop.specs.Standing.{HasMappedToplevel, IsMappedToplevel}
use Rattle.law_desktop.specs.Changes.{HasTrees}
use Rattle.law_desktop.proofs.RootsOf.Kept.{popups_in, surfaces_in}
use Rattle.law_desktop.proofs.RootsOf.Staying.{all-each, each-all}
use Rattle.law_desktop.proofs.Lists.Each.{Each}
use Rattle.law_windows.specs.Grabs.Dismissed.{Dismisses}
use Rattle.law_windows.specs.Grabs.Windows.{DismissedStaysWhole}
use Rattle.law_windows.proofs.PopupsDismissed.Roots.{BecomeSo, gone-numbers, ids, popups-become}
use Rattle.law_windows.proofs.PopupsDismissed.Shown.{becomes, dismissed-stays-shown, found}

-- ---- lists

apart-map : {X : Type 0} (has : ℕ → X → Bool) (f : X → X) → ((key : ℕ) (x : X) → has key (f x) ≡ has key x) → (xs : List X) → AreApartBy has xs → AreApartBy has (map f xs)
apart-map has f same [] apart = tt
apart-map has f same (x ∷ xs) apart = (
  λ key e. found-map (has key) f xs (same key) ∙ ap (option_map f) (apart.0 key (sym (same key x) ∙ e)),
  apart-map has f same xs apart.1,
)

-- ---- popups

any-become : (x : ℕ) (ps qs : List StackedPopup) → BecomeSo ps qs → list_any (has_surface x) qs ≡ list_any (has_surface x) ps
any-become x [] [] so = refl
any-become x (p ∷ ps) (q ∷ qs) so = ap₂ (λ n b. (n == x) || b) so.0.surface (any-become x ps qs so.1)
any-become x [] (q ∷ qs) so = absurd so
any-become x (p ∷ ps) [] so = absurd so

once-become : (ps qs : List StackedPopup) → BecomeSo ps qs → AreOnce (λ p. has_surface p.surface) ps → AreOnce (λ p. has_surface p.surface) qs
once-become [] [] so once = tt
once-become (p ∷ ps) (q ∷ qs) so once = (
  any-become q.surface ps qs so.1 ∙ (ap (λ n. list_any (has_surface n) ps) so.0.surface ∙ once.0),
  once-become ps qs so.1 once.1,
)
once-become [] (q ∷ qs) so once = absurd so
once-become (p ∷ ps) [] so once = absurd so

mapped-become : (P : ℕ → Type 0) (ps qs : List StackedPopup) → BecomeSo ps qs → Each (λ p. p.is_mapped ≡ true → P p.surface) ps → Each (λ q. q.is_mapped ≡ true → P q.surface) qs
mapped-become P [] [] so each = tt
mapped-become P (p ∷ ps) (q ∷ qs) so each = (
  λ mapped. subst P (sym so.0.surface) (each.0 (ap (λ (r : StackedPopup). r.is_mapped) (sym (so.0.mapped mapped)) ∙ mapped)),
  mapped-become P ps qs so.1 each.1,
)
mapped-become P [] (q ∷ qs) so each = absurd so
mapped-become P (p ∷ ps) [] so each = absurd so

-- a mapped toplevel is one still
still-top : (o : Option RoleObject) → IsMappedToplevel o → IsMappedToplevel (option_map (with_popup_role dismiss) o)
still-top None top = top
still-top (Some object) top = (ap (with_popup dismiss) top.0, top.1)

-- ---- popups of a client are dismissed

module _ (is : Popped → Bool) (c : ℕ) (d e : Desktop) (had : HasTrees d) (goes : Dismisses is c d e) where
  each-client : (P : ℕ → Owned → Type 0) → P c (owned_in e c) → ((n : ℕ) → P n (owned_in d n)) → (n : ℕ) → P n (owned_in e n)
  each-client P own each n = at (n == c) refl
    where
      at : (b : Bool) → (n == c) ≡ b → P n (owned_in e n)
      at true f = subst (λ m. P m (owned_in e m)) (sym (eqb-true n c f)) own
      at false f = subst (λ o. P n o) (sym (goes.others n (eqb-false n c f))) (each n)

  -- what is of its surfaces alone
  each-surfaces : (P : ℕ → Surfaces → Type 0) → ((n : ℕ) → P n (surfaces_in d n)) → (n : ℕ) → P n (surfaces_in e n)
  each-surfaces P each = each-client (λ n o. P n o.surfaces) (subst (P c) (sym goes.surfaces) (each c)) each

  stood : (n surface : ℕ) → list_any (is_of n surface) e.standing ≡ true → list_any (is_of n surface) d.standing ≡ true
  stood n surface stands = subst (λ (ss : List Standing). list_any (is_of n surface) ss ≡ true) goes.standing stands

  so : BecomeSo (popups_in d c) (popups_in e c)
  so = popups-become is c d e had goes

  some-before : (o : Option XdgSurface) → is_some (option_map (becomes is c d e had goes) o) ≡ true → is_some o ≡ true
  some-before None there = there
  some-before (Some x) there = refl

  top-kept : (o : Option XdgSurface) → HasMappedToplevel o → HasMappedToplevel (option_map (becomes is c d e had goes) o)
  top-kept None top = top
  top-kept (Some x) top = at (is_among x.id (ids is c d e had goes))
    where
      at : (b : Bool) → HasMappedToplevel (Some (cond b (popup_changed dismiss x) x))
      at true = still-top x.role top
      at false = top

  trees-stay : HasTrees e
  trees-stay = record {
    sound = record {
      apart = subst AreApart (sym goes.standing) had.sound.apart;
      trees = each-surfaces (λ n all. AreTrees all) had.sound.trees;
      popups = each-client (λ n o. AreOnce (λ p. has_surface p.surface) (stacked_popups o)) (once-become (popups_in d c) (popups_in e c) so (had.sound.popups c)) had.sound.popups;
      levels = λ n surface stands.
          each-client (λ n o. (surface : ℕ) → list_any (is_of n surface) d.standing ≡ true → list_any (has_surface surface) (stacked_popups o) ≡ false)
          (λ surface stands. any-become surface (popups_in d c) (popups_in e c) so ∙ had.sound.levels c surface stands) had.sound.levels n surface (stood n surface stands);
      toplevel_roots = λ n surface stands.
          each-surfaces (λ n all. (surface : ℕ) → list_any (is_of n surface) d.standing ≡ true → IsNoChild surface all) had.sound.toplevel_roots n surface (stood n surface stands);
      popup_roots =
          each-client (λ n o. (surface : ℕ) → list_any (has_surface surface) (stacked_popups o) ≡ true → IsNoChild surface o.surfaces)
          (λ surface there. subst (IsNoChild surface) (sym goes.surfaces) (had.sound.popup_roots c surface (sym (any-become surface (popups_in d c) (popups_in e c) so) ∙ there)))
          had.sound.popup_roots;
    };
    once = each-surfaces (λ n all. AreOnceLinked all.links) had.once;
    numbered = each-surfaces (λ n all. AreNumbered all.links) had.numbered;
    tied = each-surfaces (λ n all. AreTied all) had.tied;
    xdg_apart =
        each-client (λ n o. AreApartBy (λ surface x. x.surface == surface) o.shell)
        (subst (λ (s : Shell). AreApartBy (λ surface x. x.surface == surface) s) (sym goes.shell)
        (apart-map (λ surface x. x.surface == surface) (becomes is c d e had goes) (λ key x. ap (λ n. n == key) ((gone-numbers is c d e had goes).surfaces x))
        (owned_in d c).shell (had.xdg_apart c))) had.xdg_apart;
    ids_apart =
        each-client (λ n o. AreApartBy (λ id x. x.id == id) o.shell)
        (subst (λ (s : Shell). AreApartBy (λ id x. x.id == id) s) (sym goes.shell)
        (apart-map (λ id x. x.id == id) (becomes is c d e had goes) (λ key x. ap (λ n. n == key) ((gone-numbers is c d e had goes).ids x))
        (owned_in d c).shell (had.ids_apart c))) had.ids_apart;
    xdg_roots =
        each-client (λ n o. (surface : ℕ) → is_some (xdg_of surface o.shell) ≡ true → IsNoChild surface o.surfaces)
        (λ surface there. subst (IsNoChild surface) (sym goes.surfaces)
        (had.xdg_roots c surface (some-before (xdg_of surface (owned_in d c).shell) (ap (λ (o : Option XdgSurface). is_some o) (sym (found is c d e had goes surface)) ∙ there))))
        had.xdg_roots;
    mapped = λ n surface stands.
        each-client (λ n o. (surface : ℕ) → list_any (is_of n surface) d.standing ≡ true → HasMappedToplevel (xdg_of surface o.shell))
        (λ surface stands. subst HasMappedToplevel (sym (found is c d e had goes surface)) (top-kept (xdg_of surface (owned_in d c).shell) (had.mapped c surface stands)))
        had.mapped n surface (stood n surface stands);
    toplevels_show = λ n surface stands.
        each-surfaces (λ n all. (surface : ℕ) → list_any (is_of n surface) d.standing ≡ true → shows_buffer (history_in surface all) ≡ true) had.toplevels_show n surface
        (stood n surface stands);
    popups_show =
        each-client (λ n o. All (λ p. p.is_mapped ≡ true → shows_buffer (history_in p.surface o.surfaces) ≡ true) (stacked_popups o))
        (each-all (λ p. p.is_mapped ≡ true → shows_buffer (history_in p.surface (surfaces_in e c)) ≡ true) (popups_in e c)
        (subst (λ (all : Surfaces). Each (λ p. p.is_mapped ≡ true → shows_buffer (history_in p.surface all) ≡ true) (popups_in e c)) (sym goes.surfaces)
        (mapped-become (λ n. shows_buffer (history_in n (surfaces_in d c)) ≡ true) (popups_in d c) (popups_in e c) so
        (all-each (λ p. p.is_mapped ≡ true → shows_buffer (history_in p.surface (surfaces_in d c)) ≡ true) (popups_in d c) (had.popups_show c)))))
        had.popups_show;
  }

pub dismissed-stays-whole : DismissedStaysWhole
dismissed-stays-whole is c d e whole goes = record {
  trees = trees-stay is c d e whole.trees goes;
  shown = dismissed-stays-shown is c d e whole.trees goes whole.shown;
}

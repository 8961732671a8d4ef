-- A role object goes with its object.
use Rattle.std.proofs.Common.{◌≡◌, ℕ, Bool, true, false, List, Option, Some, None, cond, refl, ap, sym, ◌∙◌, map}
use Rattle.std.proofs.lemmas.Bool.{and_from, false_from_ne_true, true≢false}
use Rattle.std.proofs.lemmas.Option.{same_Some}
use Rattle.std.specs.Prelude.{◌==◌, ◌&&◌, not, find}
use Rattle.std.specs.List.{list_any}
use Rattle.wl_proto.specs.declared.interface.Interface.TheVariants.{XdgToplevel, XdgPopup}
use Rattle.spec_desktop.specs.Objects.{Objects, is_of, with_id}
use Rattle.wl_surface.specs.Surfaces.{Surfaces}
use Rattle.wl_surface.specs.Waiting.{Callback}
use Rattle.wl_shell.specs.Popups.{is_toplevel_kind}
use Rattle.wl_shell.specs.Shell.{RoleObject, Shell, XdgSurface as Xdg, is_role, with_change, without_role, xdg_with}
use Rattle.spec_desktop.specs.Desktop.{Subsurface}
use Rattle.law_desktop.proofs.Soundness.Orderly.{HasId, is_popup_at, is_toplevel_at}
use Rattle.law_desktop.proofs.Soundness.ObjectsHas.{Has, has-gone, has_popup, has_toplevel, no-callback, no-popup, no-subsurface, no-toplevel, no-xdg}
use Rattle.law_desktop.proofs.Soundness.ObjectsKeys.{any-less, any-map}
use Rattle.law_desktop.proofs.Soundness.ObjectsShell.{has-mapped, no-id-change, no-id-without}
use Rattle.law_desktop.proofs.Lists.Keys.{any-found, found-any, found-by, found-passes}
use Rattle.law_desktop.proofs.Marks.Stacks.{equal-numbers}
use Rattle.law_desktop.proofs.Truth.{and-left, and-right}
use Rattle.law_desktop.proofs.Lists.Tests.{any-more}

-- no other xdg_surface than this has the role object
abbrev pub is_elsewhere : (ℕ → Xdg → Bool) → ℕ → ℕ → Xdg → Bool
is_elsewhere has id xdg x = has id x && not (x.id == xdg)

pub only-mapped : (has : ℕ → Xdg → Bool) (id xdg : ℕ) (change : Xdg → Xdg) (shell : Shell) → ((x : Xdg) → (change x).id ≡ x.id) → ((x : Xdg) → has id (change x) ≡ true → has id x ≡ true)
    → list_any (is_elsewhere has id xdg) shell ≡ false → list_any (is_elsewhere has id xdg) (map change shell) ≡ false
only-mapped has id xdg change shell keeps less only =
    false_from_ne_true (list_any (is_elsewhere has id xdg) (map change shell)) (λ any. true≢false (sym (any-less (is_elsewhere has id xdg) change shell before any) ∙ only))
  where
    before : (x : Xdg) → is_elsewhere has id xdg (change x) ≡ true → is_elsewhere has id xdg x ≡ true
    before x e =
        and_from (has id x) (not (x.id == xdg)) (less x (and-left (has id (change x)) (not ((change x).id == xdg)) e))
        (ap (λ i. not (i == xdg)) (sym (keeps x)) ∙ and-right (has id (change x)) (not ((change x).id == xdg)) e)

-- it loses it
pub only-gone : (has : ℕ → Xdg → Bool) (id xdg : ℕ) (shell : Shell) → ((x : Xdg) → has id (without_role x) ≡ false) → list_any (is_elsewhere has id xdg) shell ≡ false
    → list_any (has id) (with_change xdg without_role shell) ≡ false
only-gone has id xdg shell never only =
    false_from_ne_true (list_any (has id) (with_change xdg without_role shell))
    (λ any. true≢false (sym (any-more (λ x. has id (cond (x.id == xdg) (without_role x) x)) (is_elsewhere has id xdg) (λ x e. at x (x.id == xdg) e) shell
    (sym (any-map (has id) (λ x. cond (x.id == xdg) (without_role x) x) shell) ∙ any)) ∙ only))
  where
    at : (x : Xdg) (b : Bool) → has id (cond b (without_role x) x) ≡ true → (has id x && not b) ≡ true
    at x true e = absurd (true≢false (sym e ∙ never x))
    at x false e = and_from (has id x) true e refl

as-toplevel : (id : ℕ) (role : Option RoleObject) → is_role id role ≡ true → is_popup_at id role ≡ false → is_toplevel_at id role ≡ true
as-toplevel id None is other = is
as-toplevel id (Some object) is other = at (object.id == id) (is_toplevel_kind object.kind) is other
  where
    at : (a b : Bool) → a ≡ true → (a && not b) ≡ false → (a && b) ≡ true
    at true true is other = refl
    at true false is other = absurd (true≢false other)
    at false b is other = is

as-popup : (id : ℕ) (role : Option RoleObject) → is_role id role ≡ true → is_toplevel_at id role ≡ false → is_popup_at id role ≡ true
as-popup id None is other = is
as-popup id (Some object) is other = at (object.id == id) (is_toplevel_kind object.kind) is other
  where
    at : (a b : Bool) → a ≡ true → (a && b) ≡ false → (a && not b) ≡ true
    at true true is other = absurd (true≢false other)
    at true false is other = refl
    at false b is other = is

module _ (objects : Objects) (all : Surfaces) (subs : List Subsurface) (shell : Shell) (calls : List Callback) (h : Has objects all subs shell calls) (id xdg : ℕ) where
  -- the one that has it is found by it
  pub only-toplevel : is_of XdgToplevel (objects id) ≡ true → HasId xdg (xdg_with id shell) → list_any (is_elsewhere has_toplevel id xdg) shell ≡ false
  only-toplevel is of-id = at (xdg_with id shell) refl of-id
    where
      at : (o : Option Xdg) → xdg_with id shell ≡ o → HasId xdg o → list_any (is_elsewhere has_toplevel id xdg) shell ≡ false
      at None found of-id = absurd of-id
      at (Some x) found of-id = false_from_ne_true (list_any (is_elsewhere has_toplevel id xdg) shell) never
        where
          other : has_popup id x ≡ false
          other = false_from_ne_true (has_popup id x) (λ e. true≢false (sym (found-any (λ y. is_role id y.role) (has_popup id) shell x found e) ∙ no-popup objects all subs shell calls h XdgToplevel id refl is))

          here : find (has_toplevel id) shell ≡ Some x
          here = found-by has_toplevel (λ y. is_role id y.role) id shell x h.toplevels.0 found (as-toplevel id x.role (found-passes (λ y. is_role id y.role) shell x found) other)

          never : list_any (is_elsewhere has_toplevel id xdg) shell ≡ true → ⊥
          never any =
              let one = any-found has_toplevel (is_elsewhere has_toplevel id xdg) shell h.toplevels.0 any in
              let same : one.0 ≡ x = same_Some one.0 x (sym (one.2 id (and-left (has_toplevel id one.0) (not (one.0.id == xdg)) one.1)) ∙ here) in
              true≢false (sym (and-right (has_toplevel id one.0) (not (one.0.id == xdg)) one.1) ∙ ap not (equal-numbers one.0.id xdg (ap (λ (y : Xdg). y.id) same ∙ of-id)))

  pub only-popup : is_of XdgPopup (objects id) ≡ true → HasId xdg (xdg_with id shell) → list_any (is_elsewhere has_popup id xdg) shell ≡ false
  only-popup is of-id = at (xdg_with id shell) refl of-id
    where
      at : (o : Option Xdg) → xdg_with id shell ≡ o → HasId xdg o → list_any (is_elsewhere has_popup id xdg) shell ≡ false
      at None found of-id = absurd of-id
      at (Some x) found of-id = false_from_ne_true (list_any (is_elsewhere has_popup id xdg) shell) never
        where
          other : has_toplevel id x ≡ false
          other = false_from_ne_true (has_toplevel id x) (λ e. true≢false (sym (found-any (λ y. is_role id y.role) (has_toplevel id) shell x found e)
              ∙ no-toplevel objects all subs shell calls h XdgPopup id refl is))

          here : find (has_popup id) shell ≡ Some x
          here = found-by has_popup (λ y. is_role id y.role) id shell x h.popups.0 found (as-popup id x.role (found-passes (λ y. is_role id y.role) shell x found) other)

          never : list_any (is_elsewhere has_popup id xdg) shell ≡ true → ⊥
          never any =
              let one = any-found has_popup (is_elsewhere has_popup id xdg) shell h.popups.0 any in
              let same : one.0 ≡ x = same_Some one.0 x (sym (one.2 id (and-left (has_popup id one.0) (not (one.0.id == xdg)) one.1)) ∙ here) in
              true≢false (sym (and-right (has_popup id one.0) (not (one.0.id == xdg)) one.1) ∙ ap not (equal-numbers one.0.id xdg (ap (λ (y : Xdg). y.id) same ∙ of-id)))

  -- it goes
  changed : Has objects all subs (with_change xdg without_role shell) calls
  changed = has-mapped objects all subs shell calls h (λ x. cond (x.id == xdg) (without_role x) x) (no-id-change xdg without_role no-id-without)

  pub has-toplevel-gone : is_of XdgToplevel (objects id) ≡ true → list_any (is_elsewhere has_toplevel id xdg) shell ≡ false
      → Has (with_id id None objects) all subs (with_change xdg without_role shell) calls
  has-toplevel-gone is only =
      has-gone objects all subs (with_change xdg without_role shell) calls changed id
      (no-subsurface objects all subs (with_change xdg without_role shell) calls changed XdgToplevel id refl is)
      (no-xdg objects all subs (with_change xdg without_role shell) calls changed XdgToplevel id refl is)
      (only-gone has_toplevel id xdg shell (λ x. refl) only)
      (no-popup objects all subs (with_change xdg without_role shell) calls changed XdgToplevel id refl is)
      (no-callback objects all subs (with_change xdg without_role shell) calls changed XdgToplevel id refl is)

  pub has-popup-gone : is_of XdgPopup (objects id) ≡ true → list_any (is_elsewhere has_popup id xdg) shell ≡ false → Has (with_id id None objects) all subs (with_change xdg without_role shell) calls
  has-popup-gone is only =
      has-gone objects all subs (with_change xdg without_role shell) calls changed id
      (no-subsurface objects all subs (with_change xdg without_role shell) calls changed XdgPopup id refl is)
      (no-xdg objects all subs (with_change xdg without_role shell) calls changed XdgPopup id refl is)
      (no-toplevel objects all subs (with_change xdg without_role shell) calls changed XdgPopup id refl is)
      (only-gone has_popup id xdg shell (λ x. refl) only)
      (no-callback objects all subs (with_change xdg without_role shell) calls changed XdgPopup id refl is)

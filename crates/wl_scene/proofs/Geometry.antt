-- The corners of window geometries, by what is kept.
use Rattle.std.proofs.Common.{◌≡◌, ℕ, suc, ◌+ℤ◌, List, [], ◌∷◌, Bool, true, false, Option, Some, None, refl, ap, ap₂, subst, sym, ◌∙◌}
use Rattle.std.specs.Prelude.{find, if◌then◌else◌, is_some, map}
use Rattle.std.specs.Option.{option_and_then, option_map}
use Rattle.wl_scene.specs.declared.scene.Toplevel.{Toplevel}
use Rattle.wl_scene.specs.Kept.{standing_of}
use Rattle.wl_scene.specs.Roots.{corner_or}
use Rattle.wl_shell.proofs.Ordered.{IsPoppedAs, popped-as}
use Rattle.wl_shell.proofs.ShellsStanding.{IsThere}
use Rattle.spec_desktop.specs.Popups.{corner_at_parent, corner_by_role, corner_of_xdg, geometry_at, geometry_corner_at, geometry_from, geometry_of_place, origin, placement_of, stacked_popup}
use Rattle.spec_desktop.specs.Stacking.{Owned, Standing, geometry_since, is_of}
use Rattle.spec_desktop.specs.Windows.{Place, StackedPopup, corner_at, geometry_corner, popup_place}
use Rattle.wl_surface.specs.declared.state.Current.{Current}
use Rattle.wl_surface.specs.State.{History, within_bounds}
use Rattle.wl_surface.specs.Surface.{Surface}
use Rattle.wl_surface.specs.Slots.{IsCurrentAt}
use Rattle.wl_surface.specs.Surfaces.{history_in}
use Rattle.wl_shell.specs.Kept.{Kept}
use Rattle.wl_shell.specs.Popups.{Popped, kind_popup, popped_kind, popped_of, popped_role, popup_in}
use Rattle.wl_shell.specs.Shell.{IsPopup, Kind, Popup, RoleObject, Toplevel as AsToplevel, XdgSurface, xdg_at}

-- ---- toplevels that stand

pub find-standing : (c s : ℕ) (ts : List Toplevel) → find (is_of c s) (map standing_of ts) ≡ option_map standing_of (find (λ t. is_of c s (standing_of t)) ts)
find-standing c s [] = refl
find-standing c s (t ∷ ts) = at (is_of c s (standing_of t)) (find-standing c s ts)
  where
    at : (b : Bool) → find (is_of c s) (map standing_of ts) ≡ option_map standing_of (find (λ t. is_of c s (standing_of t)) ts)
        → (if b then Some (standing_of t) else find (is_of c s) (map standing_of ts)) ≡ option_map standing_of (if b then Some t else find (λ t. is_of c s (standing_of t)) ts)
    at true e = refl
    at false e = e

abbrev pub toplevel_place : Toplevel → Place
toplevel_place t = record { x = t.x; y = t.y }

pub place-found : (c s : ℕ) (ts : List Toplevel) (o : Option Toplevel) → find (λ t. is_of c s (standing_of t)) ts ≡ o
    → option_map (λ (t : Standing). t.place) (find (is_of c s) (map standing_of ts)) ≡ option_map toplevel_place o
place-found c s ts o e = ap (option_map (λ (t : Standing). t.place)) (find-standing c s ts ∙ ap (option_map standing_of) e) ∙ at o
  where
    at : (o : Option Toplevel) → option_map (λ (t : Standing). t.place) (option_map standing_of o) ≡ option_map toplevel_place o
    at None = refl
    at (Some t) = refl

-- ---- places

-- the corner of a surface, from what is told of it
pub corner-told : {A : Type 0} (current : Current A) (told : Option (Current A)) (place : Place) (s : Option Surface) → IsCurrentAt told s → told ≡ Some current
    → record { x = within_bounds (place.x +ℤ current.offset.x); y = within_bounds (place.y +ℤ current.offset.y) } ≡ corner_or place (option_map (λ (s : Surface). s.history) s)
corner-told {A} current told place s is there = by s (subst (λ (o : Option (Current A)). IsCurrentAt o s) there is)
  where
    by : (s : Option Surface) → IsCurrentAt (Some current) s
        → record { x = within_bounds (place.x +ℤ current.offset.x); y = within_bounds (place.y +ℤ current.offset.y) } ≡ corner_or place (option_map (λ (s : Surface). s.history) s)
    by None is = absurd is
    by (Some s) is = ap₂ (λ x y. record { x = within_bounds (place.x +ℤ x); y = within_bounds (place.y +ℤ y) }) is.offset.0 is.offset.1

-- ---- role objects

pub has-role : (r : Option RoleObject) (popup : Popup) → popup_in r ≡ Some popup → is_some r ≡ true
has-role None popup e = absurd (cc)
has-role (Some object) popup e = refl

roleless : (r : Option RoleObject) → is_some r ≡ false → r ≡ None
roleless None e = refl
roleless (Some object) e = absurd (cc)

-- ---- corners

module _ (o : Owned) (surface : ℕ) (k : Kept) (x : XdgSurface) (h : History) (is : IsThere (λ number. history_in number o.surfaces) o.shell surface k x h) where
  history : history_in x.surface o.surfaces ≡ Some h
  history = ap (λ s. history_in s o.surfaces) is.number ∙ is.history

  pub geometry-kept : is_some k.role ≡ true → geometry_at o x ≡ k.applied
  geometry-kept role = ap (option_and_then (λ h. geometry_since h x)) history ∙ sym (is.stands.applied (ap is_some (sym is.stands.role) ∙ role))

  from-kept : (p : Place) → is_some k.role ≡ true → geometry_from o x p ≡ geometry_corner (corner_or p (history_in surface o.surfaces)) k.applied
  from-kept p role =
      ap (geometry_of_place o x p) history ∙ ap (geometry_corner (corner_at p h)) (geometry-kept role)
      ∙ sym (ap (λ g. geometry_corner (corner_or p g) k.applied) is.history)

module _ (o : Owned) (place : ℕ → Place) where
  pub corner-none : (levels id : ℕ) → levels ≡ 0 → origin ≡ geometry_corner_at levels place o id
  unfolding geometry_corner_at
  corner-none levels id e = ap (λ n. geometry_corner_at n place o id) (sym e)

  pub corner-step : (levels below id : ℕ) → levels ≡ suc below
      → geometry_corner_at levels place o id ≡ corner_of_xdg (λ parent. geometry_corner_at below place o parent) place o (xdg_at id o.shell)
  unfolding geometry_corner_at
  corner-step levels below id e = ap (λ n. geometry_corner_at n place o id) e

  module _ (next : ℕ → Place) (surface : ℕ) (k : Kept) (x : XdgSurface) (h : History) (is : IsThere (λ number. history_in number o.surfaces) o.shell surface k x h) where
    pub corner-roleless : is_some k.role ≡ false → origin ≡ corner_of_xdg next place o (Some x)
    corner-roleless none = sym (ap (corner_by_role next place o x (popped_of x)) (sym is.stands.role ∙ roleless k.role none))

    pub corner-toplevel : popup_in k.role ≡ None → is_some k.role ≡ true
        → geometry_corner (corner_or (place surface) (history_in surface o.surfaces)) k.applied ≡ corner_of_xdg next place o (Some x)
    corner-toplevel none role = sym (at k.role is.stands.role none role ∙ ap (λ s. geometry_from o x (place s)) is.number ∙ from-kept o surface k x h is (place surface) role)
      where
        kind : (object : RoleObject) → x.role ≡ Some object → (role_kind : Kind) → object.kind ≡ role_kind → kind_popup role_kind ≡ None
            → corner_of_xdg next place o (Some x) ≡ geometry_from o x (place x.surface)
        kind object a AsToplevel b e = ap₂ (corner_by_role next place o x) (ap (popped_role x) a ∙ ap (popped_kind x object) b) a
        kind object a (IsPopup q) b e = absurd (cc)

        at : (r : Option RoleObject) → r ≡ x.role → popup_in r ≡ None → is_some r ≡ true → corner_of_xdg next place o (Some x) ≡ geometry_from o x (place x.surface)
        at None a e has = absurd (cc)
        at (Some object) a e has = kind object (sym a) object.kind refl e

    pub corner-popup : (popup : Popup) → popup_in k.role ≡ Some popup → (at : Place) → at ≡ corner_at_parent next popup.parent → (result : Place)
        → ((p : StackedPopup) → p.placement ≡ placement_of popup.placement → p.geometry ≡ k.applied
        → result ≡ geometry_corner (corner_or (popup_place at p) (history_in surface o.surfaces)) k.applied) → result ≡ corner_of_xdg next place o (Some x)
    corner-popup popup e at parent result is_at = by (popped-as x popup (ap popup_in (sym is.stands.role) ∙ e))
      where
        role : is_some k.role ≡ true
        role = has-role k.role popup e

        by : (p : Popped) × IsPoppedAs x popup p → result ≡ corner_of_xdg next place o (Some x)
        by t =
            is_at (stacked_popup o t.0) (ap (λ (q : Popup). placement_of q.placement) t.1.its_popup) (ap (geometry_at o) t.1.xdg ∙ geometry-kept o surface k x h is role)
            ∙ sym (ap₂ (corner_by_role next place o x) t.1.its t.1.role ∙ from-kept o surface k x h is (popup_place (corner_at_parent next t.0.popup.parent) (stacked_popup o t.0)) role
            ∙ ap (λ (a : Place). geometry_corner (corner_or (popup_place a (stacked_popup o t.0)) (history_in surface o.surfaces)) k.applied)
            (sym (parent ∙ ap (λ (q : Popup). corner_at_parent next q.parent) (sym t.1.its_popup))))

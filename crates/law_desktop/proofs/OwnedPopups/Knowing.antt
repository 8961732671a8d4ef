-- The popup of an xdg_popup, and the toplevel of an xdg_toplevel, of a client in order.
use Rattle.std.proofs.Common.{◌≡◌, ℕ, List, [], ◌∷◌, ◌++◌, Bool, true, false, Option, Some, None, cond, refl, ap, ap₂, sym, ◌∙◌, eq-eqb}
use Rattle.std.specs.Prelude.{◌==◌, ◌&&◌, ◌||◌, flat_map, not}
use Rattle.std.specs.List.{list_any}
use Rattle.std.specs.Option.{option_and_then}
use Rattle.std.proofs.lemmas.Bool.{eqb-true, true≢false}
use Rattle.std.proofs.lemmas.Option.{same_Some}
use Rattle.wl_proto.specs.declared.interface.Interface.TheVariants.{XdgPopup, XdgToplevel}
use Rattle.spec_desktop.specs.Objects.{is_of}
use Rattle.wl_shell.specs.Descent.{is_of_xdg}
use Rattle.wl_shell.specs.InOrder.{AreRising as AreRisingTold}
use Rattle.wl_shell.proofs.Reading.{any-in-order}
use Rattle.wl_shell.specs.Popups.{Popped, first_of, is_toplevel_kind, popped_kind, popped_of, popped_role, popup_at, popups_of}
use Rattle.wl_shell.specs.Shell.{IsPopup, Kind, RoleObject, Shell, Toplevel, XdgSurface, is_role, xdg_at, xdg_with}
use Rattle.spec_desktop.specs.Desktop.{Resident}
use Rattle.law_desktop.specs.Apart.{AreApartBy}
use Rattle.law_desktop.proofs.Lists.Keys.{found-any, found-by, found-passes, none-first, none-later}
use Rattle.law_desktop.proofs.Soundness.ObjectsKeys.{of-one}
use Rattle.law_desktop.specs.InOrder.{AreRising, OwnsInOrder, is_popup_with, is_toplevel_with}
use Rattle.law_desktop.proofs.InOrder.Rising.{popups_rise}
use Rattle.law_desktop.specs.OwnedPopups.{OrderKnown, PopupKnown, RolesAreKnown, ToplevelKnown}
use Rattle.law_desktop.proofs.Keeping.OwningXdg.{has_role}
use Rattle.law_desktop.proofs.KeptRecords.Keeping.OwningXdg.{has_xdg}

module _ (r : Resident) (id : ℕ) (x : XdgSurface) (order : OwnsInOrder r) (found : xdg_with id r.owned.shell ≡ Some x) where
  at-id : xdg_at x.id r.owned.shell ≡ Some x
  at-id = found-by has_xdg (has_role id) x.id r.owned.shell x order.xdg_surfaces.0 found (eq-eqb x.id x.id refl)

  toplevel-there : is_toplevel_with id x.role ≡ true → is_of XdgToplevel (r.peer.objects id) ≡ true
  toplevel-there is = order.toplevels.1 id (found-any (has_role id) (λ (y : XdgSurface). is_toplevel_with id y.role) r.owned.shell x found is)

  popup-there : is_popup_with id x.role ≡ true → is_of XdgPopup (r.peer.objects id) ≡ true
  popup-there is = order.popups.1 id (found-any (has_role id) (λ (y : XdgSurface). is_popup_with id y.role) r.owned.shell x found is)

  its : is_role id x.role ≡ true
  its = found-passes (has_role id) r.owned.shell x found

  known : is_of XdgPopup (r.peer.objects id) ≡ true → (p : Popped) × (popup_at x.id r.owned.shell ≡ Some p) × (p.object.id ≡ id)
  known popup = at x.role refl its
    where
      here : (p : Popped) → popped_of x ≡ p ∷ [] → popup_at x.id r.owned.shell ≡ Some p
      here p e = ap (option_and_then (λ (y : XdgSurface). first_of (popped_of y))) at-id ∙ ap first_of e

      kinds : (object : RoleObject) → x.role ≡ Some object → (object.id == id) ≡ true → (k : Kind) → object.kind ≡ k
          → (p : Popped) × (popup_at x.id r.owned.shell ≡ Some p) × (p.object.id ≡ id)
      kinds object a same Toplevel b =
          let is : is_toplevel_with id x.role ≡ true = ap (is_toplevel_with id) a ∙ ap₂ (λ (b : Bool) (k : Kind). b && is_toplevel_kind k) same b in
          absurd (true≢false (sym (toplevel-there is) ∙ of-one XdgPopup XdgToplevel (r.peer.objects id) refl popup))
      kinds object a same (IsPopup popup) b =
          let p : Popped = record { xdg = x; object = object; popup = popup } in
          (p, here p (ap (popped_role x) a ∙ ap (popped_kind x object) b), eqb-true object.id id same)

      at : (o : Option RoleObject) → x.role ≡ o → is_role id o ≡ true → (p : Popped) × (popup_at x.id r.owned.shell ≡ Some p) × (p.object.id ≡ id)
      at None a same = absurd (true≢false (sym same))
      at (Some object) a same = kinds object a same object.kind refl

  bare : is_of XdgToplevel (r.peer.objects id) ≡ true → popped_of x ≡ []
  bare top = at x.role refl its
    where
      kinds : (object : RoleObject) → x.role ≡ Some object → (object.id == id) ≡ true → (k : Kind) → object.kind ≡ k → popped_kind x object k ≡ []
      kinds object a same Toplevel b = refl
      kinds object a same (IsPopup popup) b =
          let is : is_popup_with id x.role ≡ true = ap (is_popup_with id) a ∙ ap₂ (λ (b : Bool) (k : Kind). b && not (is_toplevel_kind k)) same b in
          absurd (true≢false (sym (popup-there is) ∙ of-one XdgToplevel XdgPopup (r.peer.objects id) refl top))

      at : (o : Option RoleObject) → x.role ≡ o → is_role id o ≡ true → popped_role x o ≡ []
      at None a same = refl
      at (Some object) a same = kinds object a same object.kind refl

-- ---- an xdg_surface without a popup

any-joined : (test : Popped → Bool) (ps qs : List Popped) → list_any test (ps ++ qs) ≡ (list_any test ps || list_any test qs)
any-joined test [] qs = refl
any-joined test (p ∷ ps) qs = ap (λ (b : Bool). test p || b) (any-joined test ps qs) ∙ grouped (test p) (list_any test ps) (list_any test qs)
  where
    grouped : (a b c : Bool) → (a || (b || c)) ≡ ((a || b) || c)
    grouped true b c = refl
    grouped false b c = refl

other-popped : (id : ℕ) (x : XdgSurface) (o : Option RoleObject) → (x.id == id) ≡ false → list_any (is_of_xdg id) (popped_role x o) ≡ false
other-popped id x None away = refl
other-popped id x (Some object) away = kinds object.kind
  where
    kinds : (k : Kind) → list_any (is_of_xdg id) (popped_kind x object k) ≡ false
    kinds Toplevel = refl
    kinds (IsPopup popup) = ap (λ (b : Bool). b || false) away

none-at : (id : ℕ) (xs : Shell) → xdg_at id xs ≡ None → list_any (is_of_xdg id) (flat_map popped_of xs) ≡ false
none-at id [] none = refl
none-at id (y ∷ ys) none =
    any-joined (is_of_xdg id) (popped_of y) (flat_map popped_of ys)
    ∙ ap₂ (λ (a b : Bool). a || b) (other-popped id y y.role (none-first (y.id == id) y (xdg_at id ys) none)) (none-at id ys (none-later (y.id == id) y (xdg_at id ys) none))

without-popup : (x : XdgSurface) (xs : Shell) → AreApartBy has_xdg xs → xdg_at x.id xs ≡ Some x → popped_of x ≡ [] → list_any (is_of_xdg x.id) (flat_map popped_of xs) ≡ false
without-popup x [] apart found none = refl
without-popup x (y ∷ ys) apart found none = at (y.id == x.id) refl found (λ later. without-popup x ys apart.1 later none)
  where
    at : (b : Bool) → (y.id == x.id) ≡ b → cond b (Some y) (xdg_at x.id ys) ≡ Some x → (xdg_at x.id ys ≡ Some x → list_any (is_of_xdg x.id) (flat_map popped_of ys) ≡ false)
        → list_any (is_of_xdg x.id) (popped_of y ++ flat_map popped_of ys) ≡ false
    at true here e rest =
        ap (λ (ps : List Popped). list_any (is_of_xdg x.id) (ps ++ flat_map popped_of ys)) (ap popped_of (same_Some y x e) ∙ none) ∙ none-at x.id ys (apart.0 x.id here)
    at false away e rest =
        any-joined (is_of_xdg x.id) (popped_of y) (flat_map popped_of ys) ∙ ap₂ (λ (a b : Bool). a || b) (other-popped x.id y y.role away) (rest e)

popup-known : PopupKnown
popup-known r id x order popup found = known r id x order found popup

toplevel-known : ToplevelKnown
toplevel-known r id x order top found =
    any-in-order (is_of_xdg x.id) r.owned.shell ∙ without-popup x r.owned.shell order.xdg_surfaces.0 (at-id r id x order found) (bare r id x order found top)

-- their numbers rise
rise : (ps : List Popped) → AreRising ps → AreRisingTold ps
rise [] all = tt
rise (p ∷ ps) all = (all.0, rise ps all.1)

order-known : OrderKnown
order-known r order younger released few = record {
  rising = rise (popups_of r.owned.shell) (popups_rise r order);
  younger = younger;
  released = released;
  few = few;
}

pub roles-known : RolesAreKnown
roles-known = record { popup = popup-known; toplevel = toplevel-known; order = order-known }

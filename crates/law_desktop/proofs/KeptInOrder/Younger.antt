-- Popups whose parents are older than they are, in order of creation, come after their parents.
use Rattle.std.proofs.Common.{◌≡◌, ◌<◌, ℕ, List, [], ◌∷◌, Bool, true, false, Option, Some, None, refl, ap, sym, subst, ◌∙◌, arith}
use Rattle.std.specs.Prelude.{◌==◌, ◌||◌, IfSome}
use Rattle.std.specs.List.{list_any}
use Rattle.std.specs.Option.{option_and_then}
use Rattle.std.proofs.lemmas.Bool.{false_from_ne_true, ltb-true, or_from}
use Rattle.wl_shell.specs.Popups.{Popped, is_parent_of, popup_in, popups_of}
use Rattle.wl_shell.specs.Shell.{IsPopup, Kind, Popup, RoleObject, Shell, Toplevel, XdgSurface as Xdg}
use Rattle.wl_shell.specs.Agreement.{AreApart}
use Rattle.wl_shell.specs.Descent.{AreYounger}
use Rattle.wl_shell.proofs.Agreeing.{found-at}
use Rattle.wl_shell.proofs.Ordered.{Each, IsIts, all-its, each-map, popup-of}
use Rattle.spec_desktop.specs.Desktop.{Resident}
use Rattle.law_desktop.proofs.Marks.Stacks.{equal-numbers}
use Rattle.law_desktop.specs.InOrder.{AreRising, OwnsInOrder}
use Rattle.law_desktop.proofs.InOrder.Rising.{popups_rise}
use Rattle.law_desktop.specs.Ordered.{HasElder, HaveElders, age_at, age_in, is_older}
use Rattle.law_desktop.proofs.KeptInOrder.Each.{OfPopup, each-found}
use Rattle.law_desktop.proofs.ShownSurfaces.Found.{told-apart}

-- ---- the popups in order

-- a popup with its own age, and with an older parent
abbrev IsAged : Shell → Popped → Type 0
IsAged shell p = (age_at p.xdg.id shell ≡ Some p.popup.number) × HasElder shell p.popup

some-of : (P : Popup → Type 0) (o : Option Popup) (p : Popup) → o ≡ Some p → IfSome o P → P p
some-of P None p e is = absurd (cc)
some-of P (Some q) p e is = at same is
  where
    same : q ≡ p
    same = cc

    at : q ≡ p → P q → P p
    at f k = subst P f k

popup-age : (o : Option RoleObject) (p : Popup) → popup_in o ≡ Some p → age_in o ≡ Some p.number
popup-age None p e = absurd (cc)
popup-age (Some object) p e = kind object object.kind e
  where
    kind : (object : RoleObject) (k : Kind) → popup_in (Some (record object { kind = k })) ≡ Some p → age_in (Some (record object { kind = k })) ≡ Some p.number
    kind object Toplevel e = absurd (cc)
    kind object (IsPopup q) e =
        let same : q ≡ p = cc in
        ap (λ (r : Popup). Some r.number) same

all-aged : (shell : Shell) → AreApart shell → HaveElders shell → Each (IsAged shell) (popups_of shell)
all-aged shell apart elders = each-map (IsIts shell) (IsAged shell) aged (popups_of shell) (all-its shell apart)
  where
    aged : (p : Popped) → IsIts shell p → IsAged shell p
    aged p only =
        let its = popup-of p.xdg p only.its in (
          ap (option_and_then (λ (x : Xdg). age_in x.role)) (found-at p.xdg.surface shell p.xdg apart only.found) ∙ popup-age p.xdg.role p.popup its,
          some-of (HasElder shell) (popup_in p.xdg.role) p.popup its (each-found (OfPopup (HasElder shell)) (λ x. x.surface == p.xdg.surface) p.xdg shell only.found elders),
        )

-- ---- younger than their parents

module _ (shell : Shell) where
  -- a parent among them is older
  older : (p q : Popped) → IsAged shell p → IsAged shell q → is_parent_of q.xdg.id p.popup ≡ true → q.popup.number < p.popup.number
  older p q aged its is = ltb-true q.popup.number p.popup.number (sym (ap (λ (o : Option ℕ). is_older o p.popup.number) its.0) ∙ aged.1 q.xdg.id is)

  below-itself : (n : ℕ) → n < n → ⊥
  below-itself n e = absurd (omega (arith, e))

  both-below : (m n : ℕ) → m < n → n < m → ⊥
  both-below m n e f = absurd (omega (arith, e, f))

  -- so none of those that are younger is
  none-after : (p : Popped) → IsAged shell p → (qs : List Popped) → Each (IsAged shell) qs
      → ((number : ℕ) → list_any (λ q. q.popup.number == number) qs ≡ true → p.popup.number < number) → list_any (λ q. is_parent_of q.xdg.id p.popup) qs ≡ false
  none-after p aged [] all rises = refl
  none-after p aged (q ∷ qs) all rises =
      or_from (is_parent_of q.xdg.id p.popup) (list_any (λ r. is_parent_of r.xdg.id p.popup) qs)
      (false_from_ne_true (is_parent_of q.xdg.id p.popup)
      (λ is. both-below q.popup.number p.popup.number (older p q aged all.0 is) (rises q.popup.number (first (equal-numbers q.popup.number q.popup.number refl)))))
      (none-after p aged qs all.1 (λ number any. rises number (later (q.popup.number == number) any)))
    where
      first : (q.popup.number == q.popup.number) ≡ true → ((q.popup.number == q.popup.number) || list_any (λ r. r.popup.number == q.popup.number) qs) ≡ true
      first e = ap (λ (b : Bool). b || list_any (λ r. r.popup.number == q.popup.number) qs) e

      later : (a : Bool) {b : Bool} → b ≡ true → (a || b) ≡ true
      later true e = refl
      later false e = e

  younger : (ps : List Popped) → AreRising ps → Each (IsAged shell) ps → AreYounger ps
  younger [] rising all = tt
  younger (p ∷ ps) rising all = (
    or_from (is_parent_of p.xdg.id p.popup) (list_any (λ q. is_parent_of q.xdg.id p.popup) ps)
        (false_from_ne_true (is_parent_of p.xdg.id p.popup) (λ is. below-itself p.popup.number (older p p all.0 all.0 is)))
        (none-after p all.0 ps all.1 rising.0),
    younger ps rising.1 all.1,
  )

-- ---- of a client in order

pub are-younger : (r : Resident) → OwnsInOrder r → HaveElders r.owned.shell → AreYounger (popups_of r.owned.shell)
are-younger r order elders =
    younger r.owned.shell (popups_of r.owned.shell) (popups_rise r order)
    (all-aged r.owned.shell (told-apart r.owned.shell order.xdg_surfaces.0 order.xdg_apart) elders)

-- A client whose popups with a grab are dismissed is told of each that wasn't before, the newest first.
use Rattle.std.proofs.Common.{◌≡◌, ℕ, List, [], ◌∷◌, Bool, true, false, Option, Some, None, map, refl, ap, ap₂}
use Rattle.std.specs.Prelude.{◌||◌, if◌then◌else◌}
use Rattle.std.specs.Option.{option_map}
use Rattle.wl_links.specs.Family.{Tied}
use Rattle.wl_surface.specs.Slots.{Slots}
use Rattle.wl_shell.specs.InOrder.{undismissed}
use Rattle.wl_shell.proofs.Ordered.{Each}
use Rattle.wl_shell.specs.Kept.{Kept}
use Rattle.wl_shell.specs.Popups.{dismiss, dismissed_among, dismissed_with, is_among, popup_changed, with_popup, with_popup_role}
use Rattle.wl_shell.specs.Shell.{IsPopup, Kind, Popup, RoleObject, Shell, Toplevel, XdgSurface}
use Rattle.spec_desktop.specs.Desktop.{Resident}
use Rattle.spec_desktop.specs.Replies.{popups_done}
use Rattle.spec_desktop.specs.Settling.{without_grabs}
use Rattle.law_desktop.specs.Owning.{IsOwned, Names}
use Rattle.law_desktop.specs.OwnedPopups.{done_told}
use Rattle.law_desktop.proofs.OwnedPopups.Done.{done-by}
use Rattle.law_desktop.proofs.OwnedPopups.Finding.{has_grab}

-- one that goes is dismissed
abbrev dismissed_if : Bool → Popup → Popup
dismissed_if b popup = if b then dismiss popup else popup

abbrev stepped : List ℕ → XdgSurface → XdgSurface
stepped ids x = popup_changed (dismissed_if (is_among x.id ids)) x

is-dismissed : (b : Bool) (popup : Popup) → (dismissed_if b popup).is_dismissed ≡ (popup.is_dismissed || b)
is-dismissed true popup = at popup.is_dismissed
  where
    at : (b : Bool) → true ≡ (b || true)
    at true = refl
    at false = refl
is-dismissed false popup = at popup.is_dismissed
  where
    at : (b : Bool) → b ≡ (b || false)
    at true = refl
    at false = refl

same-number : (b : Bool) (popup : Popup) → popup.number ≡ (dismissed_if b popup).number
same-number true popup = refl
same-number false popup = refl

same-step : (ids : List ℕ) (x : XdgSurface) → dismissed_among ids x ≡ stepped ids x
same-step ids x = at (is_among x.id ids)
  where
    kind : (k : Kind) → k ≡ with_popup (dismissed_if false) k
    kind Toplevel = refl
    kind (IsPopup popup) = refl

    role : (o : Option RoleObject) → o ≡ option_map (with_popup_role (dismissed_if false)) o
    role None = refl
    role (Some object) = ap (λ (k : Kind). Some (record object { kind = k })) (kind object.kind)

    at : (b : Bool) → (if b then popup_changed dismiss x else x) ≡ popup_changed (dismissed_if b) x
    at true = refl
    at false = ap (λ (o : Option RoleObject). record x { role = o }) (role x.role)

all-same : (ids : List ℕ) (xs : Shell) → map (dismissed_among ids) xs ≡ map (stepped ids) xs
all-same ids [] = refl
all-same ids (x ∷ xs) = ap₂ (λ (y : XdgSurface) (ys : Shell). y ∷ ys) (same-step ids x) (all-same ids xs)

-- what follows from what holds of each xdg_surface, by its role object
by-role : (P : XdgSurface → Type 0) (Z : Type 0) (xs : Shell) → (Each P xs → Z) → ((x : XdgSurface) → P (record x { role = None }))
    → ((x : XdgSurface) (object : RoleObject) → P (record x { role = Some (record object { kind = Toplevel }) }))
    → ((x : XdgSurface) (object : RoleObject) (popup : Popup) → P (record x { role = Some (record object { kind = IsPopup popup }) })) → Z
by-role P Z xs so none toplevel of-popup = so (all xs)
  where
    one : (x : XdgSurface) (o : Option RoleObject) → P (record x { role = o })
    one x None = none x
    one x (Some object) = kind object.kind
      where
        kind : (k : Kind) → P (record x { role = Some (record object { kind = k }) })
        kind Toplevel = toplevel x object
        kind (IsPopup popup) = of-popup x object popup

    all : (ys : Shell) → Each P ys
    all [] = tt
    all (y ∷ ys) = (one y y.role, all ys)

pub released-done : (names : Names) (slots : Slots) (tied : Tied) (kept : ℕ → Option Kept) (r : Resident) → IsOwned names slots tied kept r.owned
    → popups_done r (without_grabs r) ≡ map done_told (undismissed (λ p. p.popup.has_grab) r.owned.shell)
released-done names slots tied kept r is =
    let ids = dismissed_with has_grab r.owned.shell in
    by-role _ _ r.owned.shell (done-by names slots tied kept r is (λ p. is_among p.xdg.id ids) (stepped ids) (without_grabs r) (all-same ids r.owned.shell))
    (λ x. tt) (λ x object. tt)
    (λ x object popup. ((refl, is-dismissed (is_among x.id ids) popup, same-number (is_among x.id ids) popup), tt))
